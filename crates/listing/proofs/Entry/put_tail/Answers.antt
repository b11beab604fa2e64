use Rattle.listing.proofs.Laws.{tail_written}
use Rattle.listing.proofs.Entry.put_tail.Goals as goal

pub returns : goal.returns
returns c =
    tail_written _ _ _ _ _ _ _ _ _ _ c.put_value.ensures c.put_flag.ensures c.put_flag-2.ensures c.put_state.ensures
