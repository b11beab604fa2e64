use Rattle.listing.proofs.Laws.{fields-written}
use Rattle.listing.proofs.Entry.put_fields.Goals as goal

pub returns : goal.returns
returns c =
    fields-written _ _ _ _ _ _ _ _ _ _ _ _ _ c.requires.0 c.requires.1 c.put_decimal.ensures c.put_decimal-2.ensures
    c.put_tail.ensures
