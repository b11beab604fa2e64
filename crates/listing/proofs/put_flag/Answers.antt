use Rattle.listing.proofs.Laws.{after-flag}
use Rattle.listing.proofs.put_flag.Goals as goal

pub returns : goal.returns
returns c = after-flag c.args.up _ _ _ _ _ c.pick.ensures c.write_decimal.ensures c.write_byte.ensures
