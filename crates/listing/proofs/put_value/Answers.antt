use Rattle.listing.proofs.Laws.{after-digits}
use Rattle.listing.proofs.put_value.Goals as goal

pub returns : goal.returns
returns c = after-digits _ _ _ _ _ _ _ _ c.write_hex.ensures c.write_byte.ensures
