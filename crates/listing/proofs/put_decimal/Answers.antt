use Rattle.listing.proofs.Laws.{after-decimal}
use Rattle.listing.proofs.put_decimal.Goals as goal

pub returns : goal.returns
returns c =
    after-decimal _ _ _ _ _ _ c.decimal_digits-width.ensures
    c.write_decimal.ensures c.write_byte.ensures
