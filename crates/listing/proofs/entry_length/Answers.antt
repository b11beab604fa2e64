use native.Mathlib.Omega.{arith}
use Rattle.listing.proofs.Laws.{sum_fits, rest-fits}
use Rattle.text.proofs.Fewest.{at-most-20}
use Rattle.listing.proofs.entry_length.Goals as goal

pub overflow_add-result : goal.overflow_add-result
overflow_add-result c =
    sum_fits c.decimal_digits.result c.decimal_digits-2.result (rw c.decimal_digits.ensures (at-most-20 c.args.k (omega arith)))
    (rw c.decimal_digits-2.ensures (at-most-20 c.number.result (omega arith)))

pub overflow_add-result-2 : goal.overflow_add-result-2
overflow_add-result-2 c =
    rest-fits c.decimal_digits.result c.decimal_digits-2.result (rw c.decimal_digits.ensures (at-most-20 c.args.k (omega arith)))
    (rw c.decimal_digits-2.ensures (at-most-20 c.number.result (omega arith)))
