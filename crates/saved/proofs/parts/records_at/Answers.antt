use native.Mathlib.Omega.{arith}
use Rattle.text.proofs.Fewest.{at-most-20}
use Rattle.saved.proofs.Laws.{records-at}
use Rattle.saved.proofs.parts.records_at.Goals as goal

pub overflow_add-result : goal.overflow_add-result
overflow_add-result c = record { fits = omega (arith, c.decimal_digits.ensures, at-most-20 c.args.edition (omega arith)) }

pub returns : goal.returns
returns c = omega (arith, c.decimal_digits.ensures, records-at c.args.edition)
