-- `session::any_entries_fit` meets its contract: it is the definition's test. Assumes nothing.
use native.Mathlib.Omega.{arith}
use Rattle.text.proofs.Fewest.{at-most-20}
use Rattle.session.proofs.any_entries_fit.Goals as goal

pub overflow_add-result : goal.overflow_add-result
overflow_add-result c = record { fits = omega (arith, c.decimal_digits.ensures, at-most-20 c.args.steps (omega arith)) }
