-- `cells::bit_at` meets its contract: below 16 the shifted bit fits. Assumes nothing.
use mathlib.Core.Path.{◌∙◌}
use native.Mathlib.Omega.{arith}
use native.Mathlib.Nat.{one-mul}
use lib.Dec.{lit<}
use lib.Pow.{shl_exact}
use borrow.Author.Tests.{lt-ltb, le-ltb}
use Rattle.cells.specs.Cells.{bit_at}
use Rattle.cells.proofs.bit_at.Goals as goal

pub returns-then-n-lt16 : goal.returns-then-n-lt16
unfolding bit_at
returns-then-n-lt16 c = simp (lt-ltb _ _ c.if-n-lt16.true) (shl_exact 1 _ 16 (lit< tt) (omega arith) ∙ one-mul _)

pub returns-else-n-lt16 : goal.returns-else-n-lt16
unfolding bit_at
returns-else-n-lt16 c = simp (le-ltb _ _ c.if-n-lt16.false)
