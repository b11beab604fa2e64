-- `values::stray::agreeing` meets its contract. The loop's invariant: what agrees before a place and from it on is all that agrees.
-- Assumes nothing.
use mathlib.Core.Path.{◌≡◌}
use Prim.Native.Nat.{◌+◌}
use lib.ListN.{drop}
use Rattle.values.specs.Agree.{agreeing}
use Rattle.values.proofs.stray.agreeing.Given as goal

abbrev pub invariant-loop-i : goal.invariant-loop-i
invariant-loop-i l = l.i + agreeing (drop l.i l.left) (drop l.i l.right) ≡ agreeing l.left l.right
