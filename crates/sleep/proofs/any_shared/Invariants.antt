-- `sleep::any_shared` meets its contract. The invariant of each loop: the search of what is left gives what the whole search gives.
-- Assumes nothing.
use mathlib.Core.Path.{◌≡◌}
use mathlib.Core.List.{[]}
use Prim.Native.Nat.{◌+◌}
use lib.ListN.{get_or, drop}
use Rattle.lists.specs.Any.{any, any_two}
use Rattle.sleep.specs.Pairs.{shared}
use Rattle.sleep.proofs.any_shared.Given as goal

abbrev pub invariant-loop-j : goal.invariant-loop-j
invariant-loop-j l =
    any (shared l.b_control (get_or l.pairs l.i [])) (drop l.j l.pairs) ≡ any (shared l.b_control (get_or l.pairs l.i [])) (drop (l.i + 1) l.pairs)

abbrev pub invariant-loop-i : goal.invariant-loop-i
invariant-loop-i l = any_two (shared l.b_control) (drop l.i l.pairs) ≡ any_two (shared l.b_control) l.pairs
