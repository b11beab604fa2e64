-- `platform::rules::overlap_refused` meets its contract. The invariant of each loop: the search of what is left gives what the whole search gives.
-- Assumes nothing.
use mathlib.Core.Path.{◌≡◌}
use Prim.Native.Nat.{◌+◌}
use lib.ListN.{drop}
use Rattle.lists.specs.Any.{any, any_two}
use Rattle.platform.specs.Blocks.{overlap}
use Rattle.platform.proofs.rules.overlap_refused.Given as goal

abbrev pub invariant-loop-j : goal.invariant-loop-j
invariant-loop-j l = any (overlap l.b) (drop l.j l.bs) ≡ any (overlap l.b) (drop (l.i + 1) l.bs)

abbrev pub invariant-loop-i : goal.invariant-loop-i
invariant-loop-i l = any_two overlap (drop l.i l.bs) ≡ any_two overlap l.bs
