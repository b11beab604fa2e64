-- `machine::gpe::any_enabled` meets its contract. The loop's invariant: what was found, or what the walk over the bytes that are left finds, is what
-- the whole walk finds. Assumes nothing.
use mathlib.Core.Path.{◌≡◌}
use mathlib.Core.Bool.{◌||◌}
use lib.ListN.{drop}
use Rattle.machine.specs.Lines.{any_enabled}
use Rattle.machine.proofs.gpe.any_enabled.Given as goal

abbrev pub invariant-loop-i : goal.invariant-loop-i
invariant-loop-i l = (l.found || any_enabled (drop l.i l.sts) (drop l.i l.en)) ≡ any_enabled l.sts l.en
