-- `text::parts::part_start` meets its contract. The loop's invariant: passing what is left of the stops from here leads where all of them lead from the start.
-- Assumes nothing.
use mathlib.Core.Path.{◌≡◌}
use Prim.Native.Nat.{◌+◌}
use lib.ListN.{drop}
use Rattle.text.specs.Parts.{past_stops}
use Rattle.text.proofs.parts.part_start.Given as goal

abbrev pub invariant-loop-i : goal.invariant-loop-i
invariant-loop-i l = l.i + past_stops l.stop l.left (drop l.i l.text) ≡ past_stops l.stop l.n l.text
