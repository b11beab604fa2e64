use Prim.Native.Nat.{◌+◌, ◌≤◌}
use mathlib.Core.Path.{◌≡◌}
use lib.Dec.{leb}
use lib.ListN.{length}
use Rattle.text.specs.Parts.{lines_of}
use Rattle.text.specs.LineIter.{lines_left}
use Rattle.session.specs.Session.{entries}
use Rattle.session.proofs.run_fits.Given as goal

abbrev pub invariant-loop-line : goal.invariant-loop-line
invariant-loop-line l =
    (leb (length (entries l.k l.current (lines_left l.line-iterator))) l.left ≡ leb (length (entries 1 l.initial.current (lines_of l.steps))) l.room)
    × (l.k + length (lines_left l.line-iterator) ≤ length l.steps + 1)
