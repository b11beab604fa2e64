-- `text::parts::line_count` meets its contract. The loop's invariant: the lines counted and those to come are all, and no more than the text has bytes.
-- Assumes nothing.
use mathlib.Core.Path.{◌≡◌}
use Prim.Native.Nat.{◌+◌, ◌≤◌}
use lib.ListN.{length}
use Rattle.text.specs.Parts.{lines_of}
use Rattle.text.specs.LineIter.{lines_left}
use Rattle.text.proofs.parts.line_count.Given as goal

abbrev pub invariant-loop-line : goal.invariant-loop-line
invariant-loop-line l =
    (l.count + length (lines_left l._line-iterator) ≡ length (lines_of l.text))
    × (l.count + length (lines_left l._line-iterator) ≤ length l.text)
