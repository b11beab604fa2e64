use Prim.Native.Nat.{◌+◌, ◌≤◌}
use mathlib.Core.Path.{◌≡◌}
use lib.ListN.{length}
use lib.Seq.{sets}
use Rattle.text.specs.Parts.{lines_of}
use Rattle.text.specs.LineIter.{lines_left}
use Rattle.session.specs.Session.{entries}
use Rattle.session.proofs.write_entries.Given as goal

abbrev pub invariant-loop-line : goal.invariant-loop-line
invariant-loop-line l =
    (sets l.buf l.o (entries l.k l.current (lines_left l.line-iterator)) ≡ sets l.initial.buf l.at (entries 1 l.initial.current (lines_of l.steps)))
    × (length l.buf ≡ length l.initial.buf)
    × (l.o + length (entries l.k l.current (lines_left l.line-iterator)) ≡ l.at + length (entries 1 l.initial.current (lines_of l.steps)))
    × (l.k + length (lines_left l.line-iterator) ≤ length l.steps + 1)
