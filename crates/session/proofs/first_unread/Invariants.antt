use Prim.Native.Nat.{◌+◌, ◌≤◌}
use mathlib.Core.Path.{◌≡◌}
use lib.ListN.{length}
use Rattle.text.specs.LineIter.{lines_left}
use Rattle.session.specs.Session.{first_unread, unread}
use Rattle.session.proofs.first_unread.Given as goal

abbrev pub invariant-loop-line : goal.invariant-loop-line
invariant-loop-line l =
    (first_unread (length l.source) l.k l.at (lines_left l.line-iterator) ≡ unread l.source l.from l.first)
    × (l.k + length (lines_left l.line-iterator) ≤ length l.source + 2)
