use mathlib.Core.Path.{◌≡◌}
use Rattle.text.specs.Parts.{lines_of}
use Rattle.text.specs.LineIter.{lines_left}
use Rattle.session.specs.Session.{ended}
use Rattle.session.proofs.machine_after.Given as goal

abbrev pub invariant-loop-line : goal.invariant-loop-line
invariant-loop-line l = ended l.current (lines_left l.line-iterator) ≡ ended l.initial.current (lines_of l.steps)
