use mathlib.Core.Path.{sym, ◌∙◌, ap}
use Rattle.session.specs.Session.{ended}
use Rattle.session.proofs.machine_after.Goals as goal

pub loop-line-preserved : goal.loop-line-preserved
unfolding ended
loop-line-preserved c =
    rw c.stepped-done.ensures (ap (ended c.loop-line.current) (sym c.in-Some.ensures.steps) ∙ c.loop-line.invariant)

pub returns : goal.returns
unfolding ended
returns c = ap (ended c.loop-line.current) (sym c.in-None.ensures.steps.0) ∙ c.loop-line.invariant
