use Rattle.machine.specs.Lines.{awake}
use mathlib.Core.Path.{sym, ◌∙◌}
use Rattle.model.specs.Effect.{event_effect}
use Rattle.model.specs.Answer.{first_applying}
use Rattle.model.specs.Effect.{ticks_effect}
use Rattle.events.proofs.timer.ticks.Goals as goal

pub returns-then-awake : goal.returns-then-awake
unfolding awake event_effect first_applying ticks_effect
returns-then-awake c = simp (c.done.ensures, c.overridden_if.ensures, c.timed.ensures, c.ticks-t.ensures, sym c.awake.ensures ∙ c.if-awake.true, c.wide_timer-wide.ensures)

pub returns-else-awake : goal.returns-else-awake
unfolding awake event_effect first_applying ticks_effect
returns-else-awake c = simp (c.unmoved.ensures, sym c.awake.ensures ∙ c.if-awake.false, c.wide_timer-wide.ensures)
