use Rattle.machine.specs.Lines.{awake}
use mathlib.Core.Path.{sym, ◌∙◌}
use Rattle.model.specs.Effect.{event_effect}
use Rattle.model.specs.Answer.{first_applying}
use Rattle.model.specs.Effect.{notice_effect}
use Rattle.events.proofs.buttons.notice.Goals as goal

pub returns-then-awake : goal.returns-then-awake
unfolding awake event_effect first_applying notice_effect
returns-then-awake c = simp (c.done.ensures, c.raise.ensures, sym c.awake.ensures ∙ c.if-awake.true, c.requires)

pub returns-else-awake : goal.returns-else-awake
unfolding awake event_effect first_applying notice_effect
returns-else-awake c = simp (c.unmoved.ensures, sym c.awake.ensures ∙ c.if-awake.false)
