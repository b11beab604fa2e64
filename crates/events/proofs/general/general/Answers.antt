use mathlib.Core.Path.{sym}
use Rattle.model.specs.Effect.{event_effect}
use Rattle.model.specs.Answer.{first_applying}
use Rattle.events.proofs.general.general.Goals as goal

pub returns-then-in_gpe0-in_gpe1 : goal.returns-then-in_gpe0-in_gpe1
unfolding event_effect first_applying
returns-then-in_gpe0-in_gpe1 c = simp (c.raise_general.ensures, sym c.in_gpe1.ensures, sym c.in_gpe0.ensures, c.if-in_gpe0-in_gpe1.true)

pub returns-else-in_gpe0-in_gpe1 : goal.returns-else-in_gpe0-in_gpe1
unfolding event_effect first_applying
returns-else-in_gpe0-in_gpe1 c = simp (c.unmoved.ensures, c.scalars.ensures, sym c.in_gpe1.ensures, sym c.in_gpe0.ensures, c.if-in_gpe0-in_gpe1.false)
