use Rattle.model.specs.Effect.{general_effect}
use Rattle.model.specs.Events.{in_s5, general_enabled}
use mathlib.Core.Path.{sym, ◌∙◌}
use Rattle.model.specs.Effect.{general_effect}
use Rattle.events.proofs.general.raise_general.Goals as goal

pub returns-then-is_s5 : goal.returns-then-is_s5
unfolding in_s5 general_enabled general_effect
returns-then-is_s5 c = simp (c.unmoved.ensures, c.scalars.ensures, sym c.is_s5.ensures ∙ c.if-is_s5.true)

pub returns-else-is_s5 : goal.returns-else-is_s5
unfolding in_s5 general_enabled general_effect
returns-else-is_s5 c = simp (c.wakes_if-next.ensures, c.raised_byte-store.ensures, c.pending_raised-scalars.ensures, c.scalars-else-is_s5.ensures, c.general_enabled-enabled.ensures, sym c.is_s5.ensures ∙ c.if-is_s5.false)
