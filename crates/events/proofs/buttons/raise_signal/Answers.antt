use Rattle.model.specs.Effect.{signal_effect}
use Rattle.model.specs.Events.{in_s5}
use mathlib.Core.Path.{sym, ◌∙◌}
use Rattle.events.proofs.buttons.raise_signal.Goals as goal

pub returns-then-is_s5 : goal.returns-then-is_s5
unfolding in_s5 signal_effect
returns-then-is_s5 c = simp (c.unmoved.ensures, sym c.is_s5.ensures ∙ c.if-is_s5.true)

pub returns-else-is_s5 : goal.returns-else-is_s5
unfolding in_s5 signal_effect
returns-else-is_s5 c = simp (c.done.ensures, c.wakes_if.ensures, c.signal_wakes.ensures, c.raise.ensures, sym c.is_s5.ensures ∙ c.if-is_s5.false, c.requires)
