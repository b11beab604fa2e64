use mathlib.Core.Path.{sym, ◌∙◌}
use Rattle.model.specs.Effect.{press_wakes}
use Rattle.events.proofs.buttons.press_wakes.Goals as goal

pub returns-then-is_s5 : goal.returns-then-is_s5
unfolding press_wakes
returns-then-is_s5 c = simp (sym c.is_s5.ensures ∙ c.if-is_s5.true)

pub returns-else-is_s5 : goal.returns-else-is_s5
unfolding press_wakes
returns-else-is_s5 c = simp (c.wakes_if.ensures, sym c.is_s5.ensures ∙ c.if-is_s5.false)
