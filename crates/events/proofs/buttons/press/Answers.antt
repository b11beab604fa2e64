use mathlib.Core.Path.{refl, sym, ◌∙◌}
use Rattle.model.specs.Effect.{event_effect}
use Rattle.model.specs.Answer.{first_applying}
use Rattle.model.specs.Effect.{press_effect}
use Rattle.model.specs.declared.Answer.TheVariants as answer
use Rattle.model.proofs.Effects.{event-refused}
use Rattle.events.proofs.buttons.press.Goals as goal

pub returns-then-x : goal.returns-then-x
unfolding first_applying
returns-then-x c =
    c.unmoved.ensures
    ∙ sym (event-refused _ _ _ answer.AlreadySo (simp (c.if-x.true, sym c.fits.ensures ∙ c.if-fits.true)) refl)

pub returns-else-x : goal.returns-else-x
unfolding event_effect first_applying press_effect
returns-else-x c = simp (c.done.ensures, c.press_wakes.ensures, c.button_down.ensures, c.if-x.false, sym c.fits.ensures ∙ c.if-fits.true)

pub returns-else-fits : goal.returns-else-fits
unfolding event_effect first_applying press_effect
returns-else-fits c = simp (c.unmoved-else-fits.ensures, sym c.fits.ensures ∙ c.if-fits.false)
