use mathlib.Core.Path.{refl, sym, ◌∙◌}
use Rattle.model.specs.Effect.{event_effect, pin_effect}
use Rattle.model.specs.Answer.{first_applying}
use Rattle.model.specs.declared.Answer.TheVariants as answer
use Rattle.model.proofs.Effects.{event-refused}
use Rattle.events.proofs.buttons.pin.Goals as goal

pub returns-then-x-active : goal.returns-then-x-active
unfolding first_applying
returns-then-x-active c =
    c.unmoved.ensures
    ∙ sym (event-refused _ _ _ answer.AlreadySo (simp (c.if-x-active.true, sym c.fits.ensures ∙ c.if-fits.true)) refl)

pub returns-else-x-active : goal.returns-else-x-active
unfolding event_effect first_applying pin_effect
returns-else-x-active c = simp (c.done.ensures, c.pin_next.ensures, c.pinned.ensures, c.pin_wakes-wakes.ensures, c.if-x-active.false, sym c.fits.ensures ∙ c.if-fits.true)

pub returns-else-fits : goal.returns-else-fits
unfolding event_effect first_applying pin_effect
returns-else-fits c = simp (c.unmoved-else-fits.ensures, sym c.fits.ensures ∙ c.if-fits.false)
