use mathlib.Core.Path.{refl, sym, ◌∙◌}
use Rattle.model.specs.Effect.{event_effect}
use Rattle.model.specs.Answer.{first_applying}
use Rattle.model.specs.Effect.{release_effect}
use Rattle.model.specs.declared.Answer.TheVariants as answer
use Rattle.model.proofs.Effects.{event-refused}
use Rattle.events.proofs.buttons.release.Goals as goal

pub returns-then-x : goal.returns-then-x
unfolding event_effect first_applying release_effect
returns-then-x c = simp (c.done.ensures, c.button_up.ensures, c.if-x.true, sym c.fits.ensures ∙ c.if-fits.true)

pub returns-else-x : goal.returns-else-x
unfolding first_applying
returns-else-x c =
    c.unmoved.ensures
    ∙ sym (event-refused _ _ _ answer.AlreadySo (simp (c.if-x.false, sym c.fits.ensures ∙ c.if-fits.true)) refl)

pub returns-else-fits : goal.returns-else-fits
unfolding event_effect first_applying release_effect
returns-else-fits c = simp (c.unmoved-else-fits.ensures, sym c.fits.ensures ∙ c.if-fits.false)
