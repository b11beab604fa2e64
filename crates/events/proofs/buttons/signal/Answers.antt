use mathlib.Core.Path.{sym, ◌∙◌}
use Rattle.model.specs.Effect.{event_effect}
use Rattle.model.specs.Answer.{first_applying}
use Rattle.events.proofs.buttons.signal.Goals as goal

pub returns-then-fits : goal.returns-then-fits
unfolding event_effect first_applying
returns-then-fits c = simp (c.raise_signal.ensures, rw c.requires at (sym c.fits.ensures ∙ c.if-fits.true))

pub returns-else-fits : goal.returns-else-fits
unfolding event_effect first_applying
returns-else-fits c = simp (c.unmoved.ensures, rw c.requires at (sym c.fits.ensures ∙ c.if-fits.false))
