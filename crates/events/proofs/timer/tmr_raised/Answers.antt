use Rattle.model.specs.Events.{tmr_raised}
use Rattle.events.proofs.timer.tmr_raised.Goals as goal

pub returns : goal.returns
unfolding tmr_raised
returns c = simp (c.pick.ensures, c.fits.ensures)
