use Rattle.model.specs.Control.{completes}
use Rattle.control.proofs.completes.Goals as goal

pub returns : goal.returns
unfolding completes
returns c = simp (c.pick.ensures, c.has_pm1b_cnt.ensures, c.sets_slp_en.ensures)
