use Rattle.model.specs.Control.{armed_after}
use Rattle.control.proofs.armed_after.Goals as goal

pub returns : goal.returns
unfolding armed_after
returns c = simp (c.pick.ensures, c.covers_high.ensures, c.has_pm1b_cnt.ensures, c.written_bit.ensures)
