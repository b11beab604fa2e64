use Rattle.model.specs.Control.{bm_rld_after}
use Rattle.control.proofs.bm_rld_after.Goals as goal

pub returns : goal.returns
unfolding bm_rld_after
returns c = simp (c.pick.ensures, c.written_bit.ensures, c.control_in.ensures, c.covers_low.ensures)
