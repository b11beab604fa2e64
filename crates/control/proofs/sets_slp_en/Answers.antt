use Rattle.model.specs.Control.{sets_slp_en}
use Rattle.control.proofs.sets_slp_en.Goals as goal

pub returns : goal.returns
unfolding sets_slp_en
returns c = simp (c.written_bit.ensures, c.covers_high.ensures)
