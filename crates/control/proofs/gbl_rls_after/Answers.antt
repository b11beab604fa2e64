use Rattle.model.specs.Control.{gbl_rls_after}
use Rattle.control.proofs.gbl_rls_after.Goals as goal

pub returns : goal.returns
unfolding gbl_rls_after
returns c = simp (c.written_bit.ensures, c.control_in.ensures, c.covers_low.ensures)
