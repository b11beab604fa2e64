use Rattle.model.specs.Control.{typ_after}
use Rattle.control.proofs.controlled.Goals as goal

pub returns : goal.returns
unfolding typ_after
returns c = simp (c.copied-next.ensures, c.armed_after-armed.ensures, c.typ_after-slp_typ_b.ensures, c.typ_after-slp_typ_a.ensures, c.gbl_rls_after-gbl_rls.ensures, c.bm_rld_after-bm_rld.ensures)
