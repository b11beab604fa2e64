use Rattle.model.specs.Control.{typ_after}
use Rattle.control.proofs.typ_after.Goals as goal

pub returns-then-of_b : goal.returns-then-of_b
unfolding typ_after
returns-then-of_b c = simp (c.pick.ensures, c.if-of_b.true, c.written_typ-typ.ensures, c.covers_high-high.ensures)

pub returns-else-of_b : goal.returns-else-of_b
unfolding typ_after
returns-else-of_b c = simp (c.pick-else-of_b.ensures, c.if-of_b.false, c.written_typ-typ.ensures, c.covers_high-high.ensures)
