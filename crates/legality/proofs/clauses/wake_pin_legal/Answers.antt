use Rattle.model.specs.Legal.{wake_pin_legal}
use Rattle.legality.proofs.clauses.wake_pin_legal.Goals as goal

pub returns : goal.returns
unfolding wake_pin_legal
returns c = simp (c.has_bit.ensures, c.status_cells.ensures)
