use Rattle.model.specs.Legal.{button_legal}
use Rattle.legality.proofs.clauses.button_legal.Goals as goal

pub returns : goal.returns
unfolding button_legal
returns c = simp (c.has_bit.ensures, c.status_cells.ensures)
