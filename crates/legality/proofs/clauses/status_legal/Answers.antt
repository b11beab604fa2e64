use Rattle.model.specs.Legal.{status_legal}
use Rattle.legality.proofs.clauses.status_legal.Goals as goal

pub returns : goal.returns
unfolding status_legal
returns c = simp (c.within16.ensures, c.status_cells.ensures)
