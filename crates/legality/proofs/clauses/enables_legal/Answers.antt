use Rattle.model.specs.Legal.{enables_legal}
use Rattle.legality.proofs.clauses.enables_legal.Goals as goal

pub returns : goal.returns
unfolding enables_legal
returns c = simp (c.within16.ensures, c.enable_cells.ensures)
