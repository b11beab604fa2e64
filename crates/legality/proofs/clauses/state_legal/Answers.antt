use Rattle.model.specs.Legal.{state_allowed}
use Rattle.legality.proofs.clauses.state_legal.Goals as goal

pub returns : goal.returns
unfolding state_allowed
returns c = simp (c.state_allowed.ensures, c.pairs.ensures)
