use Rattle.model.specs.Legal.{gpe_legal}
use Rattle.legality.proofs.clauses.gpe_legal.Goals as goal

pub returns : goal.returns
unfolding gpe_legal
returns c = simp (c.block_legal-2.ensures, c.block_legal.ensures)
