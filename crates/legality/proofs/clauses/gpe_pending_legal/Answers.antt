use Rattle.model.specs.Legal.{gpe_pending_legal}
use Rattle.legality.proofs.clauses.gpe_pending_legal.Goals as goal

pub returns : goal.returns
unfolding gpe_pending_legal
returns c = simp c.walk_gpe-found.ensures
