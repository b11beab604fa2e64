use Rattle.model.specs.Legal.{arb_dis_legal}
use Rattle.legality.proofs.clauses.arb_dis_legal.Goals as goal

pub returns : goal.returns
unfolding arb_dis_legal
returns c = simp c.is_present.ensures
