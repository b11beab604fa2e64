use Rattle.machine.specs.Lines.{awake}
use Rattle.model.specs.Legal.{armed_legal}
use Rattle.legality.proofs.clauses.armed_legal.Goals as goal

pub returns : goal.returns
unfolding awake armed_legal
returns c = simp (c.has_pm1b_cnt-b.ensures, c.awake-up.ensures)
