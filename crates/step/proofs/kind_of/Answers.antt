use Rattle.step.specs.Kinds.{step_kind}
use Rattle.step.proofs.kind_of.Goals as goal

pub returns-in-Read : goal.returns-in-Read
unfolding step_kind
returns-in-Read c = simp (c.read.ensures, c.in-Read.is)

pub returns-in-Write : goal.returns-in-Write
unfolding step_kind
returns-in-Write c = simp (c.write.ensures, c.in-Write.is)

pub returns-in-Event : goal.returns-in-Event
unfolding step_kind
returns-in-Event c = simp c.in-Event.is

pub returns-in-Take : goal.returns-in-Take
unfolding step_kind
returns-in-Take c = simp c.in-Take.is

pub returns-in-Drop : goal.returns-in-Drop
unfolding step_kind
returns-in-Drop c = simp c.in-Drop.is
