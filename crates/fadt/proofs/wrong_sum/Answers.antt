use Rattle.fadt.specs.Table.{wrong_sum}
use Rattle.fadt.proofs.wrong_sum.Goals as goal

pub returns : goal.returns
unfolding wrong_sum
returns c = simp (c.sum_of.ensures, c.dword_at-n.ensures)
