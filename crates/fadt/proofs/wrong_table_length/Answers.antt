use Rattle.fadt.specs.Table.{wrong_table_length}
use Rattle.fadt.proofs.wrong_table_length.Goals as goal

pub returns : goal.returns
unfolding wrong_table_length
returns c = simp c.dword_at-n.ensures
