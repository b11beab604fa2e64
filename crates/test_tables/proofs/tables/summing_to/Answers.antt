use Rattle.test_tables.specs.Tables.{summing_to}
use Rattle.test_tables.proofs.tables.summing_to.Goals as goal

pub returns : goal.returns
unfolding summing_to
returns c = simp (c.low_byte.ensures, c.sum_of-others.ensures)
