use Rattle.std.proofs.Common.{refl}
use Rattle.test_tables.specs.Tables.{is_wide}
use Rattle.test_tables.proofs.tables.is_wide.Goals as goal

pub returns : goal.returns
unfolding is_wide
returns c = refl
