use Rattle.std.proofs.Common.{refl}
use Rattle.fadt.specs.Table.{table_short}
use Rattle.fadt.proofs.table_short.Goals as goal

pub returns : goal.returns
unfolding table_short
returns c = refl
