-- `records::records` meets its contract: the constant's records say the rows. By computation.
use mathlib.Core.Path.{refl}
use Rattle.records.specs.Ascii.{ascii}
use Rattle.records.specs.Rows.{rows}
use Rattle.records.proofs.records.Goals as goal

pub returns : goal.returns
unfolding rows ascii
returns c = refl
