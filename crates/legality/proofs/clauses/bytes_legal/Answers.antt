use mathlib.Core.Bool.{not}
use mathlib.Core.Path.{◌∙◌, ap}
use Rattle.legality.proofs.Typed.{array-legal}
use Rattle.legality.proofs.clauses.bytes_legal.Goals as goal

pub returns : goal.returns
returns c = ap not c.any_set.ensures ∙ array-legal _ _ _ c.well_formed.1.0
