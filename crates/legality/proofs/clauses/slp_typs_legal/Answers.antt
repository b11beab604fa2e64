use mathlib.Core.Path.{refl}
use Rattle.model.specs.Legal.{slp_typs_legal}
use Rattle.legality.proofs.clauses.slp_typs_legal.Goals as goal

pub returns : goal.returns
unfolding slp_typs_legal
returns c = refl
