use mathlib.Core.Path.{refl}
use Rattle.model.specs.Events.{in_s5}
use Rattle.model.specs.Legal.{hold_legal}
use Rattle.legality.proofs.clauses.hold_legal.Goals as goal

pub returns : goal.returns
unfolding hold_legal in_s5
returns c = refl
