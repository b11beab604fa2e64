use mathlib.Core.Path.{refl}
use Rattle.model.specs.Legal.{command_legal}
use Rattle.legality.proofs.clauses.command_legal.Goals as goal

pub returns : goal.returns
unfolding command_legal
returns c = refl
