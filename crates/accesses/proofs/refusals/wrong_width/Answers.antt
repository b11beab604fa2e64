use mathlib.Core.Path.{refl}
use Rattle.model.specs.Bus.{wrong_width}
use Rattle.accesses.proofs.refusals.wrong_width.Goals as goal

pub returns : goal.returns
unfolding wrong_width
returns c = refl
