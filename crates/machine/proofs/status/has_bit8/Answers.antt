use mathlib.Core.Path.{refl}
use Rattle.machine.specs.Status.{has_bit}
use Rattle.machine.proofs.status.has_bit8.Goals as goal

pub returns : goal.returns
unfolding has_bit
returns c = refl
