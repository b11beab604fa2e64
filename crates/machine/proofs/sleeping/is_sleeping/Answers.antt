use mathlib.Core.Path.{refl}
use Rattle.machine.specs.Sleep.{is_sleeping}
use Rattle.machine.proofs.sleeping.is_sleeping.Goals as goal

pub returns : goal.returns
unfolding is_sleeping
returns c = refl
