use mathlib.Core.Path.{refl}
use Rattle.registers.specs.Registers.{covers_low}
use Rattle.registers.proofs.covers_low.Goals as goal

pub returns : goal.returns
unfolding covers_low
returns c = refl
