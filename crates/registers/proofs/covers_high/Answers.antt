use mathlib.Core.Path.{refl}
use Rattle.registers.specs.Registers.{covers_high}
use Rattle.registers.proofs.covers_high.Goals as goal

pub returns : goal.returns
unfolding covers_high
returns c = refl
