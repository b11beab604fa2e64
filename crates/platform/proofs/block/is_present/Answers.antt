use mathlib.Core.Path.{refl}
use Rattle.platform.specs.Blocks.{present}
use Rattle.platform.proofs.block.is_present.Goals as goal

pub returns : goal.returns
unfolding present
returns c = refl
