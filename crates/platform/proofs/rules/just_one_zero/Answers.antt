use mathlib.Core.Path.{refl}
use Rattle.platform.specs.Rules.{just_one_zero}
use Rattle.platform.proofs.rules.just_one_zero.Goals as goal

pub returns : goal.returns
unfolding just_one_zero
returns c = refl
