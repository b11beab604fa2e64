use Rattle.platform.specs.Rules.{misaligned}
use mathlib.Core.Path.{refl}
use Rattle.platform.proofs.rules.misaligned.Goals as goal

pub returns : goal.returns
unfolding misaligned
returns c = refl
