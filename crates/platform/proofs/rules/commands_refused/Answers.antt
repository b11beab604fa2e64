use mathlib.Core.Path.{refl}
use Rattle.platform.specs.Rules.{commands_refused}
use Rattle.platform.proofs.rules.commands_refused.Goals as goal

pub returns : goal.returns
unfolding commands_refused
returns c = refl
