use Rattle.platform.specs.Rules.{hardware_reduced}
use Rattle.platform.proofs.rules.hardware_reduced.Goals as goal

pub returns : goal.returns
unfolding hardware_reduced
returns c = simp c.flag.ensures
