use Rattle.platform.specs.Rules.{homes_without_block}
use Rattle.platform.proofs.rules.homes_without_block.Goals as goal

pub returns : goal.returns
unfolding homes_without_block
returns c = simp c.is_present.ensures
