use Rattle.platform.specs.Rules.{wrong_block_length}
use Rattle.platform.proofs.rules.wrong_block_length.Goals as goal

pub returns : goal.returns
unfolding wrong_block_length
returns c = simp c.is_present.ensures
