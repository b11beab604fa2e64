use Rattle.platform.specs.Rules.{wrong_gpe_length}
use Rattle.platform.proofs.rules.wrong_gpe_length.Goals as goal

pub returns : goal.returns
unfolding wrong_gpe_length
returns c = simp c.is_present.ensures
