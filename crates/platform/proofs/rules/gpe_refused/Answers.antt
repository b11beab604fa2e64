use Rattle.platform.specs.Rules.{gpe_refused}
use Rattle.platform.proofs.rules.gpe_refused.Goals as goal

pub returns : goal.returns
unfolding gpe_refused
returns c = simp (c.numbers_refused.ensures, c.is_present.ensures)
