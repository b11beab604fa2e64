use Rattle.platform.specs.Rules.{sleep_pairs_refused}
use Rattle.platform.proofs.rules.sleep_pairs_refused.Goals as goal

pub returns : goal.returns
unfolding sleep_pairs_refused
returns c = simp (c.refused.ensures, c.is_present.ensures, c.pairs.ensures)
