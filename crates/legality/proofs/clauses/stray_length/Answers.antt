use Rattle.platform.specs.Legal.{stray_length}
use Rattle.legality.proofs.clauses.stray_length.Goals as goal

pub returns : goal.returns
unfolding stray_length
returns c = simp c.is_present.ensures
