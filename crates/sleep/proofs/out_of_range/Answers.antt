-- `sleep::out_of_range` meets its contract: the code is the definition, with what `absent` ensures. Assumes nothing.
use Rattle.sleep.specs.Pairs.{out_of_range}
use Rattle.sleep.proofs.out_of_range.Goals as goal

pub returns : goal.returns
unfolding out_of_range
returns c = simp c.absent.ensures
