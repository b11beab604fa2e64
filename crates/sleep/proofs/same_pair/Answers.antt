use borrow.Author.Rules.{rules}
use Rattle.sleep.specs.Pairs.{same_pair}
use Rattle.sleep.proofs.same_pair.Goals as goal

pub returns : goal.returns
unfolding same_pair
returns c = search rules
