use borrow.Author.Rules.{rules}
use Rattle.sleep.specs.Pairs.{absent}
use Rattle.sleep.proofs.absent.Goals as goal

pub returns : goal.returns
unfolding absent
returns c = search rules
