-- `sleep::any_out_of_range` meets its contract: the chain tests each pair. Assumes nothing.
use Rattle.std.proofs.Common.{rules, tests}
use Rattle.std.proofs.lemmas.Iterator.{YieldsList-from_slice}
use Rattle.lists.proofs.Search.{any_from_chain}
use Rattle.sleep.specs.Pairs.{out_of_range}
use Rattle.sleep.proofs.any_out_of_range.Goals as goal

pub returns : goal.returns
returns c = any_from_chain out_of_range _ _ _ c.any.ensures.ran (YieldsList-from_slice c.args.pairs cc) (λ x r q k. search (rules, tests))
