-- `legality::clauses::any_set` meets its contract: the chain tests each byte from the place on. Assumes nothing.
use Rattle.std.proofs.Common.{rules, tests}
use Rattle.std.proofs.lemmas.Iterator.{YieldsList-from_slice}
use Rattle.std.proofs.lemmas.Iterator.Adapters.{YieldsList-from_skip}
use lib.Dec.{ltb}
use Rattle.lists.proofs.Search.{any_from_chain}
use Rattle.legality.proofs.clauses.any_set.Goals as goal

pub returns : goal.returns
returns c =
    any_from_chain (ltb 0) _ _ _ c.any.ensures.ran (YieldsList-from_skip c.args.from (YieldsList-from_slice c.args.bytes cc) cc) (λ x r q k. search (rules, tests))
