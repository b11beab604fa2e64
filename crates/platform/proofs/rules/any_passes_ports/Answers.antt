-- `platform::rules::any_passes_ports` meets its contract: the chain tests each block. Assumes nothing.
use Rattle.std.proofs.Common.{rules, tests}
use Rattle.std.proofs.lemmas.Iterator.{YieldsList-from_slice}
use Rattle.lists.proofs.Search.{any_from_chain}
use Rattle.platform.specs.Blocks.{passes_ports}
use Rattle.platform.proofs.rules.any_passes_ports.Goals as goal

pub returns : goal.returns
returns c = any_from_chain passes_ports _ _ _ c.any.ensures.ran (YieldsList-from_slice c.args.bs cc) (λ x r q k. search (rules, tests))
