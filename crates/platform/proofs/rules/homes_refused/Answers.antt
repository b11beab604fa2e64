use Rattle.cells.proofs.Masks.{known-bits}
use Rattle.platform.specs.Rules.{homes_refused}
use Rattle.platform.proofs.rules.homes_refused.Goals as goal

pub returns : goal.returns
unfolding homes_refused
returns c = simp (c.homes_without_block-2.ensures, c.homes_without_block.ensures, c.within16-2.ensures, c.within16.ensures, c.mask-known.ensures, known-bits)
