-- `text::parts::part` meets its contract: part n begins past n stops. Assumes nothing.
use Rattle.text.proofs.Cuts.{part_at}
use Rattle.text.proofs.parts.part.Goals as goal

pub returns : goal.returns
returns c = simp (c.part_from.ensures, c.part_start-start.ensures, part_at)
