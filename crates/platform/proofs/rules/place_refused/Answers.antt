use Rattle.platform.specs.Rules.{place_refused}
use Rattle.platform.proofs.rules.place_refused.Goals as goal

pub returns : goal.returns
unfolding place_refused
returns c = simp (c.any_passes_ports.ensures, c.blocks-2.ensures, c.misaligned-5.ensures, c.misaligned-4.ensures, c.misaligned-3.ensures, c.misaligned-2.ensures, c.misaligned.ensures, c.is_present-2.ensures, c.is_present.ensures)
