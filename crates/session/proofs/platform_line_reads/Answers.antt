use Rattle.session.specs.Session.{platform_line_reads}
use Rattle.session.proofs.platform_line_reads.Goals as goal

pub returns : goal.returns
unfolding platform_line_reads
returns c = simp (c.platform_reads.ensures, c.line_from.ensures, c.next_line-next.ensures)
