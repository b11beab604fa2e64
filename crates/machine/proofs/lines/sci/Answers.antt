use Rattle.machine.specs.Lines.{awake, sci_of}
use Rattle.machine.proofs.lines.sci.Goals as goal

pub returns : goal.returns
unfolding awake sci_of
returns c = simp (c.event_output.ensures, c.awake.ensures)
