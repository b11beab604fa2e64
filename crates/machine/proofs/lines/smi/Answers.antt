use Rattle.machine.specs.Lines.{awake, smi_of}
use Rattle.machine.proofs.lines.smi.Goals as goal

pub returns : goal.returns
unfolding awake smi_of
returns c = simp (c.event_output.ensures, c.awake.ensures)
