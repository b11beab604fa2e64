use Rattle.registers.specs.Registers.{in_gpe_status}
use Rattle.registers.proofs.in_gpe_status.Goals as goal

pub returns : goal.returns
unfolding in_gpe_status
returns c = simp c.gpe_half.ensures
