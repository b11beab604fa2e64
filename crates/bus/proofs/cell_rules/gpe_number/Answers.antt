use Rattle.bus.specs.GpeBytes.{gpe_number}
use Rattle.bus.proofs.cell_rules.gpe_number.Goals as goal

pub returns : goal.returns
unfolding gpe_number
returns c = simp (c.pick.ensures, c.in_gpe_status.ensures, c.past_status-past.ensures)
