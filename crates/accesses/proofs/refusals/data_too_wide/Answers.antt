use Rattle.model.specs.Bus.{data_too_wide}
use Rattle.accesses.proofs.refusals.data_too_wide.Goals as goal

pub returns : goal.returns
unfolding data_too_wide
returns c = simp (c.pick-limit.ensures, c.pick.ensures)
