use Rattle.machine.specs.Sleep.{pending}
use Rattle.machine.proofs.sleeping.pending.Goals as goal

pub returns : goal.returns
unfolding pending
returns c = simp (c.has_bit.ensures, c.wake_bits.ensures)
