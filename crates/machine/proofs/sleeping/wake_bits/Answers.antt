use Rattle.machine.specs.Sleep.{wake_bits}
use Rattle.machine.proofs.sleeping.wake_bits.Goals as goal

pub returns : goal.returns
unfolding wake_bits
returns c = simp (c.pick.ensures, c.flag.ensures)
