use Rattle.bits.proofs.Algebra.{masked-twice}
use Rattle.registers.proofs.status_low.Goals as goal

pub returns : goal.returns
returns c = simp (c.clear16.ensures, c.low_in.ensures, c.from_low.ensures, masked-twice)
