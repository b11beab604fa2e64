use Rattle.bits.proofs.Algebra.{masked-twice}
use Rattle.registers.proofs.status_high.Goals as goal

pub returns : goal.returns
returns c = simp (c.clear16.ensures, c.high_in.ensures, masked-twice)
