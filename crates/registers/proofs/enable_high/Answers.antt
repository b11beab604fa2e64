use Rattle.bits.proofs.Algebra.{masked-twice}
use Rattle.registers.proofs.enable_high.Goals as goal

pub returns : goal.returns
returns c = simp (c.take16.ensures, c.high_in.ensures, masked-twice)
