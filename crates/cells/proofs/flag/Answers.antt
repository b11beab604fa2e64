-- `cells::flag` meets its contract: past bit 31 the quotient is zero, since the flags are below 2 ^ 32. Assumes nothing.
use mathlib.Core.Path.{refl}
use native.Mathlib.Nat.{lt_of_lt_of_le, div-eq_of_lt}
use lib.Pow.{pow_mono}
use Rattle.cells.specs.Cells.{flag_of}
use Rattle.cells.proofs.flag.Goals as goal

pub returns-then-n-lt32 : goal.returns-then-n-lt32
unfolding flag_of
returns-then-n-lt32 c = refl

pub returns-else-n-lt32 : goal.returns-else-n-lt32
unfolding flag_of
returns-else-n-lt32 c = rw (div-eq_of_lt (lt_of_lt_of_le c.ranges.flags.fits (pow_mono c.if-n-lt32.false))) refl
