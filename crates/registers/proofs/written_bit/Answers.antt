-- `registers::written_bit` meets its contract: past bit 63 the quotient is zero, since what is placed is below 2 ^ 64. Assumes nothing.
use mathlib.Core.Path.{sym}
use Prim.Native.Nat.{◌<◌, ◌^◌}
use native.Mathlib.Nat.{lt_of_lt_of_le, div-eq_of_lt}
use lib.Pow.{pow_mono}
use Rattle.registers.specs.Registers.{written_bit}
use borrow.Author.Rules.{rules}
use Rattle.registers.proofs.written_bit.Goals as goal

pub returns-then-n-lt64 : goal.returns-then-n-lt64
unfolding written_bit
returns-then-n-lt64 c = simp c.placed-value.ensures

pub returns-else-n-lt64 : goal.returns-else-n-lt64
unfolding written_bit
returns-else-n-lt64 c =
    let small : c.placed-value.result < 2 ^ 64 = search rules in
    simp (sym c.placed-value.ensures, div-eq_of_lt (lt_of_lt_of_le small (pow_mono c.if-n-lt64.false)))
