-- `registers::control_in` meets its contract: below 16 the shifted bit fits, and past 15 a register has none. Assumes nothing.
use mathlib.Core.Path.{sym, ap₂, ◌∙◌}
use native.Mathlib.Omega.{arith}
use native.Mathlib.Nat.{one-mul}
use lib.Dec.{lit<}
use lib.Pow.{shl_exact}
use Rattle.machine.specs.Status.{has_bit}
use Rattle.registers.proofs.Beyond.{bit-beyond}
use Rattle.registers.specs.Registers.{control_in}
use borrow.Author.Rules.{rules}
use Rattle.registers.proofs.control_in.Goals as goal

pub returns-then-bit-lt16 : goal.returns-then-bit-lt16
unfolding control_in
returns-then-bit-lt16 c =
    c.has_bit.ensures
    ∙ ap₂ has_bit c.homes_in-homes.ensures (shl_exact 1 _ 16 (lit< tt) (omega arith) ∙ one-mul _)

pub returns-else-bit-lt16 : goal.returns-else-bit-lt16
unfolding control_in
returns-else-bit-lt16 c =
    simp (sym c.homes_in-homes.ensures, bit-beyond c.homes_in-homes.result c.args.bit (search rules) c.if-bit-lt16.false)
