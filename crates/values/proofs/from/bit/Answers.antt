-- `values::from::bit` meets its contract: past bit 63 a number of 64 bits has none. Assumes nothing.
use Prim.Native.Nat.{◌<◌, ◌^◌}
use native.Mathlib.Nat.{lt_of_lt_of_le, div-eq_of_lt}
use borrow.Author.Rules.{rules}
use lib.Pow.{pow_mono}
use Rattle.values.proofs.from.bit.Goals as goal

pub returns-else-n-lt64 : goal.returns-else-n-lt64
returns-else-n-lt64 c =
    let small : c.args.v < 2 ^ 64 = search rules in
    simp (div-eq_of_lt (lt_of_lt_of_le small (pow_mono c.if-n-lt64.false)))
