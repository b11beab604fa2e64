use Prim.Native.Nat.{◌/◌, ◌<◌}
use native.Mathlib.Nat.{div-lt_self}
use native.Mathlib.Omega.{arith}
use Rattle.text.proofs.Fewest.{digit-count-one, digit-count-more}
use Rattle.text.proofs.numbers.digit_count.Goals as goal

pub loop-rest-preserved : goal.loop-rest-preserved
loop-rest-preserved c =
    let more = digit-count-more c.args.base (omega arith) c.loop-rest.rest (omega arith) in
    let less : c.loop-rest.rest / c.args.base < c.loop-rest.rest = div-lt_self (omega arith) (omega arith) in
    (omega arith, omega arith)

pub returns : goal.returns
returns c =
    let one = digit-count-one c.args.base (omega arith) c.loop-rest.rest (omega arith) in
    omega arith
