use native.Mathlib.Omega.{arith}
use Rattle.values.proofs.Agreeing.{differs-here, agrees-here, first_ends, second-ends}
use Rattle.saved.proofs.reading.agreeing.Goals as goal

pub returns-then-right-i : goal.returns-then-right-i
returns-then-right-i c =
    let none = second-ends c.args.left.now c.args.right.now c.loop-i.i (omega arith) in
    omega (arith, none, c.loop-i.invariant)

pub returns-then-x-right : goal.returns-then-x-right
returns-then-x-right c =
    let none = differs-here c.args.left.now c.args.right.now c.loop-i.i (omega arith) (omega arith) c.if-x-right.true in
    omega (arith, none, c.loop-i.invariant)

pub loop-i-preserved : goal.loop-i-preserved
loop-i-preserved c =
    let one = agrees-here c.args.left.now c.args.right.now c.loop-i.i (omega arith) (omega arith) c.if-x-right.false in
    omega (arith, one, c.loop-i.invariant)

pub returns : goal.returns
returns c =
    let none = first_ends c.args.left.now c.args.right.now c.loop-i.i (omega arith) in
    omega (arith, none, c.loop-i.invariant)
