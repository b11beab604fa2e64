use mathlib.Core.Path.{◌≡◌}
use native.Mathlib.Omega.{arith}
use borrow.Author.Rules.{rules}
use lib.ListN.{length}
use Rattle.values.proofs.Agreeing.{differs-here, agrees-here, first_ends}
use Rattle.values.proofs.stray.agreeing.Goals as goal

pub returns-then-left-i : goal.returns-then-left-i
returns-then-left-i c =
    let a : length c.args.left ≡ 43 = search rules in
    let b : length c.args.right ≡ 43 = search rules in
    let none = differs-here c.args.left c.args.right c.loop-i.i (omega arith) (omega arith) c.if-left-i.true in
    omega (arith, none, c.loop-i.invariant)

pub loop-i-preserved : goal.loop-i-preserved
loop-i-preserved c =
    let a : length c.args.left ≡ 43 = search rules in
    let b : length c.args.right ≡ 43 = search rules in
    let one = agrees-here c.args.left c.args.right c.loop-i.i (omega arith) (omega arith) c.if-left-i.false in
    omega (arith, one, c.loop-i.invariant)

pub returns : goal.returns
returns c =
    let a : length c.args.left ≡ 43 = search rules in
    let none = first_ends c.args.left c.args.right c.loop-i.i (omega arith) in
    omega (arith, none, c.loop-i.invariant)
