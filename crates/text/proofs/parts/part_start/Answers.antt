use mathlib.Core.Path.{sym, ◌∙◌}
use Prim.Native.Nat.{◌≤◌, ◌<◌}
use native.Mathlib.Omega.{arith}
use borrow.Author.Tests.{eq-eqb, ne_eqb}
use lib.ListN.{length, drop}
use Rattle.text.proofs.Cuts.{past-turn, past-none, past_end}
use Rattle.text.proofs.parts.part_start.Goals as goal
use Rattle.text.proofs.parts.part_start.Goals.{then-x-stop, else-x-stop}

pub returns-then-left-eq0 : goal.returns-then-left-eq0
returns-then-left-eq0 c =
    let all = rw c.if-left-eq0.true at c.loop-i.invariant in
    omega (arith, past-none c.args.stop (drop c.loop-i.i c.args.text.now))

pub loop-i-preserved : goal.loop-i-preserved
loop-i-preserved c =
    let h : c.loop-i.i < length c.args.text.now = omega arith in
    let more : 0 < c.loop-i.left = omega arith in
    let turn = sym (past-turn c.args.stop c.args.text.now c.loop-i.left c.loop-i.i h more) ∙ c.loop-i.invariant in
    elim c.if-x-stop.branch [ then-x-stop w ↦ rw w.left-is (rw (eq-eqb _ _ w.if-x-stop.true) at turn) | else-x-stop w ↦ rw w.left-is (rw (ne_eqb _ _ w.if-x-stop.false) at turn) ]

pub returns : goal.returns
returns c =
    let h : length c.args.text.now ≤ c.loop-i.i = omega arith in
    omega (arith, c.loop-i.invariant, past_end c.args.stop c.args.text.now c.loop-i.left c.loop-i.i h)
