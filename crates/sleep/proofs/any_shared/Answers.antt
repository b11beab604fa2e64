use mathlib.Core.List.{[]}
use Prim.Native.Nat.{◌≤◌, ◌<◌}
use native.Mathlib.Omega.{arith}
use lib.ListN.{length}
use Rattle.lists.proofs.Search.{any-turn, any-end, any-two-turn, any-two-end}
use Rattle.sleep.specs.Pairs.{shared}
use Rattle.sleep.proofs.any_shared.Goals as goal

pub returns-then-shared : goal.returns-then-shared
returns-then-shared c =
    let h : c.loop-i.i < length c.args.pairs = omega arith in
    let k : c.loop-j.j < length c.args.pairs = omega arith in
    rw (← c.loop-i.invariant, any-two-turn [] (shared c.args.b_control) _ _ h, ← c.loop-j.invariant, any-turn [] (shared c.args.b_control _) _ _ k, ← c.shared.ensures, c.if-shared.true)

pub loop-j-preserved : goal.loop-j-preserved
loop-j-preserved c =
    let k : c.loop-j.j < length c.args.pairs = omega arith in
    rw (← c.loop-j.invariant, any-turn [] (shared c.args.b_control _) _ _ k, ← c.shared.ensures, c.if-shared.false)

pub loop-i-preserved : goal.loop-i-preserved
loop-i-preserved c =
    let h : c.loop-i.i < length c.args.pairs = omega arith in
    let k : length c.args.pairs ≤ c.loop-j.j = omega arith in
    rw (← c.loop-i.invariant, any-two-turn [] (shared c.args.b_control) _ _ h, ← c.loop-j.invariant, any-end [] (shared c.args.b_control _) _ _ k)

pub returns : goal.returns
returns c =
    let h : length c.args.pairs ≤ c.loop-i.i = omega arith in
    rw (← c.loop-i.invariant, any-two-end [] (shared c.args.b_control) _ _ h)
