use Prim.Native.Nat.{◌≤◌, ◌<◌}
use native.Mathlib.Omega.{arith}
use lib.ListN.{length, get_or}
use Rattle.lists.proofs.Search.{any-turn, any-end, any-two-turn, any-two-end}
use Rattle.platform.specs.Blocks.{no_block, overlap}
use Rattle.platform.specs.Rules.{overlap_refused}
use Rattle.platform.proofs.rules.overlap_refused.Goals as goal

pub returns-then-overlaps : goal.returns-then-overlaps
unfolding overlap_refused
returns-then-overlaps c =
    let bs = c.blocks-bs.result in
    let b = get_or bs c.loop-i.i no_block in
    let h : c.loop-i.i < length bs = omega arith in
    let k : c.loop-j.j < length bs = omega arith in
    rw (← c.blocks-bs.ensures, ← c.loop-i.invariant, any-two-turn no_block overlap _ _ h, ← c.loop-j.invariant, any-turn no_block (overlap b) _ _ k, ← c.overlaps.ensures, c.if-overlaps.true)

pub loop-j-preserved : goal.loop-j-preserved
loop-j-preserved c =
    let bs = c.blocks-bs.result in
    let b = get_or bs c.loop-i.i no_block in
    let k : c.loop-j.j < length bs = omega arith in
    rw (← c.loop-j.invariant, any-turn no_block (overlap b) _ _ k, ← c.overlaps.ensures, c.if-overlaps.false)

pub loop-i-preserved : goal.loop-i-preserved
loop-i-preserved c =
    let bs = c.blocks-bs.result in
    let b = get_or bs c.loop-i.i no_block in
    let h : c.loop-i.i < length bs = omega arith in
    let k : length bs ≤ c.loop-j.j = omega arith in
    rw (← c.loop-i.invariant, any-two-turn no_block overlap _ _ h, ← c.loop-j.invariant, any-end no_block (overlap b) _ _ k)

pub returns : goal.returns
unfolding overlap_refused
returns c =
    let h : length c.blocks-bs.result ≤ c.loop-i.i = omega arith in
    rw (← c.blocks-bs.ensures, ← c.loop-i.invariant, any-two-end no_block overlap _ _ h)
