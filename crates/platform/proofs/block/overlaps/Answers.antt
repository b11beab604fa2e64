-- `platform::block::overlaps` meets its contract: the lower block has to hold the other's first port. Assumes nothing.
use native.Mathlib.Omega.{arith}
use Rattle.platform.proofs.Overlap.{overlap-below, overlap-above, overlap-level}
use Rattle.platform.proofs.block.overlaps.Goals as goal

pub returns-then-a-b : goal.returns-then-a-b
returns-then-a-b c =
    let args = c.args in
    rw c.is_present.ensures (overlap-below args.a args.b c.if-a-b.true)

pub returns-then-b-a : goal.returns-then-b-a
returns-then-b-a c =
    let args = c.args in
    rw c.is_present-then-b-a.ensures (overlap-above args.a args.b c.if-b-a.true)

pub returns : goal.returns
returns c =
    let args = c.args in
    rw c.is_present-2.ensures (overlap-level args.a args.b (omega arith))
