use mathlib.Core.Path.{sym, ◌∙◌}
use Prim.Native.Nat.{◌*◌, ◌-◌}
use native.Mathlib.Omega.{arith}
use lib.ListN.{drop, length-set}
use Rattle.records.proofs.ByteLaws.{read-byte-turn, read-bytes-end}
use Rattle.records.proofs.bytes.read_first.Goals as goal

pub loop-i-preserved : goal.loop-i-preserved
loop-i-preserved c = (
  rw c.read_byte.ensures (read-byte-turn 8 c.args.count c.loop-i.i c.args.text.now c.loop-i.byte-items (omega arith) (omega (arith, c.loop-i.invariant.1)) ∙ c.loop-i.invariant.0),
  rw length-set c.loop-i.invariant.1,
)

pub returns : goal.returns
returns c =
    sym (read-bytes-end 8 (c.args.count - c.loop-i.i) c.loop-i.i c.loop-i.byte-items (drop (c.loop-i.i * 2) c.args.text.now) (omega arith) (omega (arith, c.loop-i.invariant.1)))
    ∙ c.loop-i.invariant.0
