use mathlib.Core.Path.{sym, ◌∙◌}
use Prim.Native.Nat.{◌+◌, ◌*◌}
use native.Mathlib.Omega.{arith}
use lib.Seq.{length-sets}
use Rattle.records.proofs.ByteLaws.{write-byte-turn, write-bytes-end}
use Rattle.records.proofs.bytes.write_all.Goals as goal

pub loop-i-preserved : goal.loop-i-preserved
loop-i-preserved c =
    let wrote = c.write_hex.ensures in (
      rw (wrote, c.from.ensures) (write-byte-turn c.args.bytes.now c.loop-i.i (omega arith) c.loop-i.buf c.args.at ∙ c.loop-i.invariant.0),
      rw (wrote, length-sets) c.loop-i.invariant.1,
    )

pub returns : goal.returns
returns c =
    sym (write-bytes-end c.args.bytes.now c.loop-i.buf (c.args.at + c.loop-i.i * 2) c.loop-i.i (omega arith))
    ∙ c.loop-i.invariant.0
