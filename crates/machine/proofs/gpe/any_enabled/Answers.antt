use mathlib.Core.Path.{sym, ◌∙◌}
use mathlib.Core.Bool.{or-false}
use Prim.Native.Nat.{◌≤◌, ◌<◌}
use native.Mathlib.Omega.{arith}
use lib.ListN.{length}
use Rattle.machine.proofs.AnyEnabled.{any-found-turn, any-enabled-end}
use Rattle.machine.proofs.gpe.any_enabled.Goals as goal

pub loop-i-preserved : goal.loop-i-preserved
loop-i-preserved c =
    let h : c.loop-i.i < length c.args.sts = omega arith in
    let k : c.loop-i.i < length c.args.en = omega arith in
    rw c.has_bit8-found.ensures (sym (any-found-turn c.args.sts c.args.en c.loop-i.i c.loop-i.found h k) ∙ c.loop-i.invariant)

pub returns : goal.returns
returns c =
    let h : length c.args.sts ≤ c.loop-i.i = omega arith in
    rw (any-enabled-end c.args.sts c.args.en c.loop-i.i h, or-false) at c.loop-i.invariant
