use mathlib.Core.Path.{◌≡◌, sym, ◌∙◌}
use Prim.Native.Nat.{suc, ◌-◌}
use native.Mathlib.Omega.{arith}
use lib.ListN.{length-set}
use Rattle.text.proofs.Turns.{digits-turn, digits-end}
use Rattle.text.proofs.numbers.write_digits.Goals as goal

pub loop-i-preserved : goal.loop-i-preserved
loop-i-preserved c =
    let stored : _ = c.store.ensures in
    let k : c.loop-i.i ≡ suc (c.loop-i.i - 1) = omega arith in (
      rw (stored, c.glyph_of.ensures, ← digits-turn c.args.base c.loop-i.buf c.args.at (c.loop-i.i - 1) c.loop-i.rest, ← k) c.loop-i.invariant.0,
      rw (stored, length-set) c.loop-i.invariant.1,
    )

pub returns : goal.returns
returns c =
    let none : c.loop-i.i ≡ 0 = omega arith in
    sym (digits-end c.args.base _ _ c.loop-i.rest) ∙ rw none at c.loop-i.invariant.0
