-- The fields are those of the closed form, `ticks-at-once`; with the button up no tick is an override. Assumes nothing.
use native.Mathlib.Nat.{zero-add}
use mathlib.Core.Path.{◌≡◌, refl, sym, ◌∙◌}
use mathlib.Core.Bool.{Bool, true, false, false≢true}
use Prim.Native.Nat.{ℕ}
use Rattle.clock.specs.AtOnce.{off_within, ran_of, counter_after, turns_in, hold_after, after_of}
use Rattle.clock.specs.Clock.{counter_bits, start_of}
use Rattle.clock.proofs.ClosedForm.{ticks-at-once}
use Rattle.clock.proofs.ticks.Goals as goal

-- with the button up
up : (wide down fitted : Bool) (n counter hold : ℕ) → down ≡ false → after_of wide down fitted n (start_of counter hold)
    ≡ record { counter = counter_after (counter_bits wide) counter n; turns = turns_in (counter_bits wide) counter n; hold = hold; off = false }
unfolding off_within ran_of hold_after
up wide true fitted n counter hold e = absurd (false≢true (sym e))
up wide false fitted n counter hold e = rw zero-add refl

pub returns-then-down : goal.returns-then-down
returns-then-down c =
    let a = c.args in
    simp (
      c.is_overridden.ensures,
      c.hold_after.ensures,
      c.turns_in.ensures,
      c.counter_after.ensures,
      c.ran-run.ensures,
      ticks-at-once a.wide a.down a.fitted a.n (start_of a.counter a.hold) refl,
      zero-add,
    )

pub returns : goal.returns
returns c =
    let a = c.args in
    let t = start_of a.counter a.hold in
    rw (c.turns_in-2.ensures, c.counter_after-2.ensures)
    (sym (ticks-at-once a.wide a.down a.fitted a.n t refl ∙ up a.wide a.down a.fitted a.n a.counter a.hold c.if-down.false))
