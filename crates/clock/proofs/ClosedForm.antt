-- n single ticks, at once: the clock after n ticks is `after_of`, since one tick more takes it from n to n + 1, field by field.
-- Assumes nothing.
use Prim.Native.Nat.{ℕ, zero, suc, ◌+◌, ◌-◌, ◌*◌, ◌^◌, ◌≤◌, ◌<◌}
use mathlib.Core.Path.{◌≡◌, refl, sym, ◌∙◌, ap}
use mathlib.Core.Bool.{Bool, true, false, cond, ◌||◌}
use native.Mathlib.Nat.{zero-add, suc-add, add-zero, le_trans}
use native.Mathlib.Numerals.{add-one}
use native.Mathlib.Omega.{arith}
use Rattle.clock.specs.Clock.{counter_bits, advance, turned, hold_limit, grow, overrides, tick_of, ticks_of, start_of}
use Rattle.clock.specs.AtOnce.{off_within, ran_of, counter_after, turns_in, hold_after, after_of}
use Rattle.clock.specs.declared.Clock.{Clock}
use Rattle.clock.proofs.Counter.{some_bits, turns-in-none, turns-in-at-most, turns_next, counter_next}
use Rattle.clock.proofs.Hold.{hold-none, hold-next, overridden-none, overridden-next, overrides-next, ran-none, ran-at-most, ran-next}

same-clock : (s t : Clock) → s.counter ≡ t.counter → s.turns ≡ t.turns → s.hold ≡ t.hold → s.off ≡ t.off → s ≡ t
same-clock s t p q r u = λ i. record { counter = p i; turns = q i; hold = r i; off = u i }

-- ---- one tick more

module _ (down fitted : Bool) (h n : ℕ) where
  -- f is what m ticks make of a field, and g what one tick more makes of that
  field_next : (f g : ℕ → ℕ) → ((m : ℕ) → g m ≡ f (m + 1)) → (b : Bool) → off_within down fitted h n ≡ b
      → cond b (f (cond b (hold_limit - h) n)) (g (cond b (hold_limit - h) n)) ≡ f (cond (off_within down fitted h (n + 1)) (hold_limit - h) (n + 1))
  field_next f g one true e = rw (overridden-next down fitted h n e)
  field_next f g one false e = one n ∙ ap f (sym (ran-next down fitted h n _ e refl))

  off_next : (b : Bool) → off_within down fitted h n ≡ b
      → (b || overrides down fitted (hold_after down h (cond b (hold_limit - h) n))) ≡ off_within down fitted h (n + 1)
  off_next true e = sym (overridden-next down fitted h n e)
  off_next false e = overrides-next down fitted h n e

after_next : (wide down fitted : Bool) (n : ℕ) (t : Clock) → tick_of wide down fitted (after_of wide down fitted n t) ≡ after_of wide down fitted (n + 1) t
unfolding tick_of ran_of
after_next wide down fitted n t =
    let k = counter_bits wide in
    let counter = counter_after k t.counter in
    let turns : ℕ → ℕ = λ m. t.turns + turns_in k t.counter m in
    let hold = hold_after down t.hold in
    same-clock _ _
    (field_next down fitted t.hold n counter (λ m. advance k (counter m)) (counter_next k t.counter) _ refl)
    (field_next down fitted t.hold n turns (λ m. turns m + turned k (counter m))
    (λ m. omega (arith, turns_next k (some_bits wide) t.counter m)) _ refl)
    (field_next down fitted t.hold n hold (λ m. cond down (grow (hold m)) (hold m)) (hold-next down t.hold) _ refl)
    (off_next down fitted t.hold n _ refl)

after_none : (wide down fitted : Bool) (t : Clock) → t.off ≡ false → after_of wide down fitted 0 t ≡ t
unfolding counter_after
after_none wide down fitted t e =
    same-clock _ t
    (rw (ran-none down fitted t.hold))
    (rw (ran-none down fitted t.hold, turns-in-none, add-zero))
    (rw (ran-none down fitted t.hold, hold-none))
    (overridden-none down fitted t.hold ∙ sym e)

-- ---- n ticks

-- m + n ticks are m and then n
pub ticks-add : (wide down fitted : Bool) (m n : ℕ) (t : Clock)
    → ticks_of wide down fitted (m + n) t ≡ ticks_of wide down fitted n (ticks_of wide down fitted m t)
unfolding ticks_of
ticks-add wide down fitted zero n t = rw zero-add
ticks-add wide down fitted (suc m) n t = rw suc-add (ticks-add wide down fitted m n (tick_of wide down fitted t))

-- "Outside S0 ticks change nothing"
pub ticks-off : (wide down fitted : Bool) (n : ℕ) (t : Clock) → t.off ≡ true → ticks_of wide down fitted n t ≡ t
unfolding ticks_of tick_of
ticks-off wide down fitted zero t e = refl
ticks-off wide down fitted (suc n) t e =
    let same : tick_of wide down fitted t ≡ t = same-clock _ t (rw e) (rw e) (rw e) (rw e) in
    ap (ticks_of wide down fitted n) same ∙ ticks-off wide down fitted n t e

-- the closed form
pub ticks-at-once : (wide down fitted : Bool) (n : ℕ) (t : Clock) → t.off ≡ false → ticks_of wide down fitted n t ≡ after_of wide down fitted n t
unfolding ticks_of
ticks-at-once wide down fitted zero t e = sym (after_none wide down fitted t e)
ticks-at-once wide down fitted (suc n) t e =
    rw add-one at
    (ticks-add wide down fitted n 1 t
    ∙ ap (tick_of wide down fitted) (ticks-at-once wide down fitted n t e)
    ∙ after_next wide down fitted n t)

-- ---- how many turns

halves : (wide : Bool) (n : ℕ) → n < 2 ^ 32 → n ≤ cond wide 2 512 * 2 ^ (counter_bits wide - 1)
halves true n l = omega arith
halves false n l = omega arith

-- one step's ticks turn the top bit at most twice with 32 bits, and at most 512 times with 24
pub turns-at-most : (wide down fitted : Bool) (counter hold n : ℕ) → n < 2 ^ 32
    → (ticks_of wide down fitted n (start_of counter hold)).turns ≤ cond wide 2 512
turns-at-most wide down fitted counter hold n l =
    let h : ran_of down fitted hold n ≤ cond wide 2 512 * 2 ^ (counter_bits wide - 1) = le_trans (ran-at-most down fitted hold n) (halves wide n l) in
    rw (ticks-at-once wide down fitted n (start_of counter hold) refl, zero-add)
    (turns-in-at-most (counter_bits wide) counter (ran_of down fitted hold n) (cond wide 2 512) h)
