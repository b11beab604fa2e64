-- Request W1, the value of ticks: counted tick by tick it is the clock's count, so it adds up, and has its bounds.
-- Assumes nothing.
use Prim.Native.Nat.{ℕ, zero, suc, ◌+◌, ◌^◌, ◌≤◌, ◌<◌}
use mathlib.Core.Path.{◌≡◌, refl, sym, ◌∙◌, ap, ap₂}
use mathlib.Core.Bool.{Bool, true, false, cond}
use native.Mathlib.Nat.{zero-add, suc-add, add-zero, add_assoc}
use native.Mathlib.Omega.{arith}
use borrow.Author.Tests.{eq-eqb}
use lib.Dec.{eqb}
use Rattle.clock.specs.AtOnce.{ran_of, turns_in}
use Rattle.clock.specs.Clock.{counter_bits, top_bit, turned, tick_of, ticks_of as clock_ticks}
use Rattle.clock.specs.declared.Clock.{Clock}
use Rattle.clock.proofs.ClosedForm.{turns-at-most as clock-turns-at-most}
use Rattle.machine.specs.Lines.{awake}
use Rattle.machine.specs.declared.Machine.{Machine}
use Rattle.platform.specs.Fitted.{wide_timer}
use Rattle.model.specs.Answer.{first_applying}
use Rattle.model.specs.Events.{clock_of, clock_after, timer_top, timed, ticked_once, ticked_by, turned_once, turns_by}
use Rattle.model.specs.Step.{ticks, answer_to, after}
use Rattle.model.specs.Turns.{turns_given, given_singly}
use Rattle.model.proofs.Readings.{ticks-done}
use Rattle.model.proofs.Ticks.{clock_run, clock_tick, clock, timed-none, tick-timed, one-or-other, timed-settings, timed-counter, clock-closed-form}

-- ---- one tick

-- the top bit of a counter, as the machine's settings have it
abbrev top_of : Machine → ℕ → ℕ
top_of m counter = top_bit (counter_bits (wide_timer m.settings)) counter

timed-top : (m : Machine) (t : Clock) → timer_top (timed m t) ≡ top_of m t.counter
timed-top m t = ap₂ (λ s c. top_bit (counter_bits (wide_timer s)) c) (timed-settings m t) (timed-counter m t)

unturned : (x : ℕ) → ◌≡◌ {A = ℕ} (cond (eqb x x) 0 1) 0
unturned x = rw (eq-eqb x x refl)

module _ (m : Machine) (up : awake m ≡ true) where
  turned-timed : (t : Clock) → turned_once (timed m t) ≡ cond (eqb (top_of m (clock_tick m t).counter) (top_of m t.counter)) 0 1
  unfolding turned_once
  turned-timed t = rw (tick-timed m up t.counter t.turns t.hold t.off, timed-top m (clock_tick m t), timed-top m t)

  -- what the machine's tick adds, the clock's adds
  turned-clock : (c u h : ℕ) (off : Bool) → u + turned_once (timed m (clock c u h off)) ≡ (clock_tick m (clock c u h off)).turns
  unfolding tick_of turned
  turned-clock c u h true = rw (turned-timed (clock c u h true), unturned (top_of m c), add-zero)
  turned-clock c u h false = ap (λ (x : ℕ). u + x) (turned-timed (clock c u h false))

  turns-timed : (n : ℕ) (t : Clock) → t.turns + turns_by n (timed m t) ≡ (clock_run m n t).turns
  unfolding turns_by clock_ticks
  turns-timed zero t = add-zero t.turns
  turns-timed (suc n) t =
      rw (← add_assoc, turned-clock t.counter t.turns t.hold t.off, tick-timed m up t.counter t.turns t.hold t.off)
      (turns-timed n (clock_tick m t))

-- ---- n ticks

pub turns-awake : (n : ℕ) (m : Machine) → awake m ≡ true → turns_by n m ≡ (clock_after m n).turns
turns-awake n m up = ap (turns_by n) (sym (timed-none m)) ∙ sym (zero-add _) ∙ turns-timed m up n (clock_of m)

-- zero outside S0
pub turns-asleep : (n : ℕ) (m : Machine) → awake m ≡ false → turns_by n m ≡ 0
unfolding turns_by turned_once ticked_once
turns-asleep zero m e = refl
turns-asleep (suc n) m e = rw (e, unturned (timer_top m), zero-add) (turns-asleep n m e)

-- as the clock counts them
pub turns-at-once : (n : ℕ) (m : Machine) → turns_by n m ≡ cond (awake m) (clock_after m n).turns 0
turns-at-once n m = one-or-other (awake m) (turns-awake n m) (turns-asleep n m)

-- the same with no recursion over n: how many multiples of half the counter's size the ticks that run pass
pub turns-closed-form : (n : ℕ) (m : Machine)
    → turns_by n m
    ≡ cond (awake m) (turns_in (counter_bits (wide_timer m.settings)) m.counter (ran_of m.button m.settings.power_override m.hold n)) 0
turns-closed-form n m = rw (turns-at-once n m, clock-closed-form n m, zero-add)

-- of a + b ticks they are those of a and then of b
pub turns-add : (a b : ℕ) (m : Machine) → turns_by a m + turns_by b (ticked_by a m) ≡ turns_by (a + b) m
unfolding turns_by ticked_by
turns-add zero b m = zero-add (turns_by b m) ∙ ap (λ (n : ℕ). turns_by n m) (sym (zero-add b))
turns-add (suc a) b m = rw (suc-add, add_assoc) (ap (λ (x : ℕ). turned_once m + x) (turns-add a b (ticked_once m)))

at_most : (n : ℕ) (m : Machine) → n < 2 ^ 32 → (t : Bool) → cond t (clock_after m n).turns 0 ≤ cond (wide_timer m.settings) 2 512
at_most n m l true = clock-turns-at-most (wide_timer m.settings) m.button m.settings.power_override m.counter m.hold n l
at_most n m l false = omega arith

-- ---- the step's value

pub given-turns : (m : Machine) (n : ℕ) → turns_given m n ≡ turns_by n m
unfolding answer_to first_applying
given-turns m n = refl

-- "It equals the number of single ticks that turned the bit"
pub turns-singly : (m : Machine) (n : ℕ) → turns_given m n ≡ given_singly m n
unfolding given_singly turns_by ticked_by
turns-singly m zero = given-turns m 0
turns-singly m (suc n) =
    rw (given-turns m (suc n), given-turns m 1, ticks-done m 1, add-zero)
    (ap (λ (x : ℕ). turned_once m + x) (sym (given-turns (ticked_once m) n) ∙ turns-singly (ticked_once m) n))

-- "at most 512 with 24 bits and at most 2 with 32 bits"
pub turns-given-at-most : (m : Machine) (n : ℕ) → n < 2 ^ 32 → turns_given m n ≤ cond (wide_timer m.settings) 2 512
turns-given-at-most m n l = rw (given-turns m n, turns-at-once n m) (at_most n m l (awake m))

pub no-turns-asleep : (m : Machine) (n : ℕ) → awake m ≡ false → turns_given m n ≡ 0
no-turns-asleep m n e = given-turns m n ∙ turns-asleep n m e

pub no-turns-in-none : (m : Machine) → turns_given m 0 ≡ 0
unfolding turns_by
no-turns-in-none m = given-turns m 0

-- the values of n ticks and then of k add up to that of n + k
pub turns-add-up : (m : Machine) (n k : ℕ) → turns_given m n + turns_given (after m (ticks n)) k ≡ turns_given m (n + k)
turns-add-up m n k =
    rw (given-turns m n, ticks-done m n, given-turns (ticked_by n m) k, given-turns m (n + k)) (turns-add n k m)
