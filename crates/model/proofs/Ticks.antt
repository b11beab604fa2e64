-- n ticks of the machine are the clock's n ticks: a tick finds the counter and hold that the last one left, turns add up,
-- and after the override the machine is in S5, where ticks change nothing.
-- Assumes nothing.
use Prim.Native.Nat.{ℕ, zero, suc, ◌+◌, ◌≤◌, ◌<◌}
use mathlib.Core.Path.{◌≡◌, refl, sym, ◌∙◌, ap}
use mathlib.Core.Bool.{Bool, true, false, not, cond, ◌&&◌, and-false}
use native.Mathlib.Nat.{zero-add, suc-add}
use native.Mathlib.Omega.{arith}
use borrow.Author.Tests.{eqb-true, eqb-false, eq-eqb, ne_eqb, lt-leb, le-leb}
use lib.Bits.{bit_or, or_zero_l, or_zero_r, or_self}
use lib.Dec.{eqb, leb}
use Rattle.bits.proofs.Algebra.{or_assoc}
use Rattle.clock.specs.AtOnce.{off_within as overridden_in, ran_of, counter_after, after_of}
use Rattle.clock.specs.Clock.{counter_bits, hold_limit, tick_of, ticks_of as clock_ticks}
use Rattle.clock.specs.declared.Clock.{Clock}
use Rattle.clock.proofs.ClosedForm.{ticks-at-once as clock-ticks-at-once}
use Rattle.machine.specs.declared.Machine.{Machine}
use Rattle.platform.specs.Fitted.{wide_timer}
use Rattle.platform.specs.declared.settings.Settings.{Settings}
use Rattle.machine.specs.Status.{tmr_bit}
use Rattle.model.specs.Events.{fits, clock_of, clock_after, tmr_raised, timed, ticked_once, ticked_by}
use Rattle.machine.specs.Fields.{with_event, with_time}
use Rattle.machine.specs.Lines.{awake}
use Rattle.machine.specs.Sleep.{overridden}
use Rattle.model.proofs.LinesExactly.{awake-exactly}

-- n ticks of a clock, and one, as the machine's settings and button have them
abbrev pub clock_run : Machine → ℕ → Clock → Clock
clock_run m n t = clock_ticks (wide_timer m.settings) m.button m.settings.power_override n t

abbrev pub clock_tick : Machine → Clock → Clock
clock_tick m t = tick_of (wide_timer m.settings) m.button m.settings.power_override t

abbrev pub clock : ℕ → ℕ → ℕ → Bool → Clock
clock counter turns hold off = record { counter = counter; turns = turns; hold = hold; off = off }

-- ---- turns

bit-or : (b : ℕ) (t u : Bool) → bit_or (cond (not t) b 0) (cond (not u) b 0) ≡ cond (not (t && u)) b 0
bit-or b true true = refl
bit-or b true false = or_zero_l b
bit-or b false true = or_zero_r b
bit-or b false false = or_self b

sum-zero : (a b : ℕ) (t u : Bool) → eqb a 0 ≡ t → eqb b 0 ≡ u → eqb (a + b) 0 ≡ (t && u)
sum-zero a b true true p q = eq-eqb (a + b) 0 (omega (arith, eqb-true a 0 p, eqb-true b 0 q))
sum-zero a b true false p q = ne_eqb (a + b) 0 (λ e. eqb-false b 0 q (omega arith))
sum-zero a b false u p q = ne_eqb (a + b) 0 (λ e. eqb-false a 0 p (omega arith))

-- TMR of some turns and of some more is TMR of all
pub tmr-add : (s : Settings) (a b : ℕ) → bit_or (tmr_raised s a) (tmr_raised s b) ≡ tmr_raised s (a + b)
unfolding tmr_raised
tmr-add s a b = go (fits s tmr_bit)
  where
    go : (f : Bool) → bit_or (cond (f && not (eqb a 0)) tmr_bit 0) (cond (f && not (eqb b 0)) tmr_bit 0) ≡ cond (f && not (eqb (a + b) 0)) tmr_bit 0
    go true = bit-or tmr_bit (eqb a 0) (eqb b 0) ∙ rw (sum-zero a b (eqb a 0) (eqb b 0) refl refl)
    go false = refl

pub tmr_none : (s : Settings) → tmr_raised s 0 ≡ 0
unfolding tmr_raised
tmr_none s = rw (and-false (fits s tmr_bit))

-- ---- a tick after others

-- the machine with a status, counter and hold, overridden or not
abbrev ended : Machine → ℕ → ℕ → ℕ → Bool → Machine
ended m status counter hold off =
    let m' = with_time (with_event m status m.pm1_en) counter hold in
    cond off (overridden m') m'

-- a clock that starts anew
pub timed-none : (m : Machine) → timed m (clock_of m) ≡ m
unfolding timed
timed-none m = ap (λ (x : ℕ). with_event m x m.pm1_en) (ap (bit_or m.pm1_sts) (tmr_none m.settings) ∙ or_zero_r m.pm1_sts)

status-next : (s : Settings) (status a b : ℕ) → bit_or (bit_or status (tmr_raised s a)) (tmr_raised s (0 + b)) ≡ bit_or status (tmr_raised s (a + b))
status-next s status a b = rw (or_assoc status, zero-add, tmr-add)

module _ (m : Machine) (up : awake m ≡ true) where
  pub tick-timed : (c u h : ℕ) (off : Bool) → ticked_once (timed m (clock c u h off)) ≡ timed m (clock_tick m (clock c u h off))
  unfolding timed ticked_once tick_of awake
  tick-timed c u h true = refl
  tick-timed c u h false =
      let t = clock_tick m (clock c u h false) in
      rw up (ap (λ (x : ℕ). ended m x t.counter t.hold t.off) (status-next m.settings m.pm1_sts u _))

  -- the machine's ticks after the clock's are the clock's
  ticks-timed : (n : ℕ) (t : Clock) → ticked_by n (timed m t) ≡ timed m (clock_run m n t)
  unfolding ticked_by clock_ticks
  ticks-timed zero t = refl
  ticks-timed (suc n) t = ap (ticked_by n) (tick-timed t.counter t.turns t.hold t.off) ∙ ticks-timed n (clock_tick m t)

-- ---- n ticks

-- "Outside S0 ticks change nothing."
pub ticks-asleep : (n : ℕ) (m : Machine) → awake m ≡ false → ticked_by n m ≡ m
unfolding ticked_by ticked_once
ticks-asleep zero m e = refl
ticks-asleep (suc n) m e = rw e (ticks-asleep n m e)

pub ticks-awake : (n : ℕ) (m : Machine) → awake m ≡ true → ticked_by n m ≡ timed m (clock_after m n)
ticks-awake n m up = ap (ticked_by n) (sym (timed-none m)) ∙ ticks-timed m up n (clock_of m)

-- the one where the test holds, and the other where it does not
pub one-or-other : {A : Type 0} (t : Bool) {x y z : A} → (t ≡ true → x ≡ y) → (t ≡ false → x ≡ z) → x ≡ cond t y z
one-or-other true p q = p refl
one-or-other false p q = q refl

-- "Tick, n times": all of them at once
pub ticks-at-once : (n : ℕ) (m : Machine)
    → ticked_by n m
    ≡ cond (awake m)
    (timed m (clock_ticks (wide_timer m.settings) m.button m.settings.power_override n (clock_of m)))
    m
ticks-at-once n m = one-or-other (awake m) (ticks-awake n m) (ticks-asleep n m)

-- a + b ticks are a and then b
pub ticks-add : (a b : ℕ) (m : Machine) → ticked_by (a + b) m ≡ ticked_by b (ticked_by a m)
unfolding ticked_by
ticks-add zero b m = rw zero-add
ticks-add (suc a) b m = rw suc-add (ticks-add a b (ticked_once m))

-- ---- where they end

-- a function of one or the other
pub cond-ap : {A B : Type 0} (f : A → B) (t : Bool) (x y : A) → f (cond t x y) ≡ cond t (f x) (f y)
cond-ap f true x y = refl
cond-ap f false x y = refl

pub cond_same : {A : Type 0} (t : Bool) (x : A) → cond t x x ≡ x
cond_same true x = refl
cond_same false x = refl

module _ (m : Machine) (t : Clock) where
  pub timed-state : (timed m t).state ≡ cond t.off 5 m.state
  unfolding timed
  timed-state = cond-ap (λ (x : Machine). x.state) t.off _ _

  pub timed-settings : (timed m t).settings ≡ m.settings
  unfolding timed
  timed-settings = cond-ap (λ (x : Machine). x.settings) t.off _ _ ∙ cond_same t.off m.settings

  pub timed-counter : (timed m t).counter ≡ t.counter
  unfolding timed
  timed-counter = cond-ap (λ (x : Machine). x.counter) t.off _ _ ∙ cond_same t.off t.counter

-- ticks change no setting
pub ticks-settings : (n : ℕ) (m : Machine) → (ticked_by n m).settings ≡ m.settings
ticks-settings n m = rw (ticks-at-once n m, cond-ap (λ (x : Machine). x.settings) (awake m), timed-settings, cond_same)

module _ (n : ℕ) (m : Machine) where
  pub clock-closed-form : clock_after m n ≡ after_of (wide_timer m.settings) m.button m.settings.power_override n (clock_of m)
  clock-closed-form = clock-ticks-at-once (wide_timer m.settings) m.button m.settings.power_override n (clock_of m) refl

  -- the same with no recursion over n
  pub ticks-closed-form : ticked_by n m
      ≡ cond (awake m) (timed m (after_of (wide_timer m.settings) m.button m.settings.power_override n (clock_of m))) m
  ticks-closed-form = rw (ticks-at-once n m, clock-closed-form)

  module _ (up : awake m ≡ true) where
    -- S5 where one of the ticks is the override, else S0 still
    pub ticks-state : (ticked_by n m).state ≡ cond (overridden_in m.button m.settings.power_override m.hold n) 5 0
    ticks-state = rw (ticks-awake n m up, timed-state, clock-closed-form, (awake-exactly m).0 up)

    -- the counter has gone on by the ticks that ran
    pub ticks-counter : (ticked_by n m).counter
        ≡ counter_after (counter_bits (wide_timer m.settings)) m.counter (ran_of m.button m.settings.power_override m.hold n)
    ticks-counter = rw (ticks-awake n m up, timed-counter, clock-closed-form)

-- ---- from a press

module _ (m : Machine) (up : awake m ≡ true) (start : m.hold ≡ 0) (down : m.button ≡ true) (fitted : m.settings.power_override ≡ true) where
  -- "The tick that reaches this .. enters S5": the 14,318,180th
  pub held-state : (n : ℕ) → (ticked_by n m).state ≡ cond (leb hold_limit n) 5 0
  unfolding overridden_in
  held-state n = rw (ticks-state n m up, start, down, fitted, zero-add)

  pub held-below-limit : (n : ℕ) → n < hold_limit → (ticked_by n m).state ≡ 0
  held-below-limit n l = rw (held-state n, lt-leb hold_limit n l)

  pub held-from-limit : (n : ℕ) → hold_limit ≤ n → (ticked_by n m).state ≡ 5
  held-from-limit n l = rw (held-state n, le-leb hold_limit n l)
