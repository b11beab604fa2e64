-- What a timer read gives, and what a press and the ticks after it do: "invented tick or hold counts" are shut out.
-- Assumes nothing.
use Prim.Native.Nat.{ℕ, ◌≤◌}
use mathlib.Core.Path.{◌≡◌, refl, ◌∙◌}
use mathlib.Core.Bool.{Bool, true, false, cond, ◌&&◌}
use native.Mathlib.Nat.{mod-eq_of_lt}
use native.Mathlib.Omega.{arith}
use borrow.Author.Tests.{eqb-false, leb-false, ltb-true}
use lib.Dec.{eqb, leb}
use Rattle.bits.specs.Digit.{digit}
use Rattle.bits.proofs.Digits.{digit_or}
use Rattle.clock.specs.AtOnce.{ran_of, counter_after}
use Rattle.clock.specs.Clock.{counter_bits, hold_limit}
use Rattle.machine.specs.declared.Machine.{Machine}
use Rattle.platform.specs.Fitted.{wide_timer}
use Rattle.model.specs.Answer.{step_value, first_applying}
use Rattle.model.specs.Bus.{timer_register, read_of}
use Rattle.model.specs.Events.{event_source, in_s5, press_of, ticked_by, event_of}
use Rattle.model.specs.Legal.{counter_legal}
use Rattle.machine.specs.Lines.{awake}
use Rattle.machine.specs.Sleep.{is_sleeping, woken, restarted}
use Rattle.model.specs.Step.{register_of, ticks, answer_to, accepted, after}
use Rattle.model.specs.declared.Access.{Access}
use Rattle.model.specs.declared.Event.TheVariants as event
use Rattle.model.specs.declared.Register.TheVariants as register
use Rattle.model.specs.declared.Step.{Step}
use Rattle.model.specs.declared.Step.TheVariants as step
use Rattle.model.proofs.Kept.{kept-by-steps}
use Rattle.model.proofs.Legal.{Counter, counter-keeps}
use Rattle.model.proofs.LinesExactly.{awake-exactly}
use Rattle.model.proofs.Settings.{settings-kept}
use Rattle.model.proofs.Steps.{accepted-does, accepted-value}
use Rattle.model.proofs.Ticks.{ticks-add, ticks-counter, held-state}

-- ---- readings

-- the counter modulo its size
pub timer-read : (m : Machine) (a : Access) → register_of m a ≡ register.PmTmr → accepted (answer_to m (step.Read a)) ≡ true
    → step_value (answer_to m (step.Read a)) ≡ timer_register m
unfolding read_of
timer-read m a r e = accepted-value m (step.Read a) e ∙ rw r refl

-- a legal machine's counter is below its size, and is read as it is
pub timer-read-counter : (m : Machine) (a : Access) → counter_legal m ≡ true → register_of m a ≡ register.PmTmr
    → accepted (answer_to m (step.Read a)) ≡ true → step_value (answer_to m (step.Read a)) ≡ m.counter
unfolding counter_legal
timer-read-counter m a l r e = timer-read m a r e ∙ mod-eq_of_lt (ltb-true m.counter _ l)

-- ---- ticks

abbrev pub press : Step
press = step.Event event.Press

-- ticks are never refused
pub ticks-done : (m : Machine) (n : ℕ) → after m (ticks n) ≡ ticked_by n m
unfolding after answer_to first_applying event_of
ticks-done m n = refl

-- a timer read after ticks gives the counter, gone on by exactly the ticks that ran
pub timer-read-after-ticks : (m : Machine) (n : ℕ) (a : Access)
    → counter_legal m ≡ true
    → awake m ≡ true
    → register_of m a ≡ register.PmTmr
    → accepted (answer_to (after m (ticks n)) (step.Read a)) ≡ true
    → step_value (answer_to (after m (ticks n)) (step.Read a))
    ≡ counter_after (counter_bits (wide_timer m.settings)) m.counter (ran_of m.button m.settings.power_override m.hold n)
timer-read-after-ticks m n a l up r e =
    let ticked = after m (ticks n) in
    timer-read-counter ticked a (kept-by-steps Counter counter-keeps m (ticks n) l) (rw (settings-kept m (ticks n)) r) e
    ∙ rw (ticks-done m n) (ticks-counter n m up)

-- ---- a press

pub press-done : (m : Machine) → accepted (answer_to m press) ≡ true → after m press ≡ press_of m
unfolding event_of
press-done m e = accepted-does m press e

-- an accepted press sets PWRBTN, bit 8
pub press-sets-pwrbtn : (m : Machine) → accepted (answer_to m press) ≡ true → digit 8 (after m press).pm1_sts ≡ 1
unfolding press_of digit
press-sets-pwrbtn m e = rw (press-done m e, digit_or 8 _ 256) (omega arith)

neither-asleep : (x : ℕ) → x ≤ 5 → eqb x 5 ≡ false → (t u : Bool) → leb 1 x ≡ t → leb x 4 ≡ u → (t && u) ≡ false → x ≡ 0
neither-asleep x h e true true p q n = cc
neither-asleep x h e true false p q n = absurd (eqb-false x 5 e (omega (arith, leb-false x 4 q)))
neither-asleep x h e false u p q n = omega (arith, leb-false 1 x p)

-- a press wakes from S1 to S5
pub press-wakes : (m : Machine) → m.state ≤ 5 → (press_of m).state ≡ 0
unfolding press_of in_s5 is_sleeping
press-wakes m h = go (eqb m.state 5) (leb 1 m.state && leb m.state 4) refl refl
  where
    go : (t u : Bool) → eqb m.state 5 ≡ t → (leb 1 m.state && leb m.state 4) ≡ u
        → (cond t (restarted m) (cond (u && true) (woken (event_source event.Press) m) m)).state ≡ 0
    go true u p q = refl
    go false true p q = refl
    go false false p q = neither-asleep m.state h p _ _ refl refl q

-- from an accepted press, with the override fitted and nothing between
module _ (m : Machine) (h : m.state ≤ 5) (fitted : m.settings.power_override ≡ true) (e : accepted (answer_to m press) ≡ true) where
  -- so many ticks in one step: S5 from 14,318,180 on
  pub press-then-ticks : (n : ℕ) → (after (after m press) (ticks n)).state ≡ cond (leb hold_limit n) 5 0
  unfolding press_of
  press-then-ticks n =
      let up : awake (press_of m) ≡ true = (awake-exactly (press_of m)).1 (press-wakes m h) in
      let same : (press_of m).settings ≡ m.settings = rw (press-done m e) at (settings-kept m press) in
      let fits : (press_of m).settings.power_override ≡ true = rw same fitted in
      rw (press-done m e, ticks-done (press_of m) n) (held-state (press_of m) up refl refl fits n)

  pub press-then-14318179-ticks : (after (after m press) (ticks 14318179)).state ≡ 0
  press-then-14318179-ticks = press-then-ticks 14318179

  -- one tick more than these
  pub press-then-one-tick-more : (after (after (after m press) (ticks 14318179)) (ticks 1)).state ≡ 5
  press-then-one-tick-more =
      rw (ticks-done (after m press) 14318179, ticks-done (ticked_by 14318179 (after m press)) 1, ← ticks-add 14318179 1 (after m press))
      (rw (ticks-done (after m press) 14318180) at (press-then-ticks 14318180))
