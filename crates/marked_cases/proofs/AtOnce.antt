-- A step with its ticks at once, and the test of a row that runs it. It is the model's own step, by the closed forms of n ticks, so a row
-- that passes the test holds.
-- Assumes nothing.
use mathlib.Core.Bool.{Bool, true, cond, ◌&&◌}
use mathlib.Core.List.{List, [], ◌∷◌}
use mathlib.Core.Path.{◌≡◌, refl, ap}
use Prim.Native.Nat.{ℕ}
use borrow.Author.Tests.{eqb-true}
use lib.Dec.{eqb}
use Rattle.lists.proofs.Tests.{and_left, and_right}
use Rattle.clock.specs.AtOnce.{after_of}
use Rattle.platform.specs.Fitted.{wide_timer}
use Rattle.machine.specs.Lines.{awake}
use Rattle.machine.specs.declared.Machine.{Machine}
use Rattle.model.specs.Answer.{step_number, step_value, first_applying}
use Rattle.model.specs.Events.{StatusBit, event_bit, clock_of, timed, done_by, event_of, value_by}
use Rattle.model.specs.EventKinds.{EventKind, event_kind}
use Rattle.model.specs.EventKinds as kind
use Rattle.model.specs.Step.{refusals_of, done_value, done_of, answer_to, accepted, after}
use Rattle.model.specs.declared.Answer.{Answer}
use Rattle.model.specs.declared.Answer.TheVariants as answer
use Rattle.model.specs.declared.Step.{Step}
use Rattle.model.specs.declared.Step.TheVariants as step
use Rattle.model.proofs.Ticks.{clock-closed-form, ticks-closed-form}
use Rattle.model.proofs.Turns.{turns-at-once}
use Rattle.marked_cases.specs.Rows.{Expected, Registers, Row, registers_of, Gives, Holds}

-- ---- one step

-- what ticks give, and the machine after them
ticks_at_once : ℕ → Machine → ℕ × Machine
ticks_at_once n m =
    let t = after_of (wide_timer m.settings) m.button m.settings.power_override n (clock_of m) in
    (cond (awake m) t.turns 0, cond (awake m) (timed m t) m)

event_at_once : Machine → StatusBit → EventKind → ℕ × Machine
event_at_once m bit kind.press = (0, done_by m bit kind.press)
event_at_once m bit kind.release = (0, done_by m bit kind.release)
event_at_once m bit kind.signal = (0, done_by m bit kind.signal)
event_at_once m bit (kind.pin active) = (0, done_by m bit (kind.pin active))
event_at_once m bit kind.notice = (0, done_by m bit kind.notice)
event_at_once m bit (kind.general k) = (0, done_by m bit (kind.general k))
event_at_once m bit (kind.ticks n) = ticks_at_once n m

event-at-once : (m : Machine) (bit : StatusBit) (k : EventKind) → event_at_once m bit k ≡ (value_by m k, done_by m bit k)
unfolding event_at_once ticks_at_once
event-at-once m bit kind.press = refl
event-at-once m bit kind.release = refl
event-at-once m bit kind.signal = refl
event-at-once m bit (kind.pin active) = refl
event-at-once m bit kind.notice = refl
event-at-once m bit (kind.general k) = refl
event-at-once m bit (kind.ticks n) = rw (turns-at-once n m, clock-closed-form n m, ticks-closed-form n m) refl

done_at_once : Machine → Step → ℕ × Machine
done_at_once m (step.Read a) = (done_value m (step.Read a), done_of m (step.Read a))
done_at_once m (step.Write a written) = (done_value m (step.Write a written), done_of m (step.Write a written))
done_at_once m (step.Event e) = event_at_once m (event_bit e) (event_kind e)
done_at_once m step.Take = (done_value m step.Take, done_of m step.Take)
done_at_once m step.Drop = (done_value m step.Drop, done_of m step.Drop)

done-at-once : (m : Machine) (s : Step) → done_at_once m s ≡ (done_value m s, done_of m s)
unfolding done_at_once event_of
done-at-once m (step.Read a) = refl
done-at-once m (step.Write a written) = refl
done-at-once m (step.Event e) = event-at-once m (event_bit e) (event_kind e)
done-at-once m step.Take = refl
done-at-once m step.Drop = refl

-- the answer to a step, and the machine after it
unfoldable pub answer_at_once : Machine → Step → Answer
unfolding done_at_once event_at_once ticks_at_once
answer_at_once m s = first_applying (refusals_of m s) (answer.Done (done_at_once m s).0)

unfoldable pub after_at_once : Machine → Step → Machine
unfolding done_at_once event_at_once ticks_at_once
after_at_once m s = cond (accepted (answer_to m s)) (done_at_once m s).1 m

-- both are the model's
answer-at-once : (m : Machine) (s : Step) → answer_at_once m s ≡ answer_to m s
unfolding answer_at_once answer_to
answer-at-once m s = ap (λ (x : ℕ × Machine). first_applying (refusals_of m s) (answer.Done x.0)) (done-at-once m s)

pub after-at-once : (m : Machine) (s : Step) → after_at_once m s ≡ after m s
unfolding after_at_once after
after-at-once m s = ap (λ (x : ℕ × Machine). cond (accepted (answer_to m s)) x.1 m) (done-at-once m s)

-- ---- a row

unfoldable pub same_registers : Registers → Registers → Bool
same_registers a b =
    eqb a.status b.status
    && (eqb a.enable b.enable && (eqb a.counter b.counter && (eqb a.hold b.hold && eqb a.state b.state)))

by-fields : (a b : Registers) → a.status ≡ b.status → a.enable ≡ b.enable → a.counter ≡ b.counter → a.hold ≡ b.hold
    → a.state ≡ b.state → a ≡ b
by-fields a b p q r s t = λ i. record { status = p i; enable = q i; counter = r i; hold = s i; state = t i }

-- two numbers are equal, and the rest of the test passes
both : (a b : ℕ) (rest : Bool) → (eqb a b && rest) ≡ true → (a ≡ b) × (rest ≡ true)
both a b rest e = (eqb-true a b (and_left (eqb a b) rest e), and_right (eqb a b) rest e)

same-registers : (a b : Registers) → same_registers a b ≡ true → a ≡ b
unfolding same_registers
same-registers a b e =
    let status = both a.status b.status _ e in
    let enable = both a.enable b.enable _ status.1 in
    let counter = both a.counter b.counter _ enable.1 in
    let hold = both a.hold b.hold (eqb a.state b.state) counter.1 in
    by-fields a b status.0 enable.0 counter.0 hold.0 (eqb-true a.state b.state hold.1)

-- from the machine each step gives its number and its value, and the last one leaves these registers
unfoldable pub steps_hold : Machine → List Expected → Registers → Bool
steps_hold m [] end = same_registers (registers_of m) end
steps_hold m (x ∷ xs) end =
    eqb (step_number (answer_at_once m x.step)) x.number
    && (eqb (step_value (answer_at_once m x.step)) x.value && steps_hold (after_at_once m x.step) xs end)

-- the test of a row
abbrev pub row_holds : Row → Bool
row_holds r = steps_hold r.machine r.steps r.registers

steps-hold : (m : Machine) (xs : List Expected) (end : Registers) → steps_hold m xs end ≡ true → Gives m xs end
unfolding steps_hold Gives
steps-hold m [] end e = same-registers (registers_of m) end e
steps-hold m (x ∷ xs) end e =
    let a = answer_at_once m x.step in
    let same = answer-at-once m x.step in
    let number = both (step_number a) x.number _ e in
    let value = both (step_value a) x.value _ number.1 in
    (rw same at number.0, rw same at value.0, rw (after-at-once m x.step) at (steps-hold (after_at_once m x.step) xs end value.1))

-- a row that passes holds
pub row-holds : (r : Row) → row_holds r ≡ true → Holds r
row-holds r e = steps-hold r.machine r.steps r.registers e
