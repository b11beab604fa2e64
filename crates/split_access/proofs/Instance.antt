-- Demand 3 at work: a list with three split accesses on the worked platform, and the moved list, which runs with the same answers to the same end.
-- The premises are computed. Assumes nothing.
use mathlib.Core.List.{List, [], ◌∷◌, map}
use mathlib.Core.Bool.{false}
use mathlib.Core.Path.{◌≡◌, refl}
use Prim.Native.Nat.{ℕ}
use native.Mathlib.Omega.{arith}
use lib.ListN.{set}
use Rattle.runs.specs.Items.{Item, one, control, event, original, moved, step_in, steps_of, Every, Run, Awake}
use Rattle.machine.specs.Fields.{with_event, with_gpe, with_control, with_time, enter}
use Rattle.machine.specs.PowerOn.{no_bytes}
use Rattle.machine.specs.SetUp.{set_up_of}
use Rattle.machine.specs.declared.Machine.{Machine}
use Rattle.model.specs.Step.{answer_to, after, step_of}
use Rattle.model.specs.declared.Answer.{Answer}
use Rattle.model.specs.declared.Answer.TheVariants as answer
use Rattle.model.specs.declared.Event.{Event}
use Rattle.model.specs.declared.Event.TheVariants as event
use Rattle.model.specs.declared.Step.{Step}
use Rattle.model.specs.declared.Step.TheVariants as step
use Rattle.split_access.specs.Start.{InS0}
use Rattle.split_access.specs.Gap.{before}
use Rattle.split_access.specs.Claims.{reads, writes, gap_step, Gap, ItemOn, step-item, control-item, event-item, MovesFrom}
use Rattle.split_access.proofs.Moves.{demand-3}
use Rattle.split_access.proofs.Platform.{table, pairs, platform, machine, gives, here, alarm_in_b, alarm-homes, steps-compute}

-- steps with their answers
abbrev read_of : ℕ → Answer → Step × Answer
read_of port a = (step.Read (record { port = port; width = 2 }), a)

abbrev write_of : ℕ → ℕ → Step × Answer
write_of port written = (step.Write (record { port = port; width = 2 }) written, answer.Done 0)

abbrev did : Event → Step × Answer
did e = (step.Event e, answer.Done 0)

abbrev refused : Event → Answer → Step × Answer
refused e a = (step.Event e, a)

-- Sleep button; the status read, and written back; to sleep S3; a refused read.
-- In the gaps: an alarm of home B, a press of home A, general events, a refused pin step and a refused general event, ticks, a release.
abbrev items : List (Item (Step × Answer))
items =
    one (did event.SleepPress)
    ∷ event (read_of 0x400 (answer.Done 0x200))
    (did event.Press ∷ did event.Alarm ∷ did (event.General 3) ∷ refused event.PinActive answer.NotFitted ∷ [])
    (read_of 0x440 (answer.Done 0x400))
    ∷ event (write_of 0x400 0x200)
    (did (event.Ticks 2) ∷ did event.Alarm ∷ [])
    (write_of 0x440 0x400)
    ∷ control (write_of 0x404 0x3400)
    (did (event.General 9) ∷ did event.Release ∷ refused (event.General 16) answer.NoSuchEvent ∷ [])
    (write_of 0x444 0x2800)
    ∷ one (read_of 0x400 answer.Asleep)
    ∷ []

-- the same in the order of demand 3
abbrev moved_items : List (Step × Answer)
moved_items =
    did event.SleepPress
    ∷ did event.Alarm
    ∷ read_of 0x400 (answer.Done 0x200)
    ∷ read_of 0x440 (answer.Done 0x400)
    ∷ did event.Press
    ∷ did (event.General 3)
    ∷ refused event.PinActive answer.NotFitted
    ∷ did event.Alarm
    ∷ write_of 0x400 0x200
    ∷ write_of 0x440 0x400
    ∷ did (event.Ticks 2)
    ∷ did (event.General 9)
    ∷ did event.Release
    ∷ refused (event.General 16) answer.NoSuchEvent
    ∷ write_of 0x404 0x3400
    ∷ write_of 0x444 0x2800
    ∷ read_of 0x400 answer.Asleep
    ∷ []

-- asleep in S3, with the press kept, and two general events: bit 3 of the first byte and bit 1 of the second
abbrev end : Machine
end =
    let pressed = with_event (machine alarm_in_b) 0x100 0 in
    let general = with_gpe pressed (set (set no_bytes 0 0x08) 1 0x02) no_bytes no_bytes no_bytes false in
    let ticked = with_time general 2 2 in
    enter (with_control ticked false false 5 2 false) 3

-- ---- the premises

first-gap : Gap (step.Event event.Press ∷ step.Event event.Alarm ∷ step.Event (event.General 3) ∷ step.Event event.PinActive ∷ [])
unfolding steps-compute
first-gap = record { steps = (gap_step event.Press, (gap_step event.Alarm, (gap_step (event.General 3), (gap_step event.PinActive, tt)))); unmixed = refl }

second-gap : Gap (step.Event (event.Ticks 2) ∷ step.Event event.Alarm ∷ [])
unfolding steps-compute
second-gap = record { steps = (gap_step (event.Ticks 2), (gap_step event.Alarm, tt)); unmixed = refl }

third-gap : Gap (step.Event (event.General 9) ∷ step.Event event.Release ∷ step.Event (event.General 16) ∷ [])
unfolding steps-compute
third-gap = record { steps = (gap_step (event.General 9), (gap_step event.Release, (gap_step (event.General 16), tt))); unmixed = refl }

items-on : Every (ItemOn (platform alarm_in_b)) (steps_of items)
unfolding steps-compute
items-on = (
  step-item (step.Event event.SleepPress),
  (
    event-item refl (reads 0 2 (omega arith)) first-gap,
    (
      event-item refl (writes 0 2 0x200 0x400 (omega arith)) second-gap,
      (
        control-item refl (writes 0 2 0x3400 0x2800 (omega arith)) third-gap,
        (step-item (step.Read (record { port = 0x400; width = 2 })), tt),
      ),
    ),
  ),
)

items-awake : Awake (λ k x. (step_of k x).machine) InS0 (machine alarm_in_b) (steps_of items)
unfolding steps-compute
items-awake = ((refl, (refl, (refl, (refl, (refl, refl))))), ((refl, (refl, (refl, refl))), ((refl, (refl, (refl, (refl, refl)))), tt)))

items-run : Run (λ k x. (step_of k x).answer) (λ k x. (step_of k x).machine) (machine alarm_in_b) (original items) end
unfolding steps-compute
items-run =
    (refl, (refl, (refl, (refl, (refl, (refl, (refl, (refl, (refl, (refl, (refl, (refl, (refl, (refl, (refl, (refl, (refl, refl)))))))))))))))))

-- ---- the conclusion, from a machine as setting up gives it

moved_order : moved (λ p. before (platform alarm_in_b) p.0) items ≡ moved_items
unfolding steps-compute
moved_order = refl

pub moved-list-runs : Run answer_to after (set_up_of table alarm_in_b 0 false pairs).machine moved_items end
moved-list-runs =
    let moves = here alarm_in_b (MovesFrom step_of) alarm-homes demand-3 in
    let run = moves items end items-on items-awake items-run in
    rw (gives alarm_in_b alarm-homes) (rw moved_order at run)

-- the second step is another: A's half, and the alarm
pub order-differs : map step_in (original items) ≡ map step_in moved_items → ⊥
unfolding original
order-differs e =
    let z : ◌≡◌ {A = ℕ} 0 1 = cc in
    omega arith
