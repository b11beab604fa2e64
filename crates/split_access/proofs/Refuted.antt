-- What fails: the faulty steps, the write-back without its exemption, and demand 3 with mixed gaps or with the other side moved; each by a list of
-- a few steps on the worked platform.
-- Every premise is computed, and the conclusion says that two different values are equal. Assumes nothing.
use mathlib.Core.Bool.{true, false≢true}
use mathlib.Core.List.{List, [], ◌∷◌}
use mathlib.Core.Logic.{inl, inr}
use mathlib.Core.Path.{◌≡◌, refl, sym, ap}
use Prim.Native.Nat.{ℕ}
use native.Mathlib.Omega.{arith}
use Rattle.runs.specs.Items.{Item, event, steps_of, Every}
use Rattle.platform.specs.Blocks.{present}
use Rattle.machine.specs.Fields.{with_event, with_button, with_time}
use Rattle.registers.specs.Registers.{in_gpe_status, gpe_sts_after, gpe_en_after}
use Rattle.machine.specs.Lines.{smi_of}
use Rattle.machine.specs.SetUp.{set_up_of}
use Rattle.model.specs.Answer.{step_value}
use Rattle.model.specs.Step.{step_of}
use Rattle.model.specs.declared.Answer.{Answer}
use Rattle.model.specs.declared.Answer.TheVariants as answer
use Rattle.model.specs.declared.Event.TheVariants as event
use Rattle.model.specs.declared.Step.{Step}
use Rattle.model.specs.declared.Step.TheVariants as step
use Rattle.split_access.specs.Gap.{before}
use Rattle.split_access.specs.Claims.{reads, GapStep, gap_step, Gap, ItemOn, event-item, MovesBy, Demand3By, Demand3}
use Rattle.split_access.specs.WriteBack.{Round, RoundOn, WritesBackBy, WritesBackFrom, WriteBackBy, WriteBack}
use Rattle.split_access.specs.WakesAtOnce.{WakesAtOnceFrom, WakesAtOnce}
use Rattle.split_access.specs.ByWalk.{ByWalkFrom, ByWalk}
use Rattle.split_access.specs.Faulty.{clears_all, one_register, ignores_pending, leaves_pending, MixedItemOn, other_side, EveryBit}
use Rattle.split_access.proofs.Platform.{platform, machine, here, here-after, alarm_in_b, press_in_b, alarm-homes, press-homes, steps-compute}

-- accesses of two bytes
abbrev read : ℕ → Step
read port = step.Read (record { port = port; width = 2 })

abbrev write : ℕ → ℕ → Step
write port written = step.Write (record { port = port; width = 2 }) written

-- ---- version 1

-- the alarm comes after both reads
abbrev alarm_after_reads : Round
alarm_after_reads = record { offset = 0; width = 2; gap₁ = []; gap₂ = step.Event event.Alarm ∷ []; gap₃ = []; gap₄ = [] }

alarm-after-on : RoundOn (platform alarm_in_b) alarm_after_reads
unfolding present Every
alarm-after-on = record { in_status = omega arith; b_present = refl; steps₁ = tt; steps₂ = (gap_step event.Alarm, tt); steps₃ = tt; steps₄ = tt }

-- "A 04:00 alarm that arrived while the power button was handled was wiped with it.": A reads and writes back 0100, and the alarm's bit 10 is gone
pub whole-clear-refuted : WriteBack set_up_of clears_all → ⊥
unfolding steps-compute
whole-clear-refuted w =
    let lost = here-after alarm_in_b clears_all (WritesBackFrom clears_all) alarm-homes w (step.Event event.Press ∷ []) alarm_after_reads alarm-after-on (refl, (refl, (refl, (refl, (refl, refl))))) in
    let z : ◌≡◌ {A = ℕ} 0 1 = lost.pm1 10 (omega arith) (inr (inl refl)) refl in
    omega arith

-- ---- version 2

-- the alarm comes between the reads
abbrev alarm_between_reads : Round
alarm_between_reads = record { offset = 0; width = 2; gap₁ = step.Event event.Alarm ∷ []; gap₂ = []; gap₃ = []; gap₄ = [] }

alarm-between-on : (homes : ℕ) → RoundOn (platform homes) alarm_between_reads
unfolding present Every
alarm-between-on homes = record { in_status = omega arith; b_present = refl; steps₁ = (gap_step event.Alarm, tt); steps₂ = tt; steps₃ = tt; steps₄ = tt }

-- "an alarm between the two accesses was in neither the value read nor the register afterwards": A, its home, reads 0; B shows 0400 and its write clears it
pub one-register-refuted : WriteBack set_up_of one_register → ⊥
unfolding steps-compute
one-register-refuted w =
    let lost = here-after press_in_b one_register (WritesBackFrom one_register) press-homes w [] alarm_between_reads (alarm-between-on press_in_b) (refl, (refl, (refl, (refl, (refl, refl))))) in
    let z : ◌≡◌ {A = ℕ} 0 1 = lost.pm1 10 (omega arith) (inl refl) refl in
    omega arith

-- ---- version 3

-- RTC_EN at B, its home; the alarm; SLP_TYP and SLP_EN at A
abbrev alarm_then_a : List Step
alarm_then_a = write 0x442 0x400 ∷ step.Event event.Alarm ∷ write 0x404 0x3400 ∷ []

-- "An alarm already pending and enabled when the lid closed did not wake the machine.": SLP_EN at B completes, and leaves the machine in S3
pub pending-ignored-refuted : WakesAtOnce set_up_of ignores_pending → ⊥
unfolding steps-compute
pending-ignored-refuted w =
    false≢true (sym (here-after alarm_in_b ignores_pending (WakesAtOnceFrom ignores_pending) alarm-homes w alarm_then_a (write 0x444 0x2800) refl refl))

-- ---- what is stored of the general events

-- one byte written
abbrev write_byte : ℕ → ℕ → Step
write_byte port written = step.Write (record { port = port; width = 1 }) written

-- general event 3 is enabled while its bit is set
abbrev enabled_late : List Step
enabled_late = step.Event (event.General 3) ∷ write_byte 0x422 0x08 ∷ []

-- SMI stays down, where the walk finds the bit
pub pending-left-refuted : ByWalk set_up_of leaves_pending → ⊥
unfolding steps-compute smi_of in_gpe_status gpe_sts_after gpe_en_after
pending-left-refuted w = false≢true (here-after alarm_in_b leaves_pending (ByWalkFrom leaves_pending) alarm-homes w enabled_late).smi

-- ---- the write-back without its exemption

-- B shows the alarm that came between the reads, and the write back clears it: bit 10 was raised after the first half read, and is gone
pub exemption-refuted : WriteBackBy EveryBit set_up_of step_of → ⊥
unfolding steps-compute
exemption-refuted w =
    let lost = here-after alarm_in_b step_of (WritesBackBy EveryBit step_of) alarm-homes w [] alarm_between_reads (alarm-between-on alarm_in_b) (refl, (refl, (refl, (refl, (refl, refl))))) in
    let z : ◌≡◌ {A = ℕ} 0 1 = lost.pm1 10 (omega arith) (inl refl) tt in
    omega arith

-- ---- demand 3 changed

abbrev status_a : Step
status_a = read 0x400

abbrev status_b : Step
status_b = read 0x440

-- a split read of the status with an alarm in its gap, which the second half shows
abbrev alarm_in_gap : List (Item (Step × Answer))
alarm_in_gap = event (status_a, answer.Done 0) ((step.Event event.Alarm, answer.Done 0) ∷ []) (status_b, answer.Done 0x400) ∷ []

alarm-gap : Gap (step.Event event.Alarm ∷ [])
unfolding steps-compute
alarm-gap = record { steps = (gap_step event.Alarm, tt); unmixed = refl }

alarm-in-gap-on : (homes : ℕ) → Every (ItemOn (platform homes)) (steps_of alarm_in_gap)
unfolding steps-compute
alarm-in-gap-on homes = (event-item refl (reads 0 2 (omega arith)) alarm-gap, tt)

-- the one register shows the alarm of home A in B, and not where the alarm is moved after B
pub one-register-moves-refuted : Demand3 set_up_of one_register → ⊥
unfolding steps-compute
one-register-moves-refuted d =
    let moves = here press_in_b (MovesBy ItemOn before one_register) press-homes d in
    let r = moves alarm_in_gap (with_event (machine press_in_b) 0x400 0) (alarm-in-gap-on press_in_b) ((refl, (refl, refl)), tt) (refl, (refl, (refl, refl))) in
    let z : ◌≡◌ {A = ℕ} 0 0x400 = ap step_value r.1.0 in
    omega arith

-- ticks and then a press of home B: the press is moved before the ticks, which then find the button down
abbrev mixed_gap : List (Item (Step × Answer))
mixed_gap =
    event (status_a, answer.Done 0)
    ((step.Event (event.Ticks 1), answer.Done 0) ∷ (step.Event event.Press, answer.Done 0) ∷ [])
    (status_b, answer.Done 0x100) ∷ []

mixed-steps : Every GapStep (step.Event (event.Ticks 1) ∷ step.Event event.Press ∷ [])
unfolding Every
mixed-steps = (gap_step (event.Ticks 1), (gap_step event.Press, tt))

mixed-gap-on : Every (MixedItemOn (platform press_in_b)) (steps_of mixed_gap)
unfolding steps-compute
mixed-gap-on = (event-item refl (reads 0 2 (omega arith)) mixed-steps, tt)

-- hold is 0 at the end, and 1 where the press is moved
pub mixed-gap-refuted : Demand3By MixedItemOn before set_up_of step_of → ⊥
unfolding steps-compute
mixed-gap-refuted d =
    let moves = here press_in_b (MovesBy MixedItemOn before step_of) press-homes d in
    let end = with_time (with_button (with_event (machine press_in_b) 0x100 0) true 0) 1 0 in
    let r = moves mixed_gap end mixed-gap-on ((refl, (refl, (refl, refl))), tt) (refl, (refl, (refl, (refl, refl)))) in
    let z : ◌≡◌ {A = ℕ} 1 0 = ap (λ m. m.hold) r.1.1.1.1 in
    omega arith

-- B does not show the alarm of home B that is moved after it
pub other-side-refuted : Demand3By ItemOn other_side set_up_of step_of → ⊥
unfolding steps-compute
other-side-refuted d =
    let moves = here alarm_in_b (MovesBy ItemOn other_side step_of) alarm-homes d in
    let r = moves alarm_in_gap (with_event (machine alarm_in_b) 0x400 0) (alarm-in-gap-on alarm_in_b) ((refl, (refl, refl)), tt) (refl, (refl, (refl, refl))) in
    let z : ◌≡◌ {A = ℕ} 0 0x400 = ap step_value r.1.0 in
    omega arith
