-- Every row of the marked cases holds, and stands on settings that set-up accepts: one test, computed over the whole list, and the law
-- that takes it to each row. Assumes nothing.
use mathlib.Core.Bool.{Bool, true, false, ◌&&◌}
use mathlib.Core.List.Memᴰ
use mathlib.Core.List.{List, [], ◌∷◌, Memᴰ}
use mathlib.Core.Path.{◌≡◌, refl}
use Rattle.lists.proofs.Tests.{and_left, and_right}
use Rattle.cells.specs.Cells.{flag_of, bit_at, mask_of}
use Rattle.clock.specs.AtOnce.{off_within, ran_of, counter_after, turns_in, hold_after}
use Rattle.platform.specs.Blocks.{present, holds}
use Rattle.machine.specs.Status.{has_bit}
use Rattle.registers.specs.Registers.{in_status, in_enable, status_after, enable_after, control_in, covers_low, covers_high, written_bit}
use Rattle.machine.specs.Lines.{awake}
use Rattle.sleep.specs.Pairs.{absent, same_pair, named, state_of}
use Rattle.machine.specs.Sleep.{is_sleeping, wake_bits, pending, completed}
use Rattle.model.specs.Answer.{first_applying}
use Rattle.model.specs.Bus.{wrong_width, data_too_wide, leads_nowhere, allowed, is_timer, command_lost, read_of, write_of}
use Rattle.model.specs.Control.{names_none, sets_slp_en, typ_after, completes, armed_after, bm_rld_after, gbl_rls_after}
use Rattle.model.specs.Events.{in_s5, press_of, pin_of, tmr_raised, timed, ticked_by, turns_by, event_of}
use Rattle.ports.specs.Walk.{walk_over}
use Rattle.model.specs.Ports.{register_at, offset_at}
use Rattle.machine.specs.declared.Machine.{Machine}
use Rattle.model.specs.Step.{ticks, answer_to, after, step_of}
use Rattle.model.specs.declared.Answer.TheVariants as answer
use Rattle.marked_cases.specs.Platform.{platform, SetUpGives}
use Rattle.marked_cases.specs.Rows.{Row, Holds, rows}
use Rattle.marked_cases.proofs.Accepted.{set-up-gives}
use Rattle.marked_cases.proofs.AtOnce.{answer_at_once, after_at_once, same_registers, steps_hold, row_holds, row-holds}

-- each row of the list passes the test
unfoldable pub all_hold : List Row → Bool
all_hold [] = true
all_hold (r ∷ rs) = row_holds r && all_hold rs

each_holds : (rs : List Row) → all_hold rs ≡ true → (r : Row) → Memᴰ r rs → Holds r
unfolding all_hold
each_holds [] e r at = absurd (Memᴰ.not-nil at)
each_holds (x ∷ rs) e r (Memᴰ.head same) = rw same (row-holds x (and_left (row_holds x) (all_hold rs) e))
each_holds (x ∷ rs) e r (Memᴰ.tail at) = each_holds rs (and_right (row_holds x) (all_hold rs) e) r at

-- the test over the whole list
pub rows_pass : all_hold rows ≡ true
unfolding all_hold steps_hold same_registers answer_at_once after_at_once answer_to first_applying awake wrong_width data_too_wide leads_nowhere allowed is_timer command_lost names_none read_of write_of sets_slp_en typ_after completes bm_rld_after register_at offset_at walk_over holds present has_bit in_status in_enable status_after enable_after control_in covers_low covers_high written_bit mask_of flag_of bit_at timed tmr_raised off_within ran_of counter_after turns_in hold_after press_of pin_of in_s5 is_sleeping armed_after gbl_rls_after completed pending wake_bits absent same_pair named state_of event_of
rows_pass = refl

-- the marked cases: what each row of the list claims of `step_of` holds
pub marked-cases : (r : Row) → Memᴰ r rows → Holds r
marked-cases = each_holds rows rows_pass

-- "zero ticks: nothing", of any machine and every part of it
pub zero-ticks : (m : Machine) → step_of m (ticks 0) ≡ record { answer = answer.Done 0; machine = m }
unfolding answer_to first_applying after event_of ticked_by turns_by
zero-ticks m = refl

-- ---- the settings

-- each row's settings are ones that set-up accepts
abbrev AllAccepted : List Row → Type 0
AllAccepted rs = (r : Row) → Memᴰ r rs → SetUpGives r.machine.settings

none : AllAccepted []
none r at = absurd (Memᴰ.not-nil at)

more : (wide : Bool) {x : Row} {rs : List Row} → x.machine.settings ≡ platform wide → AllAccepted rs → AllAccepted (x ∷ rs)
more wide e others r (Memᴰ.head same) = rw (same, e) (set-up-gives wide)
more wide e others r (Memᴰ.tail at) = others r at

pub rows-accepted : (r : Row) → Memᴰ r rows → SetUpGives r.machine.settings
rows-accepted =
    more false refl (more false refl (more false refl (more false refl (more false refl
    (more false refl
    (more false refl (more false refl (more false refl (more false refl
    (more true refl
    (more false refl (more false refl (more false refl (more false refl (more false refl
    (more false refl (more false refl
    (more true refl (more true refl
    (more false refl (more false refl (more false refl (more false refl
    (more false refl (more false refl (more false refl (more false refl (more false refl (more false refl none)))))))))))))))))))))))))))))
