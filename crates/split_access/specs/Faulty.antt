-- Three steps that were paid for and failed, one that does not look for pending general events, demand 3 changed in two ways, and the write-back without
-- its exemption.
-- That each is wrong is shown in `proofs/Refuted.antt`. The numbered quotations are the customer's demands'.
use Rattle.std.specs.Prelude.{Bool, true, false, not, cond, ◌&&◌, ℕ}
use Rattle.std.specs.Int.Bits.{bit_and}
use Rattle.bits.specs.Writes.{kept}
use Rattle.runs.specs.Items.{Item, Every}
use Rattle.platform.specs.Fitted.{status_cells}
use Rattle.platform.specs.declared.settings.Settings.{Settings}
use Rattle.registers.specs.Registers.{shown, placed, covered, in_status}
use Rattle.machine.specs.Fields.{with_event, with_gpe_pending, enter}
use Rattle.machine.specs.declared.Machine.{Machine}
use Rattle.model.specs.Bus.{write_of}
use Rattle.model.specs.Control.{completes, entered_state, controlled}
use Rattle.model.specs.Step.{register_of, offset_of, answer_to, accepted, after, step_of}
use Rattle.model.specs.declared.Access.{Access}
use Rattle.model.specs.declared.Answer.TheVariants as answer
use Rattle.model.specs.declared.Register.{Register}
use Rattle.model.specs.declared.Register.TheVariants as register
use Rattle.model.specs.declared.Step.{Step}
use Rattle.model.specs.declared.Step.TheVariants as step
use Rattle.split_access.specs.Start.{Stepping}
use Rattle.split_access.specs.Gap.{before}
use Rattle.split_access.specs.Claims.{GapStep, ItemWith}
use Rattle.split_access.specs.WriteBack.{Round}

-- ---- the steps

abbrev pub is_event_register : Register → Bool
is_event_register register.SmiCmd = false
is_event_register (register.Pm1Evt b) = true
is_event_register (register.Pm1Cnt b) = false
is_event_register register.Pm2Cnt = false
is_event_register register.PmTmr = false
is_event_register (register.Gpe b) = false
is_event_register register.Nowhere = false

-- the access is to the status half of block A or B
abbrev pub at_status : Machine → Access → Bool
at_status m a = is_event_register (register_of m a) && in_status (offset_of m a)

-- a step that answers as the machine does, and does the same but for what an accepted write does
abbrev pub done_writing : (Machine → Access → ℕ → Machine) → Machine → Step → Machine
done_writing write m (step.Read a) = after m (step.Read a)
done_writing write m (step.Write a written) = cond (accepted (answer_to m (step.Write a written))) (write m a written) m
done_writing write m (step.Event e) = after m (step.Event e)
done_writing write m step.Take = after m step.Take
done_writing write m step.Drop = after m step.Drop

abbrev pub writing_by : (Machine → Access → ℕ → Machine) → Stepping
writing_by write m x = record { answer = answer_to m x; machine = done_writing write m x }

-- 1: "It cleared the whole status register when the guest wrote to it."
abbrev pub wiped : Machine → Access → ℕ → Machine
wiped m a written = cond (at_status m a) (with_event m 0 m.pm1_en) (after m (step.Write a written))

abbrev pub clears_all : Stepping
clears_all = writing_by wiped

-- 2: "It cleared only the written bits, but kept the register as one.": each block shows all of it, and clears in all of it
abbrev pub as_one : Stepping
as_one m (step.Read a) =
    cond (at_status m a)
    (record { answer = answer.Done (shown a.width (offset_of m a) (bit_and m.pm1_sts (status_cells m.settings))); machine = m })
    (step_of m (step.Read a))
as_one m (step.Write a written) =
    let ones = bit_and (placed (offset_of m a) written) (bit_and (status_cells m.settings) (covered a.width (offset_of m a))) in
    cond (at_status m a)
    (record { answer = answer.Done 0; machine = with_event m (kept 16 m.pm1_sts ones) m.pm1_en })
    (step_of m (step.Write a written))
as_one m (step.Event e) = step_of m (step.Event e)
as_one m step.Take = step_of m step.Take
as_one m step.Drop = step_of m step.Drop

abbrev pub one_register : Stepping
one_register m x = cond (accepted (answer_to m x)) (as_one m x) (step_of m x)

-- 3: "An alarm already pending and enabled when the lid closed did not wake the machine.": a write that completes enters the state, whatever is set
abbrev pub sent_to_sleep : Machine → Register → ℕ → ℕ → ℕ → Machine
sent_to_sleep m register.SmiCmd width offset written = write_of m register.SmiCmd width offset written
sent_to_sleep m (register.Pm1Evt b) width offset written = write_of m (register.Pm1Evt b) width offset written
sent_to_sleep m (register.Pm1Cnt b) width offset written =
    cond (completes m b width offset written)
    (enter (controlled m b width offset written) (entered_state m b width offset written))
    (controlled m b width offset written)
sent_to_sleep m register.Pm2Cnt width offset written = write_of m register.Pm2Cnt width offset written
sent_to_sleep m register.PmTmr width offset written = write_of m register.PmTmr width offset written
sent_to_sleep m (register.Gpe b) width offset written = write_of m (register.Gpe b) width offset written
sent_to_sleep m register.Nowhere width offset written = write_of m register.Nowhere width offset written

abbrev pub ignores_pending : Stepping
ignores_pending = writing_by (λ m a written. sent_to_sleep m (register_of m a) a.width (offset_of m a) written)

-- request W7 left out: a write leaves what is stored of the general events as it was
abbrev pub leaves_pending : Stepping
leaves_pending = writing_by (λ m a written. with_gpe_pending (after m (step.Write a written)) m.gpe_pending)

-- ---- the claims

-- home A's steps, and those of no home, moved before instead of home B's
abbrev pub other_side : Settings → Step → Bool
other_side s x = not (before s x)

-- an item as in demand 3, with "no gap holds both a press or release and ticks" left out
abbrev pub MixedItemOn : Settings → Item Step → Type 0
MixedItemOn s i = ItemWith (Every GapStep) s i

-- every PM1 bit: the write-back with "unless it is a PM1 bit that the value read from its home shows" left out
abbrev pub EveryBit : Stepping → Machine → Round → ℕ → Type 0
EveryBit stepped m r i = Unit {0}
