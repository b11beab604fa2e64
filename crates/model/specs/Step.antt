-- One step: the table of refusals, the value, and the machine after it.
use Rattle.std.specs.Prelude.{Bool, not, cond, ◌||◌, List, [], ◌∷◌, ℕ, eqb}
use Rattle.std.specs.Bool.{beq}
use Rattle.machine.specs.declared.Machine.{Machine}
use Rattle.model.specs.Answer.{step_number, Refusal, ◌if◌, first_applying}
use Rattle.model.specs.Bus.{wrong_width, data_too_wide, leads_nowhere, allowed, is_timer, command_lost, read_of, write_of}
use Rattle.model.specs.Control.{names_none}
use Rattle.model.specs.Events.{StatusBit, event_bit, pm1_mask, fits, in_gpe0, in_gpe1, event_of, event_value}
use Rattle.model.specs.Firmware.{take_of, drop_of}
use Rattle.model.specs.EventKinds.{EventKind, event_kind}
use Rattle.model.specs.EventKinds as kind
use Rattle.machine.specs.Lines.{awake}
use Rattle.model.specs.Ports.{register_at, offset_at}
use Rattle.model.specs.declared.Access.{Access}
use Rattle.model.specs.declared.Answer.{Answer}
use Rattle.model.specs.declared.Answer.TheVariants as answer
use Rattle.model.specs.declared.Event.{Event}
use Rattle.model.specs.declared.Event.TheVariants as event
use Rattle.model.specs.declared.Register.{Register}
use Rattle.model.specs.declared.Step.{Step}
use Rattle.model.specs.declared.Step.TheVariants as step
use Rattle.model.specs.declared.Stepped.{Stepped}
use Rattle.model.specs.declared.Transfer.{Transfer}

abbrev pub register_of : Machine → Access → Register
register_of m a = register_at m.settings a.port

abbrev pub offset_of : Machine → Access → ℕ
offset_of m a = offset_at m.settings a.port

-- a bus access as a step
abbrev pub bus_step : Transfer → Step
bus_step t = cond t.writes (step.Write t.access t.written) (step.Read t.access)

-- n ticks as a step
abbrev pub ticks : ℕ → Step
ticks n = step.Event (event.Ticks n)

-- ---- the lines of the table, by the kind of step

-- 20, then 21, 23 and 24: of a read
abbrev pub read_refusals : Machine → Register → ℕ → ℕ → List Refusal
read_refusals m r width offset =
    answer.Asleep if not (awake m) ∷
    answer.WrongWidth if wrong_width width ∷
    answer.NoBlock if leads_nowhere r ∷
    answer.NotAllowed if not (allowed r width offset) ∷
    []

-- 23 to 27: of what a write reaches
abbrev pub register_refusals : Machine → Register → ℕ → ℕ → ℕ → List Refusal
register_refusals m r width offset written =
    answer.NoBlock if leads_nowhere r ∷
    answer.NotAllowed if not (allowed r width offset) ∷
    answer.TimerWritten if is_timer r ∷
    answer.CommandWaits if command_lost m r ∷
    answer.NoSleepState if names_none m r width offset written ∷
    []

-- 20, then 21 to 27: of a write
abbrev pub write_refusals : Machine → Register → ℕ → ℕ → ℕ → List Refusal
write_refusals m r width offset written =
    answer.Asleep if not (awake m) ∷
    answer.WrongWidth if wrong_width width ∷
    answer.DataTooWide if data_too_wide width written ∷
    register_refusals m r width offset written

-- 28: "what a press, release, sleep press, alarm or PCIe wake belongs to is not fitted"; request W3: "28 where not fitted, then 30 when the pin is
-- already at that level"
abbrev pub unfitted : Machine → StatusBit → Refusal
unfitted m bit = answer.NotFitted if not (fits m.settings (pm1_mask bit))

-- 28, then 30: "press while down, release while up"; 20: "bus-master, unlock .. outside S0"; 29: "a general event number belongs to no block"
abbrev pub refusals_by : Machine → StatusBit → EventKind → List Refusal
refusals_by m bit kind.press = unfitted m bit ∷ answer.AlreadySo if m.button ∷ []
refusals_by m bit kind.release = unfitted m bit ∷ answer.AlreadySo if not m.button ∷ []
refusals_by m bit kind.signal = unfitted m bit ∷ []
refusals_by m bit (kind.pin active) = unfitted m bit ∷ answer.AlreadySo if beq m.wake_pin active ∷ []
refusals_by m bit kind.notice = answer.Asleep if not (awake m) ∷ []
refusals_by m bit (kind.general k) = answer.NoSuchEvent if not (in_gpe0 m.settings k || in_gpe1 m.settings k) ∷ []
refusals_by m bit (kind.ticks n) = []

abbrev pub event_refusals : Machine → Event → List Refusal
event_refusals m e = refusals_by m (event_bit e) (event_kind e)

-- 20: "asleep: a bus access, bus-master, unlock or firmware step outside S0"; 31: "firmware takes with no command waiting"
abbrev pub refusals_of : Machine → Step → List Refusal
refusals_of m (step.Read a) = read_refusals m (register_of m a) a.width (offset_of m a)
refusals_of m (step.Write a written) = write_refusals m (register_of m a) a.width (offset_of m a) written
refusals_of m (step.Event e) = event_refusals m e
refusals_of m step.Take = answer.Asleep if not (awake m) ∷ answer.NoCommand if not m.command_waits ∷ []
refusals_of m step.Drop = answer.Asleep if not (awake m) ∷ []

-- ---- the step

-- "Value is the reading or the command taken, else zero."; of ticks, request W1's count
abbrev pub done_value : Machine → Step → ℕ
done_value m (step.Read a) = read_of m (register_of m a) a.width (offset_of m a)
done_value m (step.Write a written) = 0
done_value m (step.Event e) = event_value m e
done_value m step.Take = m.command
done_value m step.Drop = 0

-- what an accepted step does
abbrev pub done_of : Machine → Step → Machine
done_of m (step.Read a) = m
done_of m (step.Write a written) = write_of m (register_of m a) a.width (offset_of m a) written
done_of m (step.Event e) = event_of m e
done_of m step.Take = take_of m
done_of m step.Drop = drop_of m

-- "The lowest number that applies is given; otherwise 0."
unfoldable pub answer_to : Machine → Step → Answer
answer_to m s = first_applying (refusals_of m s) (answer.Done (done_value m s))

-- the step was accepted
abbrev pub accepted : Answer → Bool
accepted a = eqb (step_number a) 0

-- a refusal leaves the machine as it was
unfoldable pub after : Machine → Step → Machine
after m s = cond (accepted (answer_to m s)) (done_of m s) m

-- one step
abbrev pub step_of : Machine → Step → Stepped
step_of m s = record { answer = answer_to m s; machine = after m s }
