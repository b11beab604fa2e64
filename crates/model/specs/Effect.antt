-- A step as its effect: the answer, the machine's scalars by the step's own rule, the general event byte that it stores, and what becomes of the
-- sleep state. That a step is its effect, done to the machine, is `effect-law` of `proofs/Effects.antt`.
use Rattle.std.specs.Prelude.{Bool, true, false, Option, Some, None, cond, ◌&&◌, ◌||◌, List, ℕ, ◌-◌, ◌/◌, ◌%◌, ◌^◌, eqb, get_or}
use Rattle.std.specs.Bool.{then_some}
use Rattle.std.specs.Option.{is_none}
use Rattle.std.specs.Int.Bits.{bit_or}
use Rattle.acpi.specs.Bits.{ARB_DIS}
use Rattle.bits.specs.Writes.{cleared_by}
use Rattle.clock.specs.declared.Clock.{Clock}
use Rattle.platform.specs.declared.settings.Settings.{Settings}
use Rattle.machine.specs.declared.Machine.{Machine}
use Rattle.machine.specs.declared.gpe.GpeArray.{GpeArray}
use Rattle.machine.specs.declared.gpe.GpeArray.TheVariants as array
use Rattle.machine.specs.declared.gpe.GpeStore.{GpeStore}
use Rattle.machine.specs.declared.scalars.Scalars.{Scalars}
use Rattle.machine.specs.declared.sleeping.StateChange.{StateChange}
use Rattle.machine.specs.declared.sleeping.StateChange.TheVariants as change
use Rattle.machine.specs.declared.sleeping.WakeSource.{WakeSource}
use Rattle.machine.specs.Applied.{applied}
use Rattle.machine.specs.Fields.{with_event, with_button, with_gpe_pending, with_time, with_command, with_arb_dis, with_wake_pin}
use Rattle.machine.specs.Gpe.{no_store}
use Rattle.machine.specs.Lines.{awake}
use Rattle.machine.specs.Scalars.{scalars_of}
use Rattle.machine.specs.Status.{pciexp_wake_bit}
use Rattle.machine.specs.Sleep.{is_sleeping}
use Rattle.registers.specs.Registers.{status_after, enable_after, gpe_half, gpe_sts_byte, in_gpe_status}
use Rattle.model.specs.Answer.{first_applying}
use Rattle.model.specs.Control.{completes, named_state, entered_state, controlled}
use Rattle.model.specs.EventKinds.{EventKind, event_kind}
use Rattle.model.specs.EventKinds as kind
use Rattle.model.specs.Events.{StatusBit, gpe, event_bit, pm1_mask, event_mask, event_source, source_of, raised, is_s5, in_s5, release_of, signal_wakes, pin_wakes, in_gpe0, number_in, general_enabled, clock_after, tmr_raised}
use Rattle.model.specs.Firmware.{take_of, drop_of}
use Rattle.model.specs.Step.{register_of, offset_of, register_refusals, refusals_by, answer_to, accepted}
use Rattle.model.specs.declared.Answer.{Answer}
use Rattle.model.specs.declared.Answer.TheVariants as answer
use Rattle.model.specs.declared.Effect.{Effect}
use Rattle.model.specs.declared.Event.TheVariants as event
use Rattle.model.specs.declared.Register.{Register}
use Rattle.model.specs.declared.Register.TheVariants as register
use Rattle.model.specs.declared.Step.{Step}
use Rattle.model.specs.declared.Step.TheVariants as step
use Rattle.model.specs.declared.Stepped.{Stepped}

-- the effect done to the machine
abbrev pub stepped_by : Machine → Effect → Stepped
stepped_by m e = record { answer = e.answer; machine = applied m e.scalars e.store e.next }

-- the machine stays as it is
abbrev pub unmoved : Scalars → Answer → Effect
unmoved x a = record { answer = a; scalars = x; store = no_store; next = None }

-- accepted, with the value
abbrev pub done : ℕ → Scalars → Option StateChange → Effect
done value x next = record { answer = answer.Done value; scalars = x; store = no_store; next = next }

-- a refusal leaves the machine as it was
abbrev pub unless_refused : Machine → Answer → Effect → Effect
unless_refused m a e = cond (accepted a) e (unmoved (scalars_of m) a)

-- ---- writes

abbrev pub event_write : Machine → Bool → ℕ → ℕ → ℕ → Scalars
event_write m b width offset written = scalars_of (with_event m (status_after m b width offset written) (enable_after m b width offset written))

-- a sleep that the write completes
unfoldable pub completing : Machine → Bool → ℕ → ℕ → ℕ → Option StateChange
completing m b width offset written =
    then_some (completes m b width offset written) (change.Complete (entered_state m b width offset written))

-- a write to a control register: 27, or what it does
unfoldable pub control_write : Machine → Bool → ℕ → ℕ → ℕ → Effect
control_write m b width offset written =
    cond (completes m b width offset written && is_none (named_state m b width offset written)) (unmoved (scalars_of m) answer.NoSleepState)
    (done 0 (scalars_of (controlled m b width offset written)) (completing m b width offset written))

-- the block's status array, and its enable array
abbrev pub sts_array : Bool → GpeArray
sts_array b = cond b array.Gpe1Sts array.Gpe0Sts

abbrev pub en_array : Bool → GpeArray
en_array b = cond b array.Gpe1En array.Gpe0En

-- "GPE: status bytes, then as many enable bytes, the same rules": the byte that a write leaves, in the status half and in the enable half
abbrev pub sts_byte : ℕ → Bool → ℕ → ℕ → GpeStore
sts_byte sts b offset written = record { place = offset; byte = cleared_by 8 sts written 255; walks = true; array = sts_array b }

abbrev pub en_byte : Settings → Bool → ℕ → ℕ → GpeStore
en_byte s b offset written = record { place = offset - gpe_half s b; byte = written % 2 ^ 8; walks = true; array = en_array b }

abbrev pub gpe_write : Scalars → GpeStore → Effect
gpe_write x store = record { answer = answer.Done 0; scalars = x; store = store; next = None }

-- an accepted write, by its register
unfoldable pub write_effect : Machine → Register → ℕ → ℕ → ℕ → Effect
write_effect m register.SmiCmd width offset written = done 0 (scalars_of (with_command m true (written % 2 ^ 8))) None
write_effect m (register.Pm1Evt b) width offset written = done 0 (event_write m b width offset written) None
write_effect m (register.Pm1Cnt b) width offset written =
    done 0 (scalars_of (controlled m b width offset written)) (completing m b width offset written)
write_effect m register.Pm2Cnt width offset written = done 0 (scalars_of (with_arb_dis m (eqb (written / 2 ^ ARB_DIS % 2) 1))) None
write_effect m register.PmTmr width offset written = unmoved (scalars_of m) (answer.Done 0)
write_effect m (register.Gpe b) width offset written =
    cond (in_gpe_status m.settings b offset) (gpe_write (scalars_of m) (sts_byte (gpe_sts_byte m b offset) b offset written)) (gpe_write (scalars_of m) (en_byte m.settings b offset written))
write_effect m register.Nowhere width offset written = unmoved (scalars_of m) (answer.Done 0)

-- a write in S0 of a right width: 23 to 27, or what the register's rule says
unfoldable pub register_write : Machine → Register → ℕ → ℕ → ℕ → Effect
register_write m r width offset written =
    unless_refused m (first_applying (register_refusals m r width offset written) (answer.Done 0)) (write_effect m r width offset written)

-- ---- events

-- an event in S1 to S4 that wakes, or does not
unfoldable pub wakes_if : ℕ → WakeSource → Bool → Option StateChange
wakes_if state source test = then_some (is_sleeping state && test) (change.Wake source)

-- "a press always" wakes; "From S5 only a press wakes"
unfoldable pub press_wakes : ℕ → Option StateChange
press_wakes state = cond (is_s5 state) (Some change.Restart) (wakes_if state (event_source event.Press) true)

-- "Press sets PWRBTN, hold zero."
unfoldable pub press_effect : Machine → Effect
press_effect m = done 0 (scalars_of (with_button (raised m (event_mask event.Press)) true 0)) (press_wakes m.state)

unfoldable pub release_effect : Machine → Effect
release_effect m = done 0 (scalars_of (release_of m)) None

unfoldable pub signal_effect : Machine → StatusBit → Effect
signal_effect m bit =
    cond (in_s5 m) (unmoved (scalars_of m) (answer.Done 0))
    (done 0 (scalars_of (raised m (pm1_mask bit))) (wakes_if m.state (source_of bit) (signal_wakes m (pm1_mask bit))))

-- the pin at its level, and its bit where it wakes
abbrev pub pinned : Machine → Bool → Bool → Machine
pinned m active wakes = raised (with_wake_pin m active) (cond wakes pciexp_wake_bit 0)

unfoldable pub pin_next : Bool → Option StateChange
pin_next wakes = then_some wakes (change.Wake (event_source event.PinActive))

unfoldable pub pin_effect : Machine → Bool → Effect
pin_effect m active = done 0 (scalars_of (pinned m active (pin_wakes m active))) (pin_next (pin_wakes m active))

unfoldable pub notice_effect : Machine → ℕ → Effect
notice_effect m mask = done 0 (scalars_of (raised m mask)) None

-- the status byte with event k's bit set
abbrev pub raised_byte : List ℕ → ℕ → GpeArray → GpeStore
raised_byte xs k in_array = record { place = k / 8; byte = bit_or (get_or xs (k / 8) 0) (2 ^ (k % 8)); walks = false; array = in_array }

-- of GPE0, or else of GPE1
unfoldable pub general_byte : Settings → List ℕ → List ℕ → ℕ → GpeStore
general_byte s sts0 sts1 k = cond (in_gpe0 s k) (raised_byte sts0 k array.Gpe0Sts) (raised_byte sts1 (number_in s k) array.Gpe1Sts)

unfoldable pub general_effect : Machine → ℕ → Effect
general_effect m k =
    cond (in_s5 m) (unmoved (scalars_of m) (answer.Done 0))
    (record {
      answer = answer.Done 0;
      scalars = scalars_of (with_gpe_pending m (general_enabled m k || m.gpe_pending));
      store = general_byte m.settings m.gpe0_sts m.gpe1_sts k;
      next = wakes_if m.state (source_of (gpe k)) (general_enabled m k);
    })

abbrev pub overridden_if : Bool → Option StateChange
overridden_if off = then_some off change.Override

-- the clock's turns, counter and hold, and the override
abbrev pub clock_effect : Machine → Clock → Effect
clock_effect m t =
    done t.turns (scalars_of (with_time (raised m (tmr_raised m.settings t.turns)) t.counter t.hold)) (overridden_if t.off)

-- n ticks at once, "in S0 only"
unfoldable pub ticks_effect : Machine → ℕ → Effect
ticks_effect m n = cond (awake m) (clock_effect m (clock_after m n)) (unmoved (scalars_of m) (answer.Done 0))

-- an accepted event, by its bit and its kind
abbrev pub effect_by : Machine → StatusBit → EventKind → Effect
effect_by m bit kind.press = press_effect m
effect_by m bit kind.release = release_effect m
effect_by m bit kind.signal = signal_effect m bit
effect_by m bit (kind.pin active) = pin_effect m active
effect_by m bit kind.notice = notice_effect m (pm1_mask bit)
effect_by m bit (kind.general k) = general_effect m k
effect_by m bit (kind.ticks n) = ticks_effect m n

-- an event, refused or accepted, by its bit and its kind
unfoldable pub event_effect : Machine → StatusBit → EventKind → Effect
event_effect m bit k = unless_refused m (first_applying (refusals_by m bit k) (answer.Done 0)) (effect_by m bit k)

-- ---- every step

unfoldable pub effect_of : Machine → Step → Effect
effect_of m (step.Read a) = unmoved (scalars_of m) (answer_to m (step.Read a))
effect_of m (step.Write a written) =
    unless_refused m (answer_to m (step.Write a written)) (write_effect m (register_of m a) a.width (offset_of m a) written)
effect_of m (step.Event e) = event_effect m (event_bit e) (event_kind e)
effect_of m step.Take = unless_refused m (answer_to m step.Take) (done m.command (scalars_of (take_of m)) None)
effect_of m step.Drop = unless_refused m (answer_to m step.Drop) (done 0 (scalars_of (drop_of m)) None)
