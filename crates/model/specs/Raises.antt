-- What a step clears and raises of the status bits, told from the step and the machine before it. That the status after the step is
-- what it does not clear, and what it raises, is `status-law` and `gpe-status-law` of `proofs/Raises.antt`.
use Rattle.std.specs.Prelude.{Bool, true, false, not, cond, ◌&&◌, ℕ, ◌-◌, ◌/◌, ◌%◌, ◌^◌, eqb}
use Rattle.std.specs.Bool.{beq}
use Rattle.std.specs.Int.Bits.{bit_and, bit_or}
use Rattle.platform.specs.declared.settings.Settings.{Settings}
use Rattle.machine.specs.declared.Machine.{Machine}
use Rattle.model.specs.Control.{completes, entered_state}
use Rattle.machine.specs.Status.{pwrbtn_bit, pciexp_wake_bit, wak_bit}
use Rattle.registers.specs.Registers.{in_status, ones_in, in_gpe_status}
use Rattle.model.specs.Events.{StatusBit, pm1, gpe, event_bit, pm1_mask, event_mask, in_s5, signal_wakes, pin_wakes, in_gpe0, number_in, general_enabled, clock_after, tmr_raised}
use Rattle.model.specs.EventKinds.{EventKind, event_kind}
use Rattle.model.specs.EventKinds as kind
use Rattle.machine.specs.Lines.{awake}
use Rattle.machine.specs.Sleep.{is_sleeping, pending}
use Rattle.model.specs.Step.{register_of, offset_of, answer_to, accepted}
use Rattle.model.specs.declared.Event.{Event}
use Rattle.model.specs.declared.Event.TheVariants as event
use Rattle.model.specs.declared.Register.{Register}
use Rattle.model.specs.declared.Register.TheVariants as register
use Rattle.model.specs.declared.Step.{Step}
use Rattle.model.specs.declared.Step.TheVariants as step

-- what a rule does to status bits: it clears some, then sets some
pub record Change : Type 0 where
  pub cleared : ℕ
  pub raised : ℕ

abbrev pub unchanged : Change
unchanged = record { cleared = 0; raised = 0 }

abbrev pub clearing : ℕ → Change
clearing bits = record { cleared = bits; raised = 0 }

abbrev pub raising : ℕ → Change
raising bits = record { cleared = 0; raised = bits }

-- the bits where the test holds, else none
abbrev pub bits_if : Bool → ℕ → ℕ
bits_if test bits = cond test bits 0

-- ---- the PM1 status bits, by the step's rule

-- "Wake from S1 to S4 .. WAK is set."
abbrev pub wak_if : Machine → Bool → ℕ
wak_if m test = bits_if (is_sleeping m.state && test) wak_bit

-- "Press sets PWRBTN"; "a press always" wakes; "From S5 .. all PM1 .. cells .. zero, then PWRBTN set; .. WAK not set"
unfoldable pub press_change : Machine → Change
press_change m = record { cleared = bits_if (in_s5 m) (2 ^ 16 - 1); raised = bit_or (wak_if m true) (event_mask event.Press) }

-- "Sleep press, alarm .. set their bits"; "In S5 .. other accepted events change nothing"
unfoldable pub signal_change : Machine → ℕ → Change
signal_change m bit = raising (bits_if (not (in_s5 m)) (bit_or bit (wak_if m (signal_wakes m bit))))

-- request W3: "Pin active while asleep and not disabled wakes and sets the bit."
unfoldable pub pin_change : Machine → Bool → Change
pin_change m active = raising (bits_if (pin_wakes m active) (bit_or pciexp_wake_bit wak_bit))

-- "in S0 only: .. TMR, if fitted, is set when its top bit changes", at one of the ticks that ran; the override "clears PWRBTN"
unfoldable pub ticks_change : Machine → ℕ → Change
ticks_change m n =
    record {
      cleared = bits_if (awake m && (clock_after m n).off) pwrbtn_bit;
      raised = bits_if (awake m) (tmr_raised m.settings (clock_after m n).turns);
    }

-- "bus-master, unlock (global lock released) .. set their bits"; a general event that wakes sets WAK
abbrev pub change_by : Machine → StatusBit → EventKind → Change
change_by m bit kind.press = press_change m
change_by m bit kind.release = unchanged
change_by m bit kind.signal = signal_change m (pm1_mask bit)
change_by m bit (kind.pin active) = pin_change m active
change_by m bit kind.notice = raising (pm1_mask bit)
change_by m bit (kind.general k) = raising (wak_if m (general_enabled m k))
change_by m bit (kind.ticks n) = ticks_change m n

unfoldable pub event_change : Machine → Event → Change
event_change m e = change_by m (event_bit e) (event_kind e)

-- "If on completing S1 to S4 .. already set, the machine wakes in the same step."
unfoldable pub wakes_at_once : Machine → Bool → ℕ → ℕ → ℕ → Bool
wakes_at_once m b width offset written =
    let state = entered_state m b width offset written in
    completes m b width offset written && (is_sleeping state && pending m state)

-- "Writing one to a status bit clears it", in its home; a control write that wakes sets WAK
unfoldable pub write_change : Machine → Register → ℕ → ℕ → ℕ → Change
write_change m register.SmiCmd width offset written = unchanged
write_change m (register.Pm1Evt b) width offset written = clearing (bits_if (in_status offset) (ones_in m b width offset written))
write_change m (register.Pm1Cnt b) width offset written = raising (bits_if (wakes_at_once m b width offset written) wak_bit)
write_change m register.Pm2Cnt width offset written = unchanged
write_change m register.PmTmr width offset written = unchanged
write_change m (register.Gpe b) width offset written = unchanged
write_change m register.Nowhere width offset written = unchanged

-- reads and firmware steps leave the status alone
unfoldable pub rule_change : Machine → Step → Change
rule_change m (step.Read a) = unchanged
rule_change m (step.Write a written) = write_change m (register_of m a) a.width (offset_of m a) written
rule_change m (step.Event e) = event_change m e
rule_change m step.Take = unchanged
rule_change m step.Drop = unchanged

-- a refused step changes nothing
abbrev pub if_accepted : Machine → Step → Change → Change
if_accepted m s c = cond (accepted (answer_to m s)) c unchanged

-- "An accepted step raises each bit that its rule sets.": document 01's word; a bit that was set already is raised too
unfoldable pub raises : Machine → Step → ℕ
raises m s = (if_accepted m s (rule_change m s)).raised

-- an accepted step clears each bit that its rule clears
unfoldable pub clears : Machine → Step → ℕ
clears m s = (if_accepted m s (rule_change m s)).cleared

-- ---- status byte i of GPE0, or with b of GPE1, by the step's rule

-- the bit is a general event's, of GPE0 or else of GPE1, and lies in byte i of the block, eight events a byte
unfoldable pub lies_in : Settings → StatusBit → Bool → ℕ → Bool
lies_in s (pm1 j) b i = false
lies_in s (gpe k) b i = cond (in_gpe0 s k) (not b) b && eqb (number_in s k / 8) i

-- its place in that byte
unfoldable pub gpe_mask : Settings → StatusBit → ℕ
gpe_mask s (pm1 j) = 0
gpe_mask s (gpe k) = 2 ^ (number_in s k % 8)

-- the event is a press
abbrev pub is_press : EventKind → Bool
is_press kind.press = true
is_press kind.release = false
is_press kind.signal = false
is_press (kind.pin active) = false
is_press kind.notice = false
is_press (kind.general k) = false
is_press (kind.ticks n) = false

-- "From S5 only a press wakes: all .. GPE cells .. zero"; "general events set their bits"; "In S5 .. other accepted events change nothing"
abbrev pub gpe_change_by : Machine → StatusBit → EventKind → Bool → ℕ → Change
gpe_change_by m bit kind b i =
    record {
      cleared = bits_if (in_s5 m && is_press kind) (2 ^ 8 - 1);
      raised = bits_if (not (in_s5 m) && lies_in m.settings bit b i) (gpe_mask m.settings bit);
    }

unfoldable pub gpe_event_change : Machine → Event → Bool → ℕ → Change
gpe_event_change m e b i = gpe_change_by m (event_bit e) (event_kind e) b i

-- "GPE: status bytes, .. the same rules": the ones written to byte i of the block
unfoldable pub gpe_ones : Machine → Register → ℕ → ℕ → Bool → ℕ → ℕ
gpe_ones m register.SmiCmd offset written b i = 0
gpe_ones m (register.Pm1Evt c) offset written b i = 0
gpe_ones m (register.Pm1Cnt c) offset written b i = 0
gpe_ones m register.Pm2Cnt offset written b i = 0
gpe_ones m register.PmTmr offset written b i = 0
gpe_ones m (register.Gpe c) offset written b i =
    bits_if (beq c b && (in_gpe_status m.settings c offset && eqb offset i)) (bit_and written 255)
gpe_ones m register.Nowhere offset written b i = 0

unfoldable pub gpe_rule_change : Machine → Step → Bool → ℕ → Change
gpe_rule_change m (step.Read a) b i = unchanged
gpe_rule_change m (step.Write a written) b i = clearing (gpe_ones m (register_of m a) (offset_of m a) written b i)
gpe_rule_change m (step.Event e) b i = gpe_event_change m e b i
gpe_rule_change m step.Take b i = unchanged
gpe_rule_change m step.Drop b i = unchanged

unfoldable pub gpe_raises : Machine → Step → Bool → ℕ → ℕ
gpe_raises m s b i = (if_accepted m s (gpe_rule_change m s b i)).raised

unfoldable pub gpe_clears : Machine → Step → Bool → ℕ → ℕ
gpe_clears m s b i = (if_accepted m s (gpe_rule_change m s b i)).cleared
