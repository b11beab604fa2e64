-- Sleep and wake.
use Rattle.std.specs.Prelude.{Bool, false, Option, Some, None, not, cond, ◌&&◌, ◌||◌, ℕ, ◌+◌, eqb, leb}
use Rattle.std.specs.Int.Bits.{bit_and, bit_or}
use Rattle.acpi.specs.Fadt.{RTC_S4}
use Rattle.cells.specs.Cells.{flag_of}
use Rattle.bits.specs.Writes.{kept}
use Rattle.machine.specs.PowerOn.{no_bytes}
use Rattle.machine.specs.declared.Machine.{Machine}
use Rattle.machine.specs.declared.sleeping.WakeSource.{WakeSource}
use Rattle.machine.specs.declared.sleeping.WakeSource.TheVariants as source
use Rattle.machine.specs.declared.sleeping.StateChange.{StateChange}
use Rattle.machine.specs.declared.sleeping.StateChange.TheVariants as change
use Rattle.platform.specs.declared.settings.Settings.{Settings}
use Rattle.machine.specs.Status.{pwrbtn_bit, slpbtn_bit, rtc_bit, wak_bit, has_bit}
use Rattle.machine.specs.Fields.{with_event, with_gpe, with_control, with_command, with_arb_dis, with_sci_en, enter}

-- S1 to S4
unfoldable pub is_sleeping : ℕ → Bool
is_sleeping state = leb 1 state && leb state 4

-- the PM1 bits that wake the state where PWRBTN_EN, SLPBTN_EN or RTC_EN is set, "bit 10 in S4 only with flag 7"
unfoldable pub wake_bits : Settings → ℕ → ℕ
wake_bits s state = cond (not (eqb state 4) || flag_of s.flags RTC_S4) (pwrbtn_bit + slpbtn_bit + rtc_bit) (pwrbtn_bit + slpbtn_bit)

-- "Wake from S1 to S4 .. WAK is set. .. Registers are kept.": whatever woke it, a status bit or more than one
abbrev pub woken : WakeSource → Machine → Machine
woken source m = enter (with_event m (bit_or m.pm1_sts wak_bit) m.pm1_en) 0

-- an event in S1 to S4 that wakes, or does not
abbrev pub woken_if : WakeSource → Bool → Machine → Machine
woken_if source test m = cond (is_sleeping m.state && test) (woken source m) m

-- "one of the enabled bits 8, 9, 10 .. or an enabled GPE is already set"; the GPE is taken from what is stored (request W7)
unfoldable pub pending : Machine → ℕ → Bool
pending m state = has_bit (bit_and m.pm1_sts m.pm1_en) (wake_bits m.settings state) || m.gpe_pending

-- "If on completing S1 to S4 .. already set, the machine wakes in the same step."
unfoldable pub completed : Machine → ℕ → Machine
completed m state = woken_if source.NotKnown (pending m state) (enter m state)

-- "From S5 only a press wakes: all PM1 and GPE cells, BM_RLD, SLP_TYP, PM2, release flag and command zero, .. counter kept; SCI_EN as at power-on; WAK not set."
-- Request W3: "After a wake from S5 the pin keeps its level while the bit is zero."
abbrev pub restarted : Machine → Machine
restarted m =
    enter
    (with_sci_en
    (with_arb_dis
    (with_command
    (with_control
    (with_gpe
    (with_event m 0 0)
    no_bytes no_bytes no_bytes no_bytes false)
    false false 0 0 false)
    false 0)
    false)
    (eqb m.settings.smi_cmd 0))
    0

-- "The tick that reaches this, with the override fitted, clears PWRBTN and enters S5."
abbrev pub overridden : Machine → Machine
overridden m = enter (with_event m (kept 16 m.pm1_sts pwrbtn_bit) m.pm1_en) 5

-- ---- what becomes of the sleep state in a step

-- "From S5 only a press wakes: .. then PWRBTN set"
abbrev pub restart_pressed : Machine → Machine
restart_pressed m = with_event (restarted m) pwrbtn_bit 0

unfoldable pub state_changed : StateChange → Machine → Machine
state_changed (change.Wake source) m = woken source m
state_changed (change.Complete state) m = completed m state
state_changed change.Override m = overridden m
state_changed change.Restart m = restart_pressed m

unfoldable pub in_next_state : Option StateChange → Machine → Machine
in_next_state None m = m
in_next_state (Some c) m = state_changed c m
