-- Buttons, alarm, wake pin, bus master, global lock, general events and ticks.
use Rattle.std.specs.Prelude.{Bool, true, false, not, cond, ◌&&◌, ◌||◌, List, ℕ, zero, suc, ◌+◌, ◌-◌, ◌/◌, ◌%◌, ◌^◌, eqb, ltb, leb, get_or, set}
use Rattle.std.specs.Int.Bits.{bit_or}
use Rattle.acpi.specs.Bits.{TMR_STS, BM_STS, GBL_STS, PWRBTN_STS, SLPBTN_STS, RTC_STS, PCIEXP_WAKE_STS}
use Rattle.clock.specs.Clock.{counter_bits, top_bit, tick_of, start_of, ticks_of as clock_ticks}
use Rattle.clock.specs.declared.Clock.{Clock}
use Rattle.platform.specs.Fitted.{status_cells, wide_timer}
use Rattle.platform.specs.Rules.{event_count}
use Rattle.platform.specs.declared.settings.Settings.{Settings}
use Rattle.machine.specs.declared.Machine.{Machine}
use Rattle.machine.specs.Status.{tmr_bit, pciexp_wake_bit, has_bit}
use Rattle.machine.specs.Fields.{with_event, with_gpe, with_button, with_time, with_wake_pin}
use Rattle.machine.specs.Lines.{awake}
use Rattle.machine.specs.Sleep.{is_sleeping, wake_bits, woken, woken_if, restarted, overridden}
use Rattle.machine.specs.declared.sleeping.WakeSource.{WakeSource}
use Rattle.machine.specs.declared.sleeping.WakeSource.TheVariants as source
use Rattle.model.specs.EventKinds.{EventKind, event_kind}
use Rattle.model.specs.EventKinds as kind
use Rattle.model.specs.declared.Event.{Event}
use Rattle.model.specs.declared.Event.TheVariants as event

-- ---- status bits

-- a status bit: of PM1, by the bit's number, or of a general event, by the event's number
pub data StatusBit : Type 0 where
  pm1 : ℕ → StatusBit
  gpe : ℕ → StatusBit

-- "press and release go by bit 8, sleep press 9, alarm 10, PCIe wake 14, bus-master 4, unlock 5, ticks 0"; a general event goes by its own.
-- Request W3: "both pin steps .. go by bit 14"
abbrev pub event_bit : Event → StatusBit
event_bit event.Press = pm1 PWRBTN_STS
event_bit event.Release = pm1 PWRBTN_STS
event_bit event.SleepPress = pm1 SLPBTN_STS
event_bit event.Alarm = pm1 RTC_STS
event_bit event.PinActive = pm1 PCIEXP_WAKE_STS
event_bit event.PinInactive = pm1 PCIEXP_WAKE_STS
event_bit event.BusMaster = pm1 BM_STS
event_bit event.Unlock = pm1 GBL_STS
event_bit (event.General k) = gpe k
event_bit (event.Ticks n) = pm1 TMR_STS

-- a PM1 bit at its place in the register; a general event's has none there
abbrev pub pm1_mask : StatusBit → ℕ
pm1_mask (pm1 i) = 2 ^ i
pm1_mask (gpe k) = 0

-- the bit as what wakes the machine
abbrev pub source_of : StatusBit → WakeSource
source_of (pm1 i) = source.Pm1 i
source_of (gpe k) = source.Gpe k

abbrev pub event_mask : Event → ℕ
event_mask e = pm1_mask (event_bit e)

abbrev pub event_source : Event → WakeSource
event_source e = source_of (event_bit e)

-- the bit, as a mask, is fitted
abbrev pub fits : Settings → ℕ → Bool
fits s mask = has_bit (status_cells s) mask

-- what the event belongs to is fitted
abbrev pub fitted : Settings → Event → Bool
fitted s e = fits s (event_mask e)

-- "set their bits"
abbrev pub raised : Machine → ℕ → Machine
raised m bits = with_event m (bit_or m.pm1_sts bits) m.pm1_en

abbrev pub is_s5 : ℕ → Bool
is_s5 state = eqb state 5

unfoldable pub in_s5 : Machine → Bool
in_s5 m = is_s5 m.state

-- ---- buttons

-- "Press sets PWRBTN, hold zero." "a press always" wakes; "From S5 only a press wakes: .. then PWRBTN set"
unfoldable pub press_of : Machine → Machine
press_of m = with_button (raised (cond (in_s5 m) (restarted m) (woken_if (event_source event.Press) true m)) (event_mask event.Press)) true 0

-- "Release lets the button up and keeps hold."
abbrev pub release_of : Machine → Machine
release_of m = with_button m false m.hold

-- "sleep press, alarm .. if enabled (alarm in S4 only with flag 7)": SLPBTN_EN, RTC_EN
abbrev pub signal_wakes : Machine → ℕ → Bool
signal_wakes m mask = has_bit m.pm1_en mask && has_bit (wake_bits m.settings m.state) mask

-- "Sleep press, alarm .. set their bits"; "In S5 .. other accepted events change nothing"
unfoldable pub signal_of : Machine → StatusBit → Machine
signal_of m bit = cond (in_s5 m) m (woken_if (source_of bit) (signal_wakes m (pm1_mask bit)) (raised m (pm1_mask bit)))

-- ---- the wake pin: request W3

-- "Pin active while asleep and not disabled wakes" (PCIEXP_WAKE_DIS, its partner in the enables)
abbrev pub pin_wakes : Machine → Bool → Bool
pin_wakes m active = active && (is_sleeping m.state && not (has_bit m.pm1_en pciexp_wake_bit))

-- ".. wakes and sets the bit"; else "a pin step changes the level only", and "making the pin inactive clears nothing"
unfoldable pub pin_of : Machine → Bool → Machine
pin_of m active =
    cond (pin_wakes m active)
    (woken (event_source event.PinActive) (raised (with_wake_pin m active) pciexp_wake_bit))
    (with_wake_pin m active)

-- ---- general events

-- "GPE0 has 4 events for each byte of block length, numbered from 0"
unfoldable pub in_gpe0 : Settings → ℕ → Bool
in_gpe0 s k = ltb k (event_count s.gpe0)

-- "GPE1 likewise from GPE1_BASE"
unfoldable pub in_gpe1 : Settings → ℕ → Bool
in_gpe1 s k = leb s.gpe1_base k && ltb (k - s.gpe1_base) (event_count s.gpe1)

-- the event's place in its block
abbrev pub number_in : Settings → ℕ → ℕ
number_in s k = cond (in_gpe0 s k) k (k - s.gpe1_base)

-- the block's status bytes with event k's bit set: bit k % 8 of byte k / 8
abbrev pub with_bit : List ℕ → ℕ → List ℕ
with_bit xs k = set xs (k / 8) (bit_or (get_or xs (k / 8) 0) (2 ^ (k % 8)))

-- event k's bit is set in these enable bytes
abbrev pub is_enabled : List ℕ → ℕ → Bool
is_enabled xs k = has_bit (get_or xs (k / 8) 0) (2 ^ (k % 8))

-- event k is enabled in GPE0's enable bytes, or else in GPE1's
abbrev pub enabled_in : Settings → List ℕ → List ℕ → ℕ → Bool
enabled_in s en0 en1 k = cond (in_gpe0 s k) (is_enabled en0 k) (is_enabled en1 (number_in s k))

-- "general event if enabled"
unfoldable pub general_enabled : Machine → ℕ → Bool
general_enabled m k = enabled_in m.settings m.gpe0_en m.gpe1_en k

-- ".. general events set their bits": of GPE0, or else of GPE1. Request W7: an enabled one is pending
unfoldable pub general_raised : Machine → ℕ → Machine
general_raised m k =
    with_gpe m
    (cond (in_gpe0 m.settings k) (with_bit m.gpe0_sts k) m.gpe0_sts)
    m.gpe0_en
    (cond (in_gpe0 m.settings k) m.gpe1_sts (with_bit m.gpe1_sts (number_in m.settings k)))
    m.gpe1_en
    (general_enabled m k || m.gpe_pending)

-- "In S5 .. other accepted events change nothing"
unfoldable pub general_of : Machine → ℕ → Machine
general_of m k = cond (in_s5 m) m (woken_if (event_source (event.General k)) (general_enabled m k) (general_raised m k))

-- ---- ticks

-- the clock that a tick of the machine finds
abbrev pub clock_of : Machine → Clock
clock_of m = start_of m.counter m.hold

-- the clock after n ticks
abbrev pub clock_after : Machine → ℕ → Clock
clock_after m n = clock_ticks (wide_timer m.settings) m.button m.settings.power_override n (clock_of m)

-- "TMR, if fitted, is set when its top bit changes"
unfoldable pub tmr_raised : Settings → ℕ → ℕ
tmr_raised s turns = cond (fits s tmr_bit && not (eqb turns 0)) tmr_bit 0

-- the machine with a clock's counter, hold, turns and override
unfoldable pub timed : Machine → Clock → Machine
timed m t =
    cond t.off
    (overridden (with_time (raised m (tmr_raised m.settings t.turns)) t.counter t.hold))
    (with_time (raised m (tmr_raised m.settings t.turns)) t.counter t.hold)

-- one tick, "in S0 only"
unfoldable pub ticked_once : Machine → Machine
ticked_once m =
    cond (awake m) (timed m (tick_of (wide_timer m.settings) m.button m.settings.power_override (clock_of m))) m

-- "Tick, n times"
unfoldable pub ticked_by : ℕ → Machine → Machine
ticked_by zero m = m
ticked_by (suc n) m = ticked_by n (ticked_once m)

-- ---- turns: request W1

-- "the top bit" of the machine's counter
abbrev pub timer_top : Machine → ℕ
timer_top m = top_bit (counter_bits (wide_timer m.settings)) m.counter

-- 1 for one of the "single ticks that turned the bit", else 0
unfoldable pub turned_once : Machine → ℕ
turned_once m = cond (eqb (timer_top (ticked_once m)) (timer_top m)) 0 1

-- "the number of single ticks that turned the bit, stopping where an override puts the machine into S5": in S5 no tick changes the counter
unfoldable pub turns_by : ℕ → Machine → ℕ
turns_by zero m = 0
turns_by (suc n) m = turned_once m + turns_by n (ticked_once m)

-- ---- all of them

-- what an accepted event does, by its bit and its kind
abbrev pub done_by : Machine → StatusBit → EventKind → Machine
done_by m bit kind.press = press_of m
done_by m bit kind.release = release_of m
done_by m bit kind.signal = signal_of m bit
done_by m bit (kind.pin active) = pin_of m active
done_by m bit kind.notice = raised m (pm1_mask bit)
done_by m bit (kind.general k) = general_of m k
done_by m bit (kind.ticks n) = ticked_by n m

unfoldable pub event_of : Machine → Event → Machine
event_of m e = done_by m (event_bit e) (event_kind e)

-- W1: "the tick step gives that as its value in place of zero"
abbrev pub value_by : Machine → EventKind → ℕ
value_by m kind.press = 0
value_by m kind.release = 0
value_by m kind.signal = 0
value_by m (kind.pin active) = 0
value_by m kind.notice = 0
value_by m (kind.general k) = 0
value_by m (kind.ticks n) = turns_by n m

abbrev pub event_value : Machine → Event → ℕ
event_value m e = value_by m (event_kind e)
