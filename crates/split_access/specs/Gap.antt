-- Gap steps: what may come in a gap, document 01's word for what lies between the two halves of a split access, and which of them
-- move before it.
use Rattle.std.specs.Prelude.{Bool, false, not, ◌&&◌, ℕ, ◌^◌, eqb}
use Rattle.acpi.specs.Bits.{TMR_STS, PWRBTN_STS}
use Rattle.platform.specs.declared.settings.Settings.{Settings}
use Rattle.machine.specs.Status.{has_bit}
use Rattle.model.specs.Events.{StatusBit, pm1, gpe, event_bit}
use Rattle.model.specs.EventKinds.{EventKind, event_kind}
use Rattle.model.specs.EventKinds as kind
use Rattle.model.specs.declared.Event.{Event}
use Rattle.model.specs.declared.Step.{Step}
use Rattle.model.specs.declared.Step.TheVariants as step

-- a test of a step that only looks at events
abbrev pub on_event : (Event → Bool) → Step → Bool
on_event test (step.Read a) = false
on_event test (step.Write a written) = false
on_event test (step.Event e) = test e
on_event test step.Take = false
on_event test step.Drop = false

-- the bit has home B; a general event's has no home
unfoldable pub lives_in_b : Settings → StatusBit → Bool
lives_in_b s (pm1 i) = has_bit s.event_homes (2 ^ i)
lives_in_b s (gpe k) = false

-- "a step whose bit has home B comes just before, any other just after"
abbrev pub event_before : Settings → Event → Bool
event_before s e = lives_in_b s (event_bit e)

abbrev pub before : Settings → Step → Bool
before s x = on_event (event_before s) x

-- the bit is PM1's bit i
abbrev pub is_pm1_bit : ℕ → StatusBit → Bool
is_pm1_bit i (pm1 j) = eqb j i
is_pm1_bit i (gpe k) = false

-- "a press or release": what goes by bit 8
abbrev pub is_button : Event → Bool
is_button e = is_pm1_bit PWRBTN_STS (event_bit e)

-- how many ticks the event is
abbrev pub ticks_in : EventKind → ℕ
ticks_in kind.press = 0
ticks_in kind.release = 0
ticks_in kind.signal = 0
ticks_in (kind.pin active) = 0
ticks_in kind.notice = 0
ticks_in (kind.general k) = 0
ticks_in (kind.ticks n) = n

-- "ticks (n above zero)"
abbrev pub is_ticking : Event → Bool
is_ticking e = is_pm1_bit TMR_STS (event_bit e) && not (eqb (ticks_in (event_kind e)) 0)
