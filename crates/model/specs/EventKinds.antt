-- The kinds of events. Events of one kind go by the same rules, each with its own status bit.
use Rattle.std.specs.Prelude.{Bool, true, false, ℕ}
use Rattle.model.specs.declared.Event.{Event}
use Rattle.model.specs.declared.Event.TheVariants as event

pub data EventKind : Type 0 where
  -- the power button goes down, or up
  press : EventKind
  release : EventKind
  -- "Sleep press, alarm .. set their bits": they have to be fitted, and wake "if enabled"
  signal : EventKind
  -- request W3: "pin active and pin inactive", by the level that it takes
  pin : Bool → EventKind
  -- "bus-master, unlock (global lock released) .. set their bits", in S0 alone
  notice : EventKind
  -- by its number
  general : ℕ → EventKind
  -- so many
  ticks : ℕ → EventKind

abbrev pub event_kind : Event → EventKind
event_kind event.Press = press
event_kind event.Release = release
event_kind event.SleepPress = signal
event_kind event.Alarm = signal
event_kind event.PinActive = pin true
event_kind event.PinInactive = pin false
event_kind event.BusMaster = notice
event_kind event.Unlock = notice
event_kind (event.General k) = general k
event_kind (event.Ticks n) = ticks n
