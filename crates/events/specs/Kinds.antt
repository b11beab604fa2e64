-- Events by their kind, with the status bit of each: as `event_kind` and `event_bit` of `model` have them.
use Rattle.std.specs.Prelude.{true, false, ℕ, ◌^◌}
use Rattle.acpi.specs.Bits.{BM_STS, GBL_STS, SLPBTN_STS, RTC_STS}
use Rattle.model.specs.declared.Event.{Event}
use Rattle.model.specs.declared.Event.TheVariants as event
use Rattle.events.specs.declared.EventKind.{EventKind}
use Rattle.events.specs.declared.EventKind.TheVariants as kind
use Rattle.events.specs.declared.StatusBit.{StatusBit}

abbrev pub bit_of : ℕ → StatusBit
bit_of i = record { number = i; mask = 2 ^ i }

unfoldable pub kind_of : Event → EventKind
kind_of event.Press = kind.Press
kind_of event.Release = kind.Release
kind_of event.SleepPress = kind.Signal (bit_of SLPBTN_STS)
kind_of event.Alarm = kind.Signal (bit_of RTC_STS)
kind_of event.PinActive = kind.Pin true
kind_of event.PinInactive = kind.Pin false
kind_of event.BusMaster = kind.Notice (bit_of BM_STS)
kind_of event.Unlock = kind.Notice (bit_of GBL_STS)
kind_of (event.General k) = kind.General k
kind_of (event.Ticks n) = kind.Ticks n
