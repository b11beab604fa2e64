-- An event's bit and kind are one of a few pairs: a bit of the PM1 status, in the register, and for a notice always fitted; or a general
-- event's own. A law about events goes by these pairs.
-- Assumes nothing.
use mathlib.Core.Bool.{Bool, true, false}
use mathlib.Core.Path.{◌≡◌}
use Prim.Native.Nat.{ℕ, ◌<◌, ◌^◌}
use lib.Dec.{lit<}
use lib.Pow.{pow-lt}
use Rattle.bits.specs.Writes.{within}
use Rattle.platform.specs.Fitted.{status_cells}
use Rattle.platform.specs.declared.settings.Settings.{Settings}
use Rattle.machine.specs.declared.Machine.{Machine}
use Rattle.model.specs.Answer.{first_applying}
use Rattle.model.specs.Events.{StatusBit, pm1, gpe, event_bit, pm1_mask, event_mask, value_by}
use Rattle.model.specs.EventKinds.{EventKind, event_kind}
use Rattle.model.specs.EventKinds as kind
use Rattle.model.specs.Step.{refusals_by}
use Rattle.model.specs.declared.Answer.{Answer}
use Rattle.model.specs.declared.Answer.TheVariants as answer
use Rattle.model.specs.declared.Event.{Event}
use Rattle.model.specs.declared.Event.TheVariants as event
use Rattle.model.proofs.Fitted.{bm-within, gbl-within}

abbrev pub AlwaysFitted : ℕ → Type 0
AlwaysFitted i = (s : Settings) → within (status_cells s) (2 ^ i) ≡ true

pub data Pair : StatusBit → EventKind → Type 0 where
  press : Pair (pm1 8) kind.press
  release : Pair (pm1 8) kind.release
  signal : (i : ℕ) → i < 16 → Pair (pm1 i) kind.signal
  pin : (active : Bool) → Pair (pm1 14) (kind.pin active)
  notice : (i : ℕ) → i < 16 → AlwaysFitted i → Pair (pm1 i) kind.notice
  general : (k : ℕ) → Pair (gpe k) (kind.general k)
  ticks : (n : ℕ) → Pair (pm1 0) (kind.ticks n)

pub pair_of : (e : Event) → Pair (event_bit e) (event_kind e)
pair_of event.Press = press
pair_of event.Release = release
pair_of event.SleepPress = signal 9 (lit< tt)
pair_of event.Alarm = signal 10 (lit< tt)
pair_of event.PinActive = pin true
pair_of event.PinInactive = pin false
pair_of event.BusMaster = notice 4 (lit< tt) bm-within
pair_of event.Unlock = notice 5 (lit< tt) gbl-within
pair_of (event.General k) = general k
pair_of (event.Ticks n) = ticks n

-- what goes by a PM1 bit, or a general event
pub pm1-or-general : (P : StatusBit → EventKind → Type 0) → ((i : ℕ) (k : EventKind) → i < 16 → P (pm1 i) k) → ((k : ℕ) → P (gpe k) (kind.general k))
    → {bit : StatusBit} {k : EventKind} → Pair bit k → P bit k
pm1-or-general P by-pm1 by_number press = by-pm1 8 kind.press (lit< tt)
pm1-or-general P by-pm1 by_number release = by-pm1 8 kind.release (lit< tt)
pm1-or-general P by-pm1 by_number (signal i l) = by-pm1 i kind.signal l
pm1-or-general P by-pm1 by_number (pin active) = by-pm1 14 (kind.pin active) (lit< tt)
pm1-or-general P by-pm1 by_number (notice i l f) = by-pm1 i kind.notice l
pm1-or-general P by-pm1 by_number (general k) = by_number k
pm1-or-general P by-pm1 by_number (ticks n) = by-pm1 0 (kind.ticks n) (lit< tt)

-- the bit lies in the register
pub event-mask-lt : (e : Event) → event_mask e < 2 ^ 16
event-mask-lt e = pm1-or-general (λ bit k. pm1_mask bit < 2 ^ 16) (λ i k l. pow-lt l) (λ k. lit< tt) (pair_of e)

-- the answer to an event, by its bit and its kind
abbrev pub answer_by : Machine → StatusBit → EventKind → Answer
answer_by m bit k = first_applying (refusals_by m bit k) (answer.Done (value_by m k))
