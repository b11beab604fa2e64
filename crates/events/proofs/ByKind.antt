-- An event has its kind's bit, and its kind's effect is its own. Assumes nothing.
use mathlib.Core.Path.{◌≡◌, refl, ◌∙◌, ap}
use Prim.Native.Nat.{ℕ, ◌^◌}
use mathlib.Core.Bool.{Bool, true, false, cond}
use native.Mathlib.Omega.{arith}
use lib.Dec.{eqb}
use Rattle.acpi.specs.Bits.{BM_STS, GBL_STS, SLPBTN_STS, RTC_STS, PCIEXP_WAKE_STS}
use Rattle.machine.specs.declared.Machine.{Machine}
use Rattle.model.specs.Effect.{event_effect, effect_of}
use Rattle.model.specs.EventKinds as of
use Rattle.machine.specs.PowerOn.{no_settings}
use Rattle.machine.specs.Scalars.{bare, scalars_of}
use Rattle.machine.specs.declared.scalars.Scalars.{Scalars}
use Rattle.model.specs.Events.{pm1}
use Rattle.model.specs.Events as events
use Rattle.model.proofs.Effects.{reads_no_byte, by-scalars, event-bare, notice-bare}
use Rattle.model.specs.declared.Effect.{Effect}
use Rattle.model.specs.declared.Event.{Event}
use Rattle.model.specs.declared.Event.TheVariants as event
use Rattle.model.specs.declared.Step.TheVariants as step
use Rattle.events.specs.Kinds.{bit_of, kind_of}
use Rattle.events.specs.declared.EventKind.{EventKind}
use Rattle.events.specs.declared.EventKind.TheVariants as kind
use Rattle.events.specs.declared.StatusBit.{StatusBit}

-- an effect of the machine's settings and scalars is the machine's
pub on-machine : (m : Machine) (x : Scalars) (r : Effect) (bit : events.StatusBit) (k : of.EventKind) → reads_no_byte k ≡ true → x ≡ scalars_of m
    → r ≡ event_effect (bare m.settings x) bit k → r ≡ event_effect m bit k
on-machine m x r bit k q p d = by-scalars (λ n. event_effect n bit k) m.settings m x r p d (event-bare m bit k q)

pub noticed : (m : Machine) (x : Scalars) (r : Effect) (bit : events.StatusBit) → x ≡ scalars_of m → r ≡ event_effect (bare no_settings x) bit of.notice → r ≡ event_effect m bit of.notice
noticed m x r bit p d = by-scalars (λ n. event_effect n bit of.notice) no_settings m x r p d (notice-bare m bit)

-- of a signal: its bit's mask, and its effect
pub signal-mask : (e : Event) (b : StatusBit) → kind.Signal b ≡ kind_of e → b.mask ≡ 2 ^ b.number
unfolding kind_of
signal-mask event.Press b p = let z : ◌≡◌ {A = ℕ} 0 1 = cc in absurd (omega arith)
signal-mask event.Release b p = let z : ◌≡◌ {A = ℕ} 0 1 = cc in absurd (omega arith)
signal-mask event.SleepPress b p = let q : b ≡ bit_of SLPBTN_STS = cc in rw q refl
signal-mask event.Alarm b p = let q : b ≡ bit_of RTC_STS = cc in rw q refl
signal-mask event.PinActive b p = let z : ◌≡◌ {A = ℕ} 0 1 = cc in absurd (omega arith)
signal-mask event.PinInactive b p = let z : ◌≡◌ {A = ℕ} 0 1 = cc in absurd (omega arith)
signal-mask event.BusMaster b p = let z : ◌≡◌ {A = ℕ} 0 1 = cc in absurd (omega arith)
signal-mask event.Unlock b p = let z : ◌≡◌ {A = ℕ} 0 1 = cc in absurd (omega arith)
signal-mask (event.General k) b p = let z : ◌≡◌ {A = ℕ} 0 1 = cc in absurd (omega arith)
signal-mask (event.Ticks n) b p = let z : ◌≡◌ {A = ℕ} 0 1 = cc in absurd (omega arith)

pub signal-effect : (m : Machine) (r : Effect) (e : Event) (b : StatusBit) → kind.Signal b ≡ kind_of e → r ≡ event_effect m (pm1 b.number) of.signal → r ≡ effect_of m (step.Event e)
unfolding kind_of effect_of
signal-effect m r event.Press b p d = let z : ◌≡◌ {A = ℕ} 0 1 = cc in absurd (omega arith)
signal-effect m r event.Release b p d = let z : ◌≡◌ {A = ℕ} 0 1 = cc in absurd (omega arith)
signal-effect m r event.SleepPress b p d = let q : b ≡ bit_of SLPBTN_STS = cc in d ∙ ap (λ (x : StatusBit). event_effect m (pm1 x.number) of.signal) q
signal-effect m r event.Alarm b p d = let q : b ≡ bit_of RTC_STS = cc in d ∙ ap (λ (x : StatusBit). event_effect m (pm1 x.number) of.signal) q
signal-effect m r event.PinActive b p d = let z : ◌≡◌ {A = ℕ} 0 1 = cc in absurd (omega arith)
signal-effect m r event.PinInactive b p d = let z : ◌≡◌ {A = ℕ} 0 1 = cc in absurd (omega arith)
signal-effect m r event.BusMaster b p d = let z : ◌≡◌ {A = ℕ} 0 1 = cc in absurd (omega arith)
signal-effect m r event.Unlock b p d = let z : ◌≡◌ {A = ℕ} 0 1 = cc in absurd (omega arith)
signal-effect m r (event.General k) b p d = let z : ◌≡◌ {A = ℕ} 0 1 = cc in absurd (omega arith)
signal-effect m r (event.Ticks n) b p d = let z : ◌≡◌ {A = ℕ} 0 1 = cc in absurd (omega arith)

-- of a notice: its bit's mask, and its effect
pub notice-mask : (e : Event) (b : StatusBit) → kind.Notice b ≡ kind_of e → b.mask ≡ 2 ^ b.number
unfolding kind_of
notice-mask event.Press b p = let z : ◌≡◌ {A = ℕ} 0 1 = cc in absurd (omega arith)
notice-mask event.Release b p = let z : ◌≡◌ {A = ℕ} 0 1 = cc in absurd (omega arith)
notice-mask event.SleepPress b p = let z : ◌≡◌ {A = ℕ} 0 1 = cc in absurd (omega arith)
notice-mask event.Alarm b p = let z : ◌≡◌ {A = ℕ} 0 1 = cc in absurd (omega arith)
notice-mask event.PinActive b p = let z : ◌≡◌ {A = ℕ} 0 1 = cc in absurd (omega arith)
notice-mask event.PinInactive b p = let z : ◌≡◌ {A = ℕ} 0 1 = cc in absurd (omega arith)
notice-mask event.BusMaster b p = let q : b ≡ bit_of BM_STS = cc in rw q refl
notice-mask event.Unlock b p = let q : b ≡ bit_of GBL_STS = cc in rw q refl
notice-mask (event.General k) b p = let z : ◌≡◌ {A = ℕ} 0 1 = cc in absurd (omega arith)
notice-mask (event.Ticks n) b p = let z : ◌≡◌ {A = ℕ} 0 1 = cc in absurd (omega arith)

pub notice-effect : (m : Machine) (r : Effect) (e : Event) (b : StatusBit) → kind.Notice b ≡ kind_of e → r ≡ event_effect m (pm1 b.number) of.notice → r ≡ effect_of m (step.Event e)
unfolding kind_of effect_of
notice-effect m r event.Press b p d = let z : ◌≡◌ {A = ℕ} 0 1 = cc in absurd (omega arith)
notice-effect m r event.Release b p d = let z : ◌≡◌ {A = ℕ} 0 1 = cc in absurd (omega arith)
notice-effect m r event.SleepPress b p d = let z : ◌≡◌ {A = ℕ} 0 1 = cc in absurd (omega arith)
notice-effect m r event.Alarm b p d = let z : ◌≡◌ {A = ℕ} 0 1 = cc in absurd (omega arith)
notice-effect m r event.PinActive b p d = let z : ◌≡◌ {A = ℕ} 0 1 = cc in absurd (omega arith)
notice-effect m r event.PinInactive b p d = let z : ◌≡◌ {A = ℕ} 0 1 = cc in absurd (omega arith)
notice-effect m r event.BusMaster b p d = let q : b ≡ bit_of BM_STS = cc in d ∙ ap (λ (x : StatusBit). event_effect m (pm1 x.number) of.notice) q
notice-effect m r event.Unlock b p d = let q : b ≡ bit_of GBL_STS = cc in d ∙ ap (λ (x : StatusBit). event_effect m (pm1 x.number) of.notice) q
notice-effect m r (event.General k) b p d = let z : ◌≡◌ {A = ℕ} 0 1 = cc in absurd (omega arith)
notice-effect m r (event.Ticks n) b p d = let z : ◌≡◌ {A = ℕ} 0 1 = cc in absurd (omega arith)

-- ---- the other kinds have one event each, the pin one for each level

abbrev pub of_kind : EventKind → Event
of_kind kind.Press = event.Press
of_kind kind.Release = event.Release
of_kind (kind.Signal b) = cond (eqb b.number SLPBTN_STS) event.SleepPress event.Alarm
of_kind (kind.Pin active) = cond active event.PinActive event.PinInactive
of_kind (kind.Notice b) = cond (eqb b.number BM_STS) event.BusMaster event.Unlock
of_kind (kind.General k) = event.General k
of_kind (kind.Ticks n) = event.Ticks n

kind-event : (e : Event) → of_kind (kind_of e) ≡ e
unfolding kind_of
kind-event event.Press = refl
kind-event event.Release = refl
kind-event event.SleepPress = refl
kind-event event.Alarm = refl
kind-event event.PinActive = refl
kind-event event.PinInactive = refl
kind-event event.BusMaster = refl
kind-event event.Unlock = refl
kind-event (event.General k) = refl
kind-event (event.Ticks n) = refl

pub effect-by-kind : (m : Machine) (r : Effect) (e : Event) (k : EventKind) → k ≡ kind_of e → r ≡ effect_of m (step.Event (of_kind k)) → r ≡ effect_of m (step.Event e)
effect-by-kind m r e k p d = d ∙ ap (λ x. effect_of m (step.Event (of_kind x))) p ∙ ap (λ x. effect_of m (step.Event x)) (kind-event e)

-- of the pin: both levels go by its bit
pub pin-effect : (m : Machine) (r : Effect) (active : Bool) → r ≡ event_effect m (pm1 PCIEXP_WAKE_STS) (of.pin active)
    → r ≡ effect_of m (step.Event (of_kind (kind.Pin active)))
unfolding effect_of
pin-effect m r true d = d
pin-effect m r false d = d
