-- What an event does to an awake machine that it leaves awake: it raises status bits, and changes the button, hold, the counter, the wake
-- pin, the general status bytes and whether one is pending, each by what stands there, in the general enables and in the settings alone.
-- By the event's bit and kind. Assumes nothing.
use mathlib.Core.Bool.{Bool, true, false, not, cond, ◌&&◌, ◌||◌, beq}
use mathlib.Core.List.{List}
use mathlib.Core.Logic.{◌⊎◌, inl, inr, ⊎_elim}
use mathlib.Core.Path.{◌≡◌, refl, sym, ◌∙◌, ap}
use Prim.Native.Nat.{ℕ}
use native.Mathlib.Omega.{arith}
use lib.Bits.{or_zero_r}
use lib.Dec.{eqb}
use Rattle.clock.specs.Clock.{start_of}
use Rattle.clock.specs.Clock as clock
use Rattle.clock.specs.declared.Clock.{Clock}
use Rattle.platform.specs.Fitted.{wide_timer}
use Rattle.platform.specs.declared.settings.Settings.{Settings}
use Rattle.machine.specs.declared.Machine.{Machine}
use Rattle.model.specs.Answer.{first_applying}
use Rattle.machine.specs.Status.{tmr_bit}
use Rattle.model.specs.Events.{StatusBit, pm1, gpe, event_bit, pm1_mask, fits, raised, press_of, signal_of, pin_of, general_of, general_raised, general_enabled, in_gpe0, in_gpe1, with_bit, is_enabled, number_in, in_s5, tmr_raised, timed, ticked_by, done_by, event_of}
use Rattle.machine.specs.Fields.{with_gpe, with_button, with_time, with_wake_pin}
use Rattle.machine.specs.Lines.{awake}
use Rattle.machine.specs.Sleep.{is_sleeping}
use Rattle.model.specs.Raises.{bits_if}
use Rattle.model.specs.EventKinds.{EventKind, event_kind}
use Rattle.model.specs.EventKinds as kind
use Rattle.model.specs.Step.{answer_to, accepted, after}
use Rattle.model.proofs.EventBits.{Pair, pair_of, answer_by}
use Rattle.model.proofs.EventBits as pair
use Rattle.model.proofs.Ticks.{ticks-awake}
use Rattle.model.proofs.Turns.{turns-awake}
use Rattle.model.specs.declared.Answer.{Answer}
use Rattle.model.specs.declared.Answer.TheVariants as answer
use Rattle.model.specs.declared.Event.{Event}
use Rattle.model.specs.declared.Step.TheVariants as step

-- an event's effect, as a function of the button, hold and the counter, of the wake pin, of the general status bytes, and of the general enables: whether it is pending
pub record Effect : Type 0 where
  pub answer : Bool → ℕ → ℕ → Bool → Answer
  pub mask : Bool → ℕ → ℕ → ℕ
  pub button : Bool → Bool
  pub hold : Bool → ℕ → ℕ → ℕ
  pub counter : Bool → ℕ → ℕ → ℕ
  pub off : Bool → ℕ → ℕ → Bool
  pub pin : Bool → Bool
  pub gpe0 : List ℕ → List ℕ
  pub gpe1 : List ℕ → List ℕ
  pub pending : List ℕ → List ℕ → Bool

abbrev pub lived : Machine → ℕ → Bool → ℕ → ℕ → Bool → List ℕ → List ℕ → Bool → Machine
lived m mask button hold counter pin gpe0 gpe1 pending =
    with_wake_pin (with_time (with_button (with_gpe (raised m mask) gpe0 m.gpe0_en gpe1 m.gpe1_en pending) button hold) counter hold) pin

-- the answer that goes with an effect, and the machine after it
abbrev pub answered : Effect → Machine → Answer
answered e m = e.answer m.button m.hold m.counter m.wake_pin

abbrev pub affected : Effect → Machine → Machine
affected e m =
    lived m (e.mask m.button m.hold m.counter) (e.button m.button) (e.hold m.button m.hold m.counter)
    (e.counter m.button m.hold m.counter) (e.pin m.wake_pin) (e.gpe0 m.gpe0_sts) (e.gpe1 m.gpe1_sts)
    (e.pending m.gpe0_en m.gpe1_en || m.gpe_pending)

-- the ticks of a clock
abbrev pub clock_ticks : Settings → ℕ → Bool → ℕ → ℕ → Clock
clock_ticks s n b h c = clock.ticks_of (wide_timer s) b s.power_override n (start_of c h)

-- the answer, whether the event's PM1 bit is set, and what becomes of the button, hold, the counter and the pin
pub record Live : Type 0 where
  pub answer : Bool → ℕ → ℕ → Bool → Answer
  pub sets : Bool → ℕ → ℕ → Bool
  pub button : Bool → Bool
  pub hold : Bool → ℕ → ℕ → ℕ
  pub counter : Bool → ℕ → ℕ → ℕ
  pub off : Bool → ℕ → ℕ → Bool
  pub pin : Bool → Bool

-- a fixed answer, and the bit is set or not
abbrev quiet : Answer → Bool → Live
quiet a sets =
    record {
      answer = λ b h c p. a;
      sets = λ b h c. sets;
      button = λ b. b;
      hold = λ b h c. h;
      counter = λ b h c. c;
      off = λ b h c. false;
      pin = λ p. p;
    }

-- the bit is fitted
abbrev is_fitted : Settings → StatusBit → Bool
is_fitted s bit = fits s (pm1_mask bit)

abbrev fitted_answer : Settings → StatusBit → Answer
fitted_answer s bit = cond (not (is_fitted s bit)) answer.NotFitted (answer.Done 0)

abbrev pub live_of : Settings → StatusBit → EventKind → Live
live_of s bit kind.press =
    record {
      answer = λ b h c p. cond (not (is_fitted s bit)) answer.NotFitted (cond b answer.AlreadySo (answer.Done 0));
      sets = λ b h c. is_fitted s bit && not b;
      button = λ b. is_fitted s bit || b;
      hold = λ b h c. cond (is_fitted s bit && not b) 0 h;
      counter = λ b h c. c;
      off = λ b h c. false;
      pin = λ p. p;
    }
live_of s bit kind.release =
    record {
      answer = λ b h c p. cond (not (is_fitted s bit)) answer.NotFitted (cond (not b) answer.AlreadySo (answer.Done 0));
      sets = λ b h c. false;
      button = λ b. not (is_fitted s bit) && b;
      hold = λ b h c. h;
      counter = λ b h c. c;
      off = λ b h c. false;
      pin = λ p. p;
    }
live_of s bit kind.signal = quiet (fitted_answer s bit) (is_fitted s bit)
live_of s bit (kind.pin active) =
    record {
      answer = λ b h c p. cond (not (is_fitted s bit)) answer.NotFitted (cond (beq p active) answer.AlreadySo (answer.Done 0));
      sets = λ b h c. false;
      button = λ b. b;
      hold = λ b h c. h;
      counter = λ b h c. c;
      off = λ b h c. false;
      pin = λ p. cond (is_fitted s bit) active p;
    }
live_of s bit kind.notice = quiet (answer.Done 0) true
live_of s bit (kind.general k) = quiet (cond (not (in_gpe0 s k || in_gpe1 s k)) answer.NoSuchEvent (answer.Done 0)) false
live_of s bit (kind.ticks n) =
    record {
      answer = λ b h c p. answer.Done (clock_ticks s n b h c).turns;
      sets = λ b h c. fits s tmr_bit && not (eqb (clock_ticks s n b h c).turns 0);
      button = λ b. b;
      hold = λ b h c. (clock_ticks s n b h c).hold;
      counter = λ b h c. (clock_ticks s n b h c).counter;
      off = λ b h c. (clock_ticks s n b h c).off;
      pin = λ p. p;
    }

-- GPE0's status bytes, and GPE1's, with a general event's bit
abbrev pub gpe0_after : Settings → StatusBit → List ℕ → List ℕ
gpe0_after s (pm1 i) xs = xs
gpe0_after s (gpe k) xs = cond ((in_gpe0 s k || in_gpe1 s k) && in_gpe0 s k) (with_bit xs k) xs

abbrev pub gpe1_after : Settings → StatusBit → List ℕ → List ℕ
gpe1_after s (pm1 i) xs = xs
gpe1_after s (gpe k) xs = cond ((in_gpe0 s k || in_gpe1 s k) && not (in_gpe0 s k)) (with_bit xs (number_in s k)) xs

-- whether a general event is enabled
abbrev pub pending_by : Settings → StatusBit → List ℕ → List ℕ → Bool
pending_by s (pm1 i) gpe0_en gpe1_en = false
pending_by s (gpe k) gpe0_en gpe1_en = (in_gpe0 s k || in_gpe1 s k) && cond (in_gpe0 s k) (is_enabled gpe0_en k) (is_enabled gpe1_en (number_in s k))

abbrev pub effect_by : Settings → StatusBit → EventKind → Effect
effect_by s bit k =
    record {
      answer = (live_of s bit k).answer;
      mask = λ b h c. bits_if ((live_of s bit k).sets b h c) (pm1_mask bit);
      button = (live_of s bit k).button;
      hold = (live_of s bit k).hold;
      counter = (live_of s bit k).counter;
      off = (live_of s bit k).off;
      pin = (live_of s bit k).pin;
      gpe0 = λ xs. gpe0_after s bit xs;
      gpe1 = λ xs. gpe1_after s bit xs;
      pending = λ es fs. pending_by s bit es fs;
    }

unfoldable pub effect_of : Settings → Event → Effect
effect_of s e = effect_by s (event_bit e) (event_kind e)

-- ---- each kind

-- the machine after an event, by its bit and its kind
abbrev after_by : Machine → StatusBit → EventKind → Machine
after_by m bit k = cond (accepted (answer_by m bit k)) (done_by m bit k) m

-- the claim for one of them
abbrev AffectsBy : Machine → StatusBit → EventKind → Type 0
AffectsBy m bit k =
    (answer_by m bit k ≡ answered (effect_by m.settings bit k) m) × (after_by m bit k ≡ affected (effect_by m.settings bit k) m)

press-affects : (m : Machine) → m.state ≡ 0 → AffectsBy m (pm1 8) kind.press
unfolding first_applying press_of in_s5 is_sleeping
press-affects m z = go (is_fitted m.settings (pm1 8)) m.button refl refl
  where
    go : (f b : Bool) → is_fitted m.settings (pm1 8) ≡ f → m.button ≡ b → AffectsBy m (pm1 8) kind.press
    go false b p q = rw (p, or_zero_r m.pm1_sts) (refl, refl)
    go true true p q = rw (p, q, or_zero_r m.pm1_sts) (refl, refl)
    go true false p q = rw (p, q, z) (refl, refl)

release-affects : (m : Machine) → AffectsBy m (pm1 8) kind.release
unfolding first_applying
release-affects m = go (is_fitted m.settings (pm1 8)) m.button refl refl
  where
    go : (f b : Bool) → is_fitted m.settings (pm1 8) ≡ f → m.button ≡ b → AffectsBy m (pm1 8) kind.release
    go false b p q = rw (p, or_zero_r m.pm1_sts) (refl, refl)
    go true true p q = rw (p, q, or_zero_r m.pm1_sts) (refl, refl)
    go true false p q = rw (p, q, or_zero_r m.pm1_sts) (refl, refl)

-- a signal awake: its bit, where it is fitted
signal-done : (m : Machine) (bit : StatusBit) → m.state ≡ 0 → signal_of m bit ≡ raised m (pm1_mask bit)
unfolding signal_of in_s5 is_sleeping
signal-done m bit z = rw z refl

signal-affects : (m : Machine) (i : ℕ) → m.state ≡ 0 → AffectsBy m (pm1 i) kind.signal
unfolding first_applying
signal-affects m i z = go (is_fitted m.settings (pm1 i)) refl
  where
    go : (f : Bool) → is_fitted m.settings (pm1 i) ≡ f → AffectsBy m (pm1 i) kind.signal
    go false p = rw (p, or_zero_r m.pm1_sts) (refl, refl)
    go true p = rw (p, signal-done m (pm1 i) z) (refl, refl)

pin-affects : (m : Machine) (active : Bool) → m.state ≡ 0 → AffectsBy m (pm1 14) (kind.pin active)
unfolding first_applying pin_of is_sleeping
pin-affects m active z = go (is_fitted m.settings (pm1 14)) active m.wake_pin refl refl
  where
    go : (f a w : Bool) → is_fitted m.settings (pm1 14) ≡ f → m.wake_pin ≡ w → AffectsBy m (pm1 14) (kind.pin a)
    go false a w p q = rw (p, or_zero_r m.pm1_sts) (refl, refl)
    go true true true p q = rw (p, q, or_zero_r m.pm1_sts) (refl, refl)
    go true true false p q = rw (p, q, or_zero_r m.pm1_sts, z) (refl, refl)
    go true false true p q = rw (p, q, or_zero_r m.pm1_sts) (refl, refl)
    go true false false p q = rw (p, q, or_zero_r m.pm1_sts) (refl, refl)

notice-affects : (m : Machine) (i : ℕ) → m.state ≡ 0 → AffectsBy m (pm1 i) kind.notice
unfolding first_applying awake
notice-affects m i z = rw z (refl, refl)

general-affects : (m : Machine) (k : ℕ) → m.state ≡ 0 → AffectsBy m (gpe k) (kind.general k)
unfolding first_applying general_of general_raised general_enabled in_s5 is_sleeping
general-affects m k z = go (in_gpe0 m.settings k) (in_gpe1 m.settings k) refl refl
  where
    go : (f g : Bool) → in_gpe0 m.settings k ≡ f → in_gpe1 m.settings k ≡ g → AffectsBy m (gpe k) (kind.general k)
    go true g p q = rw (p, or_zero_r m.pm1_sts, z) (refl, refl)
    go false true p q = rw (p, q, or_zero_r m.pm1_sts, z) (refl, refl)
    go false false p q = rw (p, q, or_zero_r m.pm1_sts) (refl, refl)

-- ---- ticks

awake-here : (m : Machine) → m.state ≡ 0 → awake m ≡ true
unfolding awake
awake-here m z = rw z refl

module _ (m : Machine) (n : ℕ) (z : m.state ≡ 0) where
  abbrev run_out : Bool
  run_out = (clock_ticks m.settings n m.button m.hold m.counter).off

  ticks-affects : run_out ≡ false → AffectsBy m (pm1 0) (kind.ticks n)
  unfolding first_applying timed tmr_raised
  ticks-affects on = (ap answer.Done (turns-awake n m (awake-here m z)), ticks-awake n m (awake-here m z) ∙ rw on refl)

  -- ticks bring no override, or end in S5
  ticks-on-or-off : (run_out ≡ false) ⊎ ((after_by m (pm1 0) (kind.ticks n)).state ≡ 5)
  unfolding first_applying timed
  ticks-on-or-off = go run_out refl
    where
      go : (t : Bool) → run_out ≡ t → (run_out ≡ false) ⊎ ((ticked_by n m).state ≡ 5)
      go false p = inl p
      go true p = inr (ap (λ (k : Machine). k.state) (ticks-awake n m (awake-here m z)) ∙ rw p refl)

-- ---- all events

-- nothing is off but a clock
abbrev pub OnBy : Machine → StatusBit → EventKind → Type 0
OnBy m bit k = (effect_by m.settings bit k).off m.button m.hold m.counter ≡ false

abbrev pub On : Machine → Event → Type 0
On m e = (effect_of m.settings e).off m.button m.hold m.counter ≡ false

kind-affects : {bit : StatusBit} {k : EventKind} → Pair bit k → (m : Machine) → m.state ≡ 0 → OnBy m bit k → AffectsBy m bit k
kind-affects pair.press m z on = press-affects m z
kind-affects pair.release m z on = release-affects m
kind-affects (pair.signal i l) m z on = signal-affects m i z
kind-affects (pair.pin active) m z on = pin-affects m active z
kind-affects (pair.notice i l f) m z on = notice-affects m i z
kind-affects (pair.general k) m z on = general-affects m k z
kind-affects (pair.ticks n) m z on = ticks-affects m n z on

-- the claim for one event
abbrev pub Affects : Machine → Event → Type 0
Affects m e =
    (answer_to m (step.Event e) ≡ answered (effect_of m.settings e) m) × (after m (step.Event e) ≡ affected (effect_of m.settings e) m)

pub event-affects : (m : Machine) (e : Event) → m.state ≡ 0 → On m e → Affects m e
unfolding effect_of answer_to after event_of
event-affects m e z on = kind-affects (pair_of e) m z on

kind-on-or-off : {bit : StatusBit} {k : EventKind} → Pair bit k → (m : Machine) → m.state ≡ 0 → OnBy m bit k ⊎ ((after_by m bit k).state ≡ 5)
kind-on-or-off pair.press m z = inl refl
kind-on-or-off pair.release m z = inl refl
kind-on-or-off (pair.signal i l) m z = inl refl
kind-on-or-off (pair.pin active) m z = inl refl
kind-on-or-off (pair.notice i l f) m z = inl refl
kind-on-or-off (pair.general k) m z = inl refl
kind-on-or-off (pair.ticks n) m z = ticks-on-or-off m n z

-- an event turns nothing off, or ends in S5
pub on-or-off : (m : Machine) (e : Event) → m.state ≡ 0 → On m e ⊎ ((after m (step.Event e)).state ≡ 5)
unfolding effect_of answer_to after event_of
on-or-off m e z = kind-on-or-off (pair_of e) m z

five-zero : ◌≡◌ {A = ℕ} 5 0 → ⊥
five-zero e = omega arith

-- what leaves the machine awake turns nothing off
pub event-on : (m : Machine) (e : Event) → m.state ≡ 0 → (after m (step.Event e)).state ≡ 0 → On m e
event-on m e z w = ⊎_elim (λ on. on) (λ five. absurd (five-zero (sym five ∙ w))) (on-or-off m e z)
