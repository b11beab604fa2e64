-- Two steps in either order: two events of which one is quiet, and not both look at the wake pin. Same answers, same machine.
-- An event raises bits that the half neither shows nor clears, and changes nothing else that the half looks at. Assumes nothing.
use mathlib.Core.Bool.{Bool, false, ◌||◌}
use mathlib.Core.List.{List}
use mathlib.Core.Path.{◌≡◌, refl, sym, ◌∙◌}
use Prim.Native.Nat.{ℕ}
use lib.Bits.{bit_or}
use Rattle.bits.proofs.Algebra.{or_swap}
use Rattle.runs.proofs.Runs.{Commute}
use Rattle.platform.specs.declared.settings.Settings.{Settings}
use Rattle.machine.specs.declared.Machine.{Machine}
use Rattle.machine.specs.Fields.{with_event, with_gpe, with_wake_pin}
use Rattle.model.specs.Step.{answer_to, after}
use Rattle.model.specs.declared.Answer.{Answer}
use Rattle.model.specs.declared.Event.{Event}
use Rattle.model.specs.declared.Step.TheVariants as step
use Rattle.split_access.proofs.Effects.{Effect, answered, affected, effect_of, On, event-affects}

-- ---- two events

-- an answer by the pin alone, a fixed mask, and nothing of the button, hold or the counter
abbrev pub quietly : (Bool → Answer) → ℕ → (Bool → Bool) → (List ℕ → List ℕ) → (List ℕ → List ℕ) → (List ℕ → List ℕ → Bool) → Effect
quietly a mask pin gpe0 gpe1 pending =
    record {
      answer = λ b h c p. a p;
      mask = λ b h c. mask;
      button = λ b. b;
      hold = λ b h c. h;
      counter = λ b h c. c;
      off = λ b h c. false;
      pin = pin;
      gpe0 = gpe0;
      gpe1 = gpe1;
      pending = pending;
    }

pub record Quiet (e : Effect) : Type 0 where
  pub answer : Bool → Answer
  pub mask : ℕ
  pub pin : Bool → Bool
  pub gpe0 : List ℕ → List ℕ
  pub gpe1 : List ℕ → List ℕ
  pub pending : List ℕ → List ℕ → Bool
  pub is : e ≡ quietly answer mask pin gpe0 gpe1 pending

-- no general event
pub record GpeKept (s : Settings) (e : Event) : Type 0 where
  pub first : (effect_of s e).gpe0 ≡ (λ xs. xs)
  pub second : (effect_of s e).gpe1 ≡ (λ xs. xs)
  pub none : (effect_of s e).pending ≡ (λ es fs. false)

-- neither moves the pin where the other looks at it
pub record PinsApart (d e : Effect) : Type 0 where
  pub first : (b : Bool) (h c : ℕ) (p : Bool) → d.answer b h c (e.pin p) ≡ d.answer b h c p
  pub second : (b : Bool) (h c : ℕ) (p : Bool) → e.answer b h c (d.pin p) ≡ e.answer b h c p
  pub meet : (p : Bool) → e.pin (d.pin p) ≡ d.pin (e.pin p)

effects-commute : (m : Machine) (a : Bool → Answer) (k : ℕ) (v : Bool → Bool) (f g : List ℕ → List ℕ) (h : List ℕ → List ℕ → Bool) (e : Effect)
    → e.gpe0 ≡ (λ xs. xs) → e.gpe1 ≡ (λ xs. xs) → e.pending ≡ (λ es fs. false) → e.pin (v m.wake_pin) ≡ v (e.pin m.wake_pin)
    → affected e (affected (quietly a k v f g h) m) ≡ affected (quietly a k v f g h) (affected e m)
effects-commute m a k v f g h e p q r pins =
    let mask = e.mask m.button m.hold m.counter in
    let status : bit_or (bit_or m.pm1_sts k) mask ≡ bit_or (bit_or m.pm1_sts mask) k = or_swap m.pm1_sts k mask in
    let first : e.gpe0 (f m.gpe0_sts) ≡ f (e.gpe0 m.gpe0_sts) = rw p refl in
    let second : e.gpe1 (g m.gpe1_sts) ≡ g (e.gpe1 m.gpe1_sts) = rw q refl in
    let there = h m.gpe0_en m.gpe1_en in
    let here = e.pending m.gpe0_en m.gpe1_en in
    let pending : (here || (there || m.gpe_pending)) ≡ (there || (here || m.gpe_pending)) = rw r refl in
    λ i. with_wake_pin (with_gpe (with_event (affected e (affected (quietly a k v f g h) m)) (status i) m.pm1_en) (first i) m.gpe0_en (second i) m.gpe1_en (pending i)) (pins i)

-- one of the two is quiet, and the other no general event; and not both look at the pin
pub data Apart (s : Settings) (g b : Event) : Type 0 where
  quiet-first : Quiet (effect_of s g) → GpeKept s b → PinsApart (effect_of s g) (effect_of s b) → Apart s g b
  quiet-second : GpeKept s g → Quiet (effect_of s b) → PinsApart (effect_of s g) (effect_of s b) → Apart s g b

-- what the two orders share, from what each event does to each machine on the way
module _ (m : Machine) (g b : Event) where
  orders-meet : (s₁ s₂ end : Machine)
      → after m (step.Event g) ≡ s₁ → after m (step.Event b) ≡ s₂
      → answer_to m (step.Event g) ≡ answer_to s₂ (step.Event g)
      → answer_to s₁ (step.Event b) ≡ answer_to m (step.Event b)
      → after s₁ (step.Event b) ≡ end → after s₂ (step.Event g) ≡ end
      → Commute answer_to after m (step.Event g) (step.Event b)
  orders-meet s₁ s₂ end to-1 to-2 same-g same-b end-1 end-2 =
      (rw to-2 same-g, rw to-1 same-b, rw (to-1, to-2) (end-1 ∙ sym end-2))

pub events-commute : (m : Machine) (g b : Event) → m.state ≡ 0 → On m g → On (affected (effect_of m.settings g) m) b → Apart m.settings g b
    → Commute answer_to after m (step.Event g) (step.Event b) × On m b
events-commute m g b z on-g on-b (quiet-first q kept pins) =
    let Eg = effect_of m.settings g in
    let Eb = effect_of m.settings b in
    let on : On m b = rw q.is at on-b in
    let on-g' : On (affected Eb m) g = rw q.is refl in
    let g-m = event-affects m g z on-g in
    let b-m = event-affects m b z on in
    let b-g = event-affects (affected Eg m) b z on-b in
    let g-b = event-affects (affected Eb m) g z on-g' in
    let fixed : answered Eg m ≡ answered Eg (affected Eb m) = rw q.is (sym (rw q.is at (pins.first m.button m.hold m.counter m.wake_pin))) in
    let still : answered Eb (affected Eg m) ≡ answered Eb m = rw q.is (rw q.is at (pins.second m.button m.hold m.counter m.wake_pin)) in
    let ends : affected Eb (affected Eg m) ≡ affected Eg (affected Eb m) =
    rw q.is (effects-commute m q.answer q.mask q.pin q.gpe0 q.gpe1 q.pending Eb kept.first kept.second kept.none (rw q.is at (pins.meet m.wake_pin))) in (
      orders-meet m g b (affected Eg m) (affected Eb m) (affected Eb (affected Eg m)) g-m.1 b-m.1 (g-m.0 ∙ fixed ∙ sym g-b.0)
          (b-g.0 ∙ still ∙ sym b-m.0) b-g.1 (g-b.1 ∙ sym ends),
      on,
    )
events-commute m g b z on-g on-b (quiet-second kept q pins) =
    let Eg = effect_of m.settings g in
    let Eb = effect_of m.settings b in
    let on : On m b = rw q.is refl in
    let on-g' : On (affected Eb m) g = rw q.is on-g in
    let g-m = event-affects m g z on-g in
    let b-m = event-affects m b z on in
    let b-g = event-affects (affected Eg m) b z on-b in
    let g-b = event-affects (affected Eb m) g z on-g' in
    let fixed : answered Eb (affected Eg m) ≡ answered Eb m = rw q.is (rw q.is at (pins.second m.button m.hold m.counter m.wake_pin)) in
    let still : answered Eg m ≡ answered Eg (affected Eb m) = rw q.is (sym (rw q.is at (pins.first m.button m.hold m.counter m.wake_pin))) in
    let ends : affected Eb (affected Eg m) ≡ affected Eg (affected Eb m) =
    rw q.is (sym (effects-commute m q.answer q.mask q.pin q.gpe0 q.gpe1 q.pending Eg kept.first kept.second kept.none (sym (rw q.is at (pins.meet m.wake_pin))))) in (
      orders-meet m g b (affected Eg m) (affected Eb m) (affected Eb (affected Eg m)) g-m.1 b-m.1 (g-m.0 ∙ still ∙ sym g-b.0)
          (b-g.0 ∙ fixed ∙ sym b-m.0) b-g.1 (g-b.1 ∙ sym ends),
      on,
    )
