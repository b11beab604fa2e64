-- Two events of one gap that go to different sides: not both are live, and not both are of the wake pin, so that they may change places.
-- Presses and releases have one home, ticks have one home, and no gap holds both kinds; the pin's two steps have one home. Assumes nothing.
use mathlib.Core.Bool.{Bool, true, false, not, ◌&&◌}
use mathlib.Core.Path.{◌≡◌, refl, sym, ◌∙◌, ap}
use Prim.Native.Nat.{ℕ}
use native.Mathlib.Omega.{arith}
use borrow.Author.Tests.{eqb-true, not-false}
use lib.Dec.{eqb}
use Rattle.lists.proofs.Tests.{and_left}
use Rattle.clock.specs.Clock as clock
use Rattle.platform.specs.declared.settings.Settings.{Settings}
use Rattle.machine.specs.Status.{tmr_bit}
use Rattle.model.specs.Events.{StatusBit, pm1, gpe, event_bit, fits}
use Rattle.model.specs.EventKinds.{EventKind}
use Rattle.model.specs.EventKinds as kind
use Rattle.model.specs.Raises.{bits_if}
use Rattle.model.specs.declared.Answer.TheVariants as answer
use Rattle.model.specs.declared.Event.{Event}
use Rattle.model.proofs.EventBits.{Pair, pair_of}
use Rattle.model.proofs.EventBits as pair
use Rattle.split_access.specs.Gap.{lives_in_b, event_before, is_pm1_bit, is_button, ticks_in, is_ticking}
use Rattle.split_access.proofs.Effects.{Effect, gpe0_after, gpe1_after, pending_by, effect_by, effect_of}
use Rattle.split_access.proofs.Commute.{Quiet, GpeKept, PinsApart, Apart, quiet-first, quiet-second}

zero_one : ◌≡◌ {A = ℕ} 0 1 → ⊥
zero_one e = omega arith

pub true-false : {A : Type 0} → true ≡ false → A
true-false e = let z : ◌≡◌ {A = ℕ} 0 1 = cc in absurd (zero_one z)

-- ---- quiet events

ticks-none : (s : Settings) (n : ℕ) → n ≡ 0 → Quiet (effect_by s (pm1 0) (kind.ticks n))
unfolding clock.ticks_of
ticks-none s n e =
    record { answer = λ p. answer.Done 0; mask = bits_if (fits s tmr_bit && false) tmr_bit; pin = λ p. p; gpe0 = λ xs. xs; gpe1 = λ xs. xs; pending = λ es fs. false; is = rw e refl }

-- neither a button nor ticks
quiet-kind : (s : Settings) {bit : StatusBit} {k : EventKind} → Pair bit k → is_pm1_bit 8 bit ≡ false → (is_pm1_bit 0 bit && not (eqb (ticks_in k) 0)) ≡ false
    → Quiet (effect_by s bit k)
quiet-kind s pair.press p q = true-false p
quiet-kind s pair.release p q = true-false p
quiet-kind s (pair.signal i l) p q = record { answer = _; mask = _; pin = _; gpe0 = _; gpe1 = _; pending = _; is = refl }
quiet-kind s (pair.pin active) p q = record { answer = _; mask = _; pin = _; gpe0 = _; gpe1 = _; pending = _; is = refl }
quiet-kind s (pair.notice i l f) p q = record { answer = _; mask = _; pin = _; gpe0 = _; gpe1 = _; pending = _; is = refl }
quiet-kind s (pair.general k) p q = record { answer = _; mask = _; pin = _; gpe0 = _; gpe1 = _; pending = _; is = refl }
quiet-kind s (pair.ticks n) p q = ticks-none s n (eqb-true n 0 (not-false (eqb n 0) q))

quiet-event : (s : Settings) (e : Event) → is_button e ≡ false → is_ticking e ≡ false → Quiet (effect_of s e)
unfolding effect_of
quiet-event s e p q = quiet-kind s (pair_of e) p q

-- ---- the wake pin

-- it neither moves the pin nor looks at it
record PinFree (e : Effect) : Type 0 where
  answers : (b : Bool) (h c : ℕ) (p q : Bool) → e.answer b h c p ≡ e.answer b h c q
  moves : (p : Bool) → e.pin p ≡ p

pin-free-kind : (s : Settings) {bit : StatusBit} {k : EventKind} → Pair bit k → is_pm1_bit 14 bit ≡ false → PinFree (effect_by s bit k)
pin-free-kind s pair.press f = record { answers = λ b h c p q. refl; moves = λ p. refl }
pin-free-kind s pair.release f = record { answers = λ b h c p q. refl; moves = λ p. refl }
pin-free-kind s (pair.signal i l) f = record { answers = λ b h c p q. refl; moves = λ p. refl }
pin-free-kind s (pair.pin active) f = true-false f
pin-free-kind s (pair.notice i l g) f = record { answers = λ b h c p q. refl; moves = λ p. refl }
pin-free-kind s (pair.general k) f = record { answers = λ b h c p q. refl; moves = λ p. refl }
pin-free-kind s (pair.ticks n) f = record { answers = λ b h c p q. refl; moves = λ p. refl }

-- what does not go by bit 14
pin-free : (s : Settings) (e : Event) → is_pm1_bit 14 (event_bit e) ≡ false → PinFree (effect_of s e)
unfolding effect_of
pin-free s e f = pin-free-kind s (pair_of e) f

free-first : (d e : Effect) → PinFree d → PinsApart d e
free-first d e f = record { first = λ b h c p. f.answers b h c _ _; second = λ b h c p. ap (e.answer b h c) (f.moves p); meet = λ p. ap e.pin (f.moves p) ∙ sym (f.moves (e.pin p)) }

free-second : (d e : Effect) → PinFree e → PinsApart d e
free-second d e f = record { first = λ b h c p. ap (d.answer b h c) (f.moves p); second = λ b h c p. f.answers b h c _ _; meet = λ p. f.moves (d.pin p) ∙ sym (ap d.pin (f.moves p)) }

-- ---- the events that go by a PM1 bit

-- they change no general status byte, and nothing of what is pending there
gpe-kept : (s : Settings) (e : Event) (i : ℕ) → event_bit e ≡ pm1 i → GpeKept s e
unfolding effect_of
gpe-kept s e i p = record { first = ap (gpe0_after s) p; second = ap (gpe1_after s) p; none = ap (pending_by s) p }

-- a general event never goes before
kept-before : (s : Settings) (e : Event) → event_before s e ≡ true → GpeKept s e
unfolding lives_in_b
kept-before s e h = go (event_bit e) refl h
  where
    go : (bit : StatusBit) → event_bit e ≡ bit → lives_in_b s bit ≡ true → GpeKept s e
    go (pm1 i) p h = gpe-kept s e i p
    go (gpe k) p h = true-false (sym h)

-- what goes by bit i has that bit's side
bit-side : (s : Settings) (i : ℕ) (e : Event) → is_pm1_bit i (event_bit e) ≡ true → (event_before s e ≡ lives_in_b s (pm1 i)) × GpeKept s e
bit-side s i e h = go (event_bit e) refl h
  where
    go : (bit : StatusBit) → event_bit e ≡ bit → is_pm1_bit i bit ≡ true → (event_before s e ≡ lives_in_b s (pm1 i)) × GpeKept s e
    go (pm1 j) p h = (rw (p, eqb-true j i h) refl, gpe-kept s e j p)
    go (gpe k) p h = true-false (sym h)

-- ---- two of a gap

-- the pair is not one button and one tick
pub record Unmixed (g e : Event) : Type 0 where
  pub buttons : is_button g ≡ true → is_ticking e ≡ false
  pub ticks : is_ticking g ≡ true → is_button e ≡ false

module _ (s : Settings) (g e : Event) (after-g : event_before s g ≡ false) (before-e : event_before s e ≡ true) (un : Unmixed g e) where
  -- what goes by one bit goes to one side
  one_side : (i : ℕ) → is_pm1_bit i (event_bit g) ≡ true → is_pm1_bit i (event_bit e) ≡ true → {A : Type 0} → A
  one_side i p q = true-false (sym before-e ∙ (bit-side s i e q).0 ∙ sym (bit-side s i g p).0 ∙ after-g)

  -- so not both are of the pin
  pins-apart : PinsApart (effect_of s g) (effect_of s e)
  pins-apart = go (is_pm1_bit 14 (event_bit g)) (is_pm1_bit 14 (event_bit e)) refl refl
    where
      go : (t u : Bool) → is_pm1_bit 14 (event_bit g) ≡ t → is_pm1_bit 14 (event_bit e) ≡ u → PinsApart (effect_of s g) (effect_of s e)
      go false u p q = free-first _ _ (pin-free s g p)
      go true false p q = free-second _ _ (pin-free s e q)
      go true true p q = one_side 14 p q

  -- a live first: the second is of another kind, so quiet
  by-button : is_button g ≡ true → (t : Bool) → is_button e ≡ t → Apart s g e
  by-button p true q = one_side 8 p q
  by-button p false q = quiet-second (bit-side s 8 g p).1 (quiet-event s e q (un.buttons p)) pins-apart

  by-ticks : is_ticking g ≡ true → (t : Bool) → is_ticking e ≡ t → Apart s g e
  by-ticks p true q = one_side 0 (and_left _ _ p) (and_left _ _ q)
  by-ticks p false q = quiet-second (bit-side s 0 g (and_left _ _ p)).1 (quiet-event s e (un.ticks p) q) pins-apart

  by_kind : (t u : Bool) → is_button g ≡ t → is_ticking g ≡ u → Apart s g e
  by_kind true u p q = by-button p (is_button e) refl
  by_kind false true p q = by-ticks q (is_ticking e) refl
  by_kind false false p q = quiet-first (quiet-event s g p q) (kept-before s e before-e) pins-apart

  pub sides_apart : Apart s g e
  sides_apart = by_kind (is_button g) (is_ticking g) refl refl
