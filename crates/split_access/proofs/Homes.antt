-- The bits that an event raises lie in its home: outside the cells of block A where it goes before, and outside those of block B where it goes after.
-- A bit is in the homes of just one block. Assumes nothing.
use mathlib.Core.Bool.{Bool, true, false, not, cond}
use mathlib.Core.Path.{◌≡◌, refl, sym, ◌∙◌}
use Prim.Native.Nat.{ℕ, ◌+◌, ◌*◌, ◌-◌, ◌^◌, ◌≤◌, ◌<◌}
use native.Mathlib.Nat.{lt_of_lt_of_le}
use native.Mathlib.Omega.{arith}
use borrow.Author.Tests.{eqb-true, eqb-false, not-true, not-false}
use lib.Bits.{bit_and, and_zero_l, and_comm}
use lib.Dec.{eqb, lit<}
use lib.Pow.{shl_lt, pow_mono}
use Rattle.bits.specs.Writes.{kept, lane}
use Rattle.bits.specs.Digit.{digit}
use Rattle.bits.proofs.Algebra.{disjoint-digit}
use Rattle.bits.proofs.Writes.{masked-lt, kept_whole}
use Rattle.bits.proofs.Digits.{digit_and, digit-le, digit-zero, digit_not, digit-own-bit, digit-other-bit, same_digits, below-or-beyond}
use Rattle.platform.specs.Fitted.{status_cells}
use Rattle.platform.specs.declared.settings.Settings.{Settings}
use Rattle.machine.specs.Status.{pciexp_wake_bit, has_bit}
use Rattle.registers.specs.Registers.{status_in, clearable, ones_in, one_byte, covered, placed, lane_at}
use Rattle.machine.specs.declared.Machine.{Machine}
use Rattle.model.specs.Events.{StatusBit, pm1, event_bit, pm1_mask, event_mask}
use Rattle.model.specs.EventKinds.{EventKind, event_kind}
use Rattle.model.specs.EventKinds as kind
use Rattle.model.specs.Raises.{bits_if}
use Rattle.model.specs.declared.Event.{Event}
use Rattle.model.proofs.EventBits.{Pair, pair_of, pm1-or-general, event-mask-lt}
use Rattle.model.proofs.EventBits as pair
use Rattle.model.proofs.Fitted.{status-in-lt}
use Rattle.split_access.specs.Gap.{lives_in_b, event_before}
use Rattle.split_access.proofs.Effects.{live_of, affected, effect_by, effect_of}

-- ---- one bit

-- digit j of bit i: the bit's own, or zero
at-bit : {P : Type 0} (i j : ℕ) → (j ≡ i → P) → (digit j (2 ^ i) ≡ 0 → P) → P
at-bit i j own other =
    below-or-beyond j i (λ h. other (digit-other-bit j i (λ e. omega arith)))
    (λ h. below-or-beyond i j (λ k. other (digit-other-bit j i (λ e. omega arith))) (λ k. own (omega arith)))

-- a digit that is zero: nothing in common with that bit
bit-apart : (x i : ℕ) → digit i x ≡ 0 → bit_and (2 ^ i) x ≡ 0
bit-apart x i e = same_digits _ _ (λ j. digit_and j (2 ^ i) x ∙ at-bit i j (λ q. rw (q, e, digit-zero) (omega (arith, digit-own-bit i))) (λ q. rw (q, digit-zero) (omega arith)))

-- something in common with the bit: its digit is one
bit-digit : (x i : ℕ) → (bit_and x (2 ^ i) ≡ 0 → ⊥) → digit i x ≡ 1
bit-digit x i n =
    below-or-beyond (digit i x) 1 (λ h. absurd (n (and_comm x (2 ^ i) ∙ bit-apart x i (omega arith)))) (λ h. omega (arith, digit-le i x))

-- a bit that lives in B does not live in A
out-of-a : (homes i : ℕ) → i < 16 → has_bit homes (2 ^ i) ≡ true → bit_and (2 ^ i) (2 ^ 16 - 1 - homes) ≡ 0
unfolding has_bit
out-of-a homes i h e =
    let one : digit i homes ≡ 1 = bit-digit homes i (eqb-false (bit_and homes (2 ^ i)) 0 (not-true (eqb (bit_and homes (2 ^ i)) 0) e)) in
    bit-apart (2 ^ 16 - 1 - homes) i
    (below-or-beyond homes (2 ^ 16) (λ small. omega (arith, digit_not 16 i homes small h))
    (λ large. let none : 2 ^ 16 - 1 - homes ≡ 0 = omega arith in rw (none, digit-zero)))

out-of-b : (homes i : ℕ) → has_bit homes (2 ^ i) ≡ false → bit_and (2 ^ i) homes ≡ 0
unfolding has_bit
out-of-b homes i e = and_comm (2 ^ i) homes ∙ eqb-true (bit_and homes (2 ^ i)) 0 (not-false (eqb (bit_and homes (2 ^ i)) 0) e)

-- ---- the cells of a block

-- apart from a mask, apart from what the mask lets through; the mask may stand second, first, or further in
apart-cells : (k c h : ℕ) → bit_and k h ≡ 0 → bit_and k (bit_and c h) ≡ 0
apart-cells k c h e = same_digits _ _ (λ j. let d = disjoint-digit k h e j in simp (digit_and, digit-zero) (omega arith))

apart-part : (k c v : ℕ) → bit_and k c ≡ 0 → bit_and k (bit_and c v) ≡ 0
apart-part k c v e = rw (and_comm c v) (apart-cells k v c e)

apart-within : (k c p v : ℕ) → bit_and k c ≡ 0 → bit_and k (bit_and p (bit_and c v)) ≡ 0
apart-within k c p v e = apart-cells k p (bit_and c v) (apart-part k c v e)

-- the bit, where a test holds
bit-in-home : (s : Settings) (b : Bool) (i : ℕ) → i < 16 → has_bit s.event_homes (2 ^ i) ≡ not b → (t : Bool) → bit_and (cond t (2 ^ i) 0) (status_in s b) ≡ 0
bit-in-home s true i h e true = apart-cells (2 ^ i) (status_cells s) s.event_homes (out-of-b s.event_homes i e)
bit-in-home s false i h e true = apart-cells (2 ^ i) (status_cells s) (2 ^ 16 - 1 - s.event_homes) (out-of-a s.event_homes i h e)
bit-in-home s b i h e false = and_zero_l (status_in s b)

-- the block's cells have no digit of a bit that lives in the other
pub home-digit : (s : Settings) (b : Bool) (i : ℕ) → i < 16 → lives_in_b s (pm1 i) ≡ not b → digit i (status_in s b) ≡ 0
unfolding lives_in_b
home-digit s b i h e =
    let apart = disjoint-digit (2 ^ i) (status_in s b) (bit-in-home s b i h e true) i in
    omega (arith, digit-own-bit i, digit-le i (status_in s b))

-- ---- each event

abbrev pub mask_of : Settings → Event → Bool → ℕ → ℕ → ℕ
mask_of s e = (effect_of s e).mask

-- an event that goes before raises nothing of A's, one that goes after nothing of B's
pub raises-at-home : (s : Settings) (e : Event) (b : Bool) → event_before s e ≡ not b → (button : Bool) (hold counter : ℕ) → bit_and (mask_of s e button hold counter) (status_in s b) ≡ 0
unfolding lives_in_b effect_of
raises-at-home s e b home button hold counter =
    pm1-or-general (λ bit k. lives_in_b s bit ≡ not b → bit_and (bits_if ((live_of s bit k).sets button hold counter) (pm1_mask bit)) (status_in s b) ≡ 0)
    (λ i k l h. bit-in-home s b i l h ((live_of s (pm1 i) k).sets button hold counter))
    (λ k h. and_zero_l (status_in s b))
    (pair_of e) home

bit-small : (t : Bool) (x : ℕ) → x < 2 ^ 16 → cond t x 0 < 2 ^ 16
bit-small true x h = h
bit-small false x h = lit< tt

pub raises-small : (s : Settings) (e : Event) (button : Bool) (hold counter : ℕ) → mask_of s e button hold counter < 2 ^ 16
unfolding effect_of
raises-small s e button hold counter = bit-small ((live_of s (event_bit e) (event_kind e)).sets button hold counter) (event_mask e) (event-mask-lt e)

-- ---- the wake pin

-- bit 14 lives in the other block: of this one's cells the pin holds none
pin-elsewhere : (s : Settings) (b : Bool) → lives_in_b s (pm1 14) ≡ not b → (pin : Bool) → kept 16 (status_in s b) (cond pin pciexp_wake_bit 0) ≡ status_in s b
unfolding lives_in_b
pin-elsewhere s b home pin =
    kept_whole 16 (status_in s b) (cond pin pciexp_wake_bit 0) (status-in-lt s b) (bit-small pin pciexp_wake_bit (lit< tt))
    (and_comm (status_in s b) (cond pin pciexp_wake_bit 0) ∙ bit-in-home s b 14 (lit< tt) home pin)

-- an event of the other block leaves what a write here may clear
pub clearable-elsewhere : (m : Machine) (e : Event) (b : Bool) → event_before m.settings e ≡ not b → clearable (affected (effect_of m.settings e) m) b ≡ clearable m b
unfolding effect_of
clearable-elsewhere m e b home = go (pair_of e) home
  where
    held : Bool → ℕ
    held pin = kept 16 (status_in m.settings b) (cond pin pciexp_wake_bit 0)

    go : {bit : StatusBit} {k : EventKind} → Pair bit k → lives_in_b m.settings bit ≡ not b → held ((effect_by m.settings bit k).pin m.wake_pin) ≡ held m.wake_pin
    go pair.press h = refl
    go pair.release h = refl
    go (pair.signal i l) h = refl
    go (pair.pin active) h = pin-elsewhere m.settings b h ((effect_by m.settings (pm1 14) (kind.pin active)).pin m.wake_pin) ∙ sym (pin-elsewhere m.settings b h m.wake_pin)
    go (pair.notice i l f) h = refl
    go (pair.general k) h = refl
    go (pair.ticks n) h = refl

-- ---- the ones of a write

covered-small : (width offset : ℕ) → covered width offset < 2 ^ 16
covered-small width offset = go (one_byte width offset)
  where
    go : (t : Bool) → cond t (lane (lane_at offset) 255) (2 ^ 16 - 1) < 2 ^ 16
    go true =
        let low : 8 + 8 * lane_at offset ≤ 16 = omega arith in
        lt_of_lt_of_le (shl_lt 8 (8 * lane_at offset) (lit< tt)) (pow_mono low)
    go false = lit< tt

pub ones_small : (m : Machine) (b : Bool) (width offset written : ℕ) → ones_in m b width offset written < 2 ^ 16
ones_small m b width offset written = masked-lt 16 (placed offset written) (bit_and (clearable m b) (covered width offset)) (masked-lt 16 (clearable m b) (covered width offset) (covered-small width offset))

pub ones-at-home : (m : Machine) (b : Bool) (width offset written mask : ℕ) → bit_and mask (status_in m.settings b) ≡ 0 → bit_and mask (ones_in m b width offset written) ≡ 0
ones-at-home m b width offset written mask e =
    apart-within mask (clearable m b) (placed offset written) (covered width offset) (apart-part mask (status_in m.settings b) _ e)
