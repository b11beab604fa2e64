-- The laws of `any_enabled`: one turn of a loop over the rest of both lists, and its end, and what one more status bit does.
-- Assumes nothing.
use mathlib.Core.Path.{◌≡◌, refl, sym, ◌∙◌, ap}
use mathlib.Core.Bool.{Bool, true, false, not, ◌||◌, or_assoc}
use mathlib.Core.List.{List, [], ◌∷◌}
use Prim.Native.Nat.{ℕ, zero, suc, ◌+◌, ◌≤◌, ◌<◌}
use native.Mathlib.Nat.{le_of_suc-le-suc, not-suc-le-zero}
use native.Mathlib.Numerals.{add-one}
use borrow.Author.Tests.{eqb-true, eqb-false, ne_eqb}
use lib.Bits.{bit_and, bit_or, and_comm, and_zero_r, or_comm, or_zero_l}
use lib.Dec.{eqb}
use lib.ListN.{length, get_or, set, drop, drop_of_length-le}
use lib.Seq.{drop-cons}
use Rattle.bits.proofs.Algebra.{masked-or, and-absorbs-or}
use Rattle.machine.specs.Status.{has_bit}
use Rattle.machine.specs.Lines.{any_enabled}

module _ (ss es : List ℕ) (i : ℕ) where
  -- one turn: the bytes at i, then the rest
  pub any-enabled-turn : i < length ss → i < length es
      → any_enabled (drop i ss) (drop i es) ≡ (has_bit (get_or ss i 0) (get_or es i 0) || any_enabled (drop (i + 1) ss) (drop (i + 1) es))
  unfolding any_enabled
  any-enabled-turn h k = rw (drop-cons ss i 0 h, drop-cons es i 0 k, add-one) refl

  -- with what was found before
  pub any-found-turn : (found : Bool) → i < length ss → i < length es
      → (found || any_enabled (drop i ss) (drop i es)) ≡ ((found || has_bit (get_or ss i 0) (get_or es i 0)) || any_enabled (drop (i + 1) ss) (drop (i + 1) es))
  any-found-turn true h k = refl
  any-found-turn false h k = any-enabled-turn h k

  -- the end: nothing is left
  pub any-enabled-end : length ss ≤ i → any_enabled (drop i ss) (drop i es) ≡ false
  unfolding any_enabled
  any-enabled-end h = rw (drop_of_length-le ss h) refl

-- the order of two tests is free
pub or-swapped : (a b c : Bool) → (a || (b || c)) ≡ (b || (a || c))
or-swapped true true c = refl
or-swapped true false c = refl
or-swapped false b c = refl

-- ---- one more status bit

-- a bit is set
abbrev some : ℕ → Bool
some x = not (eqb x 0)

-- an or has a bit exactly if one of the two has
some_or : (a b : ℕ) → some (bit_or a b) ≡ (some a || some b)
some_or a b = go (eqb a 0) refl
  where
    go : (t : Bool) → eqb a 0 ≡ t → some (bit_or a b) ≡ (some a || some b)
    go true e = rw (eqb-true a 0 e, or_zero_l b) refl
    go false e =
        let lost : bit_or a b ≡ 0 → a ≡ 0 = λ z. sym (and-absorbs-or a b) ∙ ap (bit_and a) z ∙ and_zero_r a in
        rw (e, ne_eqb (bit_or a b) 0 (λ z. eqb-false a 0 e (lost z))) refl

-- one more bit is among those of a mask, or those before were
has-bit-or : (x bit mask : ℕ) → has_bit (bit_or x bit) mask ≡ (has_bit mask bit || has_bit x mask)
unfolding has_bit
has-bit-or x bit mask =
    rw (or_comm x bit, masked-or bit x mask, and_comm bit mask) (some_or (bit_and mask bit) (bit_and x mask))

-- the walk finds the bit where it is enabled, and what it found before
pub walk-with-bit : (ss es : List ℕ) (i bit : ℕ) → i < length ss
    → any_enabled (set ss i (bit_or (get_or ss i 0) bit)) es ≡ (has_bit (get_or es i 0) bit || any_enabled ss es)
unfolding any_enabled has_bit
walk-with-bit [] es i bit h = absurd (not-suc-le-zero h)
walk-with-bit (s ∷ ss) [] zero bit h = refl
walk-with-bit (s ∷ ss) [] (suc i) bit h = refl
walk-with-bit (s ∷ ss) (e ∷ es) zero bit h =
    rw (has-bit-or s bit e) (or_assoc (has_bit e bit) (has_bit s e) (any_enabled ss es))
walk-with-bit (s ∷ ss) (e ∷ es) (suc i) bit h =
    rw (walk-with-bit ss es i bit (le_of_suc-le-suc h)) (or-swapped (has_bit s e) (has_bit (get_or es i 0) bit) (any_enabled ss es))
