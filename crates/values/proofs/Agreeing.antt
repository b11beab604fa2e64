-- How far two lists agree: the turns of the loops that find it, and that it is the whole exactly where the lists are the same. Assumes nothing.
use mathlib.Core.Bool.{Bool, true, false, cond, ◌&&◌}
use mathlib.Core.List.{List, [], ◌∷◌}
use mathlib.Core.Path.{◌≡◌, refl, sym, ◌∙◌}
use Prim.Native.Nat.{ℕ, suc, ◌+◌, ◌≤◌, ◌<◌}
use native.Mathlib.Numerals.{add-one}
use native.Mathlib.Omega.{arith}
use borrow.Author.Tests.{eq-eqb, ne_eqb}
use lib.Dec.{eqb, eqb-suc-suc, eqb-zero-suc}
use lib.ListN.{length, get_or, drop, drop_of_length-le}
use lib.Seq.{drop-cons}
use Rattle.text.specs.Parts.{same_text}
use Rattle.values.specs.Agree.{agreeing}

-- one turn: the two differ here, or agree; and the end of one of them
pub differs-here : (xs ys : List ℕ) (i : ℕ) → i < length xs → i < length ys → (get_or xs i 0 ≡ get_or ys i 0 → ⊥) → agreeing (drop i xs) (drop i ys) ≡ 0
unfolding agreeing
differs-here xs ys i h k d = rw (drop-cons xs i 0 h, drop-cons ys i 0 k, ne_eqb _ _ d)

pub agrees-here : (xs ys : List ℕ) (i : ℕ) → i < length xs → i < length ys → get_or xs i 0 ≡ get_or ys i 0
    → agreeing (drop i xs) (drop i ys) ≡ suc (agreeing (drop (i + 1) xs) (drop (i + 1) ys))
unfolding agreeing
agrees-here xs ys i h k d = rw (drop-cons xs i 0 h, drop-cons ys i 0 k, eq-eqb _ _ d, add-one)

pub first_ends : (xs ys : List ℕ) (i : ℕ) → length xs ≤ i → agreeing (drop i xs) (drop i ys) ≡ 0
unfolding agreeing
first_ends xs ys i h = rw (drop_of_length-le xs h)

pub second-ends : (xs ys : List ℕ) (i : ℕ) → length ys ≤ i → agreeing (drop i xs) (drop i ys) ≡ 0
unfolding agreeing
second-ends xs ys i h = rw (drop_of_length-le ys h) (go (drop i xs))
  where
    go : (zs : List ℕ) → agreeing zs [] ≡ 0
    go [] = refl
    go (z ∷ zs) = refl

-- no more agree than there are
pub agree-first : (xs ys : List ℕ) → agreeing xs ys ≤ length xs
unfolding agreeing
agree-first [] ys = omega arith
agree-first (x ∷ xs) [] = omega arith
agree-first (x ∷ xs) (y ∷ ys) = go (eqb x y) (agree-first xs ys)
  where
    go : (t : Bool) → agreeing xs ys ≤ length xs → cond t (suc (agreeing xs ys)) 0 ≤ suc (length xs)
    go true h = omega arith
    go false h = omega arith

-- lists of one length are the same exactly if they agree to their end
pub same-exactly : (xs ys : List ℕ) → length xs ≡ length ys → same_text xs ys ≡ eqb (agreeing xs ys) (length ys)
unfolding agreeing same_text
same-exactly [] [] e = refl
same-exactly [] (y ∷ ys) e = absurd (omega arith)
same-exactly (x ∷ xs) [] e = absurd (omega arith)
same-exactly (x ∷ xs) (y ∷ ys) e = go (eqb x y) (same-exactly xs ys (omega arith))
  where
    go : (t : Bool) → same_text xs ys ≡ eqb (agreeing xs ys) (length ys) → (t && same_text xs ys) ≡ eqb (cond t (suc (agreeing xs ys)) 0) (suc (length ys))
    go true rest = rest ∙ sym (eqb-suc-suc (agreeing xs ys) (length ys))
    go false rest = sym (eqb-zero-suc (length ys))
