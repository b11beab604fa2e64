-- Laws of numbers as texts: what is written reads back, what was read is written as it stood, and what fits.
-- By recursion on the digits, in any base of 2 to 16. Assumes nothing.
use mathlib.Core.Path.{◌≡◌, refl, sym, ap, ◌∙◌}
use Rattle.std.specs.Option.{unwrap_or}
use Rattle.std.proofs.Common.{Some, None}
use mathlib.Core.Bool.{Bool, true, false, cond, ◌&&◌, and-false as and_false}
use mathlib.Core.List.{List, [], ◌∷◌, ◌++◌, append_assoc, append-nil}
use Prim.Native.Nat.{ℕ, zero, suc, ◌+◌, ◌*◌, ◌/◌, ◌%◌, ◌^◌, ◌≤◌, ◌<◌}
use native.Mathlib.Nat.{add-zero, add-suc, suc-add, zero-add, mul-one, mul_assoc, mul-le-mul_right, mod-lt, div-add-mod', div-lt_iff_lt-mul, pow-le-pow_right, suc-mul, pow-zero, pow-suc, pow-succ', one-le-pow, lt_of_lt_of_le, one-mul}
use native.Mathlib.Numerals.{add-one}
use native.Mathlib.Omega.{arith}
use borrow.Author.Tests.{ltb-true, ltb-false, lt-ltb, le-ltb, le-leb, leb-true, eqb-true, eq-eqb, ne_eqb}
use lib.Arith.{digits_div, digits_mod, mod-mul}
use lib.Dec.{ltb, leb, eqb}
use lib.ListN.{length, length-append}
use Rattle.lists.specs.Any.{any}
use Rattle.lists.proofs.Tests.{or_left, or_right, and_left, and_right}
use Rattle.text.specs.Parts.{has_stop}
use Rattle.text.specs.Numbers.{digit_of, digit_in, glyph, value_from, value_of, all_digits, is_number, number_in, number_of, digits, as_written}

-- a digit reads as what was written
pub digit-of-glyph : (d : ℕ) → d < 16 → digit_of (glyph d) ≡ d
unfolding glyph digit_of
digit-of-glyph d h = go (ltb d 10) refl
  where
    go : (t : Bool) → ltb d 10 ≡ t → digit_of (cond t (48 + d) (55 + d)) ≡ d
    go true e =
        let l : d < 10 = ltb-true d 10 e in
        rw (le-ltb (48 + d) 48 (omega arith), lt-ltb (48 + d) 58 (omega arith)) (omega arith)
    go false e =
        let l : 10 ≤ d = ltb-false d 10 e in
        rw (le-ltb (55 + d) 48 (omega arith), le-ltb (55 + d) 58 (omega arith), le-ltb (55 + d) 65 (omega arith), lt-ltb (55 + d) 71 (omega arith)) (omega arith)

-- a byte that shows a digit, and one that shows none
pub digit_shown : (x d : ℕ) → digit_in x ≡ Some d → (digit_of x ≡ d) × (d < 16)
unfolding digit_in
digit_shown x d e = go (ltb (digit_of x) 16) refl e
  where
    go : (t : Bool) → ltb (digit_of x) 16 ≡ t → cond t (Some (digit_of x)) None ≡ Some d → (digit_of x ≡ d) × (d < 16)
    go true h k = let same : digit_of x ≡ d = cc in let below = ltb-true (digit_of x) 16 h in (same, omega arith)
    go false h k = cc

pub no_digit : (x : ℕ) → digit_in x ≡ None → ltb (digit_of x) 16 ≡ false
unfolding digit_in
no_digit x e = go (ltb (digit_of x) 16) e
  where
    go : (t : Bool) → cond t (Some (digit_of x)) None ≡ None → t ≡ false
    go true h = cc
    go false h = refl

-- one digit more at the end
value-snoc : (b n : ℕ) (xs : List ℕ) (y : ℕ) → value_from b n (xs ++ (y ∷ [])) ≡ value_from b n xs * b + digit_of y
unfolding value_from
value-snoc b n [] y = refl
value-snoc b n (x ∷ xs) y = value-snoc b (n * b + digit_of x) xs y

-- as many digits are written as the width says
pub digits-length : (b k n : ℕ) → length (digits b k n) ≡ k
unfolding digits
digits-length b zero n = refl
digits-length b (suc k) n = rw (length-append, digits-length b k (n / b)) (add-one k)

-- what is written holds no byte below the digits: no tab, no LF
glyph-from : (d : ℕ) → 48 ≤ glyph d
unfolding glyph
glyph-from d = go (ltb d 10)
  where
    go : (t : Bool) → 48 ≤ cond t (48 + d) (55 + d)
    go true = omega arith
    go false = omega arith

none-snoc : (s : ℕ) (xs : List ℕ) (y : ℕ) → has_stop s xs ≡ false → eqb y s ≡ false → has_stop s (xs ++ (y ∷ [])) ≡ false
unfolding any
none-snoc s [] y e h = rw h
none-snoc s (x ∷ xs) y e h = rw (or_left (eqb x s) (has_stop s xs) e) (none-snoc s xs y (or_right (eqb x s) (has_stop s xs) e) h)

pub digits-no-stop : (s b k n : ℕ) → s < 48 → has_stop s (digits b k n) ≡ false
unfolding digits any
digits-no-stop s b zero n h = refl
digits-no-stop s b (suc k) n h = none-snoc s (digits b k (n / b)) (glyph (n % b)) (digits-no-stop s b k (n / b) h) (above (n % b))
  where
    above : (d : ℕ) → eqb (glyph d) s ≡ false
    above d = ne_eqb (glyph d) s (λ e. let g = glyph-from d in omega arith)

-- what is written so is digits
pub written_all : (b : ℕ) (xs : List ℕ) → as_written b xs ≡ true → all_digits b xs ≡ true
unfolding as_written all_digits
written_all b [] e = refl
written_all b (x ∷ xs) e =
    let own = ltb (digit_of x) b && eqb (glyph (digit_of x)) x in
    rw (and_left (ltb (digit_of x) b) _ (and_left own _ e)) (written_all b xs (and_right own _ e))

pub written-number : (b m : ℕ) (xs : List ℕ) → 1 ≤ length xs → length xs ≤ m → as_written b xs ≡ true → is_number b m xs ≡ true
unfolding is_number
written-number b m xs l h e = rw (lt-ltb 0 (length xs) l, le-leb (length xs) m h) (written_all b xs e)

-- a text of digits that is not too short or too long is a number, and one with a byte that is no digit is none
pub number-in-digits : (b m : ℕ) (xs : List ℕ) → 1 ≤ length xs → length xs ≤ m → all_digits b xs ≡ true → number_in b m xs ≡ Some (value_of b xs)
unfolding number_in is_number
number-in-digits b m xs l h e = rw (lt-ltb 0 (length xs) l, le-leb (length xs) m h, e) refl

pub number-in-none : (b m : ℕ) (xs : List ℕ) → all_digits b xs ≡ false → number_in b m xs ≡ None
unfolding number_in is_number
number-in-none b m xs e = rw (e, and_false, and_false) refl

-- 0 in place of no number
pub number_or_zero : (b m : ℕ) (xs : List ℕ) → unwrap_or (number_in b m xs) 0 ≡ number_of b m xs
unfolding number_in number_of
number_or_zero b m xs = go (is_number b m xs)
  where
    go : (t : Bool) → unwrap_or (cond t (Some (value_of b xs)) None) 0 ≡ cond t (value_of b xs) 0
    go true = refl
    go false = refl

-- a text that is a number is its value
pub number-is-value : (b m : ℕ) (xs : List ℕ) → is_number b m xs ≡ true → number_of b m xs ≡ value_of b xs
unfolding number_of
number-is-value b m xs e = rw e

-- what is read, and what is written, in a base of at least 2
module _ (b : ℕ) (two : 1 < b) where
  pub some : 0 < b
  some = omega arith

  -- the digits above the last, and the last
  split : (n : ℕ) → n / b * b + n % b ≡ n
  split n = div-add-mod' n b

  -- a digit fewer, and a digit more
  pub shorter : (n k : ℕ) → n < b ^ suc k → n / b < b ^ k
  shorter n k h = (div-lt_iff_lt-mul some).1 (rw (← pow-suc b k) h)

  pub longer : (n k : ℕ) → n / b < b ^ k → n < b ^ suc k
  longer n k h = rw pow-suc ((div-lt_iff_lt-mul some).0 h)

  -- what lies above the digits that are written shows in none of them
  pub digits_low : (k n : ℕ) → digits b k (n % b ^ k) ≡ digits b k n
  unfolding digits
  digits_low zero n = refl
  digits_low (suc k) n =
      let low : n % b ^ suc k ≡ n / b % b ^ k * b + n % b = rw pow-suc (mod-mul n (one-le-pow k b some) some) in
      rw (low, digits_div (n / b % b ^ k) (mod-lt n some), digits_mod (n / b % b ^ k) (mod-lt n some), digits_low k (n / b)) refl

  module _ (most : b ≤ 16) where
    glyph-back : (n : ℕ) → digit_of (glyph (n % b)) ≡ n % b
    glyph-back n = let h = mod-lt n some in digit-of-glyph (n % b) (omega arith)

    -- reading what was written gives it back
    pub value-of-digits : (k n : ℕ) → n < b ^ k → value_of b (digits b k n) ≡ n
    unfolding digits value_from
    value-of-digits zero n h = let l : n < 1 = rw pow-zero at h in omega arith
    value-of-digits (suc k) n h =
        rw (value-snoc b 0 (digits b k (n / b)), value-of-digits k (n / b) (shorter n k h), glyph-back n) (split n)

    -- what is written is digits, written so
    written-snoc : (xs : List ℕ) (y : ℕ) → as_written b xs ≡ true → ltb (digit_of y) b ≡ true → eqb (glyph (digit_of y)) y ≡ true → as_written b (xs ++ (y ∷ [])) ≡ true
    unfolding as_written
    written-snoc [] y e h k = rw (h, k)
    written-snoc (x ∷ xs) y e h k =
        let own = ltb (digit_of x) b && eqb (glyph (digit_of x)) x in
        rw (and_left own _ e) (written-snoc xs y (and_right own _ e) h k)

    pub digits-as-written : (k n : ℕ) → as_written b (digits b k n) ≡ true
    unfolding digits as_written
    digits-as-written zero n = refl
    digits-as-written (suc k) n =
        let g = glyph-back n in
        written-snoc (digits b k (n / b)) (glyph (n % b)) (digits-as-written k (n / b))
        (rw g (lt-ltb (n % b) b (mod-lt n some)))
        (eq-eqb (glyph (digit_of (glyph (n % b)))) (glyph (n % b)) (ap glyph g))

    pub digits_number : (k m n : ℕ) → 1 ≤ k → k ≤ m → is_number b m (digits b k n) ≡ true
    digits_number k m n l h =
        let long = digits-length b k n in
        written-number b m (digits b k n) (omega arith) (omega arith) (digits-as-written k n)

    pub number-of-digits : (k m n : ℕ) → 1 ≤ k → k ≤ m → n < b ^ k → number_of b m (digits b k n) ≡ n
    number-of-digits k m n l h f = number-is-value b m (digits b k n) (digits_number k m n l h) ∙ value-of-digits k n f

  one_more : (k n d : ℕ) → d < b → digits b (suc k) (n * b + d) ≡ digits b k n ++ (glyph d ∷ [])
  unfolding digits
  one_more k n d h = rw (digits_div n h, digits_mod n h)

  -- writing what was read gives the text back, where it was written with upper case
  written_on : (k n : ℕ) (xs : List ℕ) → as_written b xs ≡ true → digits b (k + length xs) (value_from b n xs) ≡ digits b k n ++ xs
  unfolding value_from as_written
  written_on k n [] e = rw (add-zero, append-nil)
  written_on k n (x ∷ xs) e =
      let own = and_left (ltb (digit_of x) b && eqb (glyph (digit_of x)) x) (as_written b xs) e in
      let below : digit_of x < b = ltb-true (digit_of x) b (and_left _ (eqb (glyph (digit_of x)) x) own) in
      let same : glyph (digit_of x) ≡ x = eqb-true (glyph (digit_of x)) x (and_right (ltb (digit_of x) b) _ own) in
      let rest : as_written b xs ≡ true = and_right (ltb (digit_of x) b && eqb (glyph (digit_of x)) x) _ e in
      rw (add-suc k (length xs), ← suc-add k (length xs), written_on (suc k) (n * b + digit_of x) xs rest, one_more k n (digit_of x) below, append_assoc, same)

  pub digits-of-value : (xs : List ℕ) → as_written b xs ≡ true → digits b (length xs) (value_of b xs) ≡ xs
  unfolding digits
  digits-of-value xs e = ap (λ (k : ℕ). digits b k (value_of b xs)) (sym (zero-add (length xs))) ∙ written_on 0 0 xs e

  pub digits-of-number : (m : ℕ) (xs : List ℕ) → 1 ≤ length xs → length xs ≤ m → as_written b xs ≡ true → digits b (length xs) (number_of b m xs) ≡ xs
  digits-of-number m xs l h e = rw (number-is-value b m xs (written-number b m xs l h e)) (digits-of-value xs e)

  -- a number is below the power of its length
  pub value-below : (n : ℕ) (xs : List ℕ) → all_digits b xs ≡ true → value_from b n xs < suc n * b ^ length xs
  unfolding value_from all_digits
  value-below n [] e = rw (pow-zero, mul-one) (omega arith)
  value-below n (x ∷ xs) e =
      let d : digit_of x < b = ltb-true (digit_of x) b (and_left _ _ e) in
      let ih = value-below (n * b + digit_of x) xs (and_right (ltb (digit_of x) b) _ e) in
      let top : suc (n * b + digit_of x) ≤ suc n * b = omega (arith, suc-mul n b) in
      rw (pow-succ' b (length xs), ← mul_assoc (suc n) b (b ^ length xs)) (lt_of_lt_of_le ih (mul-le-mul_right _ top))

  pub fits : (m : ℕ) (xs : List ℕ) → is_number b m xs ≡ true → value_of b xs < b ^ m
  unfolding is_number
  fits m xs e =
      let rest = and_right (ltb 0 (length xs)) _ e in
      let short : length xs ≤ m = leb-true (length xs) m (and_left _ _ rest) in
      lt_of_lt_of_le (rw one-mul at (value-below 0 xs (and_right (leb (length xs) m) _ rest))) (pow-le-pow_right some short)
