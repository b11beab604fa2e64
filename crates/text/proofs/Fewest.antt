-- Laws of the fewest digits: they suffice, fewer do not, they read back, and a number with no leading zero is written with them.
-- By recursion on the steps that find them. Assumes nothing.
use mathlib.Core.Path.{◌≡◌, refl, ap, ◌∙◌}
use mathlib.Core.Logic.{◌⊎◌, ⊎_elim}
use mathlib.Core.Bool.{Bool, true, false, cond}
use mathlib.Core.List.{List, [], ◌∷◌}
use Prim.Native.Nat.{ℕ, zero, suc, ◌+◌, ◌*◌, ◌/◌, ◌^◌, ◌≤◌, ◌<◌}
use native.Mathlib.Nat.{mul-one, mul_assoc, mul-le-mul_right, div-lt_self, pow-le-pow_right, pow-zero, pow-suc, pow-succ', le_trans, lt_of_lt_of_le, one-mul}
use native.Mathlib.Omega.{arith}
use borrow.Author.Tests.{ltb-true, ltb-false, lt-ltb, le-ltb}
use lib.Dec.{ltb}
use lib.ListN.{length}
use Rattle.text.specs.Numbers.{digit_of, value_from, value_of, all_digits, number_of, digits, count_within, digit_count, as_written}
use Rattle.text.proofs.Digits.{some, shorter, longer, value-below, number-of-digits, written_all, written-number, number-is-value, digits-of-value}

pow-one : (b : ℕ) → b ^ 1 ≡ b
pow-one b = pow-suc b 0 ∙ ap (λ (p : ℕ). p * b) (pow-zero b) ∙ one-mul b

module _ (b : ℕ) (two : 1 < b) where
  -- the number of digits: any number of steps that suffices finds it
  less : (n f : ℕ) → n ≤ suc f → b ≤ n → n / b ≤ f
  less n f h m = let l : n / b < n = div-lt_self (omega arith) two in omega arith

  steps-enough : (f g n : ℕ) → n ≤ f → n ≤ g → count_within f b n ≡ count_within g b n
  unfolding count_within
  steps-enough zero zero n h k = refl
  steps-enough zero (suc g) n h k = rw (lt-ltb n b (omega arith))
  steps-enough (suc f) zero n h k = rw (lt-ltb n b (omega arith))
  steps-enough (suc f) (suc g) n h k = go (ltb n b) refl (λ m. steps-enough f g (n / b) (less n f h m) (less n g k m))
    where
      go : (t : Bool) → ltb n b ≡ t → (b ≤ n → count_within f b (n / b) ≡ count_within g b (n / b))
          → cond t 1 (suc (count_within f b (n / b))) ≡ cond t 1 (suc (count_within g b (n / b)))
      go true e ih = refl
      go false e ih = ap suc (ih (ltb-false n b e))

  -- a number below the base takes one digit, another one more than without its last
  pub digit-count-one : (n : ℕ) → n < b → digit_count b n ≡ 1
  unfolding digit_count count_within
  digit-count-one zero h = refl
  digit-count-one (suc n) h = rw (lt-ltb (suc n) b h)

  pub digit-count-more : (n : ℕ) → b ≤ n → digit_count b n ≡ suc (digit_count b (n / b))
  unfolding digit_count count_within
  digit-count-more zero h = absurd (omega arith)
  digit-count-more (suc n) h =
      rw (le-ltb (suc n) b h) (ap suc (steps-enough n (suc n / b) (suc n / b) (less (suc n) n (omega arith) h) (omega arith)))

  -- they suffice, and fewer do not
  count-suffices : (f n : ℕ) → n ≤ f → n < b ^ count_within f b n
  unfolding count_within
  count-suffices zero n h = rw pow-one (omega arith)
  count-suffices (suc f) n h = go (ltb n b) refl (λ m. count-suffices f (n / b) (less n f h m))
    where
      go : (t : Bool) → ltb n b ≡ t → (b ≤ n → n / b < b ^ count_within f b (n / b)) → n < b ^ cond t 1 (suc (count_within f b (n / b)))
      go true e ih = rw pow-one (ltb-true n b e)
      go false e ih = longer b two n (count_within f b (n / b)) (ih (ltb-false n b e))

  pub digits-suffice : (n : ℕ) → n < b ^ digit_count b n
  unfolding digit_count
  digits-suffice n = count-suffices n n (omega arith)

  count-least : (f n k : ℕ) → 1 ≤ k → n < b ^ k → count_within f b n ≤ k
  unfolding count_within
  count-least zero n k l h = l
  count-least (suc f) n zero l h = absurd (omega arith)
  count-least (suc f) n (suc zero) l h = let m : n < b = rw pow-one at h in rw (lt-ltb n b m) (omega arith)
  count-least (suc f) n (suc (suc k)) l h = go (ltb n b) (count-least f (n / b) (suc k) (omega arith) (shorter b two n (suc k) h))
    where
      go : (t : Bool) → count_within f b (n / b) ≤ suc k → cond t 1 (suc (count_within f b (n / b))) ≤ suc (suc k)
      go true ih = omega arith
      go false ih = omega arith

  pub digits-fewest : (n k : ℕ) → 1 ≤ k → n < b ^ k → digit_count b n ≤ k
  unfolding digit_count
  digits-fewest n k l h = count-least n n k l h

  count-some : (f n : ℕ) → 1 ≤ count_within f b n
  unfolding count_within
  count-some zero n = omega arith
  count-some (suc f) n = go (ltb n b)
    where
      go : (t : Bool) → 1 ≤ cond t 1 (suc (count_within f b (n / b)))
      go true = omega arith
      go false = omega arith

  pub digit-count-some : (n : ℕ) → 1 ≤ digit_count b n
  unfolding digit_count
  digit-count-some n = count-some n n

  -- the fewest digits read back, and a number with no leading zero is written with the fewest
  module _ (most : b ≤ 16) where
    pub number-of-fewest : (m n : ℕ) → 1 ≤ m → n < b ^ m → number_of b m (digits b (digit_count b n) n) ≡ n
    number-of-fewest m n l h =
        number-of-digits b two most (digit_count b n) m n (digit-count-some n) (digits-fewest n m l h) (digits-suffice n)

  exponent-less : (i j : ℕ) → b ^ i < b ^ j → i < j
  exponent-less i j h = go (ltb i j) refl
    where
      go : (t : Bool) → ltb i j ≡ t → i < j
      go true e = ltb-true i j e
      go false e = let l = pow-le-pow_right (some b two) (ltb-false i j e) in absurd (omega arith)

  value-above : (n : ℕ) (xs : List ℕ) → n * b ^ length xs ≤ value_from b n xs
  unfolding value_from
  value-above n [] = rw (pow-zero, mul-one) (omega arith)
  value-above n (x ∷ xs) =
      let more : n * b ≤ n * b + digit_of x = omega arith in
      rw (pow-succ' b (length xs), ← mul_assoc n b (b ^ length xs)) (le_trans (mul-le-mul_right (b ^ length xs) more) (value-above (n * b + digit_of x) xs))

  pub count-of-value : (x : ℕ) (xs : List ℕ) → all_digits b (x ∷ xs) ≡ true → (0 < digit_of x) ⊎ (length xs ≡ 0)
      → digit_count b (value_of b (x ∷ xs)) ≡ suc (length xs)
  unfolding value_from
  count-of-value x xs e w =
      let v = value_of b (x ∷ xs) in
      let least : v < b ^ suc (length xs) = rw one-mul at (value-below b two 0 (x ∷ xs) e) in
      let few : digit_count b v ≤ suc (length xs) = digits-fewest v (suc (length xs)) (omega arith) least in
      let some-digit : 1 ≤ digit_count b v = digit-count-some v in
      let most : 0 < digit_of x → length xs < digit_count b v = λ d. no-fewer d in
      ⊎_elim (λ d. let m = most d in omega arith) (λ z. omega arith) w
    where
      no-fewer : 0 < digit_of x → length xs < digit_count b (value_from b (0 * b + digit_of x) xs)
      no-fewer d =
          let v = value_from b (0 * b + digit_of x) xs in
          let low = value-above (0 * b + digit_of x) xs in
          let once : 1 * b ^ length xs ≤ (0 * b + digit_of x) * b ^ length xs = mul-le-mul_right (b ^ length xs) (omega arith) in
          let enough = digits-suffice v in
          exponent-less (length xs) (digit_count b v) (omega (arith, one-mul (b ^ length xs)))

  pub fewest-of-value : (x : ℕ) (xs : List ℕ) → as_written b (x ∷ xs) ≡ true → (0 < digit_of x) ⊎ (length xs ≡ 0)
      → digits b (digit_count b (value_of b (x ∷ xs))) (value_of b (x ∷ xs)) ≡ x ∷ xs
  fewest-of-value x xs e w = rw (count-of-value x xs (written_all b (x ∷ xs) e) w) (digits-of-value b two (x ∷ xs) e)

  pub fewest-of-number : (m x : ℕ) (xs : List ℕ) → suc (length xs) ≤ m → as_written b (x ∷ xs) ≡ true → (0 < digit_of x) ⊎ (length xs ≡ 0)
      → digits b (digit_count b (number_of b m (x ∷ xs))) (number_of b m (x ∷ xs)) ≡ x ∷ xs
  fewest-of-number m x xs h e w =
      rw (number-is-value b m (x ∷ xs) (written-number b m (x ∷ xs) (omega arith) h e)) (fewest-of-value x xs e w)

-- a 64-bit number has at most 20 decimal digits, and what is written of it means the number
pub at-most-20 : (n : ℕ) → n < 2 ^ 64 → digit_count 10 n ≤ 20
at-most-20 n h = digits-fewest 10 (omega arith) n 20 (omega arith) (lt_of_lt_of_le h (omega arith))

pub decimal-of-fewest : (n : ℕ) → n < 2 ^ 64 → number_of 10 20 (digits 10 (digit_count 10 n) n) ≡ n
decimal-of-fewest n h = number-of-fewest 10 (omega arith) (omega arith) 20 n (omega arith) (lt_of_lt_of_le h (omega arith))
