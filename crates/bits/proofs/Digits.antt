-- The digits of and, or, complement, shifts and single bits, and that numbers with the same digits are equal.
-- Each goes by one digit at a time: digit 0 is the rest by 2, and the others are those of the half.
-- Assumes nothing.
use mathlib.Core.Path.{◌≡◌, refl, sym, ◌∙◌}
use mathlib.Core.Logic.{◌≢◌}
use Prim.Native.Nat.{ℕ, zero, suc, ◌+◌, ◌-◌, ◌*◌, ◌/◌, ◌%◌, ◌^◌, ◌≤◌, ◌<◌, min, max}
use native.Mathlib.Nat.{not-suc-le-zero, le_of_suc-le-suc, zero-add, suc-add, add-zero, one-mul, mul-one, sub-zero, div-one}
use native.Mathlib.Decide.{dec_lt}
use native.Mathlib.Numerals.{one-add}
use native.Mathlib.Omega.{arith}
use lib.Arith.{bin_ind}
use lib.Pow.{pow_pos, pow-lt, shr-shr}
use lib.Bits.{bit_and, bit_or, and_step, or_step, and_shr, or_shr, shifted_half, shifted_even, and_mask}
use Rattle.bits.specs.Digit.{digit}

pub digit-le : (i a : ℕ) → digit i a ≤ 1
unfolding digit
digit-le zero a = omega arith
digit-le (suc i) a = digit-le i (a / 2)

pub digit-zero : (i : ℕ) → digit i 0 ≡ 0
unfolding digit
digit-zero zero = refl
digit-zero (suc i) = digit-zero i

pub digit_and : (i a b : ℕ) → digit i (bit_and a b) ≡ min (digit i a) (digit i b)
unfolding digit
digit_and zero a b = omega (arith, and_step a b)
digit_and (suc i) a b = rw (and_shr a b 1) (digit_and i (a / 2) (b / 2))

pub digit_or : (i a b : ℕ) → digit i (bit_or a b) ≡ max (digit i a) (digit i b)
unfolding digit
digit_or zero a b = omega (arith, or_step a b)
digit_or (suc i) a b = rw (or_shr a b 1) (digit_or i (a / 2) (b / 2))

-- the complement, below the width
pub digit_not : (k i a : ℕ) → a < 2 ^ k → i < k → digit i (2 ^ k - 1 - a) ≡ 1 - digit i a
unfolding digit
digit_not zero i a h l = absurd (not-suc-le-zero l)
digit_not (suc k) zero a h l = omega arith
digit_not (suc k) (suc i) a h l =
    let e : (2 ^ suc k - 1 - a) / 2 ≡ 2 ^ k - 1 - a / 2 = omega arith in
    rw e (digit_not k i (a / 2) (omega arith) (le_of_suc-le-suc l))

-- a number of k digits has no more
pub digit-beyond : (k i a : ℕ) → a < 2 ^ k → k ≤ i → digit i a ≡ 0
unfolding digit
digit-beyond zero i a h l =
    let e : a ≡ 0 = omega arith in
    rw e (digit-zero i)
digit-beyond (suc k) zero a h l = absurd (not-suc-le-zero l)
digit-beyond (suc k) (suc i) a h l = digit-beyond k i (a / 2) (omega arith) (le_of_suc-le-suc l)

-- shifted up by n: zeros below n, the number's own digits from there
pub digit-below-shift : (n i a : ℕ) → i < n → digit i (a * 2 ^ n) ≡ 0
unfolding digit
digit-below-shift zero i a l = absurd (not-suc-le-zero l)
digit-below-shift (suc n) zero a l = shifted_even a n
digit-below-shift (suc n) (suc i) a l = rw (shifted_half a n) (digit-below-shift n i a (le_of_suc-le-suc l))

pub digit-shifted : (n i a : ℕ) → digit (n + i) (a * 2 ^ n) ≡ digit i a
unfolding digit
digit-shifted zero i a = simp (zero-add, mul-one)
digit-shifted (suc n) i a = rw (suc-add n i, digit, shifted_half a n) (digit-shifted n i a)

-- shifted down by n
pub digit-shr : (n i a : ℕ) → digit i (a / 2 ^ n) ≡ digit (n + i) a
unfolding digit
digit-shr zero i a = simp (zero-add, div-one)
digit-shr (suc n) i a = rw (suc-add n i, ← one-add n, ← shr-shr a 1 n) (digit-shr n i (a / 2))

-- all ones below the width
pub digit_ones : (k i : ℕ) → i < k → digit i (2 ^ k - 1) ≡ 1
digit_ones k i l = simp (sub-zero, digit-zero) at (digit_not k i 0 (pow_pos k) l)

-- the low n digits
pub digit-mod : (n i a : ℕ) → i < n → digit i (a % 2 ^ n) ≡ digit i a
digit-mod n i a l = rw (← and_mask a n, digit_and, digit_ones n i l) (omega (arith, digit-le i a))

-- a single bit
pub digit-own-bit : (i : ℕ) → digit i (2 ^ i) ≡ 1
unfolding digit
digit-own-bit i = simp (add-zero, one-mul) at (digit-shifted i 0 1)

-- a number below the width, and one from the width on
pub below-or-beyond : {P : Type 0} (i k : ℕ) → (i < k → P) → (k ≤ i → P) → P
below-or-beyond {P} i k f g = pick (dec_lt i k)
  where
    pick : Dec (i < k) → P
    pick (yes l) = f l
    pick (no n) = g (omega arith)

pub digit-other-bit : (i j : ℕ) → i ≢ j → digit i (2 ^ j) ≡ 0
digit-other-bit i j n =
    below-or-beyond i j (λ l. simp one-mul at (digit-below-shift j i 1 l)) (λ l. digit-beyond (suc j) i (2 ^ j) (pow-lt (omega arith)) (omega arith))

-- numbers with the same digits are equal
pub same_digits : (a b : ℕ) → ((i : ℕ) → digit i a ≡ digit i b) → a ≡ b
unfolding digit
same_digits =
    bin_ind (λ (a : ℕ). (b : ℕ) → ((i : ℕ) → digit i a ≡ digit i b) → a ≡ b)
    (bin_ind (λ (b : ℕ). ((i : ℕ) → digit i 0 ≡ digit i b) → 0 ≡ b) (λ h. refl) (λ b ih h. omega (arith, ih (λ i. h (suc i)), h 0)))
    (λ a ih b h. omega (arith, ih (b / 2) (λ i. h (suc i)), h 0))

-- numbers below the width need the same digits only there
pub same-digits-below : (k : ℕ) {a b : ℕ} → a < 2 ^ k → b < 2 ^ k → ((i : ℕ) → i < k → digit i a ≡ digit i b) → a ≡ b
same-digits-below k {a} {b} ha hb h =
    same_digits a b (λ i. below-or-beyond i k (h i) (λ l. digit-beyond k i a ha l ∙ sym (digit-beyond k i b hb l)))
