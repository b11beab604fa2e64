-- And and or: associativity, distribution and absorption, and numbers with no bit in common.
-- Each law holds digit by digit, where and is the smaller digit and or the larger.
-- Assumes nothing.
use mathlib.Core.Path.{◌≡◌, ap, ◌∙◌, sym}
use Prim.Native.Nat.{ℕ, min}
use native.Mathlib.Omega.{arith}
use lib.Bits.{bit_and, bit_or}
use Rattle.bits.specs.Digit.{digit}
use Rattle.bits.proofs.Digits.{digit_and, digit_or, digit-zero, same_digits}

pub and_assoc : (a b c : ℕ) → bit_and (bit_and a b) c ≡ bit_and a (bit_and b c)
and_assoc a b c = same_digits _ _ (λ i. simp digit_and (omega arith))

pub or_assoc : (a b c : ℕ) → bit_or (bit_or a b) c ≡ bit_or a (bit_or b c)
or_assoc a b c = same_digits _ _ (λ i. simp digit_or (omega arith))

-- the order of two masks is free
pub and-swap : (a b c : ℕ) → bit_and (bit_and a b) c ≡ bit_and (bit_and a c) b
and-swap a b c = same_digits _ _ (λ i. simp digit_and (omega arith))

pub or_swap : (a b c : ℕ) → bit_or (bit_or a b) c ≡ bit_or (bit_or a c) b
or_swap a b c = same_digits _ _ (λ i. simp digit_or (omega arith))

pub and-over-or : (a b c : ℕ) → bit_and a (bit_or b c) ≡ bit_or (bit_and a b) (bit_and a c)
and-over-or a b c = same_digits _ _ (λ i. simp (digit_and, digit_or) (omega arith))

pub or-over-and : (a b c : ℕ) → bit_or a (bit_and b c) ≡ bit_and (bit_or a b) (bit_or a c)
or-over-and a b c = same_digits _ _ (λ i. simp (digit_and, digit_or) (omega arith))

-- a mask on an or is the mask on each
pub masked-or : (a b m : ℕ) → bit_and (bit_or a b) m ≡ bit_or (bit_and a m) (bit_and b m)
masked-or a b m = same_digits _ _ (λ i. simp (digit_and, digit_or) (omega arith))

-- a mask twice is the mask once
pub masked-twice : (a m : ℕ) → bit_and (bit_and a m) m ≡ bit_and a m
masked-twice a m = same_digits _ _ (λ i. simp digit_and (omega arith))

pub and-absorbs-or : (a b : ℕ) → bit_and a (bit_or a b) ≡ a
and-absorbs-or a b = same_digits _ _ (λ i. simp (digit_and, digit_or) (omega arith))

pub or-absorbs-and : (a b : ℕ) → bit_or a (bit_and a b) ≡ a
or-absorbs-and a b = same_digits _ _ (λ i. simp (digit_and, digit_or) (omega arith))

-- no bit in common: at each digit one of the two is zero
pub disjoint-digit : (a b : ℕ) → bit_and a b ≡ 0 → (i : ℕ) → min (digit i a) (digit i b) ≡ 0
disjoint-digit a b e i = sym (digit_and i a b) ∙ ap (digit i) e ∙ digit-zero i
