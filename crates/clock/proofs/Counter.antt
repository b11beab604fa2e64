-- The counter, of any number of bits. Its size is two halves, so advancing modulo the size keeps the quotient by a half modulo 2,
-- the top bit, and a tick turns that bit exactly if the count passes a multiple of half.
-- Assumes nothing.
use Prim.Native.Nat.{ℕ, zero, suc, ◌+◌, ◌-◌, ◌*◌, ◌/◌, ◌%◌, ◌^◌, ◌≤◌, ◌<◌}
use mathlib.Core.Path.{◌≡◌, refl, ◌∙◌, ap}
use mathlib.Core.Bool.{Bool, true, false, cond}
use native.Mathlib.Nat.{mod-add-mod, mod-mod, add-div_right, add-mul-div_right, add-zero, add_assoc, sub_self}
use native.Mathlib.Omega.{arith}
use borrow.Author.Tests.{eqb-true, eqb-false, ne_eqb}
use lib.Dec.{eqb, eqb-suc-zero}
use lib.Pow.{field, shr_mono, pow_pos}
use Rattle.clock.specs.Clock.{counter_bits, advance, top_bit, turned}
use Rattle.clock.specs.AtOnce.{counter_after, turns_in}

pub some_bits : (wide : Bool) → 0 < counter_bits wide
some_bits true = omega arith
some_bits false = omega arith

pub half-of-size : (wide : Bool) → 2 ^ counter_bits wide / 2 ≡ 2 ^ (counter_bits wide - 1)
half-of-size true = refl
half-of-size false = refl

-- ---- turns of a count

pub turns-in-none : (k c : ℕ) → turns_in k c 0 ≡ 0
unfolding turns_in
turns-in-none k c = rw (add-zero, sub_self)

pub turns-in-add : (k c m n : ℕ) → turns_in k c m + turns_in k (c + m) n ≡ turns_in k c (m + n)
unfolding turns_in
turns-in-add k c m n =
    let l : c / 2 ^ (k - 1) ≤ (c + m) / 2 ^ (k - 1) = shr_mono (k - 1) (omega arith) in
    let h : (c + m) / 2 ^ (k - 1) ≤ (c + m + n) / 2 ^ (k - 1) = shr_mono (k - 1) (omega arith) in
    rw (← add_assoc) (omega arith)

pub turns-in-at-most : (k c n m : ℕ) → n ≤ m * 2 ^ (k - 1) → turns_in k c n ≤ m
unfolding turns_in
turns-in-at-most k c n m h =
    let l : (c + n) / 2 ^ (k - 1) ≤ (c + m * 2 ^ (k - 1)) / 2 ^ (k - 1) = shr_mono (k - 1) (omega arith) in
    omega (arith, add-mul-div_right c m (pow_pos (k - 1)))

-- of a number and itself or the next: 1 where their parities differ
parity : (x y : ℕ) → x ≤ y → y ≤ x + 1 → (b : Bool) → eqb (y % 2) (x % 2) ≡ b → cond b 0 1 ≡ y - x
parity x y l h true e = omega (arith, eqb-true (y % 2) (x % 2) e)
parity x y l h false e = omega (arith, eqb-false (y % 2) (x % 2) e)

-- ---- turns of the counter

module _ (k : ℕ) (some : 0 < k) where
  -- the counter's top bit is that of the count, however often it has come around
  pub top-bit-wrapped : (c : ℕ) → top_bit k (c % 2 ^ k) ≡ top_bit k c
  top-bit-wrapped c =
      let e : k ≡ 1 + (k - 1) = omega arith in
      ap (λ (j : ℕ). c % 2 ^ j / 2 ^ (k - 1) % 2) e ∙ ap (λ (x : ℕ). x % 2) (field c 1 (k - 1)) ∙ mod-mod (c / 2 ^ (k - 1)) 2

  turned-wrapped : (c : ℕ) → turned k (c % 2 ^ k) ≡ turned k c
  unfolding turned
  turned-wrapped c = rw (top-bit-wrapped c, mod-add-mod c (2 ^ k) 1)

  turned-after : (c n : ℕ) → turned k (counter_after k c n) ≡ turned k (c + n)
  unfolding counter_after
  turned-after c zero = rw add-zero
  turned-after c (suc n) = rw (eqb-suc-zero n) (turned-wrapped (c + suc n))

  pub turned-is-turns-in-one : (c : ℕ) → turned k c ≡ turns_in k c 1
  unfolding turned turns_in
  turned-is-turns-in-one c =
      let l : c / 2 ^ (k - 1) ≤ (c + 1) / 2 ^ (k - 1) = shr_mono (k - 1) (omega arith) in
      let h : (c + 1) / 2 ^ (k - 1) ≤ (c + 2 ^ (k - 1)) / 2 ^ (k - 1) = shr_mono (k - 1) (omega (arith, pow_pos (k - 1))) in
      rw (top-bit-wrapped (c + 1)) (parity _ _ l (omega (arith, add-div_right c (pow_pos (k - 1)))) _ refl)

  -- ---- one more tick

  pub turns_next : (c n : ℕ) → turns_in k c n + turned k (counter_after k c n) ≡ turns_in k c (n + 1)
  turns_next c n = rw (turned-after, turned-is-turns-in-one, turns-in-add)

pub counter_next : (k c n : ℕ) → advance k (counter_after k c n) ≡ counter_after k c (n + 1)
unfolding counter_after
counter_next k c zero = refl
counter_next k c (suc n) =
    let e : eqb (suc n + 1) 0 ≡ false = ne_eqb (suc n + 1) 0 (λ z. omega arith) in
    rw (eqb-suc-zero n, e, mod-add-mod, add_assoc)
