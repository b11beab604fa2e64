-- What lies beyond a number's bits, or beyond a list's end, is nothing. Assumes nothing.
use mathlib.Core.Path.{◌≡◌, refl, sym, ◌∙◌}
use mathlib.Core.Bool.{false}
use mathlib.Core.List.{List, [], ◌∷◌}
use Prim.Native.Nat.{ℕ, zero, suc, ◌%◌, ◌^◌, ◌≤◌, ◌<◌}
use native.Mathlib.Nat.{lt_of_lt_of_le, one-mul, le_of_suc-le-suc, not-suc-le-zero, mod-mod}
use lib.Bits.{bit_and, and_comm, and_shifted, and_mask}
use lib.ListN.{length, get_or}
use lib.Pow.{pow_mono}
use Rattle.machine.specs.Status.{has_bit}

-- a register of 16 bits has no bit past them
apart : (mask n : ℕ) → mask < 2 ^ 16 → 16 ≤ n → bit_and mask (2 ^ n) ≡ 0
apart mask n h g = rw (and_comm mask (2 ^ n), ← one-mul (2 ^ n)) (and_shifted 1 n mask (lt_of_lt_of_le h (pow_mono g)))

pub bit-beyond : (mask n : ℕ) → mask < 2 ^ 16 → 16 ≤ n → has_bit mask (2 ^ n) ≡ false
unfolding has_bit
bit-beyond mask n h g = rw (apart mask n h g) refl

-- the ones of a byte are those of its low eight bits
pub low_ones : (written : ℕ) → bit_and (written % 2 ^ 8) 255 ≡ bit_and written 255
low_ones written = and_mask (written % 2 ^ 8) 8 ∙ mod-mod written (2 ^ 8) ∙ sym (and_mask written 8)

-- reading past the end gives zero (that writing there does nothing is the kit's `set_out`)
pub read-beyond : (bytes : List ℕ) (i : ℕ) → length bytes ≤ i → get_or bytes i 0 ≡ 0
read-beyond [] i h = refl
read-beyond (x ∷ xs) zero h = absurd (not-suc-le-zero h)
read-beyond (x ∷ xs) (suc i) h = read-beyond xs i (le_of_suc-le-suc h)
