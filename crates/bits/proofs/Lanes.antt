-- A byte access touches its byte alone, and there it is the rule on bytes; a word access is its two byte accesses.
-- The mask of a byte access has ones in its own lane only, and a word's mask is the union of its two lanes.
-- Assumes nothing.
use mathlib.Core.Path.{◌≡◌, sym, ap, ◌∙◌}
use mathlib.Core.Logic.{◌≢◌}
use Prim.Native.Nat.{ℕ, ◌+◌, ◌*◌, ◌/◌, ◌%◌, ◌^◌, ◌≤◌, ◌<◌}
use native.Mathlib.Nat.{lt_of_lt_of_le, mod-lt, mod-eq_of_lt}
use native.Mathlib.Omega.{arith}
use lib.Dec.{lit<, lit≤}
use lib.Pow.{pow_mono, shl_lt, shl-shr, high_ones}
use lib.Bits.{bit_and, bit_or, and_high, and_mask}
use Rattle.bits.specs.Digit.{digit}
use Rattle.bits.specs.Writes.{cleared_by, taken_by, lane, lane_mask, byte_at, cleared_byte, taken_byte}
use Rattle.bits.proofs.Digits.{digit-le, digit_and, digit-below-shift, digit-shifted, digit-shr, digit-mod, digit_ones, digit-beyond, below-or-beyond, same-digits-below}
use Rattle.bits.proofs.Algebra.{and_assoc, and-swap, and-over-or}
use Rattle.bits.proofs.Writes.{masked-lt, kept-lt, take-lt, digit-cleared, digit-taken, clears-join, takes-join}

-- ---- bytes and lanes

pub byte-lt : (i v : ℕ) → byte_at i v < 256
byte-lt i v = mod-lt _ (lit< tt)

-- digit n of byte i
pub digit-byte : (i n v : ℕ) → n < 8 → digit n (byte_at i v) ≡ digit (8 * i + n) v
digit-byte i n v l = digit-mod 8 n (v / 2 ^ (8 * i)) l ∙ digit-shr (8 * i) n v

-- the ones of lane i show byte i at its place
pub lane-shows-byte : (i v : ℕ) → bit_and v (lane i 255) ≡ lane i (byte_at i v)
lane-shows-byte i v = ap (bit_and v) (sym (high_ones 8 (8 * i))) ∙ and_high v 8 (8 * i)

-- a lane that lies in a register of k bits
pub lane_mask-lt : (k i m : ℕ) → 8 * i + 8 ≤ k → lane_mask i m < 2 ^ k
lane_mask-lt k i m f = masked-lt k m (lane i 255) (lt_of_lt_of_le (shl_lt {a = 255} 8 (8 * i) (lit< tt)) (pow_mono (omega arith)))

-- in its own lane the mask is as it was
digit-own-lane : (i n m : ℕ) → n < 8 → digit (8 * i + n) (lane_mask i m) ≡ digit (8 * i + n) m
digit-own-lane i n m l =
    rw (digit_and, digit-shifted (8 * i) n 255, digit_ones 8 n l) (omega (arith, digit-le (8 * i + n) m))

-- in any other it has no bit
digit-other-lane : (i j n m : ℕ) → i ≢ j → n < 8 → digit (8 * j + n) (lane_mask i m) ≡ 0
digit-other-lane i j n m d l = rw (digit_and, none) (omega arith)
  where
    none : digit (8 * j + n) (lane i 255) ≡ 0
    none =
        below-or-beyond (8 * j + n) (8 * i) (λ b. digit-below-shift (8 * i) (8 * j + n) 255 b)
        (λ b. digit-beyond (8 + 8 * i) (8 * j + n) (lane i 255) (shl_lt {a = 255} 8 (8 * i) (lit< tt)) (omega arith))

-- ---- a byte access

module _ (k i old byte mask : ℕ) (fits : 8 * i + 8 ≤ k) where
  -- in its own byte it is the rule on bytes
  pub clear-byte-own : byte_at i (cleared_byte k i old byte mask) ≡ cleared_by 8 (byte_at i old) byte (byte_at i mask)
  clear-byte-own =
      same-digits-below 8 (byte-lt i (cleared_byte k i old byte mask)) (kept-lt 8 (byte_at i old) (bit_and byte (byte_at i mask)))
      (λ n l. rw (
        digit-byte i n (cleared_byte k i old byte mask) l,
        digit-cleared k (8 * i + n) old (lane i byte) (lane_mask i mask) (lane_mask-lt k i mask fits) (omega arith),
        digit-shifted (8 * i) n byte,
        digit-own-lane i n mask l,
        digit-cleared 8 n (byte_at i old) byte (byte_at i mask) (byte-lt i mask) l,
        digit-byte i n old l,
        digit-byte i n mask l,
      ))

  pub take-byte-own : byte_at i (taken_byte k i old byte mask) ≡ taken_by 8 (byte_at i old) byte (byte_at i mask)
  take-byte-own =
      same-digits-below 8 (byte-lt i (taken_byte k i old byte mask)) (take-lt 8 (byte_at i old) byte (byte_at i mask) (byte-lt i mask))
      (λ n l. rw (
        digit-byte i n (taken_byte k i old byte mask) l,
        digit-taken k (8 * i + n) old (lane i byte) (lane_mask i mask) (lane_mask-lt k i mask fits) (omega arith),
        digit-shifted (8 * i) n byte,
        digit-own-lane i n mask l,
        digit-taken 8 n (byte_at i old) byte (byte_at i mask) (byte-lt i mask) l,
        digit-byte i n old l,
        digit-byte i n mask l,
      ))

  -- any other byte stays
  module _ (j : ℕ) (other : i ≢ j) (in-it : 8 * j + 8 ≤ k) where
    pub clear-byte-other : byte_at j (cleared_byte k i old byte mask) ≡ byte_at j old
    clear-byte-other =
        same-digits-below 8 (byte-lt j (cleared_byte k i old byte mask)) (byte-lt j old)
        (λ n l. rw (
          digit-byte j n (cleared_byte k i old byte mask) l,
          digit-byte j n old l,
          digit-cleared k (8 * j + n) old (lane i byte) (lane_mask i mask) (lane_mask-lt k i mask fits) (omega arith),
          digit-other-lane i j n mask other l,
        )
        (omega (arith, digit-le (8 * j + n) old)))

    pub take-byte-other : byte_at j (taken_byte k i old byte mask) ≡ byte_at j old
    take-byte-other =
        same-digits-below 8 (byte-lt j (taken_byte k i old byte mask)) (byte-lt j old)
        (λ n l. rw (
          digit-byte j n (taken_byte k i old byte mask) l,
          digit-byte j n old l,
          digit-taken k (8 * j + n) old (lane i byte) (lane_mask i mask) (lane_mask-lt k i mask fits) (omega arith),
          digit-other-lane i j n mask other l,
        )
        (omega (arith, digit-le (8 * j + n) old)))

-- ---- a word access

-- a byte of the written word, through its lane of the mask, is the word through it
pub byte-of-word : (i byte w m : ℕ) → byte % 256 ≡ byte_at i w → bit_and (lane i byte) (lane_mask i m) ≡ bit_and w (lane_mask i m)
byte-of-word i byte w m e =
    by-lane (lane i byte) ∙ ap (λ (x : ℕ). bit_and (lane i (x % 256)) m) (shl-shr byte (8 * i)) ∙ ap (λ (x : ℕ). bit_and (lane i x) m) e ∙ sym (by-lane w)
  where
    by-lane : (v : ℕ) → bit_and v (lane_mask i m) ≡ bit_and (lane i (byte_at i v)) m
    by-lane v = sym (and_assoc v m _) ∙ and-swap v m _ ∙ ap (λ (x : ℕ). bit_and x m) (lane-shows-byte i v)

-- a word's mask is that of its two bytes
pub two_lanes : (m : ℕ) → m < 2 ^ 16 → bit_or (lane_mask 0 m) (lane_mask 1 m) ≡ m
two_lanes m h = sym (and-over-or m 255 65280) ∙ and_mask m 16 ∙ mod-eq_of_lt h

module _ (old w m : ℕ) (h : m < 2 ^ 16) where
  pub clear-word : cleared_by 16 old w m ≡ cleared_byte 16 1 (cleared_byte 16 0 old (w % 256) m) (w / 256) m
  clear-word =
      rw (byte-of-word 0 (w % 256) w m (omega arith), byte-of-word 1 (w / 256) w m (omega arith))
      (sym (clears-join 16 old w (lane_mask 0 m) (lane_mask 1 m) (lane_mask-lt 16 0 m (lit≤ tt)) (lane_mask-lt 16 1 m (lit≤ tt))
      ∙ ap (cleared_by 16 old w) (two_lanes m h)))

  pub take-word : taken_by 16 old w m ≡ taken_byte 16 1 (taken_byte 16 0 old (w % 256) m) (w / 256) m
  take-word =
      rw (byte-of-word 0 (w % 256) w m (omega arith), byte-of-word 1 (w / 256) w m (omega arith))
      (sym (takes-join 16 old w (lane_mask 0 m) (lane_mask 1 m) (lane_mask-lt 16 0 m (lit≤ tt)) (lane_mask-lt 16 1 m (lit≤ tt))
      ∙ ap (taken_by 16 old w) (two_lanes m h)))
