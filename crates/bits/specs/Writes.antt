-- The two cell rules, over the width k of a register, and the bytes of a register. The mask holds the bits that a write may touch.
use Rattle.std.specs.Prelude.{Bool, ℕ, ◌-◌, ◌*◌, ◌/◌, ◌%◌, ◌^◌, eqb}
use Rattle.std.specs.Int.Bits.{bit_and, bit_or}

-- old without the bits of gone
abbrev pub kept : ℕ → ℕ → ℕ → ℕ
kept k old gone = bit_and old (2 ^ k - 1 - gone)

-- "Writing one to a status bit clears it; writing zero keeps it."
abbrev pub cleared_by : ℕ → ℕ → ℕ → ℕ → ℕ
cleared_by k old written mask = kept k old (bit_and written mask)

-- "An enable bit takes the value written."
abbrev pub taken_by : ℕ → ℕ → ℕ → ℕ → ℕ
taken_by k old written mask = bit_or (kept k old mask) (bit_and written mask)

-- a byte at its place in the register
abbrev pub lane : ℕ → ℕ → ℕ
lane i v = v * 2 ^ (8 * i)

-- the bits of m that lie in byte i
abbrev pub lane_mask : ℕ → ℕ → ℕ
lane_mask i m = bit_and m (lane i 255)

-- byte i of a register
abbrev pub byte_at : ℕ → ℕ → ℕ
byte_at i v = v / 2 ^ (8 * i) % 256

-- "A byte access touches that byte alone."
abbrev pub cleared_byte : ℕ → ℕ → ℕ → ℕ → ℕ → ℕ
cleared_byte k i old byte mask = cleared_by k old (lane i byte) (lane_mask i mask)

abbrev pub taken_byte : ℕ → ℕ → ℕ → ℕ → ℕ → ℕ
taken_byte k i old byte mask = taken_by k old (lane i byte) (lane_mask i mask)

-- no bit of x lies outside the mask
unfoldable pub within : ℕ → ℕ → Bool
within mask x = eqb (bit_and x mask) x
