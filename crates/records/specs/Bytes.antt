-- The value of a record of general event bytes: two upper case hex digits a byte, byte 0 first.
use Rattle.std.specs.Prelude.{cond, List, [], ◌∷◌, ◌++◌, ℕ, zero, suc, ◌-◌, ◌^◌, ◌<◌, ltb, take, drop}
use Rattle.text.specs.Numbers.{digits, number_of}

-- the digits of some bytes
unfoldable pub bytes_text : List ℕ → List ℕ
bytes_text [] = []
bytes_text (b ∷ bs) = digits 16 2 b ++ bytes_text bs

-- the byte whose digits stand first; 0 where no number does
abbrev pub byte_in : List ℕ → ℕ
byte_in xs = number_of 16 16 (take 2 xs)

-- `most` bytes: the first `count` of them as they stand in a text, whatever it is, and 0 past these
unfoldable pub bytes_in : ℕ → ℕ → List ℕ → List ℕ
bytes_in zero count xs = []
bytes_in (suc most) count xs = cond (ltb 0 count) (byte_in xs) 0 ∷ bytes_in most (count - 1) (drop 2 xs)

-- each is a byte
unfoldable pub AllBytes : List ℕ → Type 0
AllBytes [] = Unit {0}
AllBytes (b ∷ bs) = (b < 2 ^ 8) × AllBytes bs
