-- The fields of a line. Quotations are from docs/SCRIPT.md.
use Rattle.std.specs.Prelude.{Bool, Option, Some, None, cond, ◌&&◌, List, [], ℕ, ltb, get_or}
use Rattle.text.specs.Numbers.{is_number, number_of}
use Rattle.text.specs.Parts.{fields_of}

-- "Fields are parted by exactly one tab.": field n, counted from 0
abbrev pub field_at : List ℕ → ℕ → List ℕ
field_at line n = get_or (fields_of line) n []

-- "A number is 1 to 16 hex digits, upper or lower case"
abbrev pub is_hex_at : List ℕ → ℕ → Bool
is_hex_at line n = is_number 16 16 (field_at line n)

abbrev pub hex_at : List ℕ → ℕ → ℕ
hex_at line n = number_of 16 16 (field_at line n)

-- a number below the limit
unfoldable pub is_below : ℕ → List ℕ → Bool
is_below limit digits = is_number 16 16 digits && ltb (number_of 16 16 digits) limit

-- the number, where it is below the limit
unfoldable pub number_below : ℕ → List ℕ → Option ℕ
number_below limit digits = cond (is_below limit digits) (Some (number_of 16 16 digits)) None

abbrev pub hex_below : ℕ → List ℕ → ℕ → Bool
hex_below limit line n = is_below limit (field_at line n)
