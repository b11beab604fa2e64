-- The definitions at worked values. By computation. Assumes nothing.
use mathlib.Core.Path.{◌≡◌, refl}
use mathlib.Core.Bool.{false}
use mathlib.Core.List.{[], ◌∷◌}
use Rattle.text.specs.Numbers.{digit_of, glyph, value_from, all_digits, is_number, number_of, digits, count_within, digit_count}
use Rattle.text.specs.Parts.{on_first, cut, fields_of, lines_of}

-- `e1` and `E1` are 225, `7g` is no number
pub hex-e1 : number_of 16 16 (101 ∷ 49 ∷ []) ≡ 225
unfolding number_of is_number all_digits digit_of value_from
hex-e1 = refl

pub hex-E1 : number_of 16 16 (69 ∷ 49 ∷ []) ≡ 225
unfolding number_of is_number all_digits digit_of value_from
hex-E1 = refl

pub hex-7g : is_number 16 16 (55 ∷ 103 ∷ []) ≡ false
unfolding is_number all_digits digit_of
hex-7g = refl

-- an empty text is no number, nor is `A` in decimal
pub hex-empty : is_number 16 16 [] ≡ false
unfolding is_number
hex-empty = refl

pub decimal-A : is_number 10 20 (65 ∷ []) ≡ false
unfolding is_number all_digits digit_of
decimal-A = refl

-- the largest number of 64 bits, in its 20 digits
pub decimal-top : number_of 10 20 (digits 10 20 18446744073709551615) ≡ 18446744073709551615
unfolding number_of is_number all_digits digit_of value_from digits glyph
decimal-top = refl

-- 0400, and 1024
pub written-0400 : digits 16 4 1024 ≡ 48 ∷ 52 ∷ 48 ∷ 48 ∷ []
unfolding digits glyph
written-0400 = refl

pub written-1024 : digits 10 4 1024 ≡ 49 ∷ 48 ∷ 50 ∷ 52 ∷ []
unfolding digits glyph
written-1024 = refl

-- the fewest digits of 0, of 255 in hex, and of 1000
pub digits-of-0 : digit_count 16 0 ≡ 1
unfolding digit_count count_within
digits-of-0 = refl

pub digits-of-255 : digit_count 16 255 ≡ 2
unfolding digit_count count_within
digits-of-255 = refl

pub digits-of-1000 : digit_count 10 1000 ≡ 4
unfolding digit_count count_within
digits-of-1000 = refl

-- `a`, tab, tab, `b`: three fields, the second empty
pub field-empty : fields_of (97 ∷ 9 ∷ 9 ∷ 98 ∷ []) ≡ (97 ∷ []) ∷ [] ∷ (98 ∷ []) ∷ []
unfolding cut on_first
field-empty = refl

-- `a`, LF, `b`, and the same ended by LF: two lines; a text of one LF: one line, empty
pub lines-unended : lines_of (97 ∷ 10 ∷ 98 ∷ []) ≡ (97 ∷ []) ∷ (98 ∷ []) ∷ []
unfolding cut on_first
lines-unended = refl

pub lines-ended : lines_of (97 ∷ 10 ∷ 98 ∷ 10 ∷ []) ≡ (97 ∷ []) ∷ (98 ∷ []) ∷ []
unfolding cut on_first
lines-ended = refl

pub line-blank : lines_of (10 ∷ []) ≡ [] ∷ []
unfolding cut
line-blank = refl
