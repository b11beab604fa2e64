-- The definitions at worked values, as they stand in a saved text. By computation. Assumes nothing.
use mathlib.Core.List.{List, [], ◌∷◌}
use mathlib.Core.Path.{◌≡◌, refl}
use Rattle.text.specs.Numbers.{digits, glyph, digit_of, value_from, all_digits, is_number, number_of}
use Rattle.records.specs.Ascii.{ascii}
use Rattle.records.specs.Rows.{Row, hex, flag, command, added, row}
use Rattle.records.specs.Records.{command_of, formed, record_text, records_text, value_in, values_in}
use Rattle.records.specs.Bytes.{bytes_text, bytes_in}

pub address-b2 : record_text (row "SMI_CMD" hex 16) 0xB2 ≡ ascii "SMI_CMD\t00000000000000B2\n"
unfolding ascii digits glyph formed
address-b2 = refl

-- a flag is 0 or 1: of 2 it is 0
pub flag-1 : record_text (row "BUTTON" flag 1) 1 ≡ ascii "BUTTON\t1\n"
unfolding ascii digits glyph formed
flag-1 = refl

pub flag-2 : record_text (row "BUTTON" flag 1) 2 ≡ ascii "BUTTON\t0\n"
unfolding ascii digits glyph formed
flag-2 = refl

-- the command A0 waits, and none
pub command-a0 : record_text (row "COMMAND" command 3) 0x1A0 ≡ ascii "COMMAND\t1A0\n"
unfolding ascii digits glyph formed command_of
command-a0 = refl

pub command-none : record_text (row "COMMAND" command 3) 0xA0 ≡ ascii "COMMAND\t000\n"
unfolding ascii digits glyph formed command_of
command-none = refl

-- a value is read by its place: the pair of S3; no number; a text that ends too early
pub pair-0505 : value_in (row "S3" hex 4) (ascii "S3\t0505\n") ≡ 0x0505
unfolding ascii digit_of value_from all_digits is_number number_of
pair-0505 = refl

pub pair-none : value_in (row "S3" hex 4) (ascii "S3\t05G5\n") ≡ 0
unfolding ascii digit_of value_from all_digits is_number number_of
pair-none = refl

pub pair-short : value_in (row "S3" hex 4) (ascii "S3\t05") ≡ 0x05
unfolding ascii digit_of value_from all_digits is_number number_of
pair-short = refl

-- a second edition adds WAKE, at 5: the text of each edition, and a text of the first read with WAKE at its power-on setting
abbrev two : List Row
two = row "STATE" hex 1 ∷ added "WAKE" hex 2 2 5 ∷ []

pub text-1 : records_text 1 two (3 ∷ 9 ∷ []) ≡ ascii "STATE\t3\n"
unfolding ascii digits glyph formed records_text
text-1 = refl

pub text-2 : records_text 2 two (3 ∷ 9 ∷ []) ≡ ascii "STATE\t3\nWAKE\t09\n"
unfolding ascii digits glyph formed records_text
text-2 = refl

pub older-text : values_in 1 two (ascii "STATE\t3\n") ≡ 3 ∷ 5 ∷ []
unfolding ascii digit_of value_from all_digits is_number number_of values_in
older-text = refl

pub newer-text : values_in 2 two (ascii "STATE\t3\nWAKE\t09\n") ≡ 3 ∷ 9 ∷ []
unfolding ascii digit_of value_from all_digits is_number number_of values_in
newer-text = refl

-- two general event bytes, written and read into four
pub bytes-800f : bytes_text (0x80 ∷ 0x0F ∷ []) ≡ ascii "800F"
unfolding ascii digits glyph bytes_text
bytes-800f = refl

pub bytes_read : bytes_in 4 2 (ascii "800F\n") ≡ 0x80 ∷ 0x0F ∷ 0 ∷ 0 ∷ []
unfolding ascii digit_of value_from all_digits is_number number_of bytes_in
bytes_read = refl
