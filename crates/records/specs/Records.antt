-- The records of the saved text: one a line, `NAME`, a tab and the value; written from a list of values, and read back by their places.
use Rattle.std.specs.Prelude.{Bool, true, false, cond, List, [], ◌∷◌, ◌++◌, ◌≡◌, ℕ, ◌+◌, ◌/◌, ◌%◌, ◌^◌, ◌<◌, eqb, leb, length, take, drop, get_or}
use Rattle.text.specs.Numbers.{digits, number_of}
use Rattle.text.specs.Parts.{tab, lf}
use Rattle.records.specs.Rows.{Row}
use Rattle.records.specs.declared.table.Form.{Form}
use Rattle.records.specs.declared.table.Form.TheVariants.{Hex, Flag, Command}

-- a waiting command: none, or 1 and the byte
unfoldable pub command_of : ℕ → ℕ
command_of v = cond (eqb (v / 2 ^ 8 % 2) 1) (2 ^ 8 + v % 2 ^ 8) 0

-- what a form writes of a value
unfoldable pub formed : Form → ℕ → ℕ
formed Hex v = v
formed Flag v = v % 2
formed Command v = command_of v

-- a record: its name, a tab, its digits and LF
abbrev pub record_text : Row → ℕ → List ℕ
record_text r v = r.name ++ (tab ∷ (digits 16 r.width (formed r.form v) ++ (lf ∷ [])))

-- an edition has the record
abbrev pub is_in : ℕ → Row → Bool
is_in edition r = leb r.since edition

-- what an edition's text has of a row
abbrev pub text_in : ℕ → Row → ℕ → List ℕ
text_in edition r v = cond (is_in edition r) (record_text r v) []

-- the records that an edition has of some rows, each with its value
unfoldable pub records_text : ℕ → List Row → List ℕ → List ℕ
records_text edition [] vs = []
records_text edition (r ∷ rs) vs = text_in edition r (get_or vs 0 0) ++ records_text edition rs (drop 1 vs)

-- the bytes that a record takes, and those that some rows take in an edition
abbrev pub record_length : Row → ℕ
record_length r = length r.name + 1 + r.width + 1

abbrev pub length_in : ℕ → Row → ℕ
length_in edition r = cond (is_in edition r) (record_length r) 0

unfoldable pub records_length : ℕ → List Row → ℕ
records_length edition [] = 0
records_length edition (r ∷ rs) = length_in edition r + records_length edition rs

-- the value that stands where the record's digits would; 0 where no number does
abbrev pub value_in : Row → List ℕ → ℕ
value_in r xs = number_of 16 16 (take r.width (drop (length r.name + 1) xs))

-- what a row reads as in an edition's text; "an older text reads with the added record at its power-on setting"
abbrev pub read_in : ℕ → Row → List ℕ → ℕ
read_in edition r xs = cond (is_in edition r) (value_in r xs) r.initial

-- the values of some rows in a text of an edition, whatever the text is
unfoldable pub values_in : ℕ → List Row → List ℕ → List ℕ
values_in edition [] xs = []
values_in edition (r ∷ rs) xs = read_in edition r xs ∷ values_in edition rs (drop (length_in edition r) xs)

-- a value fits a row: it has no more digits than the row, and the row's form writes it as it is
abbrev pub Fits : Row → ℕ → Type 0
Fits r v = (v < 16 ^ r.width) × (formed r.form v ≡ v)

-- each value fits its row, or is the power-on setting where the edition does not have the row
unfoldable pub AllFit : ℕ → List Row → List ℕ → Type 0
AllFit edition [] vs = Unit {0}
AllFit edition (r ∷ rs) vs =
    (is_in edition r ≡ true → Fits r (get_or vs 0 0)) × (is_in edition r ≡ false → get_or vs 0 0 ≡ r.initial) × AllFit edition rs (drop 1 vs)
