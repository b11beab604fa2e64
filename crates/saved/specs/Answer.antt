-- The answers of writing and of reading a saved text: document 02's number and value for each.
use Rattle.std.specs.Prelude.{ℕ, ⊤, Result, Ok, Err}
use Rattle.saved.specs.declared.ReadRefusal.{ReadRefusal}
use Rattle.saved.specs.declared.ReadRefusal.TheVariants as reading
use Rattle.saved.specs.declared.WriteRefusal.{WriteRefusal}
use Rattle.saved.specs.declared.WriteRefusal.TheVariants as writing

-- "writing has only 43": "no room in the lent buffer"
abbrev pub written_number : Result ℕ WriteRefusal → ℕ
written_number (Ok length) = 0
written_number (Err writing.NoRoom) = 43

-- "The answer carries the text's length."
abbrev pub written_value : Result ℕ WriteRefusal → ℕ
written_value (Ok length) = length
written_value (Err writing.NoRoom) = 0

-- "40 first line no known edition, 41 malformed, missing or surplus line, 42 illegal setting or cell"
abbrev pub read_number : Result ⊤ ReadRefusal → ℕ
read_number (Ok done) = 0
read_number (Err reading.NoEdition) = 40
read_number (Err (reading.Malformed line)) = 41
read_number (Err (reading.Illegal clause)) = 42
read_number (Err (reading.Stray line)) = 42

-- success gives a machine, and no value beside it; the demands: "A refusal carries its number .. and value zero"
abbrev pub read_value : Result ⊤ ReadRefusal → ℕ
read_value (Ok done) = 0
read_value (Err reading.NoEdition) = 0
read_value (Err (reading.Malformed line)) = 0
read_value (Err (reading.Illegal clause)) = 0
read_value (Err (reading.Stray line)) = 0
