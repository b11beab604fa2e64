-- The saved text of a machine, to the byte (docs/SAVED.md): the first line, the records, and the general event bytes.
use Rattle.std.specs.Prelude.{cond, List, ◌∷◌, ◌++◌, [], ℕ, ◌+◌, ◌/◌, min, leb, length, take, get_or, Result, Ok, Err}
use Prim.Native.String.{String}
use Rattle.std.proofs.lemmas.List.Edits.{sets}
use Rattle.text.specs.Numbers.{digits, digit_count}
use Rattle.text.specs.Parts.{tab, lf}
use Rattle.records.specs.Ascii.{ascii}
use Rattle.records.specs.Rows.{rows}
use Rattle.records.specs.Records.{records_text, records_length}
use Rattle.records.specs.Bytes.{bytes_text}
use Rattle.machine.specs.PowerOn.{gpe_bytes}
use Rattle.machine.specs.declared.Machine.{Machine}
use Rattle.values.specs.Values.{values_of}
use Rattle.saved.specs.declared.parts.Parts.{Parts}
use Rattle.saved.specs.declared.WriteRefusal.{WriteRefusal}
use Rattle.saved.specs.declared.WriteRefusal.TheVariants as refusal

-- the edition that writing gives
abbrev pub newest : ℕ
newest = 2

-- what a text says: the values of its records, and the general event bytes
abbrev pub parts : List ℕ → List ℕ → List ℕ → List ℕ → List ℕ → Parts
parts vs gpe0_sts gpe0_en gpe1_sts gpe1_en =
    record { values = vs; gpe0_sts = gpe0_sts; gpe0_en = gpe0_en; gpe1_sts = gpe1_sts; gpe1_en = gpe1_en }

-- "half as many bytes as the block's length record says, rounded down, and at most 8"
abbrev pub own_bytes : ℕ → ℕ
own_bytes length = min (length / 2) gpe_bytes

-- by the records GPE0_BLK_LEN and GPE1_BLK_LEN
abbrev pub own0 : List ℕ → ℕ
own0 vs = own_bytes (get_or vs 15 0)

abbrev pub own1 : List ℕ → ℕ
own1 vs = own_bytes (get_or vs 16 0)

-- "First line `edition` TAB N, N in decimal without leading zeros", without its LF
abbrev pub edition_line : ℕ → List ℕ
edition_line edition = ascii "edition" ++ (tab ∷ digits 10 (digit_count 10 edition) edition)

-- "two digits a byte, byte 0 first"
abbrev pub bytes_record : String → ℕ → List ℕ → List ℕ
bytes_record name own bytes = ascii name ++ (tab ∷ (bytes_text (take own bytes) ++ (lf ∷ [])))

-- "the four GPE records, the only ones of varying length, always stand last"
abbrev pub gpe_text : ℕ → ℕ → List ℕ → List ℕ → List ℕ → List ℕ → List ℕ
gpe_text own0 own1 gpe0_sts gpe0_en gpe1_sts gpe1_en =
    bytes_record "GPE0_STS" own0 gpe0_sts ++
    (bytes_record "GPE0_EN" own0 gpe0_en ++
    (bytes_record "GPE1_STS" own1 gpe1_sts ++
    bytes_record "GPE1_EN" own1 gpe1_en))

-- the text of an edition
abbrev pub text_of : ℕ → Parts → List ℕ
text_of edition p =
    edition_line edition ++
    (lf ∷
    (records_text edition rows p.values ++
    gpe_text (own0 p.values) (own1 p.values) p.gpe0_sts p.gpe0_en p.gpe1_sts p.gpe1_en))

-- where the records begin, past the first line; and the general event bytes, past the records
abbrev pub records_at : ℕ → ℕ
records_at edition = length (edition_line edition) + 1

abbrev pub gpe_at : ℕ → ℕ
gpe_at edition = records_at edition + records_length edition rows

-- what the text of a machine says
abbrev pub parts_of : Machine → Parts
parts_of m = parts (values_of m) m.gpe0_sts m.gpe0_en m.gpe1_sts m.gpe1_en

-- "Write machine and settings as text": any machine has one
unfoldable pub saved_text : Machine → List ℕ
saved_text m = text_of newest (parts_of m)

-- "43 no room in the lent buffer, given exactly when the text is longer than it"
abbrev pub write_answer : Machine → ℕ → Result ℕ WriteRefusal
write_answer m room = cond (leb (length (saved_text m)) room) (Ok (length (saved_text m))) (Err refusal.NoRoom)

-- "A refusal .. leaves every lent buffer untouched, and no writing touches bytes past its text."
abbrev pub written_buffer : Machine → List ℕ → List ℕ
written_buffer m buffer = cond (leb (length (saved_text m)) (length buffer)) (sets buffer 0 (saved_text m)) buffer
