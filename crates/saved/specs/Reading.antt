-- A saved text read: "A text is accepted exactly if it is well formed and legal".
use Rattle.std.specs.Prelude.{Bool, true, false, cond, ◌&&◌, List, ℕ, zero, suc, ◌+◌, ◌*◌, eqb, length, take, drop, ⊤, Result, Ok, Err, is_ok}
use Prim.Native.String.{String}
use Rattle.text.specs.Parts.{lf, front, same_text, parts as parts_by}
use Rattle.records.specs.Ascii.{ascii}
use Rattle.records.specs.Rows.{rows}
use Rattle.records.specs.Records.{values_in}
use Rattle.records.specs.Bytes.{bytes_in}
use Rattle.machine.specs.PowerOn.{gpe_bytes, all_zero}
use Rattle.machine.specs.declared.Machine.{Machine}
use Rattle.model.specs.Legal.{legal}
use Rattle.legality.specs.Legality.{legality_of, if_legal}
use Rattle.values.specs.Agree.{agreeing}
use Rattle.values.specs.Values.{machine_from, values_of, values_agree}
use Rattle.saved.specs.declared.parts.Parts.{Parts}
use Rattle.saved.specs.Text.{newest, parts, own0, own1, edition_line, text_of, records_at, gpe_at}
use Rattle.saved.specs.declared.ReadBack.{ReadBack}
use Rattle.saved.specs.declared.ReadRefusal.{ReadRefusal}
use Rattle.saved.specs.declared.ReadRefusal.TheVariants as refusal

-- ---- the edition

-- the edition whose first line this is, of those up to one; 0 where it is none of them
unfoldable pub edition_up_to : ℕ → List ℕ → ℕ
edition_up_to zero line = 0
edition_up_to (suc e) line = cond (same_text line (edition_line (suc e))) (suc e) (edition_up_to e line)

-- "40 looks at the first line alone (up to the first LF, or the whole text without one)", by a reader that knows the editions up to one
abbrev pub edition_of : ℕ → List ℕ → ℕ
edition_of known text = edition_up_to known (front lf text)

-- ---- what a text of an edition says, whatever its bytes

abbrev pub values_read : ℕ → List ℕ → List ℕ
values_read edition text = values_in edition rows (drop (records_at edition) text)

-- the bytes that stand where a record's digits would, past its name and a tab; and what comes after the record
abbrev pub bytes_read : String → ℕ → List ℕ → List ℕ
bytes_read name own xs = bytes_in gpe_bytes own (drop (length (ascii name) + 1) xs)

abbrev pub past_bytes : String → ℕ → List ℕ → List ℕ
past_bytes name own xs = drop (length (ascii name) + 1 + own * 2 + 1) xs

-- the records of general event bytes, one after the other
abbrev pub parts_from : List ℕ → List ℕ → Parts
parts_from vs xs =
    let xs₁ = past_bytes "GPE0_STS" (own0 vs) xs in
    let xs₂ = past_bytes "GPE0_EN" (own0 vs) xs₁ in
    let xs₃ = past_bytes "GPE1_STS" (own1 vs) xs₂ in
    parts vs
    (bytes_read "GPE0_STS" (own0 vs) xs)
    (bytes_read "GPE0_EN" (own0 vs) xs₁)
    (bytes_read "GPE1_STS" (own1 vs) xs₂)
    (bytes_read "GPE1_EN" (own1 vs) xs₃)

abbrev pub parts_in : ℕ → List ℕ → Parts
parts_in edition text = parts_from (values_read edition text) (drop (gpe_at edition) text)

-- the machine of the parts
abbrev pub machine_of : Parts → Machine
machine_of p = machine_from p.values p.gpe0_sts p.gpe0_en p.gpe1_sts p.gpe1_en

abbrev pub machine_in : ℕ → List ℕ → Machine
machine_in edition text = machine_of (parts_in edition text)

-- ---- well formed and legal

-- well formed: the text is what its own parts print
unfoldable pub well_formed : ℕ → List ℕ → Bool
well_formed edition text = same_text text (text_of edition (parts_in edition text))

-- legal: the machine is, and its registers have the values of the text, so that no bit stands outside its home or where no cell is
unfoldable pub legal_text : ℕ → List ℕ → Bool
legal_text edition text = legal (machine_in edition text) && values_agree (values_read edition text)

-- ---- the answer

-- 41: the line in which the text first differs from what its parts print: a malformed line, the first missing or the first surplus one
unfoldable pub malformed_line : List ℕ → List ℕ → ℕ
malformed_line text printed = length (parts_by lf (take (agreeing text printed) text))

abbrev pub text_answer : List ℕ → List ℕ → Result ⊤ ReadRefusal
text_answer text printed = cond (same_text text printed) (Ok tt) (Err (refusal.Malformed (malformed_line text printed)))

-- 42: the clause that the machine breaks, or the line of a register that is not the machine's; record 0 stands in line 2. That the machine's fields fit
-- their types needs no test: `read_fits` (`values/proofs/Fits.antt`)
abbrev pub legal_answer : Machine → List ℕ → Result ⊤ ReadRefusal
legal_answer m vs =
    if_legal (legality_of m)
    (cond (same_text (values_of m) vs) (Ok tt) (Err (refusal.Stray (agreeing (values_of m) vs + 2))))
    (λ clause. Err (refusal.Illegal clause))

abbrev pub is_done : Result ⊤ ReadRefusal → Bool
is_done a = is_ok a

-- "The reader's refusal gives the machine all zero, as setting up's does."
abbrev pub read_as : Result ⊤ ReadRefusal → Machine → ReadBack
read_as a m = record { answer = a; machine = cond (is_done a) m all_zero }

-- "41 is judged over all the other lines before 42 over any"
abbrev pub first_refusal : Result ⊤ ReadRefusal → Result ⊤ ReadRefusal → Result ⊤ ReadRefusal
first_refusal a b = cond (is_done a) b a

-- a text of an edition, and its parts
abbrev pub read_parts : ℕ → List ℕ → Parts → ReadBack
read_parts edition text p = read_as (first_refusal (text_answer text (text_of edition p)) (legal_answer (machine_of p) p.values)) (machine_of p)

-- "Reading tests 40 to 42 in that order"; edition 0 is none
unfoldable pub read_in : ℕ → List ℕ → ReadBack
read_in edition text = cond (eqb edition 0) (read_as (Err refusal.NoEdition) all_zero) (read_parts edition text (parts_in edition text))

-- reading, with every edition known
abbrev pub read_of : List ℕ → ReadBack
read_of text = read_in (edition_of newest text) text
