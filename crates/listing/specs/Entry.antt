-- The lines of a listing: "step answer value sci smi state", tab-parted, each ended by LF.
use Rattle.std.specs.Prelude.{Bool, cond, List, [], ◌∷◌, ◌++◌, ℕ, ◌+◌, leb, length}
use Rattle.std.proofs.lemmas.List.Edits.{sets}
use Rattle.text.specs.Numbers.{digits, digit_count}
use Rattle.text.specs.Parts.{tab, lf}
use Rattle.machine.specs.Lines.{sci_of, smi_of}
use Rattle.machine.specs.declared.Machine.{Machine}
use Rattle.model.specs.Answer.{step_number, step_value}
use Rattle.model.specs.declared.Answer.{Answer}
use Rattle.listing.specs.declared.Entry.{Entry}

-- the header: "step", "answer", "value", "sci", "smi", "state"
abbrev pub header : List ℕ
header =
    115 ∷ 116 ∷ 101 ∷ 112 ∷ 9 ∷
    97 ∷ 110 ∷ 115 ∷ 119 ∷ 101 ∷ 114 ∷ 9 ∷
    118 ∷ 97 ∷ 108 ∷ 117 ∷ 101 ∷ 9 ∷
    115 ∷ 99 ∷ 105 ∷ 9 ∷
    115 ∷ 109 ∷ 105 ∷ 9 ∷
    115 ∷ 116 ∷ 97 ∷ 116 ∷ 101 ∷ 10 ∷
    []

-- "Step and answer are decimal": the fewest digits
abbrev pub decimal : ℕ → List ℕ
decimal n = digits 10 (digit_count 10 n) n

-- a line that is up, or down
abbrev pub flag : Bool → List ℕ
flag up = digits 10 1 (cond up 1 0)

-- the digit of S0 to S5; a number that is no state shows as `?`
abbrev pub state_digit : ℕ → ℕ
state_digit state = cond (leb state 5) (48 + state) 63

abbrev pub state_text : ℕ → List ℕ
state_text state = 83 ∷ state_digit state ∷ []

-- from the value on: "the value eight hex digits", SCI, SMI and the state
unfoldable pub tail : ℕ → Bool → Bool → ℕ → List ℕ
tail value sci smi state = digits 16 8 value ++ (tab ∷ (flag sci ++ (tab ∷ (flag smi ++ (tab ∷ (state_text state ++ (lf ∷ [])))))))

-- a line's fields
unfoldable pub fields : ℕ → ℕ → ℕ → Bool → Bool → ℕ → List ℕ
fields k number value sci smi state = decimal k ++ (tab ∷ (decimal number ++ (tab ∷ tail value sci smi state)))

-- what a line says: the step's number, its answer and value, and SCI, SMI and the state after it
abbrev pub entry_of : ℕ → Answer → Machine → Entry
entry_of k a m = record { step = k; number = step_number a; value = step_value a; sci = sci_of m; smi = smi_of m; state = m.state }

abbrev pub text_of : Entry → List ℕ
text_of e = fields e.step e.number e.value e.sci e.smi e.state

-- a line: the step's number, its answer and value, and SCI, SMI and the state after it
abbrev pub entry : ℕ → Answer → Machine → List ℕ
entry k a m = fields k (step_number a) (step_value a) (sci_of m) (smi_of m) m.state

-- how long it is
abbrev pub entry_length : ℕ → Answer → ℕ
entry_length k a = digit_count 10 k + digit_count 10 (step_number a) + 18

-- a text written where it fits; else nothing is
abbrev pub put_at : List ℕ → ℕ → List ℕ → List ℕ
put_at buffer at text = cond (leb (at + length text) (length buffer)) (sets buffer at text) buffer
