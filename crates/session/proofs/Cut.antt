-- A session cut in two: the second part, resumed from the machine at the end of the first, lists the lines that the uncut one lists, step numbers aside.
-- Each line depends on the machine before it, and on its number only in its first field. Assumes nothing.
use mathlib.Core.List.{List, [], ◌∷◌, ◌++◌, append_assoc}
use mathlib.Core.Path.{◌≡◌, refl, sym, ap}
use Prim.Native.Nat.{ℕ, suc, ◌+◌}
use native.Mathlib.Nat.{add-zero}
use native.Mathlib.Omega.{arith}
use lib.ListN.{length}
use Rattle.text.specs.Parts.{tab}
use Rattle.machine.specs.Lines.{sci_of, smi_of}
use Rattle.machine.specs.declared.Machine.{Machine}
use Rattle.model.specs.Answer.{step_number, step_value}
use Rattle.model.specs.Step.{step_of}
use Rattle.model.specs.declared.Stepped.{Stepped}
use Rattle.listing.specs.Entry.{decimal, tail, fields, entry}
use Rattle.script.specs.StepLine.{line_of}
use Rattle.session.specs.Session.{step_in, entries, ended}

-- ---- the machine

pub ended-append : (m : Machine) (ls rest : List (List ℕ)) → ended m (ls ++ rest) ≡ ended (ended m ls) rest
unfolding ended
ended-append m [] rest = refl
ended-append m (l ∷ ls) rest = ended-append (step_of m (step_in (line_of l))).machine ls rest

-- ---- the lines

-- the second part's are those of the uncut listing, numbered on
pub entries-append : (k : ℕ) (m : Machine) (ls rest : List (List ℕ)) → entries k m (ls ++ rest) ≡ entries k m ls ++ entries (k + length ls) (ended m ls) rest
unfolding entries ended
entries-append k m [] rest = rw add-zero refl
entries-append k m (l ∷ ls) rest =
    let done : Stepped = step_of m (step_in (line_of l)) in
    let more : k + suc (length ls) ≡ suc k + length ls = omega arith in
    rw (more, entries-append (suc k) done.machine ls rest) (sym (append_assoc (entry k done.answer done.machine) _ _))

-- ---- the lines, step numbers aside

-- a line of the listing without its first field: the answer and value, and SCI, SMI and the state after the step
abbrev pub unnumbered : Stepped → List ℕ
unnumbered s =
    tab ∷ (decimal (step_number s.answer) ++ (tab ∷ tail (step_value s.answer) (sci_of s.machine) (smi_of s.machine) s.machine.state))

-- those of the steps of the lines, run from the machine
unfoldable pub answers : Machine → List (List ℕ) → List (List ℕ)
answers m [] = []
answers m (l ∷ ls) = unnumbered (step_of m (step_in (line_of l))) ∷ answers (step_of m (step_in (line_of l))).machine ls

-- each with its number before it, from k on
unfoldable pub numbered : ℕ → List (List ℕ) → List ℕ
numbered k [] = []
numbered k (t ∷ ts) = (decimal k ++ t) ++ numbered (suc k) ts

-- from any first number, the same lines with their numbers
pub entries_from : (k : ℕ) (m : Machine) (ls : List (List ℕ)) → entries k m ls ≡ numbered k (answers m ls)
unfolding entries answers numbered fields
entries_from k m [] = refl
entries_from k m (l ∷ ls) = rw (entries_from (suc k) (step_of m (step_in (line_of l))).machine ls) refl

-- the uncut run's are the first part's and then the second's
pub answers-append : (m : Machine) (ls rest : List (List ℕ)) → answers m (ls ++ rest) ≡ answers m ls ++ answers (ended m ls) rest
unfolding answers ended
answers-append m [] rest = refl
answers-append m (l ∷ ls) rest = ap (λ (ts : List (List ℕ)). unnumbered (step_of m (step_in (line_of l))) ∷ ts) (answers-append (step_of m (step_in (line_of l))).machine ls rest)
