-- The answers of setting up: an answer of 0 means that no line refuses, and no refusal has the number 0.
-- A line that refuses answers with itself, which is not success. Assumes nothing.
use mathlib.Core.Bool.{Bool, true, false}
use mathlib.Core.List.{List, [], ◌∷◌}
use mathlib.Core.Path.{◌≡◌, refl}
use lib.Dec.{eqb}
use Rattle.std.specs.Prelude.{⊤}
use Rattle.std.proofs.Common.{Result, Ok, Err}
use Rattle.lists.specs.Any.{any}
use Rattle.platform.specs.Answer.{refusal_number, if_done, Rule, first_failing}
use Rattle.platform.specs.declared.rules.SetUpRefusal.{SetUpRefusal}
use Rattle.platform.specs.declared.rules.SetUpRefusal.TheVariants as refusal

line-passes : (r : Rule) (rs : List Rule) → (first_failing rs ≡ Ok tt → any (λ r. r.refused) rs ≡ false)
    → first_failing (r ∷ rs) ≡ Ok tt → (t : Bool) → r.refused ≡ t → any (λ r. r.refused) (r ∷ rs) ≡ false
unfolding any first_failing
line-passes r rs more e true p = let no : Err r.line ≡ Ok tt = rw p at e in cc
line-passes r rs more e false p = rw p (more (rw p at e))

-- an answer of 0: no line refuses
pub done-passes : (rs : List Rule) → first_failing rs ≡ Ok tt → any (λ r. r.refused) rs ≡ false
unfolding any
done-passes [] e = refl
done-passes (r ∷ rs) e = line-passes r rs (done-passes rs) e r.refused refl

-- what follows on success, and on a refusal
pub if-done : {A : Type 0} (a : Result ⊤ SetUpRefusal) (done : A) (refused : SetUpRefusal → A) → a ≡ Ok tt → if_done a done refused ≡ done
if-done a done refused e = rw e refl

pub if-refused : {A : Type 0} (a : Result ⊤ SetUpRefusal) (done : A) (refused : SetUpRefusal → A) (r : SetUpRefusal) → a ≡ Err r
    → if_done a done refused ≡ refused r
if-refused a done refused r e = rw e refl

-- no line has the number of success
pub refusal-not-zero : (r : SetUpRefusal) → eqb (refusal_number r) 0 ≡ false
refusal-not-zero refusal.TableShort = refl
refusal-not-zero refusal.NoSignature = refl
refusal-not-zero refusal.WrongLength = refl
refusal-not-zero refusal.WrongSum = refl
refusal-not-zero refusal.HardwareReduced = refl
refusal-not-zero refusal.BlockLength = refl
refusal-not-zero refusal.BlockPlace = refl
refusal-not-zero refusal.BlocksOverlap = refl
refusal-not-zero refusal.Gpe1Numbers = refl
refusal-not-zero refusal.SameCommands = refl
refusal-not-zero refusal.WrongHomes = refl
refusal-not-zero refusal.SleepPairs = refl
