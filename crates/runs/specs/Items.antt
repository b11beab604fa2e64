-- Lists of steps and split accesses, the list with the halves moved together, and what it is to run one, over any states, steps and answers.
use Rattle.std.specs.Prelude.{◌≡◌, Bool, true, false, not, List, [], ◌∷◌, ◌++◌, map}

-- "holds any steps and split accesses": a step, or first half, gap and second half of a control or an event access
pub data Item (Y : Type 0) : Type 0 where
  one : Y → Item Y
  control : Y → List Y → Y → Item Y
  event : Y → List Y → Y → Item Y

-- x in front, if it is kept
abbrev pub keep_if : {Y : Type 0} → Bool → Y → List Y → List Y
keep_if true x l = x ∷ l
keep_if false x l = l

-- "Each side keeps its order": the steps that pass the test, and those that do not
unfoldable pub passing : {Y : Type 0} → (Y → Bool) → List Y → List Y
passing test [] = []
passing test (x ∷ l) = keep_if (test x) x (passing test l)

unfoldable pub failing : {Y : Type 0} → (Y → Bool) → List Y → List Y
failing test [] = []
failing test (x ∷ l) = keep_if (not (test x)) x (failing test l)

-- "Its gap, between them": the list as it was given
unfoldable pub original : {Y : Type 0} → List (Item Y) → List Y
original [] = []
original (one x ∷ l) = x ∷ original l
original (control h gap h' ∷ l) = h ∷ (gap ++ (h' ∷ original l))
original (event h gap h' ∷ l) = h ∷ (gap ++ (h' ∷ original l))

-- "In the moved list the halves stand side by side. Around a control access all gap steps come just before. Around an event access a step
-- whose bit has home B comes just before, any other just after"
unfoldable pub moved : {Y : Type 0} → (Y → Bool) → List (Item Y) → List Y
moved home_b [] = []
moved home_b (one x ∷ l) = x ∷ moved home_b l
moved home_b (control h gap h' ∷ l) = gap ++ (h ∷ h' ∷ moved home_b l)
moved home_b (event h gap h' ∷ l) = passing home_b gap ++ (h ∷ h' ∷ (failing home_b gap ++ moved home_b l))

-- the step of a pair of step and answer, and the items without their answers
abbrev pub step_in : {X A : Type 0} → X × A → X
step_in p = p.0

unfoldable pub steps_of : {X A : Type 0} → List (Item (X × A)) → List (Item X)
steps_of [] = []
steps_of (one x ∷ l) = one (step_in x) ∷ steps_of l
steps_of (control h gap h' ∷ l) = control (step_in h) (map step_in gap) (step_in h') ∷ steps_of l
steps_of (event h gap h' ∷ l) = event (step_in h) (map step_in gap) (step_in h') ∷ steps_of l

-- P of each element
unfoldable pub Every : {Y : Type 0} → (Y → Type 0) → List Y → Type 0
Every P [] = Unit {0}
Every P (x ∷ l) = P x × Every P l

-- "Every step gives the same number and value in both lists, and both end in the same machine, every part of it": from s each step gives the answer paired with it, and the end is t
unfoldable pub Run : {S X A : Type 0} → (S → X → A) → (S → X → S) → S → List (X × A) → S → Type 0
Run ans next s [] t = s ≡ t
Run ans next s (x ∷ l) t = (ans s (step_in x) ≡ x.1) × Run ans next (next s (step_in x)) l t

-- "Each step gets the machine that the last one left": the state after the steps
unfoldable pub after : {S X : Type 0} → (S → X → S) → S → List X → S
after next s [] = s
after next s (x ∷ l) = after next (next s x) l

-- Ok at s and after each of the steps
unfoldable pub Throughout : {S X : Type 0} → (S → X → S) → (S → Type 0) → S → List X → Type 0
Throughout next Ok s [] = Ok s
Throughout next Ok s (x ∷ l) = Ok s × Throughout next Ok (next s x) l

-- "At each split access the machine is awake until the second half begins"
unfoldable pub Awake : {S X : Type 0} → (S → X → S) → (S → Type 0) → S → List (Item X) → Type 0
Awake next Ok s [] = Unit {0}
Awake next Ok s (one x ∷ l) = Awake next Ok (next s x) l
Awake next Ok s (control h gap h' ∷ l) = Throughout next Ok s (h ∷ gap) × Awake next Ok (next (after next s (h ∷ gap)) h') l
Awake next Ok s (event h gap h' ∷ l) = Throughout next Ok s (h ∷ gap) × Awake next Ok (next (after next s (h ∷ gap)) h') l
