-- Where the claims start: at a machine as setting up gives it, at any legal one, or after any steps from there; of a set-up and a step.
use Rattle.std.specs.Prelude.{Bool, true, List, ◌≡◌, ℕ, Ok}
use Rattle.runs.specs.Items.{after}
use Rattle.machine.specs.declared.Machine.{Machine}
use Rattle.machine.specs.declared.SetUp.{SetUp}
use Rattle.model.specs.Legal.{legal}
use Rattle.model.specs.declared.Step.{Step}
use Rattle.model.specs.declared.Stepped.{Stepped}

-- a set-up: FADT bytes, event homes, control homes, whether the power override is fitted, and the pairs
abbrev pub SettingUp : Type 0
SettingUp = List ℕ → ℕ → ℕ → Bool → List (List ℕ) → SetUp

-- a step: its answer, and the machine that it leaves
abbrev pub Stepping : Type 0
Stepping = Machine → Step → Stepped

-- the next machine alone
abbrev pub next_by : Stepping → Machine → Step → Machine
next_by stepped m x = (stepped m x).machine

-- "Awake is S0.": where the test `awake` holds
abbrev pub InS0 : Machine → Type 0
InS0 m = m.state ≡ 0

-- "The list starts at a machine as setting up gives it": P of every machine of an accepted set-up
abbrev pub FromSetUp : SettingUp → (Machine → Type 0) → Type 0
FromSetUp setting P =
    (t : List ℕ) (event_homes control_homes : ℕ) (power-override : Bool) (pairs : List (List ℕ))
    → (setting t event_homes control_homes power-override pairs).answer ≡ Ok tt
    → P (setting t event_homes control_homes power-override pairs).machine

-- "after any steps from setting up": P of every machine that such steps lead to
abbrev pub AfterSteps : SettingUp → Stepping → (Machine → Type 0) → Type 0
AfterSteps setting stepped P = FromSetUp setting (λ m. (steps : List Step) → P (after (next_by stepped) m steps))

-- request W2: "Demand 3 holds from a machine read back too": P of every legal machine, whatever gave it
abbrev pub FromLegal : (Machine → Type 0) → Type 0
FromLegal P = (m : Machine) → legal m ≡ true → P m

-- P of every machine that any steps from a legal one lead to
abbrev pub AfterLegal : Stepping → (Machine → Type 0) → Type 0
AfterLegal stepped P = FromLegal (λ m. (steps : List Step) → P (after (next_by stepped) m steps))
