-- "The write-back": what is raised after the status was read is not lost by writing back what was read.
use Rattle.std.specs.Prelude.{Bool, true, cond, List, [], ◌∷◌, ◌++◌, ◌⊎◌, ◌≡◌, ℕ, ◌<◌, get_or}
use Rattle.bits.specs.Digit.{digit}
use Rattle.runs.specs.Items.{Every, Throughout, after}
use Rattle.platform.specs.Blocks.{present}
use Rattle.platform.specs.declared.settings.Settings.{Settings}
use Rattle.registers.specs.Registers.{placed, gpe_sts}
use Rattle.machine.specs.declared.Machine.{Machine}
use Rattle.model.specs.Answer.{step_value}
use Rattle.model.specs.Events.{pm1}
use Rattle.model.specs.Raises.{raises, gpe_raises}
use Rattle.model.specs.declared.Step.{Step}
use Rattle.model.specs.declared.Step.TheVariants as step
use Rattle.split_access.specs.Start.{SettingUp, Stepping, next_by, InS0, AfterSteps}
use Rattle.split_access.specs.Gap.{lives_in_b}
use Rattle.split_access.specs.Claims.{access_at, GapStep}

-- some step of the list raises the bit: what a step raises is told by the step and the machine that it finds
unfoldable pub RaisedIn : (Machine → Step → Machine) → (Machine → Step → ℕ) → ℕ → Machine → List Step → Type 0
RaisedIn next bits i m [] = ⊥
RaisedIn next bits i m (x ∷ l) = (digit i (bits m x) ≡ 1) ⊎ RaisedIn next bits i (next m x) l

-- the four halves and the gap steps between and after them, on a machine that is about to be read
pub record Round : Type 0 where
  pub offset : ℕ
  pub width : ℕ
  pub gap₁ : List Step
  pub gap₂ : List Step
  pub gap₃ : List Step
  pub gap₄ : List Step

-- "a split read of status bytes", of any width at any offset of the status half; "only gap steps, mixed in any way"
pub record RoundOn (s : Settings) (r : Round) : Type 0 where
  pub in_status : r.offset < 2
  pub b_present : present s.pm1b_evt ≡ true
  pub steps₁ : Every GapStep r.gap₁
  pub steps₂ : Every GapStep r.gap₂
  pub steps₃ : Every GapStep r.gap₃
  pub steps₄ : Every GapStep r.gap₄

abbrev pub read_a : Settings → Round → Step
read_a s r = step.Read (access_at s.pm1a_evt r.offset r.width)

abbrev pub read_b : Settings → Round → Step
read_b s r = step.Read (access_at s.pm1b_evt r.offset r.width)

module _ (stepped : Stepping) (m : Machine) (r : Round) where
  -- the machine that the first half read leaves
  abbrev pub after_read : Machine
  after_read = (stepped m (read_a m.settings r)).machine

  -- the value that the first half reads
  abbrev pub value_a : ℕ
  value_a = step_value (stepped m (read_a m.settings r)).answer

  -- the value that the second half reads, after the first gap
  abbrev pub value_b : ℕ
  value_b = step_value (stepped (after (next_by stepped) after_read r.gap₁) (read_b m.settings r)).answer

  -- all that comes after the first half read: "each half writing what that half read"
  abbrev pub rest_of : List Step
  rest_of =
      r.gap₁ ++
      (read_b m.settings r ∷
      (r.gap₂ ++
      (step.Write (access_at m.settings.pm1a_evt r.offset r.width) value_a ∷
      (r.gap₃ ++
      (step.Write (access_at m.settings.pm1b_evt r.offset r.width) value_b ∷
      r.gap₄)))))

  -- "the value read from its home shows" the bit, at its place in the register
  abbrev pub shown_digit : ℕ → ℕ
  shown_digit i = digit i (placed r.offset (cond (lives_in_b m.settings (pm1 i)) value_b value_a))

  -- "unless it is a PM1 bit that the value read from its home shows"
  abbrev pub Unshown : ℕ → Type 0
  Unshown i = shown_digit i ≡ 0

  -- "Every PM1 or GPE status bit raised after the first half read is set at the end": of the PM1 bits, those that are owed
  pub record NothingLost (Owed : ℕ → Type 0) : Type 0 where
    pub pm1 : (i : ℕ) → i < 16 → RaisedIn (next_by stepped) raises i after_read rest_of → Owed i
        → digit i (after (next_by stepped) after_read rest_of).pm1_sts ≡ 1
    pub gpe : (b : Bool) (i j : ℕ) → j < 8 → RaisedIn (next_by stepped) (λ k x. gpe_raises k x b i) j after_read rest_of
        → digit j (get_or (gpe_sts (after (next_by stepped) after_read rest_of) b) i 0) ≡ 1

-- "the machine stays awake": at the first half, after it and after each later step
abbrev pub WritesBackBy : (Stepping → Machine → Round → ℕ → Type 0) → Stepping → Machine → Type 0
WritesBackBy Owed stepped m =
    (r : Round) → RoundOn m.settings r
    → Throughout (next_by stepped) InS0 m (read_a m.settings r ∷ rest_of stepped m r)
    → NothingLost stepped m r (Owed stepped m r)

abbrev pub WritesBackFrom : Stepping → Machine → Type 0
WritesBackFrom stepped m = WritesBackBy Unshown stepped m

-- "after any steps from setting up", with these PM1 bits owed
abbrev pub WriteBackBy : (Stepping → Machine → Round → ℕ → Type 0) → SettingUp → Stepping → Type 0
WriteBackBy Owed setting stepped = AfterSteps setting stepped (WritesBackBy Owed stepped)

-- the write-back: owed is each bit that the value read from its home does not show
abbrev pub WriteBack : SettingUp → Stepping → Type 0
WriteBack setting stepped = WriteBackBy Unshown setting stepped
