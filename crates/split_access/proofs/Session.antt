-- Document 01's worked session, its ten lines, of the machine that setting up gives: each step computed. Assumes nothing.
use mathlib.Core.Bool.{Bool, true, false}
use mathlib.Core.List.{List, [], ◌∷◌}
use mathlib.Core.Path.{◌≡◌, refl}
use Prim.Native.Nat.{ℕ}
use Rattle.machine.specs.SetUp.{set_up_of}
use Rattle.machine.specs.Lines.{sci_of, smi_of}
use Rattle.machine.specs.declared.Machine.{Machine}
use Rattle.model.specs.Firmware.{is_acpi_enable, is_acpi_disable, sci_en_after, enables_after}
use Rattle.model.specs.Step.{step_of}
use Rattle.model.specs.declared.Answer.{Answer}
use Rattle.model.specs.declared.Answer.TheVariants as answer
use Rattle.model.specs.declared.Event.TheVariants as event
use Rattle.model.specs.declared.Step.{Step}
use Rattle.model.specs.declared.Step.TheVariants as step
use Rattle.split_access.proofs.Platform.{table, pairs, machine, gives, alarm_in_b, alarm-homes, steps-compute}

-- a line of the listing: the step, its answer, and the lines and state after it
pub record Listed : Type 0 where
  pub step : Step
  pub answer : Answer
  pub sci : Bool
  pub smi : Bool
  pub state : ℕ

abbrev line : Step → ℕ → Bool → Bool → ℕ → Listed
line s value sci smi state = record { step = s; answer = answer.Done value; sci = sci; smi = smi; state = state }

abbrev r : ℕ → ℕ → Step
r port width = step.Read (record { port = port; width = width })

abbrev w : ℕ → ℕ → ℕ → Step
w port width written = step.Write (record { port = port; width = width }) written

abbrev pub session : List Listed
session =
    line (w 0xB2 1 0xE1) 0 false true 0 ∷
    line step.Take 0xE1 false false 0 ∷
    line (w 0x402 2 0x100) 0 false false 0 ∷
    line (w 0x442 2 0x400) 0 false false 0 ∷
    line (step.Event event.Alarm) 0 true false 0 ∷
    line (r 0x400 2) 0 true false 0 ∷
    line (r 0x440 2) 0x400 true false 0 ∷
    line (w 0x404 2 0x3400) 0 true false 0 ∷
    line (w 0x444 2 0x2800) 0 true false 0 ∷
    line (r 0x400 2) 0x8000 true false 0 ∷
    []

unfoldable pub Lists : Machine → List Listed → Type 0
Lists m [] = Unit {0}
Lists m (x ∷ xs) =
    ((step_of m x.step).answer ≡ x.answer)
    × (sci_of (step_of m x.step).machine ≡ x.sci)
    × (smi_of (step_of m x.step).machine ≡ x.smi)
    × ((step_of m x.step).machine.state ≡ x.state)
    × Lists (step_of m x.step).machine xs

lists : Lists (machine alarm_in_b) session
unfolding Lists steps-compute sci_of smi_of is_acpi_enable is_acpi_disable sci_en_after enables_after
lists = (
  refl,
  refl,
  refl,
  refl,
  (
    refl,
    refl,
    refl,
    refl,
    (
      refl,
      refl,
      refl,
      refl,
      (
        refl,
        refl,
        refl,
        refl,
        (
          refl,
          refl,
          refl,
          refl,
          (
            refl,
            refl,
            refl,
            refl,
            (
              refl,
              refl,
              refl,
              refl,
              (
                refl,
                refl,
                refl,
                refl,
                (
                  refl,
                  refl,
                  refl,
                  refl,
                  (refl, refl, refl, refl, tt),
                ),
              ),
            ),
          ),
        ),
      ),
    ),
  ),
)

-- "A session, whole"
pub session-lists : Lists (set_up_of table alarm_in_b 0 false pairs).machine session
session-lists = rw (gives alarm_in_b alarm-homes) lists
