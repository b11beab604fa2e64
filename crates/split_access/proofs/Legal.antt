-- Any steps from a legal machine give legal ones, and demand 3 and the write-back hold from every legal machine. Each step keeps legality; it gives the
-- settings that the first claim needs, and the widths of the cells that the second needs besides.
-- `demand-3` and `write-back` from setting up are not made from these: they go by `Guaranteed`, which needs no widths, and so ask nothing of the
-- numbers of the table, where `set-up-legal` asks for bytes.
-- Assumes nothing.
use mathlib.Core.Bool.{Bool, true, false}
use mathlib.Core.List.{List, [], ◌∷◌}
use mathlib.Core.Path.{◌≡◌}
use Prim.Native.Nat.{ℕ, ◌^◌, ◌<◌}
use lib.ListN.{length}
use Rattle.std.proofs.Common.{Ok}
use Rattle.lists.specs.Any.{any}
use Rattle.lists.proofs.Tests.{and_left}
use Rattle.bits.proofs.Writes.{masked-lt, within-masked}
use Rattle.cells.specs.Cells.{cells}
use Rattle.cells.specs.declared.Column.TheVariants as column
use Rattle.cells.proofs.Masks.{mask-small}
use Rattle.runs.specs.Items.{Throughout, after as after_all}
use Rattle.runs.proofs.Runs.{kept-after}
use Rattle.platform.specs.Blocks.{present}
use Rattle.platform.specs.Fitted.{status_cells}
use Rattle.platform.proofs.Legal.{legal-guaranteed}
use Rattle.fadt.specs.Fields.{byte}
use Rattle.registers.specs.Registers.{gpe_half, gpe_sts}
use Rattle.machine.specs.SetUp.{set_up_of}
use Rattle.machine.specs.declared.Machine.{Machine}
use Rattle.model.specs.Legal.{status_legal, gpe_legal, not_two, legal}
use Rattle.model.specs.Step.{after, step_of}
use Rattle.model.specs.declared.Step.{Step}
use Rattle.model.proofs.Bytes.{Bytes, bytes-mean}
use Rattle.model.proofs.Legal.{Legal, legal-means, legal-kept, set-up-legal}
use Rattle.split_access.specs.Start.{FromLegal, AfterLegal}
use Rattle.split_access.specs.Claims.{MovesFrom}
use Rattle.split_access.specs.WriteBack.{WritesBackFrom}
use Rattle.split_access.proofs.Moves.{moves_from}
use Rattle.split_access.proofs.WriteBack.{Wide, wide-all, writes-back-from}

-- ---- lists of steps

-- "all that .. any steps then give are legal"
pub legal-after : (m : Machine) (steps : List Step) → legal m ≡ true → legal (after_all after m steps) ≡ true
legal-after m steps e = kept-after after (λ k. legal k ≡ true) legal-kept m steps e

-- and every machine on the way
pub all-legal : (m : Machine) (steps : List Step) → legal m ≡ true → Throughout after (λ k. legal k ≡ true) m steps
unfolding Throughout
all-legal m [] e = e
all-legal m (x ∷ steps) e = (e, all-legal (after m x) steps (legal-kept m x e))

-- "all that accepted setting up .. and any steps then give are legal": from a table of bytes and six pairs of two
pub set-up-legal-after : (t : List ℕ) (event_homes control_homes : ℕ) (power-override : Bool) (pairs : List (List ℕ))
    → ((i : ℕ) → byte t i < 2 ^ 8) → length pairs ≡ 6 → any not_two pairs ≡ false
    → (set_up_of t event_homes control_homes power-override pairs).answer ≡ Ok tt
    → (steps : List Step)
    → legal (after_all after (set_up_of t event_homes control_homes power-override pairs).machine steps) ≡ true
set-up-legal-after t event_homes control_homes power-override pairs bytes six two e steps =
    legal-after _ steps (set-up-legal t event_homes control_homes power-override pairs bytes six two e)

-- ---- demand 3

-- "Demand 3 holds from a machine read back too"
pub demand-3-from-legal : FromLegal (MovesFrom step_of)
demand-3-from-legal m e = moves_from m (legal-guaranteed m.settings (legal-means m e).settings)

-- ---- the write-back

status-small : (m : Machine) → status_legal m ≡ true → m.pm1_sts < 2 ^ 16
unfolding status_legal
status-small m e =
    let mask : status_cells m.settings < 2 ^ 16 = mask-small column.Status m.settings.flags (present m.settings.pm_tmr) cells in
    rw (within-masked (status_cells m.settings) m.pm1_sts e) at (masked-lt 16 m.pm1_sts (status_cells m.settings) mask)

status-bytes : (m : Machine) (b : Bool) → gpe_legal m b ≡ true → Bytes (gpe_half m.settings b) (gpe_sts m b)
unfolding gpe_legal
status-bytes m b e = bytes-mean (gpe_half m.settings b) (gpe_sts m b) (and_left _ _ e)

legal-wide : (m : Machine) → legal m ≡ true → Wide m
legal-wide m e =
    let l : Legal m = legal-means m e in
    record {
      status = status-small m l.status;
      bytes = λ b i. (each l b).below i;
      sized = ((each l false).size, (each l true).size);
      legal = legal-guaranteed m.settings l.settings;
    }
  where
    each : Legal m → (b : Bool) → Bytes (gpe_half m.settings b) (gpe_sts m b)
    each l true = status-bytes m true l.gpe1
    each l false = status-bytes m false l.gpe0

-- after any steps from a legal machine
pub write-back-from-legal : AfterLegal step_of (WritesBackFrom step_of)
write-back-from-legal m e steps = writes-back-from (after_all after m steps) (wide-all m steps (legal-wide m e))
