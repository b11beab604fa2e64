-- All answers and lines are those of the walk: what is stored is its answer, at the start and after every step, so that looking for it again changes
-- nothing. Assumes nothing.
use mathlib.Core.List.{List}
use mathlib.Core.Path.{◌≡◌, sym, ap}
use Rattle.runs.specs.Items.{after as after_all}
use Rattle.runs.proofs.Runs.{kept-after}
use Rattle.machine.specs.Lines.{walked, sci_of, smi_of}
use Rattle.machine.specs.SetUp.{set_up_of}
use Rattle.machine.specs.declared.Machine.{Machine}
use Rattle.model.specs.Step.{after, step_of}
use Rattle.model.specs.declared.Step.{Step}
use Rattle.model.proofs.Legal.{Gpe, gpe-bytes-kept, legal-gpe, set-up-gpe}
use Rattle.model.proofs.LinesExactly.{WalkStored, stored-walked}
use Rattle.split_access.specs.ByWalk.{ByWalkFrom, ByWalk}
use Rattle.split_access.specs.Start.{AfterLegal}

-- any steps keep it
pub walk_after : (m : Machine) (steps : List Step) → Gpe m → WalkStored (after_all after m steps)
walk_after m steps p = (kept-after after Gpe gpe-bytes-kept m steps p).5

by-walk-from : (m : Machine) → WalkStored m → ByWalkFrom step_of m
by-walk-from m stored =
    let same : m ≡ walked m = sym (stored-walked m stored) in
    record { sci = ap sci_of same; smi = ap smi_of same; next = λ x. ap (λ (k : Machine). step_of k x) same }

-- after any steps from setting up, and from a legal machine
pub by-walk : ByWalk set_up_of step_of
by-walk t event_homes control_homes power-override pairs e steps =
    by-walk-from _ (walk_after _ steps (set-up-gpe t event_homes control_homes power-override pairs e))

pub by-walk-from-legal : AfterLegal step_of (ByWalkFrom step_of)
by-walk-from-legal m e steps = by-walk-from _ (walk_after m steps (legal-gpe m e))
