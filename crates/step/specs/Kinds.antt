-- Steps by who does them.
use Rattle.std.specs.Prelude.{true, false, ℕ}
use Rattle.model.specs.declared.Access.{Access}
use Rattle.model.specs.declared.Step.{Step}
use Rattle.model.specs.declared.Step.TheVariants as step
use Rattle.model.specs.declared.Transfer.{Transfer}
use Rattle.model.specs.Step.{bus_step}
use Rattle.step.specs.declared.StepKind.{StepKind}
use Rattle.step.specs.declared.StepKind.TheVariants as kind

abbrev pub read_transfer : Access → Transfer
read_transfer a = record { access = a; writes = false; written = 0 }

abbrev pub write_transfer : Access → ℕ → Transfer
write_transfer a written = record { access = a; writes = true; written = written }

unfoldable pub step_kind : Step → StepKind
step_kind (step.Read a) = kind.Bus (read_transfer a)
step_kind (step.Write a written) = kind.Bus (write_transfer a written)
step_kind (step.Event e) = kind.Event e
step_kind step.Take = kind.Take
step_kind step.Drop = kind.Drop

-- the step of a kind
unfoldable pub of_kind : StepKind → Step
of_kind (kind.Bus t) = bus_step t
of_kind (kind.Event e) = step.Event e
of_kind kind.Take = step.Take
of_kind kind.Drop = step.Drop
