-- A step is the step of its kind. Assumes nothing.
use mathlib.Core.Path.{◌≡◌, refl, ◌∙◌, ap}
use Rattle.machine.specs.declared.Machine.{Machine}
use Rattle.machine.specs.PowerOn.{no_settings}
use Rattle.machine.specs.Scalars.{bare, scalars_of}
use Rattle.machine.specs.declared.scalars.Scalars.{Scalars}
use Rattle.model.proofs.Effects.{by-scalars, take_bare, drop-bare}
use Rattle.model.specs.Effect.{effect_of}
use Rattle.model.specs.declared.Effect.{Effect}
use Rattle.model.specs.declared.Step.{Step}
use Rattle.model.specs.declared.Step.TheVariants as step
use Rattle.step.specs.Kinds.{step_kind, of_kind}
use Rattle.step.specs.declared.StepKind.{StepKind}

kind-step : (s : Step) → of_kind (step_kind s) ≡ s
unfolding step_kind of_kind
kind-step (step.Read a) = refl
kind-step (step.Write a written) = refl
kind-step (step.Event e) = refl
kind-step step.Take = refl
kind-step step.Drop = refl

-- the effect of the step's kind is the step's
pub effect-by-kind : (m : Machine) (s : Step) (k : StepKind) (given : Effect) → k ≡ step_kind s → given ≡ effect_of m (of_kind k) → given ≡ effect_of m s
effect-by-kind m s k given e d = d ∙ ap (λ x. effect_of m (of_kind x)) e ∙ ap (effect_of m) (kind-step s)

-- what the machine's settings and scalars give is the machine's
pub machine-take : (m : Machine) (x : Scalars) (given : Effect) → x ≡ scalars_of m → given ≡ effect_of (bare m.settings x) step.Take → given ≡ effect_of m step.Take
machine-take m x given e d = by-scalars (λ n. effect_of n step.Take) m.settings m x given e d (take_bare m)

pub machine-drop : (m : Machine) (x : Scalars) (given : Effect) → x ≡ scalars_of m → given ≡ effect_of (bare no_settings x) step.Drop → given ≡ effect_of m step.Drop
machine-drop m x given e d = by-scalars (λ n. effect_of n step.Drop) no_settings m x given e d (drop-bare m)
