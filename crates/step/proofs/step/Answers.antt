-- `step::step` meets its contract: a step is its effect, done to the machine (`model`'s effect-law). Assumes nothing.
use mathlib.Core.Path.{◌≡◌, ◌∙◌, ap}
use Rattle.machine.specs.Applied.{applied}
use Rattle.machine.specs.declared.Machine.{Machine}
use Rattle.model.specs.Effect.{stepped_by, effect_of}
use Rattle.model.specs.Step.{step_of}
use Rattle.model.specs.declared.Effect.{Effect}
use Rattle.model.specs.declared.Step.{Step}
use Rattle.model.specs.declared.Stepped.{Stepped}
use Rattle.model.proofs.Effects.{effect-law}
use Rattle.step.proofs.step.Goals as goal

is-stepped : (m : Machine) (s : Step) (e : Effect) (next : Machine) → e ≡ effect_of m s → next ≡ applied m e.scalars e.store e.next
    → ◌≡◌ {A = Stepped} (record { answer = e.answer; machine = next }) (step_of m s)
is-stepped m s e next p q =
    ap (λ (x : Machine). record { answer = e.answer; machine = x }) q ∙ ap (stepped_by m) p ∙ effect-law m s

pub returns : goal.returns
returns c =
    let at : _ = c.args in
    is-stepped at.m at.s _ _ c.effect-e.ensures c.apply-machine.ensures
