use Rattle.step.specs.Kinds.{of_kind}
use Rattle.step.specs.declared.StepKind.TheVariants as kind
use Rattle.step.proofs.Laws.{effect-by-kind, machine-take, machine-drop}
use mathlib.Core.Path.{sym, ◌∙◌}
use Rattle.step.proofs.effect.Goals as goal

pub returns-in-Bus : goal.returns-in-Bus
unfolding of_kind
returns-in-Bus c = effect-by-kind _ _ (kind.Bus _) _ (sym c.in-Bus.is ∙ c.kind_of-kind.ensures) c.access.ensures

pub returns-in-Event : goal.returns-in-Event
unfolding of_kind
returns-in-Event c = effect-by-kind _ _ (kind.Event _) _ (sym c.in-Event.is ∙ c.kind_of-kind.ensures) c.event.ensures

pub returns-in-Take : goal.returns-in-Take
unfolding of_kind
returns-in-Take c =
    effect-by-kind _ _ kind.Take _ (sym c.in-Take.is ∙ c.kind_of-kind.ensures)
    (machine-take _ _ _ c.scalars.ensures c.take.ensures)

pub returns-in-Drop : goal.returns-in-Drop
unfolding of_kind
returns-in-Drop c =
    effect-by-kind _ _ kind.Drop _ (sym c.in-Drop.is ∙ c.kind_of-kind.ensures)
    (machine-drop _ _ _ c.scalars-in-Drop.ensures c.drop.ensures)
