use Rattle.machine.specs.Lines.{awake}
use mathlib.Core.Path.{refl, sym, ◌∙◌}
use Rattle.model.specs.Effect.{effect_of}
use Rattle.model.specs.Answer.{first_applying}
use Rattle.model.specs.Step.{answer_to}
use Rattle.model.specs.declared.Answer.TheVariants as answer
use Rattle.model.proofs.Effects.{take-refused}
use Rattle.firmware.proofs.take.Goals as goal

pub returns-then-x : goal.returns-then-x
unfolding awake effect_of answer_to first_applying
returns-then-x c = simp (c.done.ensures, c.take_command.ensures, c.if-x.true, sym c.awake.ensures ∙ c.if-awake.true)

pub returns-else-x : goal.returns-else-x
unfolding awake answer_to first_applying
returns-else-x c =
    c.unmoved.ensures
    ∙ sym (take-refused _ answer.NoCommand (simp (c.if-x.false, sym c.awake.ensures ∙ c.if-awake.true)) refl)

pub returns-else-awake : goal.returns-else-awake
unfolding awake effect_of answer_to first_applying
returns-else-awake c = simp (c.unmoved-else-awake.ensures, sym c.awake.ensures ∙ c.if-awake.false)
