use Rattle.machine.specs.Lines.{awake}
use mathlib.Core.Path.{sym, ◌∙◌}
use Rattle.model.specs.Effect.{effect_of}
use Rattle.model.specs.Answer.{first_applying}
use Rattle.model.specs.Step.{answer_to}
use Rattle.firmware.proofs.drop.Goals as goal

pub returns-then-awake : goal.returns-then-awake
unfolding awake effect_of answer_to first_applying
returns-then-awake c = simp (c.done.ensures, c.drop_flag.ensures, sym c.awake.ensures ∙ c.if-awake.true)

pub returns-else-awake : goal.returns-else-awake
unfolding awake effect_of answer_to first_applying
returns-else-awake c = simp (c.unmoved.ensures, sym c.awake.ensures ∙ c.if-awake.false)
