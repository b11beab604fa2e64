use Rattle.model.specs.Effect.{effect_of}
use Rattle.model.specs.Step.{answer_to}
use Rattle.bus.proofs.read.Goals as goal

pub returns : goal.returns
unfolding effect_of answer_to
returns c = simp (c.unmoved.ensures, c.read_answer.ensures, c.scalars.ensures, c.requires.0, c.requires.1)
