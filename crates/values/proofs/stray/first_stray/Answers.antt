use Rattle.values.specs.Agree.{agreeing}
use Rattle.values.proofs.stray.first_stray.Goals as goal

pub returns : goal.returns
unfolding agreeing
returns c = simp (c.agreeing.ensures, c.values_of.ensures)
