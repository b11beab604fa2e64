use Rattle.model.specs.Legal.{counter_legal}
use Rattle.legality.proofs.clauses.counter_legal.Goals as goal

pub returns : goal.returns
unfolding counter_legal
returns c = simp (c.counter_fits.ensures, c.wide_timer.ensures)
