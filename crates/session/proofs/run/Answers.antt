use Rattle.session.specs.Session.{run_answer, run_buffer}
use mathlib.Core.Path.{refl}
use Rattle.session.proofs.run.Goals as goal

pub returns-in-None : goal.returns-in-None
unfolding run_answer run_buffer
returns-in-None c = rw (← c.in-None.ensures, ← c.rest_from.ensures) c.write_listing.ensures

pub returns-in-Some : goal.returns-in-Some
unfolding run_answer run_buffer
returns-in-Some c = rw (← c.in-Some.ensures) (refl, refl)
