use Rattle.session.specs.Session.{run_end}
use Rattle.session.proofs.run_end.Goals as goal

pub returns-in-None : goal.returns-in-None
unfolding run_end
returns-in-None c = rw (← c.in-None.ensures, c.machine_after.ensures, c.rest_from.ensures)

pub returns-in-Some : goal.returns-in-Some
unfolding run_end
returns-in-Some c = rw (← c.in-Some.ensures, c.no_end.ensures)
