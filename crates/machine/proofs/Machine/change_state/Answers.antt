use Rattle.machine.specs.Sleep.{state_changed}
use Rattle.machine.proofs.Machine.change_state.Goals as goal

pub returns-in-Wake : goal.returns-in-Wake
unfolding state_changed
returns-in-Wake c = simp (c.wake.ensures, c.in-Wake.is)

pub returns-in-Complete : goal.returns-in-Complete
unfolding state_changed
returns-in-Complete c = simp (c.complete.ensures, c.in-Complete.is)

pub returns-in-Override : goal.returns-in-Override
unfolding state_changed
returns-in-Override c = simp (c.override_power.ensures, c.in-Override.is)

pub returns-in-Restart : goal.returns-in-Restart
unfolding state_changed
returns-in-Restart c = simp (c.restart_pressed.ensures, c.in-Restart.is)
