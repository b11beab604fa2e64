use Rattle.model.specs.Events.{in_gpe0}
use Rattle.events.proofs.general.in_gpe0.Goals as goal

pub returns : goal.returns
unfolding in_gpe0
returns c = simp c.event_count.ensures
