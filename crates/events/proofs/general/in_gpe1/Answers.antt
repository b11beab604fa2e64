use Rattle.model.specs.Events.{in_gpe1}
use Rattle.events.proofs.general.in_gpe1.Goals as goal

pub returns : goal.returns
unfolding in_gpe1
returns c = simp (c.event_count.ensures, c.past_base.ensures, c.wide-base.ensures)
