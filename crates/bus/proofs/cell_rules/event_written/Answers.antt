use Rattle.machine.specs.Scalars.{bare}
use Rattle.registers.specs.Registers.{in_status, in_enable, status_after, enable_after}
use Rattle.model.specs.declared.Register.TheVariants as register
use Rattle.bus.proofs.Laws.{past-four, event-write-past}
use Rattle.bus.proofs.cell_rules.event_written.Goals as goal

pub returns-in-0 : goal.returns-in-0
unfolding status_after enable_after in_status in_enable
returns-in-0 c = simp (c.with_event.ensures, c.status_low.ensures, c.clearable-clearable.ensures, c.in-0.is)

pub returns-in-1 : goal.returns-in-1
unfolding status_after enable_after in_status in_enable
returns-in-1 c = simp (c.with_event-in-1.ensures, c.status_high.ensures, c.clearable-clearable-in-1.ensures, c.in-1.is)

pub returns-in-2 : goal.returns-in-2
unfolding status_after enable_after in_status in_enable
returns-in-2 c = simp (c.with_event-in-2.ensures, c.enable_low.ensures, c.enable_in-enables.ensures, c.in-2.is)

pub returns-in-3 : goal.returns-in-3
unfolding status_after enable_after in_status in_enable
returns-in-3 c = simp (c.with_event-in-3.ensures, c.enable_high.ensures, c.enable_in-enables-in-3.ensures, c.in-3.is)

pub returns-in_default : goal.returns-in_default
returns-in_default c =
    let at : _ = c.args in
    let q : _ = c.in_default.in_default-own.rest in
    event-write-past (bare at.s at.x) register.Nowhere at.b at.width at.offset at.written (past-four _ q.0.0.0.1 q.0.0.1 q.0.1 q.1)
