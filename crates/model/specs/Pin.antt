-- Request W3, what moves the wake pin: "two steps, pin active and pin inactive". That no other step does is `pin-exactly` of `proofs/Pin.antt`.
use Rattle.std.specs.Prelude.{Bool, true, false, ◌&&◌}
use Rattle.machine.specs.declared.Machine.{Machine}
use Rattle.model.specs.EventKinds.{event_kind}
use Rattle.model.specs.Events.{in_s5}
use Rattle.model.specs.Raises.{is_press}
use Rattle.model.specs.declared.Event.{Event}
use Rattle.model.specs.declared.Event.TheVariants as event
use Rattle.model.specs.declared.Step.{Step}
use Rattle.model.specs.declared.Step.TheVariants as step

-- the pin's level after an accepted event, from the level before it
abbrev pub level_by : Event → Bool → Bool
level_by event.Press level = level
level_by event.Release level = level
level_by event.SleepPress level = level
level_by event.Alarm level = level
level_by event.PinActive level = true
level_by event.PinInactive level = false
level_by event.BusMaster level = level
level_by event.Unlock level = level
level_by (event.General k) level = level
level_by (event.Ticks n) level = level

-- after an accepted step
abbrev pub level_after : Step → Bool → Bool
level_after (step.Read a) level = level
level_after (step.Write a written) level = level
level_after (step.Event e) level = level_by e level
level_after step.Take level = level
level_after step.Drop level = level

-- the step is the press that leaves S5
abbrev pub leaves_s5 : Machine → Step → Bool
leaves_s5 m (step.Read a) = false
leaves_s5 m (step.Write a written) = false
leaves_s5 m (step.Event e) = in_s5 m && is_press (event_kind e)
leaves_s5 m step.Take = false
leaves_s5 m step.Drop = false
