-- `machine::lines::event_bits` meets its contract: 0721 hex is the table's event column. Assumes nothing.
use mathlib.Core.Bool.{false}
use mathlib.Core.Path.{◌∙◌}
use Rattle.cells.proofs.Masks.{event-bits}
use Rattle.machine.proofs.lines.event_bits.Goals as goal

pub returns : goal.returns
returns c = c.mask.ensures ∙ event-bits 0 false
