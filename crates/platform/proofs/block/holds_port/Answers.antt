use mathlib.Core.Bool.{and-false}
use borrow.Author.Tests.{le-leb, lt-leb}
use Rattle.platform.specs.Blocks.{holds}
use Rattle.platform.proofs.block.holds_port.Goals as goal

pub returns-then-b-port : goal.returns-then-b-port
unfolding holds
returns-then-b-port c = simp (c.is_present.ensures, le-leb _ _ c.if-b-port.true)

pub returns-else-b-port : goal.returns-else-b-port
unfolding holds
returns-else-b-port c = simp (lt-leb _ _ c.if-b-port.false, and-false)
