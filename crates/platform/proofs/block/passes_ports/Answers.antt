-- `platform::block::passes_ports` meets its contract: the block passes the ports by its address, or by the room that is left. Assumes nothing.
use Prim.Native.Nat.{◌+◌}
use native.Mathlib.Omega.{arith}
use borrow.Author.Tests.{lt-ltb, le-ltb}
use Rattle.platform.proofs.Ports.{sum-passes}
use Rattle.platform.specs.Blocks.{port_limit, passes_ports}
use Rattle.platform.proofs.block.passes_ports.Goals as goal

pub returns-then-b-gt-PORTS : goal.returns-then-b-gt-PORTS
unfolding passes_ports
returns-then-b-gt-PORTS c =
    let b = c.args.b in
    rw (lt-ltb port_limit (b.address + b.length) (omega arith))

pub returns : goal.returns
unfolding passes_ports
returns c =
    let b = c.args.b in
    rw (le-ltb port_limit b.address c.if-b-gt-PORTS.false) at (sum-passes port_limit b.address b.length)
