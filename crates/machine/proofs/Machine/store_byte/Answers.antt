use Rattle.machine.specs.Gpe.{byte_stored}
use Rattle.machine.proofs.Machine.store_byte.Goals as goal

pub returns-then-walks : goal.returns-then-walks
unfolding byte_stored
returns-then-walks c = simp (c.walk_gpe.ensures, c.put_byte-next.ensures, c.if-walks.true)

pub returns-else-walks : goal.returns-else-walks
unfolding byte_stored
returns-else-walks c = simp (c.put_byte-next.ensures, c.if-walks.false)
