-- `map_lines::put_ports` meets its contract: its three writes, one after the other, are the fields. Assumes nothing.
use Rattle.map_lines.proofs.Laws.{ports-written}
use Rattle.map_lines.proofs.put_ports.Goals as goal

pub returns : goal.returns
returns c =
    ports-written c.args.buf.now _ _ _ _ _ _ c.last_port.ensures c.put_port.ensures c.put_port-2.ensures c.write_byte.ensures
