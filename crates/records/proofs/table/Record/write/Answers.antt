use Rattle.records.specs.Table.{row_of}
use Rattle.records.proofs.Turns.{record-written}
use Rattle.records.proofs.table.Record.write.Goals as goal

pub returns : goal.returns
returns c = (
  c.length.ensures,
  rw (c.write_byte-2.ensures, c.write_hex.ensures, c.formed.ensures.2, c.formed.ensures.1, c.write_byte.ensures, c.write_name.ensures.0, c.write_name.ensures.1)
      (record-written c.args.buf.now c.args.at (row_of c.args.self.now) c.args.v),
)
