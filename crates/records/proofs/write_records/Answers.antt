-- A place past the end stores nothing, as in the definition.
use mathlib.Core.Path.{sym, ◌∙◌}
use Prim.Native.Nat.{◌≤◌, ◌<◌}
use native.Mathlib.Omega.{arith}
use lib.ListN.{length}
use lib.Seq.{length-sets}
use Rattle.text.proofs.Stores.{sets-out}
use Rattle.records.specs.Rows.{rows}
use Rattle.records.specs.Records.{records_text}
use Rattle.records.specs.Table.{row_of}
use Rattle.records.proofs.RowFacts.{row_count_lem}
use Rattle.records.proofs.Turns.{rows_short, write-end}
use Rattle.records.proofs.Said.{table-count, row_here, row-short, length-step, write_step}
use Rattle.records.proofs.write_records.Goals as goal

pub returns-then-buf-at : goal.returns-then-buf-at
returns-then-buf-at c =
    let past : length c.args.buf.now ≤ c.args.at = omega arith in
    sym (sets-out c.args.buf.now c.args.at (records_text c.args.edition rows c.args.values) past)

pub write_in-o-requires : goal.write_in-o-requires
write_in-o-requires c =
    let here = row_here c.records.result c.records.ensures c.record-item.result c.loop-i.i (omega arith) c.record-item.is in
    let short = row-short (row_of c.record-item.result) c.loop-i.i here.0 here.1 in
    omega (arith, short, rows_short c.args.edition, c.loop-i.invariant.2, c.if-buf-at.false, c.well_formed.0.1)

pub overflow_add-o : goal.overflow_add-o
overflow_add-o c =
    let here = row_here c.records.result c.records.ensures c.record-item.result c.loop-i.i (omega arith) c.record-item.is in
    let long = length-step (row_of c.record-item.result) c.loop-i.i here.0 here.1 c.args.edition in
    record { fits = omega (arith, long, rows_short c.args.edition, c.loop-i.invariant.2, c.write_in-o.ensures.0, c.if-buf-at.false, c.well_formed.0.1) }

pub loop-i-preserved : goal.loop-i-preserved
loop-i-preserved c =
    let here = row_here c.records.result c.records.ensures c.record-item.result c.loop-i.i (omega arith) c.record-item.is in
    let wrote = c.write_in-o.ensures in
    let long = length-step (row_of c.record-item.result) c.loop-i.i here.0 here.1 c.args.edition in (
      rw (wrote.1, wrote.0) (write_step (row_of c.record-item.result) c.loop-i.i here.0 here.1 c.args.edition c.args.values c.loop-i.buf c.loop-i.o ∙ c.loop-i.invariant.0),
      rw (wrote.1, length-sets) c.loop-i.invariant.1,
      omega (arith, wrote.0, long, c.loop-i.invariant.2),
    )

pub returns : goal.returns
returns c =
    let count = table-count c.records.result c.records.ensures in
    sym (write-end c.args.edition rows c.args.values c.loop-i.buf c.loop-i.o c.loop-i.i (omega (arith, row_count_lem)))
    ∙ c.loop-i.invariant.0
