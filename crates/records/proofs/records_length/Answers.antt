use Prim.Native.Nat.{◌<◌}
use native.Mathlib.Omega.{arith}
use Rattle.records.specs.Rows.{row_count, rows}
use Rattle.records.specs.Table.{row_of}
use Rattle.records.proofs.RowFacts.{row_count_lem}
use Rattle.records.proofs.Turns.{rows_short, length-end}
use Rattle.records.proofs.Said.{table-count, row_said, length-step}
use Rattle.records.proofs.records_length.Goals as goal

pub overflow_add-n : goal.overflow_add-n
overflow_add-n c =
    let count = table-count c.records.result c.records.ensures in
    let h : c.loop-record.record-index < row_count = omega arith in
    let e = row_said c.records.result c.records.ensures c.record-item.result c.loop-record.record-index h c.record-item.is in
    let long = length-step (row_of c.record-item.result) c.loop-record.record-index h e c.args.edition in
    record { fits = omega (arith, long, rows_short c.args.edition, c.loop-record.invariant, c.length_in-n.ensures) }

pub loop-record-preserved : goal.loop-record-preserved
loop-record-preserved c =
    let count = table-count c.records.result c.records.ensures in
    let h : c.loop-record.record-index < row_count = omega arith in
    let e = row_said c.records.result c.records.ensures c.record-item.result c.loop-record.record-index h c.record-item.is in
    let long = length-step (row_of c.record-item.result) c.loop-record.record-index h e c.args.edition in
    omega (arith, long, c.loop-record.invariant, c.length_in-n.ensures)

pub returns : goal.returns
returns c =
    let count = table-count c.records.result c.records.ensures in
    omega (arith, c.loop-record.invariant, length-end c.args.edition rows c.loop-record.record-index (omega (arith, row_count_lem)))
