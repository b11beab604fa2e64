use mathlib.Core.Path.{sym, ap, ◌∙◌}
use mathlib.Core.List.{List}
use Prim.Native.Nat.{ℕ, ◌<◌}
use native.Mathlib.Omega.{arith}
use lib.ListN.{length, drop, length-set}
use Rattle.records.specs.Rows.{rows}
use Rattle.records.specs.Records.{values_in}
use Rattle.records.specs.Table.{row_of}
use Rattle.records.proofs.RowFacts.{row_count_lem}
use Rattle.records.proofs.Turns.{rows_short, read-end}
use Rattle.records.proofs.Said.{table-count, row_here, row-short, length-step, read_step}
use Rattle.records.proofs.read_records.Goals as goal

pub read_in-requires : goal.read_in-requires
read_in-requires c =
    let here = row_here c.records.result c.records.ensures c.record-item.result c.loop-i.i (omega arith) c.record-item.is in
    let short = row-short (row_of c.record-item.result) c.loop-i.i here.0 here.1 in
    omega (arith, short, rows_short c.args.edition, c.loop-i.invariant.2)

pub overflow_add-o : goal.overflow_add-o
overflow_add-o c =
    let here = row_here c.records.result c.records.ensures c.record-item.result c.loop-i.i (omega arith) c.record-item.is in
    let long = length-step (row_of c.record-item.result) c.loop-i.i here.0 here.1 c.args.edition in
    record { fits = omega (arith, long, rows_short c.args.edition, c.loop-i.invariant.2, c.length_in-o.ensures) }

pub loop-i-preserved : goal.loop-i-preserved
loop-i-preserved c =
    let here = row_here c.records.result c.records.ensures c.record-item.result c.loop-i.i (omega arith) c.record-item.is in
    let k : c.loop-i.i < length c.loop-i.values = omega (arith, c.loop-i.invariant.1) in
    let text = c.rest_from-text.result.now in
    let long = length-step (row_of c.record-item.result) c.loop-i.i here.0 here.1 c.args.edition in (
      rw (c.read_in.ensures, c.length_in-o.ensures) (read_step (row_of c.record-item.result) c.loop-i.i here.0 here.1 c.args.edition c.loop-i.values text c.loop-i.o k ∙ c.loop-i.invariant.0),
      rw length-set c.loop-i.invariant.1,
      omega (arith, c.length_in-o.ensures, long, c.loop-i.invariant.2),
    )

pub returns : goal.returns
returns c =
    let count = table-count c.records.result c.records.ensures in
    let text = c.rest_from-text.result.now in
    sym (read-end c.args.edition rows c.loop-i.values (drop c.loop-i.o text) c.loop-i.i (omega (arith, row_count_lem)) (omega (arith, c.loop-i.invariant.1)))
    ∙ c.loop-i.invariant.0
    ∙ ap (λ (xs : List ℕ). values_in c.args.edition rows xs) c.rest_from-text.ensures
