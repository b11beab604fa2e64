-- Record i of the table says row i, and past the table no row has a name.
use mathlib.Core.Path.{◌≡◌, sym, ap, ◌∙◌}
use Prim.Native.Nat.{◌≤◌, ◌<◌}
use native.Mathlib.Omega.{arith}
use lib.ListN.{length, get_or, get_or-eq_default}
use lib.Seq.{sets}
use Rattle.records.specs.Rows.{Row, rows, no_row, row_count}
use Rattle.records.proofs.Said.{table-count, row_said}
use Rattle.records.proofs.RowFacts.{row_count_lem}
use Rattle.records.proofs.write_name.Goals as goal

pub returns-in-Some : goal.returns-in-Some
returns-in-Some c =
    let count = table-count c.records.result c.records.ensures in
    let there = c.in-Some.ensures in
    let h : c.args.i < row_count = omega (arith, there.lookup.3.0) in
    let row = row_said c.records.result c.records.ensures c.in-Some.record.now c.args.i h there.lookup.1 in
    let wrote : _ = c.write_name.ensures in
    (wrote.0 ∙ ap (λ (r : Row). length r.name) row, wrote.1 ∙ ap (λ (r : Row). sets c.args.buf.now c.args.at r.name) row)

pub returns-in-None : goal.returns-in-None
returns-in-None c =
    let count = table-count c.records.result c.records.ensures in
    let there = c.in-None.ensures in
    let past : row_count ≤ c.args.i = omega (arith, there.lookup.3) in
    let none : no_row ≡ get_or rows c.args.i no_row = sym (get_or-eq_default rows no_row (omega (arith, row_count_lem))) in
    (ap (λ (r : Row). length r.name) none, ap (λ (r : Row). sets c.args.buf.now c.args.at r.name) none)
