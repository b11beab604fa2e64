-- The loop's invariant: the bytes so far and those of the rows that are left are the bytes of all.
use mathlib.Core.Path.{◌≡◌}
use Prim.Native.Nat.{◌+◌}
use lib.ListN.{drop}
use Rattle.records.specs.Rows.{rows}
use Rattle.records.specs.Records.{records_length}
use Rattle.records.proofs.records_length.Given as goal

abbrev pub invariant-loop-record : goal.invariant-loop-record
invariant-loop-record l = l.n + records_length l.edition (drop l.record-index rows) ≡ records_length l.edition rows
