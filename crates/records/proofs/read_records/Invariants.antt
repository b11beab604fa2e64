-- `records::read_records` meets its contract. The loop's invariant: the values so far and those of the rows that are left are the values of all; and the
-- place and the bytes that are left come to the end, so that the place cannot wrap. Assumes nothing.
use mathlib.Core.List.{◌++◌}
use mathlib.Core.Path.{◌≡◌}
use Prim.Native.Nat.{◌+◌}
use lib.ListN.{length, take, drop}
use Rattle.records.specs.Rows.{row_count, rows}
use Rattle.records.specs.Records.{records_length, values_in}
use Rattle.records.proofs.read_records.Given as goal

abbrev pub invariant-loop-i : goal.invariant-loop-i
invariant-loop-i l =
    (take l.i l.values ++ values_in l.edition (drop l.i rows) (drop l.o l.text) ≡ values_in l.edition rows l.text)
    × (length l.values ≡ row_count)
    × (l.o + records_length l.edition (drop l.i rows) ≡ records_length l.edition rows)
