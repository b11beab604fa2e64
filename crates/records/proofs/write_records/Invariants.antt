-- The loop's invariant: the records that are left, written into the buffer as it is, give what all of them give from the start; and the place and
-- the bytes that are left come to the end, so that the place cannot wrap.
use mathlib.Core.Path.{◌≡◌}
use Prim.Native.Nat.{◌+◌}
use lib.ListN.{length, drop}
use lib.Seq.{sets}
use Rattle.records.specs.Rows.{rows}
use Rattle.records.specs.Records.{records_text, records_length}
use Rattle.records.proofs.write_records.Given as goal

abbrev pub invariant-loop-i : goal.invariant-loop-i
invariant-loop-i l =
    (sets l.buf l.o (records_text l.edition (drop l.i rows) (drop l.i l.values)) ≡ sets l.initial.buf l.at (records_text l.edition rows l.values))
    × (length l.buf ≡ length l.initial.buf)
    × (l.o + records_length l.edition (drop l.i rows) ≡ l.at + records_length l.edition rows)
