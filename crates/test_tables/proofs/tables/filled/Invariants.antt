-- The fields left, set in the table as it is, give what all of them give in the table as it was.
use Rattle.std.proofs.Common.{◌≡◌, drop}
use Rattle.test_tables.specs.Tables.{filled_of}
use Rattle.test_tables.proofs.tables.filled.Given as goal

abbrev pub invariant-loop-field : goal.invariant-loop-field
invariant-loop-field l = filled_of l.t (drop l.field-index l.fields) ≡ filled_of l.initial.t l.fields
