-- The total is the sum of the bytes passed, modulo 256.
use Rattle.std.proofs.Common.{◌≡◌, ◌%◌, take}
use Rattle.test_tables.specs.Tables.{sum}
use Rattle.test_tables.proofs.tables.sum_all.Given as goal

abbrev pub invariant-loop-byte : goal.invariant-loop-byte
invariant-loop-byte l = l.total ≡ sum (take l.byte-index l.bytes) % 256
