-- `fadt::sum_all` meets its contract. The loop's invariant: the total is the sum of the bytes passed, modulo 256.
-- Assumes nothing.
use Rattle.std.proofs.Common.{◌≡◌, ◌%◌, take}
use Rattle.fadt.specs.Table.{sum}
use Rattle.fadt.proofs.sum_all.Given as goal

abbrev pub invariant-loop-byte : goal.invariant-loop-byte
invariant-loop-byte l = l.total ≡ sum (take l.byte-index l.bytes) % 256
