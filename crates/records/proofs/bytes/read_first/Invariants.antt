-- `records::bytes::read_first` meets its contract. The loop's invariant: the bytes so far and those that are left are all of them. Assumes nothing.
use mathlib.Core.List.{◌++◌}
use mathlib.Core.Path.{◌≡◌}
use Prim.Native.Nat.{◌*◌, ◌-◌}
use lib.ListN.{length, take, drop}
use Rattle.records.specs.Bytes.{bytes_in}
use Rattle.records.proofs.bytes.read_first.Given as goal

abbrev pub invariant-loop-i : goal.invariant-loop-i
invariant-loop-i l =
    (take l.i l.byte-items ++ bytes_in (8 - l.i) (l.count - l.i) (drop (l.i * 2) l.text) ≡ bytes_in 8 l.count l.text) × (length l.byte-items ≡ 8)
