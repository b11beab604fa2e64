-- `records::bytes::write_all` meets its contract. The loop's invariant: the bytes that are left, written into the buffer as it is, give what all of
-- them give from the start. Assumes nothing.
use mathlib.Core.Path.{◌≡◌}
use Prim.Native.Nat.{◌+◌, ◌*◌}
use lib.ListN.{length, drop}
use lib.Seq.{sets}
use Rattle.records.specs.Bytes.{bytes_text}
use Rattle.records.proofs.bytes.write_all.Given as goal

abbrev pub invariant-loop-i : goal.invariant-loop-i
invariant-loop-i l =
    (sets l.buf (l.at + l.i * 2) (bytes_text (drop l.i l.bytes)) ≡ sets l.initial.buf l.at (bytes_text l.bytes)) × (length l.buf ≡ length l.initial.buf)
