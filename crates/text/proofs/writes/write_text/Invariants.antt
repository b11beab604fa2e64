-- `text::writes::write_text` meets its contract. The loop's invariant: what is left, written into the buffer as it is, gives what the whole gives
-- from the start. Assumes nothing.
use mathlib.Core.Path.{◌≡◌}
use Prim.Native.Nat.{◌+◌}
use lib.ListN.{length, drop}
use lib.Seq.{sets}
use Rattle.text.proofs.writes.write_text.Given as goal

abbrev pub invariant-loop-i : goal.invariant-loop-i
invariant-loop-i l = (sets l.buf (l.at + l.i) (drop l.i l.text) ≡ sets l.initial.buf l.at l.text) × (length l.buf ≡ length l.initial.buf)
