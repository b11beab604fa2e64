-- `text::numbers::write_digits` meets its contract. The loop's invariant: the digits that are left, written into the buffer as it is, give what
-- all of them give from the start. Assumes nothing.
use mathlib.Core.Path.{◌≡◌}
use lib.ListN.{length}
use lib.Seq.{sets}
use Rattle.text.specs.Numbers.{digits}
use Rattle.text.proofs.numbers.write_digits.Given as goal

abbrev pub invariant-loop-i : goal.invariant-loop-i
invariant-loop-i l = (sets l.buf l.at (digits l.base l.i l.rest) ≡ sets l.initial.buf l.at (digits l.base l.width l.n)) × (length l.buf ≡ length l.initial.buf)
