-- `speed_saved::writes` meets its contract. The loop's invariant: the turns that are left, from the sum and the buffer as they are, give what all of them
-- give from the start, and the buffer keeps its length. Assumes nothing.
use Rattle.std.proofs.Common.{◌≡◌, ◌-◌, length}
use Rattle.speed_saved.specs.Texts.{writes_of, buffer_after}
use Rattle.speed_saved.proofs.writes.Given as goal

abbrev pub invariant-loop : goal.invariant-loop
invariant-loop l =
    (writes_of l.m (length l.buf) (l.n - l.counter) l.sum ≡ writes_of l.m (length l.initial.buf) l.n 0)
    × (buffer_after l.m (l.n - l.counter) l.buf l.sum ≡ buffer_after l.m l.n l.initial.buf 0)
    × (length l.buf ≡ length l.initial.buf)
