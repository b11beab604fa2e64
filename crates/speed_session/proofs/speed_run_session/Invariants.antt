-- `speed_session::speed_run_session` meets its contract. The loop's invariant: the sessions that are left, from the sum and the buffer as they are, give what
-- all of them give from the start. Assumes nothing.
use Rattle.std.proofs.Common.{◌≡◌, ◌-◌, length}
use Rattle.speed_session.specs.Sessions.{sum_after, buffers_after}
use Rattle.speed_session.proofs.speed_run_session.Given as goal

abbrev pub invariant-loop : goal.invariant-loop
invariant-loop l =
    (sum_after l.table l.script (l.n - l.counter) l.buf l.sum ≡ sum_after l.table l.script l.n l.initial.buf 0)
    × (buffers_after l.table l.script (l.n - l.counter) l.buf ≡ buffers_after l.table l.script l.n l.initial.buf)
    × (length l.buf ≡ length l.initial.buf)
