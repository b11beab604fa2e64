-- `speed_saved::speed_run_read` meets its contract. The loop's invariant: the turns that are left, from the sum as it is, give what all of them give from
-- zero. Assumes nothing.
use Rattle.std.proofs.Common.{◌≡◌, ◌-◌}
use Rattle.speed_saved.specs.Texts.{reads_of}
use Rattle.speed_saved.proofs.speed_run_read.Given as goal

abbrev pub invariant-loop : goal.invariant-loop
invariant-loop l = reads_of l.text (l.n - l.counter) l.sum ≡ reads_of l.text l.n 0
