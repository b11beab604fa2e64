-- `speed_steps::speed_run_set_up` meets its contract. The loop's invariant: the turns that are left, from the sum as it is, give what all of them give from
-- zero. Assumes nothing.
use Rattle.std.proofs.Common.{◌≡◌, ◌-◌}
use Rattle.speed_steps.specs.SetUps.{set_ups_of}
use Rattle.speed_steps.proofs.speed_run_set_up.Given as goal

abbrev pub invariant-loop : goal.invariant-loop
invariant-loop l = set_ups_of l.table (l.n - l.counter) l.sum ≡ set_ups_of l.table l.n 0
