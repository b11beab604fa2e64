-- `speed_runs::rounds` meets its contract. The loop's invariant: the steps that are left, from the place and the run as they are, give what all of them
-- give from the start. Assumes nothing.
use Rattle.std.proofs.Common.{◌≡◌, ◌-◌}
use Rattle.speed_runs.specs.Runs.{rounds_of}
use Rattle.speed_runs.proofs.rounds.Given as goal

abbrev pub invariant-loop : goal.invariant-loop
invariant-loop g l = rounds_of (g.R.Round.steps l.round) (l.n - l.counter) l.k l.r ≡ rounds_of (g.R.Round.steps l.round) l.n 0 l.initial.r
