-- `speed_general::lines_turns` meets its contract. The loop's invariant: the turns that are left, from the run as it is, give what all of them give from the
-- start. Assumes nothing.
use Rattle.std.proofs.Common.{◌≡◌, ◌-◌}
use Rattle.speed_general.specs.LinesAlone.{lines_turns}
use Rattle.speed_general.proofs.lines_turns.Given as goal

abbrev pub invariant-loop : goal.invariant-loop
invariant-loop l = lines_turns (l.n - l.counter) l.r ≡ lines_turns l.n l.initial.r
