-- Laws for the loop: one turn, and the end, where i of n steps are done. Assumes nothing.
use Rattle.std.proofs.Common.{◌≡◌, ℕ, suc, ◌+◌, ◌-◌, ◌<◌, ◌≤◌, refl, arith}
use Rattle.speed_runs.specs.Runs.{run_step, Steps, next_place, lines_if, rounds_of}
use Rattle.speed_runs.specs.declared.Run.{Run}

module _ (s : Steps) (n i k : ℕ) (r : Run) where
  pub rounds_turn : i < n → rounds_of s (n - i) k r ≡ rounds_of s (n - (i + 1)) (next_place s.last k) (lines_if (s.lines k) (run_step r (s.at k r.older)))
  unfolding rounds_of
  rounds_turn h = let e : n - i ≡ suc (n - (i + 1)) = omega arith in rw e refl

  pub rounds_end : n ≤ i → rounds_of s (n - i) k r ≡ r
  unfolding rounds_of
  rounds_end h = let e : n - i ≡ 0 = omega arith in rw e refl
