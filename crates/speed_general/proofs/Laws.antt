-- Laws for the loop: one turn, and the end, where i of n turns are done. Assumes nothing.
use Rattle.std.proofs.Common.{◌≡◌, ℕ, suc, ◌+◌, ◌-◌, ◌<◌, ◌≤◌, refl, arith}
use Rattle.speed_runs.specs.declared.Run.{Run}
use Rattle.speed_general.specs.LinesAlone.{lines_turn, lines_turns}

module _ (n i : ℕ) (r : Run) where
  pub turns_turn : i < n → lines_turns (n - i) r ≡ lines_turns (n - (i + 1)) (lines_turn r)
  unfolding lines_turns
  turns_turn h = let e : n - i ≡ suc (n - (i + 1)) = omega arith in rw e refl

  pub turns_end : n ≤ i → lines_turns (n - i) r ≡ r
  unfolding lines_turns
  turns_end h = let e : n - i ≡ 0 = omega arith in rw e refl
