-- Laws for the loop: one turn, and the end, where i of n turns are done. Assumes nothing.
use Rattle.std.proofs.Common.{◌≡◌, ℕ, suc, ◌+◌, ◌-◌, ◌<◌, ◌≤◌, List, refl, arith}
use Rattle.speed_steps.specs.SetUps.{set_up_turn, set_ups_of}

module _ (table : List ℕ) (n i sum : ℕ) where
  pub set_ups_turn : i < n → set_ups_of table (n - i) sum ≡ set_ups_of table (n - (i + 1)) (set_up_turn table sum)
  unfolding set_ups_of
  set_ups_turn h = let e : n - i ≡ suc (n - (i + 1)) = omega arith in rw e refl

  pub set_ups_end : n ≤ i → set_ups_of table (n - i) sum ≡ sum
  unfolding set_ups_of
  set_ups_end h = let e : n - i ≡ 0 = omega arith in rw e refl
