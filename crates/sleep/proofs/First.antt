-- The state that a pair names is one of S1 to S5: it stands at its place among their pairs. Assumes nothing.
use mathlib.Core.Path.{◌≡◌, refl}
use mathlib.Core.Bool.{Bool}
use mathlib.Core.List.{List, [], ◌∷◌}
use Prim.Native.Nat.{ℕ, suc, ◌≤◌, ◌<◌}
use native.Mathlib.Omega.{arith}
use lib.ListN.{length, drop, length-drop}
use Rattle.std.specs.Prelude.{Option, Some, None, option_map, position}
use Rattle.std.proofs.lemmas.List.Quantifiers.{position-Some}
use Rattle.sleep.specs.Pairs.{named, state_of}

next_within : (o : Option ℕ) (n state : ℕ) → ((i : ℕ) → o ≡ Some i → i < n) → option_map suc o ≡ Some state → (1 ≤ state) × (state ≤ n)
next_within (Some i) n state below e = let same : suc i ≡ state = cc in let h : i < n = below i refl in (omega arith, omega arith)
next_within None n state below e = cc

-- the state named is one of S1 to S5
pub state-at-most-5 : (b-control : Bool) (a b : ℕ) (pairs : List (List ℕ)) → length pairs ≡ 6
    → (state : ℕ) → state_of b-control a b pairs ≡ Some state → (1 ≤ state) × (state ≤ 5)
unfolding state_of
state-at-most-5 b-control a b pairs h state =
    next_within (position (named b-control (a ∷ b ∷ [])) (drop 1 pairs)) 5 state
    (λ i e. omega (arith, length-drop 1 pairs, (position-Some (named b-control (a ∷ b ∷ [])) (drop 1 pairs) i [] e).0))
