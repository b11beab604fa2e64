-- Sleep states, each a number of two bytes.
use Rattle.std.specs.Prelude.{ℕ, ◌/◌, ◌%◌, List, [], ◌∷◌, slice_index}

-- the pair (a, b): a is the high byte, b the low
abbrev pub pair_of : ℕ → List ℕ
pair_of s = s / 256 ∷ s % 256 ∷ []

-- S0 to S5
abbrev pub pairs_of : List ℕ → List (List ℕ)
pairs_of s =
    pair_of (slice_index s 0) ∷
    pair_of (slice_index s 1) ∷
    pair_of (slice_index s 2) ∷
    pair_of (slice_index s 3) ∷
    pair_of (slice_index s 4) ∷
    pair_of (slice_index s 5) ∷
    []
