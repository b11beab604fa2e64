-- The pairs of sleep type values of S0 to S5, in the states' order: rule 12, and the state that a pair names. A pair p is the list of its a and b.
use Rattle.std.specs.Prelude.{Bool, not, ◌&&◌, ◌||◌, Option, option_map, position, List, [], ◌∷◌, ℕ, suc, eqb, ltb, get_or, drop}
use Rattle.lists.specs.Any.{any, any_two}
use Rattle.sleep.specs.declared.SleepTable.{SleepTable}

-- "for each of S0 to S5, absent or a pair (a, b)"
abbrev pub sleep_table : List (List ℕ) → SleepTable
sleep_table pairs = record { pairs = pairs }

-- the a of "a pair (a, b)"
abbrev pub a_of : List ℕ → ℕ
a_of p = get_or p 0 0

-- the b of "a pair (a, b)"
abbrev pub b_of : List ℕ → ℕ
b_of p = get_or p 1 0

-- "absent or a pair (a, b)": absent is both 255
unfoldable pub absent : List ℕ → Bool
absent p = eqb (a_of p) 255 && eqb (b_of p) 255

-- "an a or b exceeds 7 (b also without PM1b control)": a pair with just one 255 is not absent
unfoldable pub out_of_range : List ℕ → Bool
out_of_range p = not (absent p) && (ltb 7 (a_of p) || ltb 7 (b_of p))

-- "(only a counts when PM1b control is absent)"
unfoldable pub same_pair : Bool → List ℕ → List ℕ → Bool
same_pair b-control p q = eqb (a_of p) (a_of q) && (not b-control || eqb (b_of p) (b_of q))

-- "two present states share their pair"
unfoldable pub shared : Bool → List ℕ → List ℕ → Bool
shared b-control p q = not (absent p) && (not (absent q) && same_pair b-control p q)

-- rule 12: "an a or b exceeds 7 .., or two present states share their pair .."
abbrev pub sleep_refused : Bool → List (List ℕ) → Bool
sleep_refused b-control pairs = any out_of_range pairs || any_two (shared b-control) pairs

-- "The pair names the state": p is the pair of a present state, and is q
unfoldable pub named : Bool → List ℕ → List ℕ → Bool
named b-control q p = not (absent p) && same_pair b-control p q

-- "The pair names the state", and a write may match "none of S1 to S5": the number of the state named by (a, b), if one is
unfoldable pub state_of : Bool → ℕ → ℕ → List (List ℕ) → Option ℕ
state_of b-control a b pairs = option_map suc (position (named b-control (a ∷ b ∷ [])) (drop 1 pairs))
