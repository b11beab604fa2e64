-- Whether a list holds what a test looks for.
use Rattle.std.specs.Prelude.{Bool, false, cond, ◌||◌, ℕ, suc, List, [], ◌∷◌}

-- some element passes
unfoldable pub any : {A : Type 0} → (A → Bool) → List A → Bool
any f [] = false
any f (x ∷ xs) = f x || any f xs

-- some element and a later one pass together
unfoldable pub any_two : {A : Type 0} → (A → A → Bool) → List A → Bool
any_two f [] = false
any_two f (x ∷ xs) = any (f x) xs || any_two f xs

-- a test or one of the list, joined from the left, as `a | b | c` is
abbrev pub joined : Bool → List Bool → Bool
joined t [] = t
joined t (u ∷ us) = joined (t || u) us

-- some test of the list is true
abbrev pub any_of : List Bool → Bool
any_of [] = false
any_of (t ∷ ts) = joined t ts

-- the place of the first element that passes; past the end where none does
unfoldable pub first_at : {A : Type 0} → (A → Bool) → List A → ℕ
first_at f [] = 0
first_at f (x ∷ xs) = cond (f x) 0 (suc (first_at f xs))
