-- The laws of `any`, `any_two`, `any_of` and `first_at`: one turn of a loop over the rest of a list and its end, and what a failed search tells of each place;
-- and the element of a list of images.
-- Assumes nothing.
use mathlib.Core.Path.{◌≡◌, refl}
use mathlib.Core.Bool.{Bool, true, false, cond, ◌||◌}
use mathlib.Core.List.{List, [], ◌∷◌, map}
use Prim.Native.Nat.{ℕ, zero, suc, ◌+◌, ◌≤◌, ◌<◌}
use native.Mathlib.Numerals.{add-one}
use native.Mathlib.Omega.{arith}
use native.Mathlib.Nat.{le_of_suc-le-suc, not-suc-le-zero}
use lib.ListN.{length, get_or, drop, drop_of_length-le}
use lib.Seq.{drop-cons}
use Rattle.std.specs.Fn.{Called}
use Rattle.std.specs.Iterator.{YieldsThen}
use Rattle.std.specs.List.{list_any, FoldsTo}
use Rattle.std.specs.Option.{MatchOption}
use Rattle.std.proofs.Common.{Option}
use Rattle.std.proofs.lemmas.Iterator.{YieldsList}
use Rattle.std.proofs.lemmas.Iterator.Search.{any_from_yields_List}
use denote.Param.Members.{Mut}
use Rattle.lists.specs.Any.{any, any_two, joined, any_of, first_at}
use Rattle.lists.proofs.Tests.{or_left, or_right}

module _ {A : Type 0} (d : A) (f : A → Bool) where
  -- one turn: the element at i, then the rest
  pub any-turn : (xs : List A) (i : ℕ) → i < length xs → any f (drop i xs) ≡ (f (get_or xs i d) || any f (drop (i + 1) xs))
  unfolding any
  any-turn xs i h = rw (drop-cons xs i d h, add-one) refl

  -- the end: nothing is left
  pub any-end : (xs : List A) (i : ℕ) → length xs ≤ i → any f (drop i xs) ≡ false
  unfolding any
  any-end xs i h = rw (drop_of_length-le xs h) refl

  -- a search that found nothing: no element passes
  pub any_none : (xs : List A) → any f xs ≡ false → (i : ℕ) → i < length xs → f (get_or xs i d) ≡ false
  unfolding any
  any_none [] e i h = absurd (not-suc-le-zero h)
  any_none (x ∷ xs) e zero h = or_left (f x) (any f xs) e
  any_none (x ∷ xs) e (suc i) h = any_none xs (or_right (f x) (any f xs) e) i (le_of_suc-le-suc h)

-- where no element passes, none of the rest of the list does
pub any-drop : {A : Type 0} (f : A → Bool) (xs : List A) (n : ℕ) → any f xs ≡ false → any f (drop n xs) ≡ false
unfolding any
any-drop f [] zero e = e
any-drop f [] (suc n) e = e
any-drop f (x ∷ xs) zero e = e
any-drop f (x ∷ xs) (suc n) e = any-drop f xs n (or_right (f x) (any f xs) e)

module _ {A : Type 0} (d : A) (f : A → A → Bool) where
  pub any-two-turn : (xs : List A) (i : ℕ) → i < length xs
      → any_two f (drop i xs) ≡ (any (f (get_or xs i d)) (drop (i + 1) xs) || any_two f (drop (i + 1) xs))
  unfolding any_two
  any-two-turn xs i h = rw (drop-cons xs i d h, add-one) refl

  pub any-two-end : (xs : List A) (i : ℕ) → length xs ≤ i → any_two f (drop i xs) ≡ false
  unfolding any_two
  any-two-end xs i h = rw (drop_of_length-le xs h) refl

  -- no element passes together with a later one
  pub any-two-none : (xs : List A) → any_two f xs ≡ false → (i j : ℕ) → i < j → j < length xs → f (get_or xs i d) (get_or xs j d) ≡ false
  unfolding any_two
  any-two-none [] e i j h k = absurd (not-suc-le-zero k)
  any-two-none (x ∷ xs) e i zero h k = absurd (not-suc-le-zero h)
  any-two-none (x ∷ xs) e zero (suc j) h k = any_none d (f x) xs (or_left (any (f x) xs) (any_two f xs) e) j (le_of_suc-le-suc k)
  any-two-none (x ∷ xs) e (suc i) (suc j) h k =
      any-two-none xs (or_right (any (f x) xs) (any_two f xs) e) i j (le_of_suc-le-suc h) (le_of_suc-le-suc k)

-- none of the tests is true: each is false
joined-first : (t : Bool) (us : List Bool) → joined t us ≡ false → t ≡ false
joined-first t [] e = e
joined-first t (u ∷ us) e = or_left t u (joined-first (t || u) us e)

joined-none : (t : Bool) (us : List Bool) → joined t us ≡ false → (i : ℕ) → i < length us → get_or us i true ≡ false
joined-none t [] e i h = absurd (not-suc-le-zero h)
joined-none t (u ∷ us) e zero h = or_right t u (joined-first (t || u) us e)
joined-none t (u ∷ us) e (suc i) h = joined-none (t || u) us e i (le_of_suc-le-suc h)

pub any-of-none : (ts : List Bool) → any_of ts ≡ false → (i : ℕ) → i < length ts → get_or ts i true ≡ false
any-of-none [] e i h = absurd (not-suc-le-zero h)
any-of-none (t ∷ us) e zero h = joined-first t us e
any-of-none (t ∷ us) e (suc i) h = joined-none t us e i (le_of_suc-le-suc h)

-- one turn and the end of the search for the first place, counted from the list's start
module _ {A : Type 0} (d : A) (f : A → Bool) where
  pub first-at-turn : (xs : List A) (i : ℕ) → i < length xs
      → i + first_at f (drop i xs) ≡ cond (f (get_or xs i d)) i (i + 1 + first_at f (drop (i + 1) xs))
  unfolding first_at
  first-at-turn xs i h = rw (drop-cons xs i d h, add-one) (go (f (get_or xs i d)))
    where
      go : (t : Bool) → i + cond t 0 (suc (first_at f (drop (suc i) xs))) ≡ cond t i (suc i + first_at f (drop (suc i) xs))
      go true = omega arith
      go false = omega arith

  pub first-at-end : (xs : List A) (i : ℕ) → length xs ≤ i → i + first_at f (drop i xs) ≡ i
  unfolding first_at
  first-at-end xs i h = rw (drop_of_length-le xs h) (omega arith)

-- an element within a list of images, whatever stands past its end
pub map-within : {A B : Type 0} (f : A → B) (d : A) (e : B) (xs : List A) (i : ℕ) → i < length xs → get_or (map f xs) i e ≡ f (get_or xs i d)
map-within f d e [] i h = absurd (not-suc-le-zero h)
map-within f d e (x ∷ xs) zero h = refl
map-within f d e (x ∷ xs) (suc i) h = map-within f d e xs i (le_of_suc-le-suc h)

-- the search that a chain `.iter().any(..)` promises
pub any_is_list_any : {A : Type 0} (f : A → Bool) (xs : List A) → any f xs ≡ list_any f xs
unfolding any
any_is_list_any f [] = refl
any_is_list_any f (x ∷ xs) = rw (any_is_list_any f xs) refl

-- what `any` answers at the end of a chain
pub any_from_chain : {S A B F : Type 0} {steps : S → Option A → S → Type 0} {v : A → B} {g : Mut F (A × Unit {0}) Bool} {s : S} {all : List B} (test : B → Bool) (u : S) (f : F) (r : Bool)
    → (xs : List A) × (o : Option A) × (j : F) × YieldsThen steps s xs o u × FoldsTo (λ p x q. Called g p (x, tt) false q) f xs j × MatchOption o (r ≡ false) (λ x. (r ≡ true) × ((h : F) × Called g j (x, tt) true h))
    → YieldsList steps v s all → ((x : A) (b : Bool) (q : F) → Called g f (x, tt) b q → (q ≡ f) × (b ≡ test (v x))) → r ≡ any test all
any_from_chain {all = all} test u f r ran yields calls = rw (any_is_list_any test all) (any_from_yields_List test u f r ran yields calls)
