-- Laws of parts: the first part and the rest, part n by its place, what is joined is cut again and what is cut joined again,
-- and the turns of the loops. By recursion on the text. Assumes nothing.
use mathlib.Core.Path.{◌≡◌, refl, sym, ap, ◌∙◌}
use mathlib.Core.Bool.{Bool, true, false, cond}
use mathlib.Core.List.{List, [], ◌∷◌, ◌++◌}
use Prim.Native.Nat.{ℕ, zero, suc, ◌+◌, ◌-◌, ◌≤◌, ◌<◌, suc-le-suc}
use native.Mathlib.Nat.{add-suc, le_of_suc-le-suc, not-suc-le-zero}
use native.Mathlib.Numerals.{add-one}
use native.Mathlib.Omega.{arith}
use borrow.Author.Tests.{ltb-false, eqb-true, eq-eqb}
use lib.Dec.{ltb, eqb}
use Rattle.std.specs.Option.{unwrap_or}
use Rattle.std.proofs.Common.{Some, None}
use Rattle.std.specs.List.{count_by, position, position_or_len}
use Rattle.std.proofs.lemmas.List.Recursion.{is_count_by, is_position_or_len}
use lib.ListN.{length, get_or, take, drop, length-drop, drop_of_length-le}
use lib.Seq.{drop-cons, drop-drop, take_all}
use Rattle.lists.specs.Any.{any, first_at}
use Rattle.lists.proofs.Tests.{or_left, or_right}
use Rattle.text.specs.Parts.{stop_at, has_stop, front, on_first, cut, parts, past_stops, end_of, join_by}

module _ (s : ℕ) where
  -- a stop, and so the end of a part, lies within the text
  pub stop-within : (xs : List ℕ) → stop_at s xs ≤ length xs
  unfolding first_at
  stop-within [] = omega arith
  stop-within (x ∷ xs) = go (eqb x s) (stop-within xs)
    where
      go : (t : Bool) → stop_at s xs ≤ length xs → cond t 0 (suc (stop_at s xs)) ≤ suc (length xs)
      go true h = omega arith
      go false h = omega arith

  -- the first stop, as a search for its place finds it
  stop_found : (xs : List ℕ) → stop_at s xs ≡ position_or_len (λ x. eqb x s) xs
  unfolding first_at
  stop_found xs = is_position_or_len (λ ys. stop_at s ys) (λ x. eqb x s) refl (λ x ys. ap (λ (n : ℕ). cond (eqb x s) 0 n) (omega arith)) xs

  pub stop_or_end : (xs : List ℕ) → unwrap_or (position (λ x. eqb x s) xs) (length xs) ≡ stop_at s xs
  stop_or_end xs = go (ltb (position_or_len (λ x. eqb x s) xs) (length xs)) refl
    where
      go : (t : Bool) → ltb (position_or_len (λ x. eqb x s) xs) (length xs) ≡ t
          → unwrap_or (cond t (Some (position_or_len (λ x. eqb x s) xs)) None) (length xs) ≡ stop_at s xs
      go true e = sym (stop_found xs)
      go false e =
          let past = ltb-false (position_or_len (λ x. eqb x s) xs) (length xs) e in
          omega (arith, stop_found xs, stop-within xs)

  pub end-past : (xs : List ℕ) (i : ℕ) → length xs ≤ i → end_of s xs i ≡ i
  unfolding first_at
  end-past xs i h = rw (drop_of_length-le xs h) (omega arith)

  pub end-within : (xs : List ℕ) (i : ℕ) → i ≤ length xs → end_of s xs i ≤ length xs
  end-within xs i h = let w = stop-within (drop i xs) in omega (arith, length-drop i xs)

  module _ (none : List (List ℕ)) where
    -- up to a stop: what stands before it, and then the rest
    pub cut-first : (xs : List ℕ) → stop_at s xs < length xs → cut none s xs ≡ front s xs ∷ cut none s (drop (suc (stop_at s xs)) xs)
    unfolding first_at cut on_first
    cut-first [] h = absurd (not-suc-le-zero h)
    cut-first (x ∷ xs) h = go (eqb x s) (cut-first xs) h
      where
        go : (t : Bool) → (stop_at s xs < length xs → cut none s xs ≡ front s xs ∷ cut none s (drop (suc (stop_at s xs)) xs))
            → cond t 0 (suc (stop_at s xs)) < suc (length xs)
            → cond t ([] ∷ cut none s xs) (on_first x (cut none s xs))
            ≡ take (cond t 0 (suc (stop_at s xs))) (x ∷ xs) ∷ cut none s (drop (cond t 0 (suc (stop_at s xs))) xs)
        go true ih k = refl
        go false ih k = rw (ih (omega arith))

    -- a text with no stop is one part, if a byte before nothing is
    module _ (alone : (x : ℕ) → on_first x none ≡ (x ∷ []) ∷ []) where
      pub cut-last : (xs : List ℕ) → 0 < length xs → length xs ≤ stop_at s xs → cut none s xs ≡ xs ∷ []
      unfolding first_at cut on_first
      cut-last [] k h = absurd (not-suc-le-zero k)
      cut-last (x ∷ []) k h = go (eqb x s) h
        where
          go : (t : Bool) → 1 ≤ cond t 0 1 → cond t ([] ∷ none) (on_first x none) ≡ (x ∷ []) ∷ []
          go true l = absurd (not-suc-le-zero l)
          go false l = alone x
      cut-last (x ∷ (y ∷ ys)) k h = go (eqb x s) (cut-last (y ∷ ys) (omega arith)) h
        where
          go : (t : Bool) → (suc (length ys) ≤ stop_at s (y ∷ ys) → cut none s (y ∷ ys) ≡ (y ∷ ys) ∷ [])
              → suc (suc (length ys)) ≤ cond t 0 (suc (stop_at s (y ∷ ys)))
              → cond t ([] ∷ cut none s (y ∷ ys)) (on_first x (cut none s (y ∷ ys))) ≡ (x ∷ (y ∷ ys)) ∷ []
          go true ih l = absurd (not-suc-le-zero l)
          go false ih l = rw (ih (le_of_suc-le-suc l))

  last-part : (xs : List ℕ) → length xs ≤ stop_at s xs → parts s xs ≡ xs ∷ []
  unfolding cut on_first
  last-part [] h = refl
  last-part (x ∷ xs) h = cut-last ([] ∷ []) (λ y. refl) (x ∷ xs) (omega arith) h

  pub no_stop : (xs : List ℕ) → has_stop s xs ≡ false → length xs ≤ stop_at s xs
  unfolding any first_at
  no_stop [] h = omega arith
  no_stop (x ∷ xs) h = rw (or_left (eqb x s) (has_stop s xs) h) (suc-le-suc (no_stop xs (or_right (eqb x s) (has_stop s xs) h)))

  pub one-part : (xs : List ℕ) → has_stop s xs ≡ false → parts s xs ≡ xs ∷ []
  one-part xs h = last-part xs (no_stop xs h)

  -- parts, from a place where one begins: up to a stop, and the last
  pub part-turn : (xs : List ℕ) (i : ℕ) → end_of s xs i < length xs → parts s (drop i xs) ≡ front s (drop i xs) ∷ parts s (drop (end_of s xs i + 1) xs)
  part-turn xs i h =
      cut-first ([] ∷ []) (drop i xs) (omega (arith, length-drop i xs))
      ∙ rw (drop-drop (suc (stop_at s (drop i xs))) i xs, add-suc, add-one)

  pub part-last : (xs : List ℕ) (i : ℕ) → length xs ≤ end_of s xs i → parts s (drop i xs) ≡ front s (drop i xs) ∷ []
  part-last xs i h =
      let k : length (drop i xs) ≤ stop_at s (drop i xs) = omega (arith, length-drop i xs) in
      rw (take_all (stop_at s (drop i xs)) (drop i xs) k) (last-part (drop i xs) k)

  -- part n begins past n stops
  on-first-zero : (x : ℕ) (ps : List (List ℕ)) → get_or (on_first x ps) 0 [] ≡ x ∷ get_or ps 0 []
  unfolding on_first
  on-first-zero x [] = refl
  on-first-zero x (p ∷ ps) = refl

  on-first-suc : (x : ℕ) (ps : List (List ℕ)) (n : ℕ) → get_or (on_first x ps) (suc n) [] ≡ get_or ps (suc n) []
  unfolding on_first
  on-first-suc x [] n = refl
  on-first-suc x (p ∷ ps) n = refl

  pub part_at : (xs : List ℕ) (n : ℕ) → get_or (parts s xs) n [] ≡ front s (drop (past_stops s n xs) xs)
  unfolding first_at cut past_stops
  part_at [] zero = refl
  part_at [] (suc n) = refl
  part_at (x ∷ xs) zero = go (eqb x s) (part_at xs 0)
    where
      go : (t : Bool) → get_or (parts s xs) 0 [] ≡ front s xs
          → get_or (cond t ([] ∷ parts s xs) (on_first x (parts s xs))) 0 [] ≡ take (cond t 0 (suc (stop_at s xs))) (x ∷ xs)
      go true ih = refl
      go false ih = rw (on-first-zero, ih)
  part_at (x ∷ xs) (suc n) = go (eqb x s) (part_at xs n) (part_at xs (suc n))
    where
      go : (t : Bool) → get_or (parts s xs) n [] ≡ front s (drop (past_stops s n xs) xs)
          → get_or (parts s xs) (suc n) [] ≡ front s (drop (past_stops s (suc n) xs) xs)
          → get_or (cond t ([] ∷ parts s xs) (on_first x (parts s xs))) (suc n) [] ≡ front s (drop (cond t (past_stops s n xs) (past_stops s (suc n) xs)) xs)
      go true ih ih' = ih
      go false ih ih' = on-first-suc x (parts s xs) n ∙ ih'

  -- the loop that passes n stops: one turn, and its ends
  pub past-turn : (xs : List ℕ) (n i : ℕ) → i < length xs → 0 < n
      → i + past_stops s n (drop i xs) ≡ i + 1 + past_stops s (cond (eqb (get_or xs i 0) s) (n - 1) n) (drop (i + 1) xs)
  unfolding past_stops
  past-turn xs zero i h k = absurd (not-suc-le-zero k)
  past-turn xs (suc n) i h k =
      let one : suc n - 1 ≡ n = omega arith in
      rw (drop-cons xs i 0 h, add-one, one) (go (eqb (get_or xs i 0) s))
    where
      go : (t : Bool) → i + suc (cond t (past_stops s n (drop (suc i) xs)) (past_stops s (suc n) (drop (suc i) xs))) ≡ suc i + past_stops s (cond t n (suc n)) (drop (suc i) xs)
      go true = omega arith
      go false = omega arith

  pub past-none : (xs : List ℕ) → past_stops s 0 xs ≡ 0
  unfolding past_stops
  past-none xs = refl

  nothing : (n : ℕ) → past_stops s n [] ≡ 0
  unfolding past_stops
  nothing zero = refl
  nothing (suc n) = refl

  pub past_end : (xs : List ℕ) (n i : ℕ) → length xs ≤ i → past_stops s n (drop i xs) ≡ 0
  past_end xs n i h = rw (drop_of_length-le xs h) (nothing n)

  -- the number of parts
  on-first-length : (x : ℕ) (ps : List (List ℕ)) → 1 ≤ length ps → length (on_first x ps) ≡ length ps
  unfolding on_first
  on-first-length x [] h = absurd (not-suc-le-zero h)
  on-first-length x (p ∷ ps) h = refl

  pub on-first-some : (x : ℕ) (ps : List (List ℕ)) → 1 ≤ length (on_first x ps)
  unfolding on_first
  on-first-some x [] = omega arith
  on-first-some x (p ∷ ps) = omega arith

  pub parts-some : (xs : List ℕ) → 1 ≤ length (parts s xs)
  unfolding cut
  parts-some [] = omega arith
  parts-some (x ∷ xs) = go (eqb x s)
    where
      go : (t : Bool) → 1 ≤ length (cond t ([] ∷ parts s xs) (on_first x (parts s xs)))
      go true = omega arith
      go false = on-first-some x (parts s xs)

  -- one more than the stops
  part-count-step : (x : ℕ) (xs : List ℕ) → length (parts s (x ∷ xs)) - 1 ≡ cond (eqb x s) (1 + (length (parts s xs) - 1)) (length (parts s xs) - 1)
  unfolding cut
  part-count-step x xs = go (eqb x s)
    where
      go : (t : Bool) → length (cond t ([] ∷ parts s xs) (on_first x (parts s xs))) - 1 ≡ cond t (1 + (length (parts s xs) - 1)) (length (parts s xs) - 1)
      go true = let some = parts-some xs in omega arith
      go false = let same = on-first-length x (parts s xs) (parts-some xs) in omega arith

  pub part_total : (xs : List ℕ) → count_by (λ x. eqb x s) xs + 1 ≡ length (parts s xs)
  unfolding cut
  part_total xs =
      let some = parts-some xs in
      let stops = is_count_by (λ ys. length (parts s ys) - 1) (λ x. eqb x s) refl part-count-step xs in
      omega arith

  -- what was cut is joined again
  join_more : (p : List ℕ) (ps : List (List ℕ)) → 1 ≤ length ps → join_by s (p ∷ ps) ≡ p ++ (s ∷ join_by s ps)
  unfolding join_by
  join_more p [] h = absurd (not-suc-le-zero h)
  join_more p (q ∷ ps) h = refl

  join_first : (x : ℕ) (ps : List (List ℕ)) → join_by s (on_first x ps) ≡ x ∷ join_by s ps
  unfolding join_by on_first
  join_first x [] = refl
  join_first x (p ∷ []) = refl
  join_first x (p ∷ (q ∷ ps)) = refl

  pub join-of-parts : (xs : List ℕ) → join_by s (parts s xs) ≡ xs
  unfolding cut join_by
  join-of-parts [] = refl
  join-of-parts (x ∷ xs) = go (eqb x s) refl (join-of-parts xs)
    where
      go : (t : Bool) → eqb x s ≡ t → join_by s (parts s xs) ≡ xs → join_by s (cond t ([] ∷ parts s xs) (on_first x (parts s xs))) ≡ x ∷ xs
      go true e ih = rw (join_more [] (parts s xs) (parts-some xs), ih, eqb-true x s e)
      go false e ih = rw (join_first, ih)

  -- what was joined is cut again: before a stop, and over the whole
  pub cut_at : (none : List (List ℕ)) (p ys : List ℕ) → has_stop s p ≡ false → cut none s (p ++ (s ∷ ys)) ≡ p ∷ cut none s ys
  unfolding cut any on_first
  cut_at none [] ys h = rw (eq-eqb s s refl)
  cut_at none (x ∷ p) ys h =
      rw (or_left (eqb x s) (has_stop s p) h, cut_at none p ys (or_right (eqb x s) (has_stop s p) h))

  pub parts-of-join : (ps : List (List ℕ)) → 1 ≤ length ps → any (λ p. has_stop s p) ps ≡ false → parts s (join_by s ps) ≡ ps
  unfolding any join_by
  parts-of-join [] l h = absurd (not-suc-le-zero l)
  parts-of-join (p ∷ []) l h = one-part p (or_left (has_stop s p) false h)
  parts-of-join (p ∷ (q ∷ ps)) l h =
      rw (cut_at ([] ∷ []) p (join_by s (q ∷ ps)) (or_left (has_stop s p) _ h), parts-of-join (q ∷ ps) (omega arith) (or_right (has_stop s p) _ h))
