-- Laws of lines: from a place where one begins, the line and those after it; and lines joined and cut again.
-- They are the laws of a cut, where nothing left gives no line. Assumes nothing.
use mathlib.Core.Path.{◌≡◌, refl, ap, ◌∙◌}
use mathlib.Core.Bool.{Bool, true, false, cond}
use mathlib.Core.List.{List, [], ◌∷◌, ◌++◌}
use Prim.Native.Nat.{ℕ, suc, ◌+◌, ◌≤◌, ◌<◌}
use native.Mathlib.Nat.{add-suc, not-suc-le-zero}
use native.Mathlib.Numerals.{add-one}
use native.Mathlib.Omega.{arith}
use borrow.Author.Tests.{ltb-true, ltb-false, eqb-true}
use lib.Dec.{ltb, eqb, lit≤}
use lib.ListN.{length, take, drop, length-drop, drop_of_length-le}
use lib.Seq.{drop-drop, drop-length, take_all}
use Rattle.lists.specs.Any.{any}
use Rattle.lists.proofs.Tests.{or_left, or_right}
use Rattle.text.specs.Parts.{lf, stop_at, has_stop, front, on_first, cut, lines_of, end_of, next_line, join_lines}
use Rattle.text.proofs.Cuts.{cut-first, cut-last, cut_at, no_stop, on-first-some}

-- lines, from a place where one begins: the line and those from the next place on; nothing left, no line
pub line-turn : (xs : List ℕ) (i : ℕ) → i < length xs → lines_of (drop i xs) ≡ front lf (drop i xs) ∷ lines_of (drop (next_line xs i) xs)
unfolding next_line cut on_first
line-turn xs i h = go (ltb (end_of lf xs i) (length xs)) refl
  where
    stop : ℕ
    stop = stop_at lf (drop i xs)

    go : (t : Bool) → ltb (end_of lf xs i) (length xs) ≡ t
        → lines_of (drop i xs) ≡ front lf (drop i xs) ∷ lines_of (drop (cond t (end_of lf xs i + 1) (length xs)) xs)
    go true e =
        let l = ltb-true (end_of lf xs i) (length xs) e in
        cut-first lf [] (drop i xs) (omega (arith, length-drop i xs)) ∙ rw (drop-drop (suc stop) i xs, add-suc, add-one)
    go false e =
        let l = ltb-false (end_of lf xs i) (length xs) e in
        let k : length (drop i xs) ≤ stop = omega (arith, length-drop i xs) in
        rw (drop-length, take_all stop (drop i xs) k) (cut-last lf [] (λ y. refl) (drop i xs) (omega (arith, length-drop i xs)) k)

pub line-end : (xs : List ℕ) (i : ℕ) → length xs ≤ i → lines_of (drop i xs) ≡ []
unfolding cut
line-end xs i h = rw (drop_of_length-le xs h)

-- the next line begins further on, and within the text
pub next-line-further : (xs : List ℕ) (i : ℕ) → i < length xs → i < next_line xs i
unfolding next_line
next-line-further xs i h = go (ltb (end_of lf xs i) (length xs))
  where
    go : (t : Bool) → i < cond t (end_of lf xs i + 1) (length xs)
    go true = omega arith
    go false = h

pub next-line-within : (xs : List ℕ) (i : ℕ) → next_line xs i ≤ length xs
unfolding next_line
next-line-within xs i = go (ltb (end_of lf xs i) (length xs)) refl
  where
    go : (t : Bool) → ltb (end_of lf xs i) (length xs) ≡ t → cond t (end_of lf xs i + 1) (length xs) ≤ length xs
    go true e = let l = ltb-true (end_of lf xs i) (length xs) e in omega arith
    go false e = omega arith

-- a text with no LF is one line
pub one_line : (xs : List ℕ) → 0 < length xs → has_stop lf xs ≡ false → lines_of xs ≡ xs ∷ []
unfolding on_first
one_line xs k h = cut-last lf [] (λ y. refl) xs k (no_stop lf xs h)

-- lines joined are cut again, and a text that ends in LF is its lines joined
pub lines-of-join : (ls : List (List ℕ)) → any (λ l. has_stop lf l) ls ≡ false → lines_of (join_lines ls) ≡ ls
unfolding any join_lines cut
lines-of-join [] h = refl
lines-of-join (l ∷ ls) h =
    cut_at lf [] l (join_lines ls) (or_left (has_stop lf l) _ h) ∙ ap (λ (r : List (List ℕ)). l ∷ r) (lines-of-join ls (or_right (has_stop lf l) _ h))

join-line-first : (x : ℕ) (ls : List (List ℕ)) → 1 ≤ length ls → join_lines (on_first x ls) ≡ x ∷ join_lines ls
unfolding join_lines on_first
join-line-first x [] h = absurd (not-suc-le-zero h)
join-line-first x (l ∷ ls) h = refl

ended_some : (xs : List ℕ) → 1 ≤ length (lines_of (xs ++ (lf ∷ [])))
unfolding cut
ended_some [] = omega arith
ended_some (x ∷ xs) = go (eqb x lf)
  where
    go : (t : Bool) → 1 ≤ length (cond t ([] ∷ lines_of (xs ++ (lf ∷ []))) (on_first x (lines_of (xs ++ (lf ∷ [])))))
    go true = omega arith
    go false = on-first-some lf x (lines_of (xs ++ (lf ∷ [])))

pub join-of-lines : (xs : List ℕ) → join_lines (lines_of (xs ++ (lf ∷ []))) ≡ xs ++ (lf ∷ [])
unfolding cut join_lines
join-of-lines [] = refl
join-of-lines (x ∷ xs) = go (eqb x lf) refl (join-of-lines xs)
  where
    ended : List ℕ
    ended = xs ++ (lf ∷ [])

    go : (t : Bool) → eqb x lf ≡ t → join_lines (lines_of ended) ≡ ended → join_lines (cond t ([] ∷ lines_of ended) (on_first x (lines_of ended))) ≡ x ∷ ended
    go true e ih = rw (ih, eqb-true x lf e)
    go false e ih = rw (join-line-first x (lines_of ended) (ended_some xs), ih)

-- a text's first line, and those past its LF; an empty text has none
pub first-line : (xs : List ℕ) → 0 < length xs → lines_of xs ≡ take (stop_at lf xs) xs ∷ lines_of (drop (suc (stop_at lf xs)) xs)
unfolding cut on_first
first-line xs h = go (ltb (stop_at lf xs) (length xs)) refl
  where
    go : (t : Bool) → ltb (stop_at lf xs) (length xs) ≡ t → lines_of xs ≡ take (stop_at lf xs) xs ∷ lines_of (drop (suc (stop_at lf xs)) xs)
    go true e = cut-first lf [] xs (ltb-true (stop_at lf xs) (length xs) e)
    go false e =
        let k : length xs ≤ stop_at lf xs = ltb-false (stop_at lf xs) (length xs) e in
        let k' : length xs ≤ suc (stop_at lf xs) = omega arith in
        rw (take_all (stop_at lf xs) xs k, drop_of_length-le xs k') (cut-last lf [] (λ y. refl) xs h k)

pub no-line : (xs : List ℕ) → length xs ≡ 0 → lines_of xs ≡ []
no-line xs h = line-end xs 0 (omega arith)

-- there are no more lines than bytes
pub lines-fewer : (xs : List ℕ) → length (lines_of xs) ≤ length xs
unfolding cut on_first
lines-fewer [] = lit≤ tt
lines-fewer (x ∷ xs) = go (eqb x lf) (lines_of xs) (lines-fewer xs)
  where
    go : (t : Bool) (ls : List (List ℕ)) → length ls ≤ length xs → length (cond t ([] ∷ ls) (on_first x ls)) ≤ suc (length xs)
    go true ls h = omega arith
    go false [] h = omega arith
    go false (l ∷ ls) h = omega arith
