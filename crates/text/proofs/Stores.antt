-- Laws of a write, the kit's `sets`: one after another, its own bytes and no other, and a loop's turns. By recursion on the bytes.
-- Assumes nothing.
use mathlib.Core.Path.{◌≡◌, refl, sym, ap, ◌∙◌}
use mathlib.Core.List.{List, [], ◌∷◌, ◌++◌, append_assoc}
use Prim.Native.Nat.{ℕ, suc, ◌+◌, ◌≤◌, ◌<◌}
use mathlib.Core.Logic.{◌⊎◌, ⊎_elim}
use native.Mathlib.Nat.{add-zero, add-suc, suc-add}
use native.Mathlib.Numerals.{add-one}
use native.Mathlib.Omega.{arith}
use lib.ListN.{length, get_or, set, take, drop, drop_of_length-le}
use lib.Seq.{sets, sets-eq, set_comm, set_out, get_or-set_other, drop-cons, length-take-le, take_at, drop_at}

-- i + (n + 1) is (i + 1) + n
onward : (i n : ℕ) → i + suc n ≡ suc i + n
onward i n = add-suc i n ∙ sym (suc-add i n)

-- two texts written one after the other are one text
pub sets-append : (l : List ℕ) (i : ℕ) (xs ys : List ℕ) → sets l i (xs ++ ys) ≡ sets (sets l i xs) (i + length xs) ys
sets-append l i [] ys = rw add-zero
sets-append l i (x ∷ xs) ys = rw (onward i (length xs)) (sets-append (set l i x) (suc i) xs ys)

-- two texts stored, where the second one's place is known by an equation
pub sets_then : (l : List ℕ) (i j : ℕ) (xs ys : List ℕ) → i + length xs ≡ j → sets l i (xs ++ ys) ≡ sets (sets l i xs) j ys
sets_then l i j xs ys e = rw (← e) (sets-append l i xs ys)

-- the same, of the buffers after each
pub two-writes : (l : List ℕ) (at j : ℕ) (xs ys first second : List ℕ) → first ≡ sets l at xs → at + length xs ≡ j → second ≡ sets first j ys
    → second ≡ sets l at (xs ++ ys)
two-writes l at j xs ys first second e p f = f ∙ ap (λ (b : List ℕ). sets b j ys) e ∙ sym (sets_then l at j xs ys p)

-- a byte before the text is as it was
pub sets-before : (l : List ℕ) (i : ℕ) (xs : List ℕ) (j d : ℕ) → j < i → get_or (sets l i xs) j d ≡ get_or l j d
sets-before l i [] j d h = refl
sets-before l i (x ∷ xs) j d h =
    sets-before (set l i x) (suc i) xs j d (omega arith) ∙ get_or-set_other l i j x d (λ e. omega arith)

-- a byte past the text is as it was
pub sets-past : (l : List ℕ) (i : ℕ) (xs : List ℕ) (j d : ℕ) → i + length xs ≤ j → get_or (sets l i xs) j d ≡ get_or l j d
sets-past l i [] j d h = refl
sets-past l i (x ∷ xs) j d h =
    sets-past (set l i x) (suc i) xs j d (omega arith) ∙ get_or-set_other l i j x d (λ e. omega arith)

-- a byte outside the text is as it was
pub sets-elsewhere : (l : List ℕ) (i : ℕ) (xs : List ℕ) (j d : ℕ) → (j < i) ⊎ (i + length xs ≤ j) → get_or (sets l i xs) j d ≡ get_or l j d
sets-elsewhere l i xs j d w = ⊎_elim (sets-before l i xs j d) (sets-past l i xs j d) w

-- with room for it, the text stands where it was written
pub sets-there : (l : List ℕ) (i : ℕ) (xs : List ℕ) → i + length xs ≤ length l → take (length xs) (drop i (sets l i xs)) ≡ xs
sets-there l i xs h =
    let room : i ≤ length l = omega arith in
    rw (sets-eq xs l i h, append_assoc, drop_at (take i l) _ i (length-take-le i l room), take_at xs _ (length xs) refl)

-- a text written past the end of the buffer leaves it as it was
pub sets-out : (l : List ℕ) (i : ℕ) (xs : List ℕ) → length l ≤ i → sets l i xs ≡ l
sets-out l i [] h = refl
sets-out l i (x ∷ xs) h = rw (set_out l i x h) (sets-out l (suc i) xs (omega arith))

-- a byte past the text may be stored first
pub sets-set : (l : List ℕ) (i j a : ℕ) (xs : List ℕ) → i + length xs ≤ j → sets (set l j a) i xs ≡ set (sets l i xs) j a
sets-set l i j a [] h = refl
sets-set l i j a (x ∷ xs) h = rw (set_comm l j i a x (λ e. omega arith)) (sets-set (set l i x) (suc i) j a xs (omega arith))

-- a loop that writes a text forwards: one turn, and its end
pub write-turn : (l : List ℕ) (at : ℕ) (xs : List ℕ) (i : ℕ) → i < length xs
    → sets l (at + i) (drop i xs) ≡ sets (set l (at + i) (get_or xs i 0)) (at + (i + 1)) (drop (i + 1) xs)
write-turn l at xs i h = rw (drop-cons xs i 0 h, add-one, add-suc)

pub write-end : (l : List ℕ) (at : ℕ) (xs : List ℕ) (i : ℕ) → length xs ≤ i → sets l (at + i) (drop i xs) ≡ l
write-end l at xs i h = rw (drop_of_length-le xs h)
