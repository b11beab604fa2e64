-- Laws of the comparison of texts: it tells equal texts from others. By recursion on the texts.
-- Assumes nothing.
use mathlib.Core.Path.{◌≡◌, refl}
use mathlib.Core.Bool.{true}
use mathlib.Core.List.{List, [], ◌∷◌}
use Prim.Native.Nat.{ℕ}
use borrow.Author.Tests.{eqb-true, eq-eqb}
use lib.Dec.{eqb}
use Rattle.lists.proofs.Tests.{and_left, and_right}
use Rattle.std.proofs.Common.{nat_eq}
use Rattle.std.specs.Cmp.Lexicographic.{pointwise}
use Rattle.text.specs.Parts.{same_text}

-- texts that are the same are equal, and a text is the same as itself
pub same-equal : (xs ys : List ℕ) → same_text xs ys ≡ true → xs ≡ ys
unfolding same_text
same-equal [] [] e = refl
same-equal [] (y ∷ ys) e = cc
same-equal (x ∷ xs) [] e = cc
same-equal (x ∷ xs) (y ∷ ys) e =
    let head = eqb-true x y (and_left (eqb x y) (same_text xs ys) e) in
    let tail = same-equal xs ys (and_right (eqb x y) (same_text xs ys) e) in
    cc

pub same_self : (xs : List ℕ) → same_text xs xs ≡ true
unfolding same_text
same_self [] = refl
same_self (x ∷ xs) = rw (eq-eqb x x refl) (same_self xs)

-- the comparison of slices, byte by byte
pub same_pointwise : (xs ys : List ℕ) → pointwise nat_eq xs ys ≡ same_text xs ys
unfolding same_text
same_pointwise [] [] = refl
same_pointwise [] (y ∷ ys) = refl
same_pointwise (x ∷ xs) [] = refl
same_pointwise (x ∷ xs) (y ∷ ys) = rw (same_pointwise xs ys)
