-- A number that so many hex digits show is small. Assumes nothing.
use mathlib.Core.Bool.{Bool, true, false, cond}
use mathlib.Core.List.{List}
use mathlib.Core.Path.{◌≡◌, refl}
use Prim.Native.Nat.{ℕ, ◌^◌, ◌≤◌, ◌<◌}
use native.Mathlib.Nat.{lt_of_lt_of_le, pow-le-pow_right, one-le-pow, one-mul}
use native.Mathlib.Omega.{arith}
use lib.Dec.{ltb, leb}
use lib.ListN.{length, take, length-take}
use Rattle.lists.proofs.Tests.{and_right}
use Rattle.text.specs.Numbers.{value_of, is_number, number_of}
use Rattle.text.proofs.Digits.{value-below}

pub number_small : (width : ℕ) (xs : List ℕ) → number_of 16 16 (take width xs) < 16 ^ width
unfolding number_of is_number
number_small width xs = go (is_number 16 16 (take width xs)) refl
  where
    go : (t : Bool) → is_number 16 16 (take width xs) ≡ t → cond t (value_of 16 (take width xs)) 0 < 16 ^ width
    go true e =
        let all = and_right (leb (length (take width xs)) 16) _ (and_right (ltb 0 (length (take width xs))) _ e) in
        let below = rw one-mul at (value-below 16 (omega arith) 0 (take width xs) all) in
        let short : length (take width xs) ≤ width = omega (arith, length-take width xs) in
        lt_of_lt_of_le below (pow-le-pow_right (omega arith) short)
    go false e = one-le-pow width 16 (omega arith)
