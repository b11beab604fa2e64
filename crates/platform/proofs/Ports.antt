-- Arithmetic of ports. Assumes nothing.
use mathlib.Core.Bool.{Bool, true, false, ◌||◌}
use mathlib.Core.Path.{◌≡◌, refl, sym}
use Prim.Native.Nat.{ℕ, ◌+◌, ◌-◌, ◌≤◌, ◌<◌}
use native.Mathlib.Omega.{arith}
use borrow.Author.Tests.{ltb-true, ltb-false, lt-ltb, le-ltb}
use lib.Dec.{ltb}

-- whether a sum passes a limit, by the room that is left
pub sum-passes : (limit a l : ℕ) → (ltb limit a || ltb (limit - a) l) ≡ ltb limit (a + l)
sum-passes limit a l = go (ltb limit a) (ltb (limit - a) l) refl refl
  where
    go : (t u : Bool) → ltb limit a ≡ t → ltb (limit - a) l ≡ u → (t || u) ≡ ltb limit (a + l)
    go true u p q = let h : limit < a = ltb-true limit a p in sym (lt-ltb limit (a + l) (omega arith))
    go false true p q =
        let h : a ≤ limit = ltb-false limit a p in
        let k : limit - a < l = ltb-true (limit - a) l q in
        sym (lt-ltb limit (a + l) (omega arith))
    go false false p q =
        let h : a ≤ limit = ltb-false limit a p in
        let k : l ≤ limit - a = ltb-false (limit - a) l q in
        sym (le-ltb limit (a + l) (omega arith))
