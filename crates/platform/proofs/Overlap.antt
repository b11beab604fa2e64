-- Whether two blocks overlap, by which of them is the lower: it has to be present and to hold the other's first port. Assumes nothing.
use mathlib.Core.Bool.{Bool, true, false, not, ◌&&◌, ◌||◌, or-false}
use mathlib.Core.Path.{◌≡◌, refl, sym}
use Prim.Native.Nat.{ℕ, zero, suc, ◌-◌, ◌<◌}
use native.Mathlib.Nat.{sub_self}
use native.Mathlib.Omega.{arith}
use borrow.Author.Tests.{lt-ltb, le-leb, lt-leb, ne_eqb}
use lib.Dec.{eqb, ltb}
use Rattle.platform.specs.Blocks.{present, holds, overlap}
use Rattle.platform.specs.declared.block.Block.{Block}

-- what lies above some number is not zero
zero-below : (n : ℕ) → ltb 0 n ≡ not (eqb n 0)
zero-below zero = refl
zero-below (suc n) = rw (lt-ltb 0 (suc n) (omega arith), ne_eqb (suc n) 0 (λ e. omega arith)) refl

above-present : (b : Block) (port : ℕ) → port < b.address → present b ≡ true
unfolding present
above-present b port h = rw (ne_eqb b.address 0 (λ e. omega arith)) refl

module _ (a b : Block) where
  pub overlap-below : a.address < b.address → (present a && ltb (b.address - a.address) a.length) ≡ overlap a b
  unfolding overlap holds
  overlap-below h = go (present a) refl
    where
      go : (t : Bool) → present a ≡ t → (t && ltb (b.address - a.address) a.length) ≡ overlap a b
      go true p = rw (p, above-present b a.address h, le-leb a.address b.address (omega arith), lt-leb b.address a.address h) (sym (or-false _))
      go false p = rw p refl

  pub overlap-above : b.address < a.address → (present b && ltb (a.address - b.address) b.length) ≡ overlap a b
  unfolding overlap holds
  overlap-above h = go (present b) refl
    where
      go : (t : Bool) → present b ≡ t → (t && ltb (a.address - b.address) b.length) ≡ overlap a b
      go true p = rw (p, above-present a b.address h, lt-leb a.address b.address h, le-leb b.address a.address (omega arith)) refl
      go false p = rw (p, above-present a b.address h) refl

  -- at one address each holds the other's first port if it has a port at all
  pub overlap-level : a.address ≡ b.address → (present a && (not (eqb a.length 0) || not (eqb b.length 0))) ≡ overlap a b
  unfolding overlap holds present
  overlap-level e =
      rw (e, le-leb b.address b.address (omega arith), sub_self, zero-below a.length, zero-below b.length)
      (go (not (eqb b.address 0)) (not (eqb a.length 0)) (not (eqb b.length 0)))
    where
      go : (t x y : Bool) → (t && (x || y)) ≡ (t && (t && ((t && x) || (t && y))))
      go true x y = refl
      go false x y = refl
