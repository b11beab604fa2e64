-- `sleep::named` meets its contract: where A's values differ the pairs do. Assumes nothing.
use mathlib.Core.Bool.{Bool, false, and-false}
use mathlib.Core.List.{List}
use Prim.Native.Nat.{ℕ}
use borrow.Author.Tests.{ne_eqb}
use mathlib.Core.Path.{◌≡◌, refl}
use Rattle.sleep.specs.Pairs.{a_of, same_pair, named}
use Rattle.sleep.proofs.named.Goals as goal

-- pairs whose a differs
other-a : (b-control : Bool) (p q : List ℕ) → (a_of p ≡ a_of q → ⊥) → false ≡ named b-control q p
unfolding named same_pair
other-a b-control p q n = rw (ne_eqb _ _ n, and-false) refl

pub returns-then-p-q : goal.returns-then-p-q
unfolding named
returns-then-p-q c = simp (c.same_pair.ensures, c.absent.ensures)

pub returns-else-p-q : goal.returns-else-p-q
returns-else-p-q c = other-a _ _ _ c.if-p-q.false
