-- What the clauses' tests come to for numbers that have their types, and that the bytes of an array have theirs.
-- Assumes nothing.
use mathlib.Core.Bool.{Bool, true, false, not, ◌||◌}
use mathlib.Core.List.{List, [], ◌∷◌}
use mathlib.Core.Path.{◌≡◌, refl, sym}
use Prim.Native.Nat.{ℕ, zero, suc, ◌^◌, ◌≤◌, ◌<◌}
use native.Mathlib.Nat.{le_of_suc-le-suc, not-suc-le-zero}
use borrow.Author.Tests.{lt-ltb, lt-leb}
use lib.Dec.{ltb, leb}
use lib.ListN.{length, get_or, drop, get_or-eq_default}
use mir.Syntax.{w8}
use mir.Val.{Val}
use denote.Array.{Array, each}
use denote.Laws.{Is}
use denote.Plain.{UInt}
use denote.Shadow.{shadow}
use Rattle.lists.specs.Any.{any}
use Rattle.clock.specs.Clock.{counter_bits}
use Rattle.sleep.specs.Pairs.{absent}
use Rattle.machine.specs.PowerOn.{gpe_bytes}
use Rattle.model.specs.Legal.{only_if, bytes_legal, absent_pair}

-- a counter of 32 bits is below its size
pub counter-size : (wide : Bool) (counter : ℕ) → counter < 2 ^ 32 → (wide || ltb counter (2 ^ 24)) ≡ ltb counter (2 ^ counter_bits wide)
counter-size true counter h = sym (lt-ltb counter (2 ^ 32) h)
counter-size false counter h = refl

-- only where it fails
pub or-only : (a b : Bool) → (a || b) ≡ only_if (not a) b
or-only true b = refl
or-only false b = refl

-- bytes are below 256
bytes_small : (xs : List ℕ) (us : List Val) → shadow (each ℕ (UInt w8).own_val xs us) → any (leb 256) xs ≡ false
unfolding any
bytes_small [] [] s = refl
bytes_small [] (u ∷ us) s = absurd s
bytes_small (x ∷ xs) [] s = absurd s
bytes_small (x ∷ xs) (u ∷ us) s = rw (lt-leb 256 x s.0.1) (bytes_small xs us s.1)

-- an array of bytes is legal where none is set past the block's own
pub array-legal : (own : ℕ) (xs : List ℕ) (vs : List Val) → Is (Array (UInt w8) gpe_bytes) xs vs → not (any (ltb 0) (drop own xs)) ≡ bytes_legal own xs
unfolding bytes_legal
array-legal own xs vs p = rw (p.1.0.1, bytes_small xs p.0 p.1.1) refl

-- what stands in a list is found whatever is read past its end
pub in_list : (xs : List (List ℕ)) (i : ℕ) (d e : List ℕ) → i < length xs → get_or xs i d ≡ get_or xs i e
in_list [] i d e h = absurd (not-suc-le-zero h)
in_list (x ∷ xs) zero d e h = refl
in_list (x ∷ xs) (suc i) d e h = in_list xs i d e (le_of_suc-le-suc h)

-- a state past the pairs is absent
pub past-absent : (xs : List (List ℕ)) (i : ℕ) → length xs ≤ i → not (absent (get_or xs i absent_pair)) ≡ false
unfolding absent
past-absent xs i h = rw (get_or-eq_default xs absent_pair h) refl
