-- The general event bytes of a block: what the test of them means, and that writes and events keep it. Each stores one byte, below 256,
-- at a place of the block's own.
-- Assumes nothing.
use mathlib.Core.Bool.{Bool, true, false, not, cond, ◌&&◌}
use mathlib.Core.List.{List, [], ◌∷◌}
use mathlib.Core.Path.{◌≡◌, refl, ◌∙◌}
use Prim.Native.Nat.{ℕ, zero, suc, ◌+◌, ◌*◌, ◌-◌, ◌/◌, ◌%◌, ◌^◌, ◌≤◌, ◌<◌}
use native.Mathlib.Nat.{mod-lt}
use native.Mathlib.Omega.{arith}
use borrow.Author.Tests.{eqb-true, ltb-true, ltb-false, leb-false, lt-leb, not-true}
use lib.Bits.{or_lt}
use lib.Dec.{eqb, ltb, leb, lit≤}
use lib.ListN.{length, get_or, drop, set, length-set}
use lib.Pow.{pow-lt, pow_pos}
use lib.Seq.{get_or-drop, get_or-set_other}
use Rattle.lists.specs.Any.{any}
use Rattle.lists.proofs.Tests.{or_left, or_right, and_left, and_right}
use Rattle.bits.proofs.Writes.{kept-lt}
use Rattle.platform.specs.Blocks.{present}
use Rattle.platform.specs.Legal.{HasGpeLength, HasNone}
use Rattle.platform.specs.Rules.{gpe_longest}
use Rattle.platform.specs.declared.block.Block.{Block}
use Rattle.registers.specs.Registers.{gpe_half, gpe_sts, gpe_en, in_gpe_status, gpe_sts_after, gpe_en_after}
use Rattle.machine.specs.PowerOn.{gpe_bytes, no_bytes}
use Rattle.machine.specs.declared.Machine.{Machine}
use Rattle.model.specs.Events.{with_bit}
use Rattle.model.specs.Legal.{bytes_legal}

-- as many bytes as there are, each below 256, zero past the block's own
pub record Bytes (own : ℕ) (bytes : List ℕ) : Type 0 where
  pub size : length bytes ≡ gpe_bytes
  pub below : (i : ℕ) → get_or bytes i 0 < 256
  pub past : (i : ℕ) → own ≤ i → get_or bytes i 0 ≡ 0

none-at : (f : ℕ → Bool) (xs : List ℕ) → f 0 ≡ false → any f xs ≡ false → (i : ℕ) → f (get_or xs i 0) ≡ false
unfolding any
none-at f [] z e i = z
none-at f (x ∷ xs) z e zero = or_left (f x) (any f xs) e
none-at f (x ∷ xs) z e (suc i) = none-at f xs z (or_right (f x) (any f xs) e) i

at_none : (f : ℕ → Bool) (xs : List ℕ) → ((i : ℕ) → f (get_or xs i 0) ≡ false) → any f xs ≡ false
unfolding any
at_none f [] h = refl
at_none f (x ∷ xs) h = rw (h 0) (at_none f xs (λ i. h (suc i)))

module _ (own : ℕ) (xs : List ℕ) where
  -- byte i of the rest is byte own + i
  rest_at : (i : ℕ) → get_or (drop own xs) i 0 ≡ get_or xs (own + i) 0
  rest_at i = get_or-drop own xs i 0

  pub bytes-mean : bytes_legal own xs ≡ true → Bytes own xs
  unfolding bytes_legal
  bytes-mean e =
      let two = and_left (eqb (length xs) gpe_bytes && not (any (leb 256) xs)) (not (any (ltb 0) (drop own xs))) e in
      let small : any (leb 256) xs ≡ false = not-true _ (and_right (eqb (length xs) gpe_bytes) (not (any (leb 256) xs)) two) in
      let zeros : any (ltb 0) (drop own xs) ≡ false = not-true _ (and_right (eqb (length xs) gpe_bytes && not (any (leb 256) xs)) (not (any (ltb 0) (drop own xs))) e) in
      record {
        size = eqb-true (length xs) gpe_bytes (and_left _ _ two);
        below = λ i. leb-false 256 (get_or xs i 0) (none-at (leb 256) xs refl small i);
        past = λ i h.
            let same : own + (i - own) ≡ i = omega arith in
            let zero-byte : get_or (drop own xs) (i - own) 0 ≤ 0 = ltb-false 0 _ (none-at (ltb 0) (drop own xs) refl zeros (i - own)) in
            let here : get_or xs i 0 ≤ 0 = rw (rest_at, same) at zero-byte in
            omega arith;
      }

  pub mean-bytes : Bytes own xs → bytes_legal own xs ≡ true
  unfolding bytes_legal
  mean-bytes b =
      let small : any (leb 256) xs ≡ false = at_none (leb 256) xs (λ i. lt-leb 256 (get_or xs i 0) (b.below i)) in
      let zeros : any (ltb 0) (drop own xs) ≡ false
      = at_none (ltb 0) (drop own xs) (λ i. rw (rest_at i, b.past (own + i) (omega arith)) refl) in
      rw (b.size, small, zeros) refl

stored : (Q : ℕ → Type 0) (xs : List ℕ) (j i v : ℕ) → Q v → Q (get_or xs i 0) → Q (get_or (set xs j v) i 0)
stored Q [] j i v a b = b
stored Q (x ∷ xs) zero zero v a b = a
stored Q (x ∷ xs) zero (suc i) v a b = b
stored Q (x ∷ xs) (suc j) zero v a b = b
stored Q (x ∷ xs) (suc j) (suc i) v a b = stored Q xs j i v a b

-- one of the block's own bytes is stored
bytes-set : (own : ℕ) (xs : List ℕ) (j v : ℕ) → j < own → v < 256 → Bytes own xs → Bytes own (set xs j v)
bytes-set own xs j v h l b =
    record {
      size = length-set xs j v ∙ b.size;
      below = λ i. stored (λ x. x < 256) xs j i v l (b.below i);
      past = λ i o. get_or-set_other xs j i v 0 (λ e. omega arith) ∙ b.past i o;
    }

pub no_bytes_lem : (own : ℕ) → Bytes own no_bytes
unfolding any
no_bytes_lem own =
    let none : (i : ℕ) → get_or no_bytes i 0 ≤ 0 = λ i. ltb-false 0 (get_or no_bytes i 0) (none-at (ltb 0) no_bytes refl refl i) in
    record { size = refl; below = λ i. omega (arith, none i); past = λ i o. omega (arith, none i) }

bytes-if : (own : ℕ) (t : Bool) (xs ys : List ℕ) → (t ≡ true → Bytes own xs) → (t ≡ false → Bytes own ys) → Bytes own (cond t xs ys)
bytes-if own true xs ys p q = p refl
bytes-if own false xs ys p q = q refl

-- an event's bit
pub bytes-with-bit : (size : ℕ) (xs : List ℕ) (k : ℕ) → size % 2 ≡ 0 → k < 4 * size → Bytes (size / 2) xs → Bytes (size / 2) (with_bit xs k)
bytes-with-bit size xs k even h b =
    let place : k % 8 < 8 = omega arith in
    bytes-set (size / 2) xs (k / 8) _ (omega arith) (or_lt 8 (get_or xs (k / 8) 0) (2 ^ (k % 8)) (b.below (k / 8)) (pow-lt place)) b

-- a GPE block's length is even and at most the longest, since it is zero where the block is absent
pub gpe-length : (b : Block) → HasGpeLength b → HasNone b → (b.length % 2 ≡ 0) × (b.length ≤ gpe_longest)
gpe-length b some none = go (present b) refl
  where
    go : (t : Bool) → present b ≡ t → (b.length % 2 ≡ 0) × (b.length ≤ gpe_longest)
    go true e = ((some e).0, (some e).2)
    go false e = rw (none e) (refl, lit≤ tt)

-- so that an event of the block has a byte
pub event-has-byte : (size own : ℕ) (xs : List ℕ) (k : ℕ) → size ≤ gpe_longest → k < 4 * size → Bytes own xs → k / 8 < length xs
event-has-byte size own xs k most h b = rw b.size (omega arith)

module _ (m : Machine) (b : Bool) (offset written : ℕ) where
  pub status-written : Bytes (gpe_half m.settings b) (gpe_sts m b) → Bytes (gpe_half m.settings b) (gpe_sts_after m b offset written)
  unfolding gpe_sts_after in_gpe_status
  status-written p =
      bytes-if _ (ltb offset (gpe_half m.settings b)) _ _
      (λ e. bytes-set _ (gpe_sts m b) offset _ (ltb-true offset _ e) (kept-lt 8 (get_or (gpe_sts m b) offset 0) _) p) (λ e. p)

  pub enable-written : (size : ℕ) → gpe_half m.settings b ≡ size / 2 → size % 2 ≡ 0 → offset < size
      → Bytes (gpe_half m.settings b) (gpe_en m b) → Bytes (gpe_half m.settings b) (gpe_en_after m b offset written)
  unfolding gpe_en_after in_gpe_status
  enable-written size half even h p =
      bytes-if _ (ltb offset (gpe_half m.settings b)) _ _ (λ e. p)
      (λ e. bytes-set _ (gpe_en m b) (offset - gpe_half m.settings b) (written % 2 ^ 8) (omega (arith, ltb-false offset _ e)) (mod-lt written (pow_pos 8)) p)
