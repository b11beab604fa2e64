-- The loops that read and write numbers: one turn and the end of each, in rest form. Assumes nothing.
use mathlib.Core.Path.{◌≡◌, refl}
use mathlib.Core.Bool.{true, ◌&&◌}
use mathlib.Core.List.{List}
use Prim.Native.Nat.{ℕ, suc, ◌+◌, ◌*◌, ◌/◌, ◌%◌, ◌^◌, ◌≤◌, ◌<◌}
use native.Mathlib.Nat.{mul-le-mul_right, suc-mul, pow-suc, pow-le-pow_right}
use native.Mathlib.Numerals.{add-one}
use native.Mathlib.Omega.{arith}
use lib.Dec.{ltb}
use lib.ListN.{length, get_or, set, drop, drop_of_length-le}
use lib.Seq.{sets, drop-cons}
use Rattle.text.proofs.Stores.{sets-append, sets-set}
use Rattle.text.specs.Numbers.{digit_of, glyph, value_from, all_digits, digits}
use Rattle.text.proofs.Digits.{digits-length}

-- the loops over a text: one turn at its byte i, and the end
pub all-digits-turn : (b : ℕ) (xs : List ℕ) (i : ℕ) → i < length xs
    → all_digits b (drop i xs) ≡ (ltb (digit_of (get_or xs i 0)) b && all_digits b (drop (i + 1) xs))
unfolding all_digits
all-digits-turn b xs i h = rw (drop-cons xs i 0 h, add-one)

pub all-digits-end : (b : ℕ) (xs : List ℕ) (i : ℕ) → length xs ≤ i → all_digits b (drop i xs) ≡ true
unfolding all_digits
all-digits-end b xs i h = rw (drop_of_length-le xs h)

pub value-turn : (b n : ℕ) (xs : List ℕ) (i : ℕ) → i < length xs
    → value_from b n (drop i xs) ≡ value_from b (n * b + digit_of (get_or xs i 0)) (drop (i + 1) xs)
unfolding value_from
value-turn b n xs i h = rw (drop-cons xs i 0 h, add-one)

-- a digit more, a power more
pub value_room : (b n d i : ℕ) → n < b ^ i → d < b → n * b + d < b ^ (i + 1)
value_room b n d i h k = let top : suc n * b ≤ b ^ i * b = mul-le-mul_right b h in rw (add-one, pow-suc) (omega (arith, suc-mul n b))

-- and one more digit is within as many as may be
pub digit_room : (b n d i most : ℕ) → 1 ≤ b → n < b ^ i → d < b → i + 1 ≤ most → n * b + d < b ^ most
digit_room b n d i most k h p q = let room = value_room b n d i h p in let top = pow-le-pow_right k q in omega (arith, room, top)

pub value-end : (b n : ℕ) (xs : List ℕ) (i : ℕ) → length xs ≤ i → value_from b n (drop i xs) ≡ n
unfolding value_from
value-end b n xs i h = rw (drop_of_length-le xs h)

-- the loop that writes digits, from the last to the first
pub digits-turn : (b : ℕ) (l : List ℕ) (at k n : ℕ)
    → sets l at (digits b (suc k) n) ≡ sets (set l (at + k) (glyph (n % b))) at (digits b k (n / b))
unfolding digits
digits-turn b l at k n =
    let long = digits-length b k (n / b) in
    rw (sets-append l at (digits b k (n / b)), sets-set l at (at + k) (glyph (n % b)) (digits b k (n / b)) (omega arith), long)

pub digits-end : (b : ℕ) (l : List ℕ) (at n : ℕ) → sets l at (digits b 0 n) ≡ l
unfolding digits
digits-end b l at n = refl
