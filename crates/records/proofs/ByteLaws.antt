-- General event bytes: the turns of their loops, and what is written reads back. Assumes nothing.
use mathlib.Core.Bool.{Bool, true, false, cond}
use mathlib.Core.List.{List, [], ◌∷◌, ◌++◌, append_assoc, append-nil}
use mathlib.Core.Path.{◌≡◌, refl, sym, ap, ◌∙◌}
use Prim.Native.Nat.{ℕ, zero, suc, ◌+◌, ◌-◌, ◌*◌, ◌^◌, ◌≤◌, ◌<◌}
use native.Mathlib.Numerals.{add-one}
use native.Mathlib.Omega.{arith}
use borrow.Author.Tests.{ltb-true, ltb-false, lt-ltb, le-ltb}
use lib.Dec.{ltb}
use lib.ListN.{length, get_or, take, drop, set, replicate, length-append, take-append-drop, drop_of_length-le}
use lib.Seq.{sets, drop-cons, drop-drop, drop_at, take_at, take_all, take-suc-set, length-take-le}
use Rattle.text.specs.Numbers.{digits}
use Rattle.text.proofs.Digits.{digits-length, number-of-digits}
use Rattle.text.proofs.Stores.{sets_then}
use Rattle.records.proofs.Small.{number_small}
use Rattle.records.specs.Bytes.{bytes_text, byte_in, bytes_in, AllBytes}

-- two digits are a byte
pub byte-below : (xs : List ℕ) → byte_in xs < 2 ^ 8
byte-below xs = number_small 2 xs

-- two digits a byte
pub bytes-length : (bs : List ℕ) → length (bytes_text bs) ≡ length bs * 2
unfolding bytes_text
bytes-length [] = refl
bytes-length (b ∷ bs) =
    length-append (digits 16 2 b) (bytes_text bs) ∙ omega (arith, digits-length 16 2 b, bytes-length bs)

module _ (bs : List ℕ) (i : ℕ) (h : i < length bs) where
  bytes-turn : bytes_text (drop i bs) ≡ digits 16 2 (get_or bs i 0) ++ bytes_text (drop (i + 1) bs)
  unfolding bytes_text
  bytes-turn = rw (drop-cons bs i 0 h, add-one i)

  -- a byte written, and those after it
  pub write-byte-turn : (l : List ℕ) (at : ℕ)
      → sets (sets l (at + i * 2) (digits 16 2 (get_or bs i 0))) (at + (i + 1) * 2) (bytes_text (drop (i + 1) bs)) ≡ sets l (at + i * 2) (bytes_text (drop i bs))
  write-byte-turn l at =
      let long = digits-length 16 2 (get_or bs i 0) in
      sym (
      ap (sets l (at + i * 2)) bytes-turn
      ∙ sets_then l (at + i * 2) (at + (i + 1) * 2) (digits 16 2 (get_or bs i 0)) (bytes_text (drop (i + 1) bs)) (omega (arith, long))
      )

pub write-bytes-end : (bs l : List ℕ) (at i : ℕ) → length bs ≤ i → sets l at (bytes_text (drop i bs)) ≡ l
unfolding bytes_text
write-bytes-end bs l at i h = rw (drop_of_length-le bs h)

-- byte i is one of the first n
left_over : (n i : ℕ) → ltb 0 (n - i) ≡ ltb i n
left_over n i = go (ltb i n) refl
  where
    go : (t : Bool) → ltb i n ≡ t → ltb 0 (n - i) ≡ t
    go true e = lt-ltb 0 (n - i) (omega (arith, ltb-true i n e))
    go false e = le-ltb 0 (n - i) (omega (arith, ltb-false i n e))

module _ (most count i : ℕ) (xs : List ℕ) where
  in-turn : i < most
      → bytes_in (most - i) (count - i) (drop (i * 2) xs)
      ≡ cond (ltb i count) (byte_in (drop (i * 2) xs)) 0 ∷ bytes_in (most - (i + 1)) (count - (i + 1)) (drop ((i + 1) * 2) xs)
  unfolding bytes_in
  in-turn h =
      let m : most - i ≡ suc (most - (i + 1)) = omega arith in
      let n : count - i - 1 ≡ count - (i + 1) = omega arith in
      let o : i * 2 + 2 ≡ (i + 1) * 2 = omega arith in
      rw (m, left_over count i, drop-drop 2 (i * 2) xs, n, o)

  -- a byte read, and those after it
  pub read-byte-turn : (bytes : List ℕ) → i < most → i < length bytes
      → take (i + 1) (set bytes i (cond (ltb i count) (byte_in (drop (i * 2) xs)) 0)) ++ bytes_in (most - (i + 1)) (count - (i + 1)) (drop ((i + 1) * 2) xs)
      ≡ take i bytes ++ bytes_in (most - i) (count - i) (drop (i * 2) xs)
  read-byte-turn bytes h k =
      let byte = cond (ltb i count) (byte_in (drop (i * 2) xs)) 0 in
      let rest = bytes_in (most - (i + 1)) (count - (i + 1)) (drop ((i + 1) * 2) xs) in
      let one : take (i + 1) (set bytes i byte) ≡ take i bytes ++ (byte ∷ []) = rw (add-one i) (take-suc-set bytes i byte k) in
      ap (λ (l : List ℕ). l ++ rest) one ∙ append_assoc (take i bytes) (byte ∷ []) rest ∙ ap (λ (l : List ℕ). take i bytes ++ l) (sym (in-turn h))

pub read-bytes-end : (most count i : ℕ) (bytes xs : List ℕ) → most ≤ i → length bytes ≤ i → take i bytes ++ bytes_in (most - i) count xs ≡ bytes
unfolding bytes_in
read-bytes-end most count i bytes xs h k =
    let none : most - i ≡ 0 = omega arith in
    rw (none, append-nil) (take_all i bytes k)

-- none of them read
no_bytes_lem : (most : ℕ) (xs : List ℕ) → bytes_in most 0 xs ≡ replicate most 0
unfolding bytes_in
no_bytes_lem zero xs = refl
no_bytes_lem (suc most) xs = ap (λ (l : List ℕ). 0 ∷ l) (no_bytes_lem most (drop 2 xs))

byte-back : (b : ℕ) (rest : List ℕ) → b < 2 ^ 8 → byte_in (digits 16 2 b ++ rest) ≡ b
byte-back b rest h =
    rw (take_at (digits 16 2 b) rest 2 (digits-length 16 2 b)) (number-of-digits 16 (omega arith) (omega arith) 2 16 b (omega arith) (omega arith) h)

-- what was written reads back, with 0 past it
pub bytes_back : (bs rest : List ℕ) (most : ℕ) → AllBytes bs → length bs ≤ most
    → bytes_in most (length bs) (bytes_text bs ++ rest) ≡ bs ++ replicate (most - length bs) 0
unfolding bytes_text bytes_in AllBytes
bytes_back [] rest most f h = let all : most - 0 ≡ most = omega arith in rw all (no_bytes_lem most rest)
bytes_back (b ∷ bs) rest zero f h = absurd (omega arith)
bytes_back (b ∷ bs) rest (suc most) f h =
    let ih = bytes_back bs rest most f.1 (omega arith) in
    let n : suc (length bs) - 1 ≡ length bs = omega arith in
    let m : suc most - suc (length bs) ≡ most - length bs = omega arith in
    rw (lt-ltb 0 (suc (length bs)) (omega arith), append_assoc (digits 16 2 b) (bytes_text bs) rest, byte-back b (bytes_text bs ++ rest) f.0, drop_at (digits 16 2 b) (bytes_text bs ++ rest) 2 (digits-length 16 2 b), n, m, ih)

-- the bytes of a block, those past the count being 0
pub bytes-read-back : (bs rest : List ℕ) (count : ℕ) → count ≤ length bs → AllBytes (take count bs) → drop count bs ≡ replicate (length bs - count) 0
    → bytes_in (length bs) count (bytes_text (take count bs) ++ rest) ≡ bs
bytes-read-back bs rest count h f z =
    let long = length-take-le count bs h in
    ap (λ (n : ℕ). bytes_in (length bs) n (bytes_text (take count bs) ++ rest)) (sym long)
    ∙ bytes_back (take count bs) rest (length bs) f (omega (arith, long))
    ∙ ap (λ (n : ℕ). take count bs ++ replicate (length bs - n) 0) long
    ∙ ap (λ (l : List ℕ). take count bs ++ l) (sym z)
    ∙ take-append-drop count bs

-- what stands after it is left
pub bytes_rest : (bs rest : List ℕ) → drop (length bs * 2) (bytes_text bs ++ rest) ≡ rest
bytes_rest bs rest = drop_at (bytes_text bs) rest (length bs * 2) (bytes-length bs)
