-- What a field's value gives back, each over plain numbers, tests and lists: the definitions of `specs/Values.antt` read backwards.
-- Assumes nothing.
use mathlib.Core.Bool.{Bool, true, false, not, cond, ◌&&◌, ◌||◌, false≢true}
use mathlib.Core.List.{List, [], ◌∷◌}
use mathlib.Core.Path.{◌≡◌, refl, sym, ◌∙◌, ap}
use Prim.Native.Nat.{ℕ, zero, suc, ◌+◌, ◌*◌, ◌-◌, ◌/◌, ◌%◌, ◌^◌, ◌≤◌, ◌<◌, min, max}
use native.Mathlib.Nat.{mod-eq_of_lt, mod-lt}
use native.Mathlib.Omega.{arith}
use borrow.Author.Tests.{eqb-true, ltb-false, ne_eqb, not-false}
use lib.Bits.{bit_and, bit_or, or_lt, or_shifted_r}
use lib.Dec.{eqb, ltb, lit<}
use lib.ListN.{length, get_or}
use lib.Pow.{pow_pos}
use Rattle.lists.proofs.Tests.{or_left, or_right, and_left, and_right}
use Rattle.bits.specs.Digit.{digit}
use Rattle.bits.specs.Writes.{within}
use Rattle.bits.proofs.Digits.{digit-le, digit_and, digit_or, digit_not, digit-mod, digit-own-bit, same-digits-below}
use Rattle.bits.proofs.Algebra.{disjoint-digit}
use Rattle.bits.proofs.Writes.{masked-lt, within-masked}
use Rattle.sleep.specs.Pairs.{a_of, b_of, absent, out_of_range}
use Rattle.platform.specs.Blocks.{block, present}
use Rattle.platform.specs.Legal.{HasLength, HasNone}
use Rattle.platform.specs.declared.block.Block.{Block}
use Rattle.machine.specs.Status.{has_bit}
use Rattle.registers.specs.Registers.{homes_in, bit_when}
use Rattle.values.specs.Values.{flag_value, pair_value, command_value}

-- ---- flags and the command latch

pub flag-back : (b : Bool) → eqb (flag_value b % 2) 1 ≡ b
flag-back true = refl
flag-back false = refl

pub bit-0-back : (b : Bool) → eqb (bit_when b 0 / 2 ^ 0 % 2) 1 ≡ b
bit-0-back true = refl
bit-0-back false = refl

pub waits_back : (waits : Bool) (command : ℕ) → command < 2 ^ 8 → eqb (command_value waits command / 2 ^ 8 % 2) 1 ≡ waits
waits_back true command h = let e : (2 ^ 8 + command) / 2 ^ 8 % 2 ≡ 1 = omega arith in rw e refl
waits_back false command h = refl

pub command-back : (waits : Bool) (command : ℕ) → command < 2 ^ 8 → (waits ≡ false → command ≡ 0) → command_value waits command % 2 ^ 8 ≡ command
command-back true command h z = omega arith
command-back false command h z = sym (z refl)

-- ---- blocks

pub block_back : (b : Block) → b.length < 2 ^ 8 → block b.address (b.length % 2 ^ 8) ≡ b
block_back b h = rw (mod-eq_of_lt h)

-- a PM1 block from its address and the length that serves A and B
pub pm1-block-back : (b : Block) (n : ℕ) → n < 2 ^ 8 → HasLength n b → HasNone b
    → block b.address (cond (not (eqb b.address 0)) (n % 2 ^ 8) 0) ≡ b
unfolding present
pm1-block-back b n small has none = go (not (eqb b.address 0)) refl
  where
    go : (t : Bool) → not (eqb b.address 0) ≡ t → block b.address (cond t (n % 2 ^ 8) 0) ≡ b
    go true p = rw (mod-eq_of_lt small, ← has p)
    go false p = rw (← none p)

-- ---- sleep pairs

-- a pair in range, or absent, has two bytes
pub pair-bytes : (p : List ℕ) → out_of_range p ≡ false → (a_of p < 2 ^ 8) × (b_of p < 2 ^ 8)
unfolding out_of_range absent
pair-bytes p e = go (eqb (a_of p) 255 && eqb (b_of p) 255) refl e
  where
    go : (t : Bool) → (eqb (a_of p) 255 && eqb (b_of p) 255) ≡ t → (not t && (ltb 7 (a_of p) || ltb 7 (b_of p))) ≡ false → (a_of p < 2 ^ 8) × (b_of p < 2 ^ 8)
    go true q r =
        let a : a_of p ≡ 255 = eqb-true (a_of p) 255 (and_left (eqb (a_of p) 255) (eqb (b_of p) 255) q) in
        let b : b_of p ≡ 255 = eqb-true (b_of p) 255 (and_right (eqb (a_of p) 255) (eqb (b_of p) 255) q) in
        (omega arith, omega arith)
    go false q r =
        let a : a_of p ≤ 7 = ltb-false 7 (a_of p) (or_left (ltb 7 (a_of p)) (ltb 7 (b_of p)) r) in
        let b : b_of p ≤ 7 = ltb-false 7 (b_of p) (or_right (ltb 7 (a_of p)) (ltb 7 (b_of p)) r) in
        (omega arith, omega arith)

pub pair-back : (p : List ℕ) → length p ≡ 2 → a_of p < 2 ^ 8 → b_of p < 2 ^ 8 → pair_value p / 2 ^ 8 % 2 ^ 8 ∷ pair_value p % 2 ^ 8 ∷ [] ≡ p
pair-back [] e ha hb = absurd (omega arith)
pair-back (a ∷ []) e ha hb = absurd (omega arith)
pair-back (a ∷ b ∷ []) e ha hb =
    let p : (a * 2 ^ 8 + b) / 2 ^ 8 % 2 ^ 8 ≡ a = omega arith in
    let q : (a * 2 ^ 8 + b) % 2 ^ 8 ≡ b = omega arith in
    rw (p, q)
pair-back (a ∷ b ∷ c ∷ p) e ha hb = absurd (omega arith)

-- six pairs, one by one
pub six-back : (ps : List (List ℕ)) → length ps ≡ 6
    → get_or ps 0 [] ∷ get_or ps 1 [] ∷ get_or ps 2 [] ∷ get_or ps 3 [] ∷ get_or ps 4 [] ∷ get_or ps 5 [] ∷ [] ≡ ps
six-back [] e = absurd (omega arith)
six-back (p ∷ []) e = absurd (omega arith)
six-back (p ∷ q ∷ []) e = absurd (omega arith)
six-back (p ∷ q ∷ r ∷ []) e = absurd (omega arith)
six-back (p ∷ q ∷ r ∷ s ∷ []) e = absurd (omega arith)
six-back (p ∷ q ∷ r ∷ s ∷ t ∷ []) e = absurd (omega arith)
six-back (p ∷ q ∷ r ∷ s ∷ t ∷ u ∷ []) e = refl
six-back (p ∷ q ∷ r ∷ s ∷ t ∷ u ∷ v ∷ ps) e = absurd (omega arith)

-- ---- the halves of A and B

pub within-small : (mask x : ℕ) → mask < 2 ^ 16 → bit_and x mask ≡ x → x < 2 ^ 16
within-small mask x h e = rw e at (masked-lt 16 x mask h)

-- the same of one digit: it shows in A, or with h in B
half-digit : (x c h : ℕ) → x ≤ 1 → x ≤ c → h ≤ 1 → max (min x (min c (1 - h))) (min x (min c h)) ≡ x
half-digit x c zero s w l = omega arith
half-digit x c (suc zero) s w l = omega arith
half-digit x c (suc (suc h)) s w l = absurd (omega arith)

digit-within : (cells x i : ℕ) → bit_and x cells ≡ x → digit i x ≤ digit i cells
digit-within cells x i e = omega (arith, sym (digit_and i x cells) ∙ ap (digit i) e)

-- the halves of a register that A and B show make the whole
pub halves-back : (cells homes x : ℕ) → cells < 2 ^ 16 → homes < 2 ^ 16 → within cells x ≡ true
    → bit_or (bit_and x (bit_and cells (homes_in homes false)) % 2 ^ 16) (bit_and x (bit_and cells (homes_in homes true)) % 2 ^ 16) ≡ x
halves-back cells homes x hc hh w =
    let e : bit_and x cells ≡ x = within-masked cells x w in
    let a = bit_and x (bit_and cells (2 ^ 16 - 1 - homes)) in
    let b = bit_and x (bit_and cells homes) in
    same-digits-below 16 {a = bit_or (a % 2 ^ 16) (b % 2 ^ 16)} {b = x}
    (or_lt 16 (a % 2 ^ 16) (b % 2 ^ 16) (mod-lt a (pow_pos 16)) (mod-lt b (pow_pos 16)))
    (within-small cells x hc e)
    (λ i l. rw (digit_or i (a % 2 ^ 16) (b % 2 ^ 16), digit-mod 16 i a l, digit-mod 16 i b l)
    (simp (digit_and, digit_not 16 i homes hh l)
    (half-digit (digit i x) (digit i cells) (digit i homes) (digit-le i x) (digit-within cells x i e) (digit-le i homes))))

-- ---- control registers

-- SCI_EN and BM_RLD, below the type
abbrev low : Bool → Bool → ℕ
low sci-en bm-rld = bit_or (bit_when sci-en 0) (bit_when bm-rld 1)

-- SCI_EN, BM_RLD and SLP_TYP of a register
abbrev pub register : Bool → Bool → ℕ → ℕ
register sci-en bm-rld typ = bit_or (low sci-en bm-rld) (typ % 8 * 2 ^ 10)

low_small : (sci-en bm-rld : Bool) → low sci-en bm-rld < 2 ^ 10
low_small true true = lit< tt
low_small true false = lit< tt
low_small false true = lit< tt
low_small false false = lit< tt

-- they stand side by side
module _ (sci-en bm-rld : Bool) (typ : ℕ) where
  side_by_side : register sci-en bm-rld typ ≡ typ % 8 * 2 ^ 10 + low sci-en bm-rld
  side_by_side = or_shifted_r (typ % 8) 10 (low sci-en bm-rld) (low_small sci-en bm-rld)

  bit-0-of : register sci-en bm-rld typ / 2 ^ 0 % 2 ≡ low sci-en bm-rld / 2 ^ 0 % 2
  bit-0-of = rw side_by_side (omega arith)

  bit-1-of : register sci-en bm-rld typ / 2 ^ 1 % 2 ≡ low sci-en bm-rld / 2 ^ 1 % 2
  bit-1-of = rw side_by_side (omega arith)

  pub sci-en-back : eqb (register sci-en bm-rld typ / 2 ^ 0 % 2) 1 ≡ sci-en
  sci-en-back = rw bit-0-of (go sci-en bm-rld)
    where
      go : (x y : Bool) → eqb (low x y / 2 ^ 0 % 2) 1 ≡ x
      go true true = refl
      go true false = refl
      go false true = refl
      go false false = refl

  pub bm-rld-back : eqb (register sci-en bm-rld typ / 2 ^ 1 % 2) 1 ≡ bm-rld
  bm-rld-back = rw bit-1-of (go sci-en bm-rld)
    where
      go : (x y : Bool) → eqb (low x y / 2 ^ 1 % 2) 1 ≡ y
      go true true = refl
      go true false = refl
      go false true = refl
      go false false = refl

  pub slp-typ-back : typ < 8 → register sci-en bm-rld typ / 2 ^ 10 % 8 ≡ typ
  slp-typ-back h = rw side_by_side (omega (arith, low_small sci-en bm-rld))

-- a bit lives in block A or in block B
pub some-home : (homes i : ℕ) → homes < 2 ^ 16 → i < 16 → has_bit (homes_in homes true) (2 ^ i) ≡ false → has_bit (homes_in homes false) (2 ^ i) ≡ true
unfolding has_bit
some-home homes i h l e =
    let none : bit_and homes (2 ^ i) ≡ 0 = eqb-true _ _ (not-false _ e) in
    ap not (ne_eqb (bit_and (2 ^ 16 - 1 - homes) (2 ^ i)) 0
    (λ z. omega (arith, disjoint-digit homes (2 ^ i) none i, disjoint-digit (2 ^ 16 - 1 - homes) (2 ^ i) z i, digit_not 16 i homes h l, digit-own-bit i)))

-- so it is set where either register shows it
pub either-back : (in-a in_b x : Bool) → (in_b ≡ false → in-a ≡ true) → ((in-a && x) || (in_b && x)) ≡ x
either-back true in_b true h = refl
either-back true true false h = refl
either-back true false false h = refl
either-back false true x h = refl
either-back false false x h = absurd (false≢true (h refl))
