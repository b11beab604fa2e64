-- The rule of the cell table: bit i of a mask is set exactly if some row that counts has bit i, and a mask has 16 bits. And the four masks that document 01 names.
-- By digits: or takes the larger digit, and a row's bit has the one digit. Assumes nothing.
use Prim.Native.Nat.{ℕ, ◌<◌, ◌+◌, ◌^◌, max}
use mathlib.Core.Bool.{Bool, true, false, cond, ◌&&◌, ◌||◌}
use mathlib.Core.Path.{◌≡◌, refl, sym, ◌∙◌, ap₂}
use mathlib.Core.List.{List, [], ◌∷◌}
use borrow.Author.Tests.{eqb-true, eqb-false, ltb-true, lt-ltb}
use lib.Bits.{or_lt}
use lib.Dec.{eqb, ltb, lit<}
use lib.Pow.{pow-lt}
use Rattle.lists.specs.Any.{any}
use Rattle.bits.specs.Digit.{digit}
use Rattle.bits.proofs.Digits.{digit_or, digit-zero, digit-own-bit, digit-other-bit}
use Rattle.cells.specs.declared.Cell.{Cell}
use Rattle.cells.specs.declared.Column.{Column}
use Rattle.cells.specs.declared.Column.TheVariants as column
use Rattle.cells.specs.Cells.{is_in, flag_of, bit_at, cell_bit, mask_of, cells}

-- a test as a digit
abbrev pub one : Bool → ℕ
one true = 1
one false = 0

one-or : (a b : Bool) → one (a || b) ≡ max (one a) (one b)
one-or true true = refl
one-or true false = refl
one-or false true = refl
one-or false false = refl

-- bit n of a register has the one digit n
bit-digit : (i n : ℕ) → i < 16 → (t u : Bool) → eqb n i ≡ t → ltb n 16 ≡ u → digit i (bit_at n) ≡ one t
unfolding bit_at
bit-digit i n h true u p q = rw (eqb-true n i p, lt-ltb i 16 h) (digit-own-bit i)
bit-digit i n h false true p q = rw q (digit-other-bit i n (λ e. eqb-false n i p (sym e)))
bit-digit i n h false false p q = rw q (digit-zero i)

row-digit : (of : Column) (flags : ℕ) (timer : Bool) (c : Cell) (i : ℕ) → i < 16 → (t : Bool) → is_in of flags timer c ≡ t
    → digit i (cell_bit of flags timer c) ≡ one (t && eqb c.bit i)
row-digit of flags timer c i h true e = rw e (bit-digit i c.bit h (eqb c.bit i) (ltb c.bit 16) refl refl)
row-digit of flags timer c i h false e = rw e (digit-zero i)

pub mask-digit : (of : Column) (flags : ℕ) (timer : Bool) (cs : List Cell) (i : ℕ) → i < 16
    → digit i (mask_of of flags timer cs) ≡ one (any (λ c. is_in of flags timer c && eqb c.bit i) cs)
unfolding mask_of any
mask-digit of flags timer [] i h = digit-zero i
mask-digit of flags timer (c ∷ cs) i h =
    digit_or i (cell_bit of flags timer c) (mask_of of flags timer cs) ∙
    ap₂ max (row-digit of flags timer c i h (is_in of flags timer c) refl) (mask-digit of flags timer cs i h) ∙
    sym (one-or (is_in of flags timer c && eqb c.bit i) (any (λ c. is_in of flags timer c && eqb c.bit i) cs))

-- a mask computed from the table has 16 bits
bit-small : (n : ℕ) → bit_at n < 2 ^ 16
unfolding bit_at
bit-small n = go (ltb n 16) refl
  where
    go : (t : Bool) → ltb n 16 ≡ t → cond t (2 ^ n) 0 < 2 ^ 16
    go true e = pow-lt (ltb-true n 16 e)
    go false e = lit< tt

cell-small : (of : Column) (flags : ℕ) (timer : Bool) (c : Cell) → cell_bit of flags timer c < 2 ^ 16
cell-small of flags timer c = go (is_in of flags timer c)
  where
    go : (t : Bool) → cond t (bit_at c.bit) 0 < 2 ^ 16
    go true = bit-small c.bit
    go false = lit< tt

pub mask-small : (of : Column) (flags : ℕ) (timer : Bool) (cs : List Cell) → mask_of of flags timer cs < 2 ^ 16
unfolding mask_of
mask-small of flags timer [] = lit< tt
mask-small of flags timer (c ∷ cs) = or_lt 16 (cell_bit of flags timer c) (mask_of of flags timer cs) (cell-small of flags timer c) (mask-small of flags timer cs)

-- "bit outside C731 hex", "Enable write FFFF reads 4721", "and 0721 hex": flags with bits 4, 5 and 6 clear and 14 set, with a timer, fit all
pub known-bits : (flags : ℕ) (timer : Bool) → mask_of column.Known flags timer cells ≡ 0xC731
unfolding mask_of bit_at
known-bits flags timer = refl

pub event-bits : (flags : ℕ) (timer : Bool) → mask_of column.Event flags timer cells ≡ 0x0721
unfolding mask_of bit_at
event-bits flags timer = refl

pub all-fitted : mask_of column.Status (2 ^ 14) true cells ≡ 0xC731
unfolding mask_of bit_at flag_of
all-fitted = refl

pub all-enables : mask_of column.Enable (2 ^ 14) true cells ≡ 0x4721
unfolding mask_of bit_at flag_of
all-enables = refl

pub none-fitted : mask_of column.Status (2 ^ 4 + 2 ^ 5 + 2 ^ 6) false cells ≡ 0x8030
unfolding mask_of bit_at flag_of
none-fitted = refl
