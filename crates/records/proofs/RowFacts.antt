-- The table's facts, each computed once. Assumes nothing.
use mathlib.Core.Bool.{Bool, false, ◌||◌}
use mathlib.Core.Path.{◌≡◌, refl}
use Prim.Native.Nat.{ℕ, ◌≤◌, ◌<◌}
use native.Mathlib.Omega.{arith}
use borrow.Author.Tests.{ltb-false}
use lib.Dec.{ltb}
use lib.ListN.{length, get_or}
use Rattle.lists.specs.Any.{any}
use Rattle.lists.proofs.Search.{any_none}
use Rattle.lists.proofs.Tests.{or_left, or_right}
use Rattle.records.specs.Ascii.{ascii}
use Rattle.records.specs.Rows.{Row, row_count, rows, no_row}
use Rattle.records.specs.Records.{records_length}

-- a row that would not do: a name of more than 16 bytes, no name, no digit, or more digits than a number has
abbrev pub unsound : Row → Bool
unsound r = ltb 16 (length r.name) || (ltb (length r.name) 1 || (ltb r.width 1 || ltb 16 r.width))

-- a row that will do
pub record Sound (r : Row) : Type 0 where
  pub named : length r.name ≤ 16
  pub some : 1 ≤ length r.name
  pub shown : 1 ≤ r.width
  pub short : r.width ≤ 16

pub sound : (r : Row) → unsound r ≡ false → Sound r
sound r e =
    let rest = or_right (ltb 16 (length r.name)) _ e in
    let wide = or_right (ltb (length r.name) 1) _ rest in
    record {
      named = ltb-false _ _ (or_left (ltb 16 (length r.name)) _ e);
      some = ltb-false _ _ (or_left (ltb (length r.name) 1) _ rest);
      shown = ltb-false _ _ (or_left (ltb r.width 1) _ wide);
      short = ltb-false _ _ (or_right (ltb r.width 1) _ wide);
    }

pub row_count_lem : length rows ≡ row_count
unfolding rows ascii
row_count_lem = refl

pub rows-sound : any unsound rows ≡ false
unfolding rows ascii any
rows-sound = refl

pub first-edition-length : records_length 1 rows ≡ 669
unfolding rows ascii records_length
first-edition-length = refl

-- and the line of WAKE_PIN: eight letters, a tab, a digit and LF
pub second-edition-length : records_length 2 rows ≡ 680
unfolding rows ascii records_length
second-edition-length = refl

pub row-sound : (i : ℕ) → i < row_count → Sound (get_or rows i no_row)
row-sound i h = sound _ (any_none no_row unsound rows rows-sound i (omega (arith, row_count_lem)))
