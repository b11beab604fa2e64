use Prim.Native.Nat.{ℕ, ◌≤◌, ◌<◌, ◌+◌}
use mathlib.Core.Bool.{Bool}
use mathlib.Core.Path.{◌≡◌, refl, sym, ◌∙◌}
use mathlib.Core.List.{List}
use native.Mathlib.Numerals.{add-one}
use native.Mathlib.Omega.{arith}
use lib.Bits.{bit_or, or_zero_r}
use lib.ListN.{drop, get_or, length, drop_of_length-le}
use lib.Seq.{drop-cons}
use Rattle.bits.proofs.Algebra.{or_assoc}
use Rattle.cells.specs.declared.Cell.{Cell}
use Rattle.cells.specs.declared.Column.{Column}
use Rattle.cells.specs.declared.Status.TheVariants as status
use Rattle.cells.specs.declared.Enable.TheVariants as enable
use Rattle.cells.specs.declared.Fitted.TheVariants as fitted
use Rattle.cells.specs.Cells.{row, cell_bit, mask_of, cells}
use Rattle.cells.proofs.mask.Goals as goal

-- what an index past the table would read
abbrev past : Cell
past = row 0 status.Tmr enable.No fitted.Always

-- one row more
turn : (of : Column) (flags : ℕ) (timer : Bool) (xs : List Cell) (d : Cell) (i m : ℕ) → i < length xs
    → bit_or (bit_or m (cell_bit of flags timer (get_or xs i d))) (mask_of of flags timer (drop (i + 1) xs)) ≡ bit_or m (mask_of of flags timer (drop i xs))
unfolding mask_of
turn of flags timer xs d i m h = or_assoc m _ _ ∙ rw (add-one, drop-cons xs i d h) refl

end : (of : Column) (flags : ℕ) (timer : Bool) (xs : List Cell) (i m : ℕ) → length xs ≤ i → bit_or m (mask_of of flags timer (drop i xs)) ≡ m
unfolding mask_of
end of flags timer xs i m h = rw (drop_of_length-le xs h) (or_zero_r m)

pub loop-c-preserved : goal.loop-c-preserved
loop-c-preserved c =
    let a = c.args in
    let l = c.loop-c in
    let h : l.c-index < length cells = omega arith in
    rw c.cell_bit-m.ensures (turn a.of a.flags a.timer cells past l.c-index l.m h ∙ l.invariant)

pub returns : goal.returns
returns c =
    let h : length cells ≤ c.loop-c.c-index = omega arith in
    sym (end _ _ _ cells _ _ h) ∙ c.loop-c.invariant
