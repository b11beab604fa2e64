-- `cells::mask` meets its contract. The loop's invariant: what is left of the table, added to the mask, gives the mask of the whole table. Assumes nothing.
use mathlib.Core.Path.{◌≡◌}
use lib.Bits.{bit_or}
use lib.ListN.{drop}
use Rattle.cells.specs.Cells.{mask_of, cells}
use Rattle.cells.proofs.mask.Given as goal

abbrev pub invariant-loop-c : goal.invariant-loop-c
invariant-loop-c l = bit_or l.m (mask_of l.of l.flags l.timer (drop l.c-index cells)) ≡ mask_of l.of l.flags l.timer cells
