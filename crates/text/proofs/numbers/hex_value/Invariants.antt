-- The loop's invariant: what is left is all digits exactly if the whole is, and read on from the number so far gives the value of the whole;
-- the number so far has no more digits than were read.
use mathlib.Core.Path.{◌≡◌}
use Prim.Native.Nat.{◌^◌, ◌<◌}
use lib.ListN.{drop}
use Rattle.text.specs.Numbers.{value_from, value_of, all_digits}
use Rattle.text.proofs.numbers.hex_value.Given as goal

abbrev pub invariant-loop-x : goal.invariant-loop-x
invariant-loop-x l = record {
  digits : all_digits 16 (drop l.x-index l.text) ≡ all_digits 16 l.text;
  value : value_from 16 l.n (drop l.x-index l.text) ≡ value_of 16 l.text;
  room : l.n < 16 ^ l.x-index;
}
