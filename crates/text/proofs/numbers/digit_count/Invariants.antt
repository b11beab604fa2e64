-- `text::numbers::digit_count` meets its contract. The loop's invariant: the digits counted and those of the rest make one more than all;
-- the count cannot wrap, since the rest falls as it grows. Assumes nothing.
use mathlib.Core.Path.{◌≡◌}
use Prim.Native.Nat.{◌+◌, ◌≤◌}
use Rattle.text.specs.Numbers.{digit_count}
use Rattle.text.proofs.numbers.digit_count.Given as goal

abbrev pub invariant-loop-rest : goal.invariant-loop-rest
invariant-loop-rest l = (l.count + digit_count l.base l.rest ≡ digit_count l.base l.n + 1) × (l.count + l.rest ≤ l.n + 1)

abbrev pub decreases-loop-rest : goal.decreases-loop-rest
decreases-loop-rest l = l.rest
