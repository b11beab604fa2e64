-- What request W1's theorems compare: the value of n ticks at once, and of n steps of one tick.
use Rattle.std.specs.Prelude.{ℕ, zero, suc, ◌+◌}
use Rattle.machine.specs.declared.Machine.{Machine}
use Rattle.model.specs.Answer.{step_value}
use Rattle.model.specs.Step.{ticks, answer_to, after}

abbrev pub turns_given : Machine → ℕ → ℕ
turns_given m n = step_value (answer_to m (ticks n))

-- the values of n steps of one tick, added up
unfoldable pub given_singly : Machine → ℕ → ℕ
given_singly m zero = 0
given_singly m (suc n) = turns_given m 1 + given_singly (after m (ticks 1)) n
