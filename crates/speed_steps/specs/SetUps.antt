-- The row that sets up, n times.
use Rattle.std.specs.Hash.DefaultHasher.{wrapping_add}
use Rattle.std.specs.Prelude.{ℕ, zero, suc, ◌%◌, cond, List, ◌==◌}
use Rattle.platform.specs.Answer.{set_up_number}
use Rattle.machine.specs.declared.SetUp.{SetUp}
use Rattle.speed_runs.specs.Runs.{set_up_here}

-- one more, with the override where the sum so far is odd; its number, and 3 or 1 by the override kept, are added
abbrev pub set_up_with : List ℕ → ℕ → SetUp
set_up_with table sum = set_up_here table (sum % 2 == 1)

unfoldable pub set_up_turn : List ℕ → ℕ → ℕ
set_up_turn table sum = wrapping_add (wrapping_add sum (set_up_number (set_up_with table sum).answer)) (cond (set_up_with table sum).machine.settings.power_override 3 1)

-- n more
unfoldable pub set_ups_of : List ℕ → ℕ → ℕ → ℕ
set_ups_of table zero sum = sum
set_ups_of table (suc n) sum = set_ups_of table n (set_up_turn table sum)
