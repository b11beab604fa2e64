-- The row of SCI and SMI alone: no step, the status cells changed in each turn.
use Rattle.std.specs.Hash.DefaultHasher.{wrapping_add}
use Rattle.std.specs.Prelude.{ℕ, zero, suc, ◌/◌, ◌%◌, ◌^◌, false, List, replicate}
use Rattle.machine.specs.Fields.{with_event, with_gpe}
use Rattle.machine.specs.PowerOn.{gpe_bytes}
use Rattle.machine.specs.declared.Machine.{Machine}
use Rattle.speed_runs.specs.Runs.{set_up_here, prepared_of, lines_added}
use Rattle.speed_runs.specs.declared.Run.{Run}

abbrev pub all_bytes : ℕ → List ℕ
all_bytes x = replicate gpe_bytes x

-- every general enable byte the same; gpe_pending is kept here and below, which is right where they are zero
unfoldable pub all_enabled : Machine → ℕ → Machine
all_enabled m enables = with_gpe m m.gpe0_sts (all_bytes enables) m.gpe1_sts (all_bytes enables) m.gpe_pending

-- PM1 status the sum's low 16 bits, every status byte of GPE0 its low 8, and of GPE1 the next 8
unfoldable pub status_from : Machine → ℕ → Machine
status_from m sum =
    with_gpe (with_event m (sum % 2 ^ 16) m.pm1_en) (all_bytes (sum % 2 ^ 8)) m.gpe0_en (all_bytes (sum / 2 ^ 8 % 2 ^ 8)) m.gpe1_en m.gpe_pending

-- the status cells from the sum so far, and the lines added
abbrev pub lines_from : Run → Run
lines_from r = lines_added (record { machine = status_from r.machine r.sum; value = r.value; older = r.older; sum = r.sum })

-- 257 more: every status byte differs in the next turn
unfoldable pub lines_turn : Run → Run
lines_turn r = record { machine = (lines_from r).machine; value = (lines_from r).value; older = (lines_from r).older; sum = wrapping_add (lines_from r).sum 257 }

-- n turns
unfoldable pub lines_turns : ℕ → Run → Run
lines_turns zero r = r
lines_turns (suc n) r = lines_turns n (lines_turn r)

-- the run whole: set up as in the worked session, every general enable byte as given, prepared, n turns
unfoldable pub lines_run : List ℕ → ℕ → ℕ → ℕ
lines_run table enables n = (lines_turns n (prepared_of (all_enabled (set_up_here table false).machine enables))).sum
