-- What the measured loops share: what they set up and prepare, one step and the lines with what they add, steps round and round, and the number that a run gives.
use Rattle.std.specs.Hash.DefaultHasher.{wrapping_add}
use Rattle.std.specs.Prelude.{ℕ, zero, suc, ◌+◌, Bool, true, false, cond, List, [], ◌∷◌, nat_lt}
use Rattle.machine.specs.Fields.{with_event, with_sci_en}
use Rattle.machine.specs.Lines.{sci_of, smi_of}
use Rattle.machine.specs.SetUp.{set_up_of}
use Rattle.machine.specs.declared.Machine.{Machine}
use Rattle.machine.specs.declared.SetUp.{SetUp}
use Rattle.model.specs.Answer.{step_number, step_value}
use Rattle.model.specs.Step.{step_of}
use Rattle.model.specs.declared.Step.{Step}
use Rattle.model.specs.declared.Step.TheVariants as step
use Rattle.speed_runs.specs.declared.Ports.{Ports}
use Rattle.speed_runs.specs.declared.Run.{Run}

-- "platform 0400 0000 0 00 - - 52 - 70"
abbrev pub event_homes : ℕ
event_homes = 1024

abbrev pub pairs : List (List ℕ)
pairs = (0 ∷ 0 ∷ []) ∷ (255 ∷ 255 ∷ []) ∷ (255 ∷ 255 ∷ []) ∷ (5 ∷ 2 ∷ []) ∷ (255 ∷ 255 ∷ []) ∷ (7 ∷ 0 ∷ []) ∷ []

-- the worked session's host, with or without the override
abbrev pub set_up_here : List ℕ → Bool → SetUp
set_up_here table power-override = set_up_of table event_homes 0 power-override pairs

-- PM1 status and control: block A from base on, block B 40 hex further; GPE0's first status byte 20 hex further, its first enable byte 22 hex
unfoldable pub ports_of : ℕ → Ports
ports_of base =
    record { sts_a = base; sts_b = wrapping_add base 64; cnt_a = wrapping_add base 4; cnt_b = wrapping_add base 68; gpe_sts = wrapping_add base 32; gpe_en = wrapping_add base 34 }

-- so many bytes read, or written
abbrev pub read_at : ℕ → ℕ → Step
read_at port width = step.Read (record { port = port; width = width })

abbrev pub write_at : ℕ → ℕ → ℕ → Step
write_at port width written = step.Write (record { port = port; width = width }) written

-- before the first step: SCI_EN, PWRBTN_EN, RTC_EN and BM set
unfoldable pub prepared_of : Machine → Run
prepared_of m = record { machine = with_sci_en (with_event m 16 1280) true; value = 0; older = 0; sum = 0 }

-- one step: its answer's number and value are added
unfoldable pub run_step : Run → Step → Run
run_step r s =
    record {
      machine = (step_of r.machine s).machine;
      value = step_value (step_of r.machine s).answer;
      older = r.value;
      sum = wrapping_add r.sum (step_number (step_of r.machine s).answer + step_value (step_of r.machine s).answer);
    }

-- SCI counts 1, and SMI 2
unfoldable pub lines_added : Run → Run
lines_added r =
    record {
      machine = r.machine;
      value = r.value;
      older = r.older;
      sum = wrapping_add (wrapping_add r.sum (cond (sci_of r.machine) 1 0)) (cond (smi_of r.machine) 2 0);
    }

-- the sum, with the status cells and the counter at the end
unfoldable pub sum_of : Run → ℕ
sum_of r = wrapping_add (wrapping_add r.sum r.machine.pm1_sts) r.machine.counter

-- ---- round and round

-- a round: the place of its last step, the step at a place, where the second number is the value of the step before the last, and whether the lines are added after it
pub record Steps : Type 0 where
  pub last : ℕ
  pub at : ℕ → ℕ → Step
  pub lines : ℕ → Bool

-- after the last place comes the first
unfoldable pub next_place : ℕ → ℕ → ℕ
next_place last k = cond (nat_lt k last) (k + 1) 0

-- the lines are added where a round has them
abbrev pub lines_if : Bool → Run → Run
lines_if has-lines r = cond has-lines (lines_added r) r

-- n steps of a round from a place on
unfoldable pub rounds_of : Steps → ℕ → ℕ → Run → Run
rounds_of s zero k r = r
rounds_of s (suc n) k r = rounds_of s n (next_place s.last k) (lines_if (s.lines k) (run_step r (s.at k r.older)))

-- the run whole: set up as in the worked session, prepared, n steps
unfoldable pub rounds_run : List ℕ → Steps → ℕ → ℕ
rounds_run table s n = sum_of (rounds_of s n 0 (prepared_of (set_up_here table false).machine))
