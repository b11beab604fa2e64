-- The rows of steps: each row's steps in their order, and the number that n steps round and round give.
use Rattle.std.specs.Prelude.{ℕ, Bool, false, List, [], ◌∷◌, ◌==◌, slice_index_or}
use Rattle.model.specs.declared.Event.{Event}
use Rattle.model.specs.declared.Event.TheVariants as event
use Rattle.model.specs.declared.Step.{Step}
use Rattle.model.specs.declared.Step.TheVariants as step
use Rattle.speed_runs.specs.Runs.{ports_of, read_at, write_at, Steps, rounds_run}
use Rattle.speed_runs.specs.declared.Ports.{Ports}
use Rattle.speed_steps.specs.declared.Row.{Row}
use Rattle.speed_steps.specs.declared.Row.TheVariants as row
use Rattle.speed_steps.specs.declared.RowSteps.{RowSteps}

-- ---- the rows

-- in their order; the last is every further number's too
abbrev pub rows : List Row
rows = row.StatusRead ∷ row.WriteBack ∷ row.Events ∷ row.Tick ∷ row.Ticks ∷ row.Interrupt ∷ []

unfoldable pub row_of : ℕ → Row
row_of n = slice_index_or rows n row.Sleep

-- the place of a row's last step
abbrev pub last_of : Row → ℕ
last_of row.StatusRead = 0
last_of row.WriteBack = 0
last_of row.Events = 6
last_of row.Tick = 0
last_of row.Ticks = 0
last_of row.Interrupt = 4
last_of row.Sleep = 4

-- seven events
abbrev pub events : List Event
events = event.Press ∷ event.Release ∷ event.SleepPress ∷ event.Alarm ∷ event.BusMaster ∷ event.Unlock ∷ []

unfoldable pub event_at : ℕ → Event
event_at k = slice_index_or events k (event.General 3)

-- an interrupt round: an alarm, both halves of status read, and each written back what it read, two steps before
abbrev pub interrupt : Ports → ℕ → List Step
interrupt p older = step.Event event.Alarm ∷ read_at p.sts_a 2 ∷ read_at p.sts_b 2 ∷ write_at p.sts_a 2 older ∷ []

unfoldable pub interrupt_at : ℕ → Ports → ℕ → Step
interrupt_at k p older = slice_index_or (interrupt p older) k (write_at p.sts_b 2 older)

-- to S3, and an alarm that wakes; WAK and RTC cleared
abbrev pub sleep : Ports → List Step
sleep p = write_at p.cnt_a 2 13312 ∷ write_at p.cnt_b 2 10240 ∷ step.Event event.Alarm ∷ write_at p.sts_a 2 32768 ∷ []

unfoldable pub sleep_at : ℕ → Ports → Step
sleep_at k p = slice_index_or (sleep p) k (write_at p.sts_b 2 1024)

-- the step at a place of a row, where `older` is the value of the step before the last
unfoldable pub step_at : Row → ℕ → Ports → ℕ → Step
step_at row.StatusRead k p older = read_at p.sts_a 2
step_at row.WriteBack k p older = write_at p.sts_a 2 33024
step_at row.Events k p older = step.Event (event_at k)
step_at row.Tick k p older = step.Event (event.Ticks 1)
step_at row.Ticks k p older = step.Event (event.Ticks 4294967295)
step_at row.Interrupt k p older = interrupt_at k p older
step_at row.Sleep k p older = sleep_at k p

-- the lines are added at the end of an interrupt round
abbrev pub has_lines : Row → ℕ → Bool
has_lines row.StatusRead k = false
has_lines row.WriteBack k = false
has_lines row.Events k = false
has_lines row.Tick k = false
has_lines row.Ticks k = false
has_lines row.Interrupt k = k == 4
has_lines row.Sleep k = false

-- ---- a run

abbrev pub row_steps : RowSteps → Steps
row_steps s = record { last = last_of s.row; at = λ k older. step_at s.row k s.ports older; lines = has_lines s.row }

-- the run whole: n steps of a row
unfoldable pub steps_run : List ℕ → ℕ → ℕ → ℕ → ℕ
steps_run table base x n = rounds_run table (row_steps (record { row = row_of x; ports = ports_of base })) n
