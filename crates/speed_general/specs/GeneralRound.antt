-- The general event round: its steps in their order, and the number that n steps round and round give.
use Rattle.std.specs.Prelude.{ℕ, List, [], ◌∷◌, ◌==◌, slice_index_or}
use Rattle.model.specs.declared.Event.TheVariants as event
use Rattle.model.specs.declared.Step.{Step}
use Rattle.model.specs.declared.Step.TheVariants as step
use Rattle.speed_runs.specs.Runs.{ports_of, read_at, write_at, Steps, rounds_run}
use Rattle.speed_runs.specs.declared.Ports.{Ports}
use Rattle.speed_general.specs.declared.GeneralRound.{GeneralRound}

-- general event 3 enabled, raised, its status read and cleared
abbrev pub general : Ports → List Step
general p = write_at p.gpe_en 1 8 ∷ step.Event (event.General 3) ∷ read_at p.gpe_sts 1 ∷ []

unfoldable pub general_at : ℕ → Ports → Step
general_at k p = slice_index_or (general p) k (write_at p.gpe_sts 1 8)

-- the lines are added at the end of a round
abbrev pub general_steps : GeneralRound → Steps
general_steps s = record { last = 3; at = λ k older. general_at k s.ports; lines = λ k. k == 3 }

-- the run whole: n steps
unfoldable pub general_run : List ℕ → ℕ → ℕ → ℕ
general_run table base n = rounds_run table (general_steps (record { ports = ports_of base })) n
