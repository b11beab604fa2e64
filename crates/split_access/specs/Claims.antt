-- "Halves and gaps": demand 3, of a set-up and a step.
use Rattle.std.specs.Prelude.{Bool, true, false, ◌&&◌, List, ◌≡◌, ℕ, ◌+◌, ◌<◌}
use Rattle.lists.specs.Any.{any}
use Rattle.runs.specs.Items.{Item, one, control, event, original, moved, steps_of, Every, Run, Awake}
use Rattle.platform.specs.Blocks.{present}
use Rattle.platform.specs.declared.block.Block.{Block}
use Rattle.platform.specs.declared.settings.Settings.{Settings}
use Rattle.machine.specs.declared.Machine.{Machine}
use Rattle.model.specs.declared.Access.{Access}
use Rattle.model.specs.declared.Answer.{Answer}
use Rattle.model.specs.declared.Event.{Event}
use Rattle.model.specs.declared.Step.{Step}
use Rattle.model.specs.declared.Step.TheVariants as step
use Rattle.split_access.specs.Start.{SettingUp, Stepping, next_by, InS0, FromSetUp}
use Rattle.split_access.specs.Gap.{on_event, before, is_button, is_ticking}

-- an access as the guest writes it: the block's address plus an offset
abbrev pub access_at : Block → ℕ → ℕ → Access
access_at b offset width = record { port = b.address + offset; width = width }

-- the two halves of a split access, document 01's words: "two bus steps, both reads or both writes, of one width at one offset, first in .. block A, then in the same block of B ..; each may write its own data"
pub data Halves (a b : Block) : Step → Step → Type 0 where
  reads : (offset width : ℕ) → offset < a.length → Halves a b (step.Read (access_at a offset width)) (step.Read (access_at b offset width))
  writes : (offset width first second : ℕ) → offset < a.length
      → Halves a b (step.Write (access_at a offset width) first) (step.Write (access_at b offset width) second)

-- "any number of presses, releases, sleep presses, alarms, PCIe wakes, bus-master, unlock and general events, and ticks"
-- Request W3, in place of the PCIe wakes: "both pin steps count among the events"
pub data GapStep : Step → Type 0 where
  gap_step : (e : Event) → GapStep (step.Event e)

-- "no gap holds both a press or release and ticks (n above zero)"
abbrev pub mixed : List Step → Bool
mixed gap = any (on_event is_button) gap && any (on_event is_ticking) gap

pub record Gap (gap : List Step) : Type 0 where
  pub steps : Every GapStep gap
  pub unmixed : mixed gap ≡ false

-- an item of a list, on a platform with these settings: any step, or a split access whose block B is present, with such a gap
pub data ItemWith (G : List Step → Type 0) (s : Settings) : Item Step → Type 0 where
  step-item : (x : Step) → ItemWith G s (one x)
  control-item : {h h' : Step} {gap : List Step} → present s.pm1b_cnt ≡ true → Halves s.pm1a_cnt s.pm1b_cnt h h' → G gap
      → ItemWith G s (control h gap h')
  event-item : {h h' : Step} {gap : List Step} → present s.pm1b_evt ≡ true → Halves s.pm1a_evt s.pm1b_evt h h' → G gap
      → ItemWith G s (event h gap h')

abbrev pub ItemOn : Settings → Item Step → Type 0
ItemOn s i = ItemWith Gap s i

-- a machine keeps its answers and its end when the gaps' steps are moved out of the split accesses: of these items, with the steps that pass
-- the test moved before an event access
abbrev pub MovesBy : (Settings → Item Step → Type 0) → (Settings → Step → Bool) → Stepping → Machine → Type 0
MovesBy On first stepped m =
    (items : List (Item (Step × Answer))) (end : Machine)
    → Every (On m.settings) (steps_of items)
    → Awake (next_by stepped) InS0 m (steps_of items)
    → Run (λ k x. (stepped k x).answer) (next_by stepped) m (original items) end
    → Run (λ k x. (stepped k x).answer) (next_by stepped) m (moved (λ p. first m.settings p.0) items) end

abbrev pub MovesFrom : Stepping → Machine → Type 0
MovesFrom stepped m = MovesBy ItemOn before stepped m

-- "Demand 3 is one claim about a whole list": from every machine as setting up gives it
abbrev pub Demand3By : (Settings → Item Step → Type 0) → (Settings → Step → Bool) → SettingUp → Stepping → Type 0
Demand3By On first setting stepped = FromSetUp setting (MovesBy On first stepped)

abbrev pub Demand3 : SettingUp → Stepping → Type 0
Demand3 setting stepped = Demand3By ItemOn before setting stepped
