-- Demand 3, from every machine with legal settings: the split accesses fit the two laws of reordering, and a list of steps keeps its settings.
-- Assumes nothing.
use mathlib.Core.Bool.{Bool, true, false}
use mathlib.Core.List.{List, [], ◌∷◌}
use mathlib.Core.Path.{◌≡◌, refl, sym, ◌∙◌}
use Rattle.lists.specs.Any.{any}
use Rattle.lists.proofs.Tests.{or_left, or_right}
use Rattle.runs.specs.Items.{Item, one, control, event, steps_of, Every, Awake, Throughout, after as after_all}
use Rattle.runs.proofs.Fit.{Fit, Sortable, sortable-by, every-imp}
use Rattle.runs.proofs.Moved.{moved-runs}
use Rattle.runs.proofs.Runs.{kept-after}
use Rattle.platform.specs.Blocks.{present}
use Rattle.platform.specs.Legal.{Guaranteed}
use Rattle.platform.specs.declared.settings.Settings.{Settings}
use Rattle.machine.specs.SetUp.{set_up_of}
use Rattle.machine.specs.declared.Machine.{Machine}
use Rattle.machine.proofs.Accepted.{accepted-guaranteed}
use Rattle.model.specs.Step.{answer_to, after, step_of}
use Rattle.model.proofs.Settings.{settings-kept}
use Rattle.model.specs.declared.Step.{Step}
use Rattle.split_access.specs.Start.{InS0}
use Rattle.split_access.specs.Gap.{on_event, before, is_button, is_ticking}
use Rattle.split_access.specs.Claims.{access_at, Halves, reads, writes, GapStep, gap_step, mixed, ItemOn, step-item, control-item, event-item, MovesFrom, Demand3}
use Rattle.split_access.proofs.Free.{Ok, EventHalf, event-read, event-write, ControlHalf, control-read, control-write, Free, past-control, past-half-a, past-event, FreeLast, past-half-b, swap, swap-last}
use Rattle.split_access.proofs.Leads.{event-a, event-b, control-a}
use Rattle.split_access.proofs.Sides.{true-false, sides_apart}

-- ---- the halves

module _ (s : Settings) (legal : Guaranteed s) where
  first-event : {h h' : Step} → Halves s.pm1a_evt s.pm1b_evt h h' → EventHalf s false h
  first-event (reads offset width o) = event-read (access_at s.pm1a_evt offset width) (event-a s legal offset o)
  first-event (writes offset width v w o) = event-write (access_at s.pm1a_evt offset width) v (event-a s legal offset o)

  second-event : {h h' : Step} → present s.pm1b_evt ≡ true → Halves s.pm1a_evt s.pm1b_evt h h' → EventHalf s true h'
  second-event p (reads offset width o) = event-read (access_at s.pm1b_evt offset width) (event-b s legal offset p o)
  second-event p (writes offset width v w o) = event-write (access_at s.pm1b_evt offset width) w (event-b s legal offset p o)

  first-control : {h h' : Step} → present s.pm1b_cnt ≡ true → Halves s.pm1a_cnt s.pm1b_cnt h h' → ControlHalf s h
  first-control p (reads offset width o) = control-read (access_at s.pm1a_cnt offset width) (control-a s legal offset o)
  first-control p (writes offset width v w o) = control-write (access_at s.pm1a_cnt offset width) v (control-a s legal offset o) p

-- ---- the gap

-- a gap with no button, or a gap with no ticks
data GapKind (gap : List Step) : Type 0 where
  no-button : any (on_event is_button) gap ≡ false → GapKind gap
  no-ticks : any (on_event is_ticking) gap ≡ false → GapKind gap

kind-of : (gap : List Step) (t u : Bool) → any (on_event is_button) gap ≡ t → any (on_event is_ticking) gap ≡ u → mixed gap ≡ false → GapKind gap
kind-of gap false u p q e = no-button p
kind-of gap true false p q e = no-ticks q
kind-of gap true true p q e = true-false (rw (p, q) at e)

-- each step of a gap, with what is known of all of them
every-with : (f : Step → Bool) (gap : List Step) → Every GapStep gap → any f gap ≡ false → Every (λ x. GapStep x × (f x ≡ false)) gap
unfolding Every any
every-with f [] steps e = tt
every-with f (x ∷ gap) steps e = ((steps.0, or_left (f x) (any f gap) e), every-with f gap steps.1 (or_right (f x) (any f gap) e))

module _ (s : Settings) where
  apart-no-button : (g b : Step) → GapStep g × (on_event is_button g ≡ false) → GapStep b × (on_event is_button b ≡ false)
      → before s g ≡ false → before s b ≡ true → Free s g b
  apart-no-button g b kg kb p q = go g b kg.0 kb.0 kg.1 kb.1 p q
    where
      go : (g b : Step) → GapStep g → GapStep b → on_event is_button g ≡ false → on_event is_button b ≡ false → before s g ≡ false → before s b ≡ true → Free s g b
      go g b (gap_step x) (gap_step y) ng nb p q =
          past-event x y (sides_apart s x y p q (record { buttons = λ h. true-false (sym h ∙ ng); ticks = λ h. nb }))

  apart-no-ticks : (g b : Step) → GapStep g × (on_event is_ticking g ≡ false) → GapStep b × (on_event is_ticking b ≡ false)
      → before s g ≡ false → before s b ≡ true → Free s g b
  apart-no-ticks g b kg kb p q = go g b kg.0 kb.0 kg.1 kb.1 p q
    where
      go : (g b : Step) → GapStep g → GapStep b → on_event is_ticking g ≡ false → on_event is_ticking b ≡ false → before s g ≡ false → before s b ≡ true → Free s g b
      go g b (gap_step x) (gap_step y) ng nb p q =
          past-event x y (sides_apart s x y p q (record { buttons = λ h. nb; ticks = λ h. true-false (sym h ∙ ng) }))

  gap-sortable : (gap : List Step) → Every GapStep gap → GapKind gap → Sortable (before s) (Free s) gap
  gap-sortable gap steps (no-button e) = sortable-by (before s) (Free s) (λ x. GapStep x × (on_event is_button x ≡ false)) apart-no-button gap (every-with (on_event is_button) gap steps e)
  gap-sortable gap steps (no-ticks e) = sortable-by (before s) (Free s) (λ x. GapStep x × (on_event is_ticking x ≡ false)) apart-no-ticks gap (every-with (on_event is_ticking) gap steps e)

-- ---- the items

past-a : (s : Settings) (h g : Step) → EventHalf s false h → GapStep g → before s g ≡ true → Free s h g
past-a s h g half (gap_step e) p = past-half-a e half p

past-b : (s : Settings) (h g : Step) → EventHalf s true h → GapStep g → before s g ≡ false → FreeLast s g h
past-b s h g half (gap_step e) p = past-half-b e half p

past-c : (s : Settings) (h g : Step) → ControlHalf s h → GapStep g → Free s h g
past-c s h g half (gap_step e) = past-control e half

fits-item : (s : Settings) → Guaranteed s → (i : Item Step) → ItemOn s i → Fit (before s) (Free s) (FreeLast s) i
unfolding Fit
fits-item s legal i (step-item x) = tt
fits-item s legal i (control-item {h = h} {gap = gap} p halves g) =
    every-imp GapStep (Free s h) (λ x. past-c s h x (first-control s legal p halves)) gap g.steps
fits-item s legal i (event-item {h = h} {h' = h'} {gap = gap} p halves g) = (
  every-imp GapStep (λ x. before s x ≡ true → Free s h x) (λ x k. past-a s h x (first-event s legal halves) k) gap g.steps,
  every-imp GapStep (λ x. before s x ≡ false → FreeLast s x h') (λ x k. past-b s h' x (second-event s legal p halves) k) gap g.steps,
  gap-sortable s gap g.steps (kind-of gap (any (on_event is_button) gap) (any (on_event is_ticking) gap) refl refl g.unmixed),
)

-- ---- awake, with the settings

module _ (s : Settings) where
  throughout-ok : (m : Machine) (l : List Step) → m.settings ≡ s → Throughout after InS0 m l → Throughout after (Ok s) m l
  unfolding Throughout
  throughout-ok m [] e t = record { settings = e; state = t }
  throughout-ok m (x ∷ l) e t = (record { settings = e; state = t.0 }, throughout-ok (after m x) l (settings-kept m x ∙ e) t.1)

  pub all-kept : (m : Machine) (l : List Step) → m.settings ≡ s → (after_all after m l).settings ≡ s
  all-kept m l e = kept-after after (λ k. k.settings ≡ s) (λ k x h. settings-kept k x ∙ h) m l e

  awake-ok : (items : List (Item Step)) (m : Machine) → m.settings ≡ s → Awake after InS0 m items → Awake after (Ok s) m items
  unfolding Awake
  awake-ok [] m e a = tt
  awake-ok (one x ∷ l) m e a = awake-ok l (after m x) (settings-kept m x ∙ e) a
  awake-ok (control h gap h' ∷ l) m e a =
      (throughout-ok m (h ∷ gap) e a.0, awake-ok l _ (settings-kept _ h' ∙ all-kept m (h ∷ gap) e) a.1)
  awake-ok (event h gap h' ∷ l) m e a =
      (throughout-ok m (h ∷ gap) e a.0, awake-ok l _ (settings-kept _ h' ∙ all-kept m (h ∷ gap) e) a.1)

-- ---- the claim

-- from every machine whose settings are as an accepted set-up guarantees them
pub moves_from : (m : Machine) → Guaranteed m.settings → MovesFrom step_of m
moves_from m legal items end on awake run =
    moved-runs answer_to after (Ok m.settings) (before m.settings) (Free m.settings) (FreeLast m.settings) (swap m.settings) (swap-last m.settings)
    items m end
    (every-imp (ItemOn m.settings) (Fit (before m.settings) (Free m.settings) (FreeLast m.settings)) (λ i k. fits-item m.settings legal i k) (steps_of items) on)
    (awake-ok m.settings (steps_of items) m refl awake)
    run

-- "The list starts at a machine as setting up gives it"
pub demand-3 : Demand3 set_up_of step_of
demand-3 t event_homes control_homes power-override pairs e =
    moves_from (set_up_of t event_homes control_homes power-override pairs).machine
    (accepted-guaranteed t event_homes control_homes power-override pairs e)
