-- A step that leaves a machine asleep that was awake found nothing pending. Only a control write that completes enters one of S1 to S4, and it looks first:
-- with a bit pending it ends in S0 again. Every other step keeps S0, or by the override enters S5. What is stored of the general event bits is the
-- walk's answer from setting up on. Assumes nothing.
use mathlib.Core.Bool.{Bool, true, false, cond, ◌&&◌, false≢true}
use mathlib.Core.Logic.{⊎_elim}
use mathlib.Core.List.{List}
use mathlib.Core.Path.{◌≡◌, refl, sym, ◌∙◌, ap}
use Prim.Native.Nat.{ℕ}
use Rattle.machine.specs.SetUp.{set_up_of}
use Rattle.machine.specs.Sleep.{is_sleeping, pending, completed}
use Rattle.machine.specs.declared.Machine.{Machine}
use Rattle.model.specs.Bus.{write_of}
use Rattle.model.specs.Control.{completes, entered_state, controlled, control_written}
use Rattle.model.specs.Step.{register_of, offset_of, answer_to, accepted, done_of, after, step_of}
use Rattle.model.specs.declared.Event.{Event}
use Rattle.model.specs.declared.Register.{Register}
use Rattle.model.specs.declared.Register.TheVariants as register
use Rattle.model.specs.declared.Step.{Step}
use Rattle.model.specs.declared.Step.TheVariants as step
use Rattle.model.proofs.Legal.{Gpe, legal-gpe, set-up-gpe}
use Rattle.model.proofs.LinesExactly.{WalkStored, stored-walked}
use Rattle.model.proofs.Ticks.{cond-ap}
use Rattle.runs.specs.Items.{after as after_all}
use Rattle.split_access.specs.Start.{AfterLegal}
use Rattle.split_access.specs.WakesAtOnce.{WakesAtOnceFrom, WakesAtOnce}
use Rattle.split_access.proofs.ByWalk.{walk_after}
use Rattle.split_access.proofs.Effects.{On, event-affects, on-or-off}

-- from m, if the state is one of S1 to S4, nothing is pending for it
abbrev Rests : Machine → ℕ → Type 0
Rests m state = is_sleeping state ≡ true → pending m state ≡ false

-- S0 and S5 are none of S1 to S4
zero-rests : (m : Machine) (state : ℕ) → state ≡ 0 → Rests m state
unfolding is_sleeping
zero-rests m state z e = absurd (false≢true (rw z at e))

five-rests : (m : Machine) → Rests m 5
unfolding is_sleeping
five-rests m e = absurd (false≢true e)

rests-if : (m : Machine) (t : Bool) (x y : Machine) → Rests m x.state → Rests m y.state → Rests m (cond t x y).state
rests-if m true x y p q = p
rests-if m false x y p q = q

-- ---- completing

-- "the machine wakes in the same step": S0 again, where one of S1 to S4 is completed with something pending
pub completed-state : (m : Machine) (state : ℕ) → (completed m state).state ≡ cond (is_sleeping state && pending m state) 0 state
unfolding completed
completed-state m state = cond-ap (λ (k : Machine). k.state) (is_sleeping state && pending m state) _ _

completed-rests : (m : Machine) (state : ℕ) → Rests m (completed m state).state
unfolding is_sleeping
completed-rests m state = rw (completed-state m state) (go (is_sleeping state) (pending m state) refl refl)
  where
    go : (l p : Bool) → is_sleeping state ≡ l → pending m state ≡ p → Rests m (cond (l && p) 0 state)
    go true true e f h = absurd (false≢true h)
    go true false e f h = f
    go false p e f h = absurd (false≢true (sym e ∙ h))

-- ---- a machine that is awake

module _ (m : Machine) (z : m.state ≡ 0) where
  -- a step that keeps the state
  still : Rests m m.state
  still = zero-rests m m.state z

  -- ---- writes

  -- a control write changes nothing of what is looked at
  control-rests : (b : Bool) (width offset written : ℕ) → Rests m (control_written m b width offset written).state
  unfolding pending
  control-rests b width offset written =
      rests-if m (completes m b width offset written) _ _
      (completed-rests (controlled m b width offset written) (entered_state m b width offset written)) still

  write-rests : (r : Register) (width offset written : ℕ) → Rests m (write_of m r width offset written).state
  unfolding write_of
  write-rests register.SmiCmd width offset written = still
  write-rests (register.Pm1Evt b) width offset written = still
  write-rests (register.Pm1Cnt b) width offset written = control-rests b width offset written
  write-rests register.Pm2Cnt width offset written = still
  write-rests register.PmTmr width offset written = still
  write-rests (register.Gpe true) width offset written = still
  write-rests (register.Gpe false) width offset written = still
  write-rests register.Nowhere width offset written = still

  -- ---- events

  -- an event that is no override keeps S0
  kept-rests : (e : Event) → On m e → Rests m (after m (step.Event e)).state
  kept-rests e on = zero-rests m _ (ap (λ (k : Machine). k.state) (event-affects m e z on).1 ∙ z)

  event-rests : (e : Event) → Rests m (after m (step.Event e)).state
  event-rests e = ⊎_elim (kept-rests e) (λ five. rw five (five-rests m)) (on-or-off m e z)

  -- ---- every step

  -- a refusal keeps the state too
  either-rests : (x : Step) → Rests m (done_of m x).state → Rests m (after m x).state
  unfolding after
  either-rests x p = rests-if m (accepted (answer_to m x)) (done_of m x) m p still

  step-rests : (x : Step) → Rests m (after m x).state
  step-rests (step.Read a) = either-rests (step.Read a) still
  step-rests (step.Write a written) = either-rests (step.Write a written) (write-rests (register_of m a) a.width (offset_of m a) written)
  step-rests (step.Event e) = event-rests e
  step-rests step.Take = either-rests step.Take still
  step-rests step.Drop = either-rests step.Drop still

-- ---- the claim

-- from every machine that has the walk's answer stored
pub wakes-at-once-from : (m : Machine) → WalkStored m → WakesAtOnceFrom step_of m
wakes-at-once-from m stored x z l = rw (stored-walked m stored) (step-rests m z x l)

-- after any steps from general event bytes that are right
wakes-at-once-after : (m : Machine) (steps : List Step) → Gpe m → WakesAtOnceFrom step_of (after_all after m steps)
wakes-at-once-after m steps p = wakes-at-once-from (after_all after m steps) (walk_after m steps p)

-- "after any steps from setting up"
pub wakes-at-once : WakesAtOnce set_up_of step_of
wakes-at-once t event_homes control_homes power-override pairs e steps =
    wakes-at-once-after _ steps (set-up-gpe t event_homes control_homes power-override pairs e)

-- after any steps from a legal machine
pub wakes-at-once-from-legal : AfterLegal step_of (WakesAtOnceFrom step_of)
wakes-at-once-from-legal m e steps = wakes-at-once-after m steps (legal-gpe m e)
