-- A half access and an event, in either order, on an awake machine.
-- A read looks at cells that the event leaves alone; a write clears and takes cells that it leaves alone, by the bit laws.
-- Assumes nothing.
use mathlib.Core.Bool.{Bool, true, false, cond, and-false}
use mathlib.Core.Path.{◌≡◌, refl, sym, ◌∙◌, ap}
use Prim.Native.Nat.{ℕ, ◌<◌, ◌^◌}
use lib.Bits.{bit_and, bit_or}
use Rattle.bits.specs.Writes.{kept}
use Rattle.bits.proofs.Writes.{raise-after-kept, read-after-raise}
use Rattle.runs.proofs.Runs.{Commute}
use Rattle.machine.specs.declared.Machine.{Machine}
use Rattle.model.specs.Bus.{command_lost, read_of, write_of}
use Rattle.model.specs.Control.{names_none, completes, controlled, typ_after, armed_after, bm_rld_after, gbl_rls_after}
use Rattle.registers.specs.Registers.{status_in, clearable, ones_in, in_status, status_after, enable_after, has_pm1b_cnt}
use Rattle.machine.specs.Fields.{with_event}
use Rattle.machine.specs.Lines.{awake}
use Rattle.model.proofs.Steps.{reads-change-nothing}
use Rattle.model.specs.Step.{answer_to, after, accepted, register_of, offset_of}
use Rattle.model.specs.declared.Access.{Access}
use Rattle.model.specs.declared.Event.{Event}
use Rattle.model.specs.declared.Register.TheVariants as register
use Rattle.model.specs.declared.Step.{Step}
use Rattle.model.specs.declared.Step.TheVariants as step
use Rattle.split_access.proofs.Effects.{affected, effect_of, On, event-affects}

-- ---- the frame

-- what an event looks at is the same in both machines
pub record Same (m n : Machine) : Type 0 where
  pub settings : n.settings ≡ m.settings
  pub button : n.button ≡ m.button
  pub hold : n.hold ≡ m.hold
  pub counter : n.counter ≡ m.counter
  pub pin : n.wake_pin ≡ m.wake_pin
  pub state : n.state ≡ m.state

pub on_same : (m n : Machine) (g : Event) → Same m n → On m g → On n g
on_same m n g same on = rw (same.settings, same.button, same.hold, same.counter) on

pub on-back : (m n : Machine) (g : Event) → Same m n → On n g → On m g
on-back m n g same on = rw (← same.settings, ← same.button, ← same.hold, ← same.counter) on

-- the half leaves n, looks the same after the event, and does the same after it
pub record Passes (m : Machine) (g : Event) (x : Step) : Type 0 where
  pub n : Machine
  pub same : Same m n
  pub half : after m x ≡ n
  pub shows : answer_to m x ≡ answer_to (affected (effect_of m.settings g) m) x
  pub does : after (affected (effect_of m.settings g) m) x ≡ affected (effect_of m.settings g) n

pub half-commutes : (m : Machine) (g : Event) (x : Step) → m.state ≡ 0 → On m g → Passes m g x → Commute answer_to after m x (step.Event g)
half-commutes m g x z on p =
    let g-m = event-affects m g z on in
    let g-n = event-affects p.n g (p.same.state ∙ z) (on_same m p.n g p.same on) in
    let says : answer_to p.n (step.Event g) ≡ answer_to m (step.Event g) =
    g-n.0 ∙ (rw (p.same.settings, p.same.button, p.same.hold, p.same.counter, p.same.pin) refl) ∙ sym g-m.0 in
    let ends : after p.n (step.Event g) ≡ affected (effect_of m.settings g) p.n = g-n.1 ∙ (rw p.same.settings refl) in
    (rw g-m.1 p.shows, rw p.half says, rw (p.half, g-m.1) (ends ∙ sym p.does))

pub commute-back : (m : Machine) (x y : Step) → Commute answer_to after m x y → Commute answer_to after m y x
commute-back m x y c = (sym c.1, sym c.0, sym c.2)

-- ---- reads

same_self : (m : Machine) → Same m m
same_self m = record { settings = refl; button = refl; hold = refl; counter = refl; pin = refl; state = refl }

module _ (m : Machine) (g : Event) where
  abbrev E : Machine
  E = affected (effect_of m.settings g) m

  abbrev mask : ℕ
  mask = (effect_of m.settings g).mask m.button m.hold m.counter

  read-passes : (a : Access) → answer_to m (step.Read a) ≡ answer_to E (step.Read a) → Passes m g (step.Read a)
  read-passes a shows = record { n = m; same = same_self m; half = reads-change-nothing m a; shows = shows; does = reads-change-nothing E a }

  -- "Elsewhere .. reads give zero": the event's bit does not show in the other block
  pub event-read-passes : (a : Access) (b : Bool) → register_of m a ≡ register.Pm1Evt b → bit_and mask (status_in m.settings b) ≡ 0 → Passes m g (step.Read a)
  unfolding answer_to read_of awake
  event-read-passes a b r d =
      read-passes a
      (rw (r, read-after-raise m.pm1_sts mask (status_in m.settings b) d) refl)

  -- no event changes a control cell
  pub control-read-passes : (a : Access) (b : Bool) → register_of m a ≡ register.Pm1Cnt b → Passes m g (step.Read a)
  unfolding answer_to read_of awake
  control-read-passes a b r = read-passes a (rw r refl)

  -- ---- writes

  -- the answer is the same, and where the write is refused it changes nothing
  refused-passes : (x : Step) → answer_to m x ≡ answer_to E x → accepted (answer_to m x) ≡ false → Passes m g x
  unfolding after
  refused-passes x shows e =
      record {
        n = m;
        same = same_self m;
        half = rw e refl;
        shows = shows;
        does = rw (← shows, e) refl;
      }

  event-write-shows : (a : Access) (written : ℕ) (b : Bool) → register_of m a ≡ register.Pm1Evt b → answer_to m (step.Write a written) ≡ answer_to E (step.Write a written)
  unfolding answer_to awake command_lost names_none
  event-write-shows a written b r = rw r refl

  status-passes : (a : Access) (written : ℕ) (b : Bool) → clearable E b ≡ clearable m b
      → bit_and mask (ones_in m b a.width (offset_of m a) written) ≡ 0
      → ones_in m b a.width (offset_of m a) written < 2 ^ 16
      → mask < 2 ^ 16
      → status_after E b a.width (offset_of m a) written ≡ bit_or (status_after m b a.width (offset_of m a) written) mask
  unfolding status_after
  status-passes a written b same d ones< mask< = rw same (go (in_status (offset_of m a)))
    where
      go : (t : Bool)
          → cond t (kept 16 (bit_or m.pm1_sts mask) (ones_in m b a.width (offset_of m a) written)) (bit_or m.pm1_sts mask)
          ≡ bit_or (cond t (kept 16 m.pm1_sts (ones_in m b a.width (offset_of m a) written)) m.pm1_sts) mask
      go true = raise-after-kept 16 m.pm1_sts _ mask ones< mask< d
      go false = refl

  -- a write to the event cells of the other block
  pub event-write-passes : (a : Access) (written : ℕ) (b : Bool) → register_of m a ≡ register.Pm1Evt b → clearable E b ≡ clearable m b
      → bit_and mask (ones_in m b a.width (offset_of m a) written) ≡ 0
      → ones_in m b a.width (offset_of m a) written < 2 ^ 16
      → mask < 2 ^ 16
      → Passes m g (step.Write a written)
  unfolding after write_of enable_after
  event-write-passes a written b r same d ones< mask< = go (accepted (answer_to m (step.Write a written))) refl
    where
      shows : answer_to m (step.Write a written) ≡ answer_to E (step.Write a written)
      shows = event-write-shows a written b r

      go : (t : Bool) → accepted (answer_to m (step.Write a written)) ≡ t → Passes m g (step.Write a written)
      go false e = refused-passes (step.Write a written) shows e
      go true e =
          record {
            n = with_event m (status_after m b a.width (offset_of m a) written) (enable_after m b a.width (offset_of m a) written);
            same = record { settings = refl; button = refl; hold = refl; counter = refl; pin = refl; state = refl };
            half = rw (e, r) refl;
            shows = shows;
            does = rw (← shows, e, r) (ap (λ (x : ℕ). with_event E x (enable_after m b a.width (offset_of m a) written)) (status-passes a written b same d ones< mask<));
          }

  -- a write to block A's control cells, with block B present: it may arm, and completes nothing
  completes-not : (width offset written : ℕ) → has_pm1b_cnt m.settings ≡ true → completes m false width offset written ≡ false
  unfolding completes
  completes-not width offset written h = rw (h, and-false) refl

  completes-not' : (width offset written : ℕ) → has_pm1b_cnt m.settings ≡ true → completes E false width offset written ≡ false
  unfolding completes
  completes-not' width offset written h = rw (h, and-false) refl

  control-write-shows : (a : Access) (written : ℕ) → register_of m a ≡ register.Pm1Cnt false → has_pm1b_cnt m.settings ≡ true
      → answer_to m (step.Write a written) ≡ answer_to E (step.Write a written)
  unfolding answer_to awake command_lost names_none
  control-write-shows a written r h =
      rw (r, completes-not a.width (offset_of m a) written h, completes-not' a.width (offset_of m a) written h) refl

  pub control-write-passes : (a : Access) (written : ℕ) → register_of m a ≡ register.Pm1Cnt false → has_pm1b_cnt m.settings ≡ true → Passes m g (step.Write a written)
  unfolding after write_of typ_after armed_after bm_rld_after gbl_rls_after
  control-write-passes a written r h = go (accepted (answer_to m (step.Write a written))) refl
    where
      shows : answer_to m (step.Write a written) ≡ answer_to E (step.Write a written)
      shows = control-write-shows a written r h

      go : (t : Bool) → accepted (answer_to m (step.Write a written)) ≡ t → Passes m g (step.Write a written)
      go false e = refused-passes (step.Write a written) shows e
      go true e =
          record {
            n = controlled m false a.width (offset_of m a) written;
            same = record { settings = refl; button = refl; hold = refl; counter = refl; pin = refl; state = refl };
            half = rw (e, r, completes-not a.width (offset_of m a) written h) refl;
            shows = shows;
            does = rw (← shows, e, r, completes-not' a.width (offset_of m a) written h) refl;
          }
