-- Which two steps may change places on a machine with these settings that is awake, and that they may: the two laws that reordering stands on.
-- A half of block A and an event that goes before, block A's control half and any event, two events on different sides of which not both are live,
-- and an event that goes after and a half of block B. Assumes nothing.
use mathlib.Core.Bool.{Bool, true, false, not}
use mathlib.Core.Path.{◌≡◌}
use Prim.Native.Nat.{ℕ}
use Rattle.runs.proofs.Runs.{Commute}
use Rattle.platform.specs.declared.settings.Settings.{Settings}
use Rattle.machine.specs.declared.Machine.{Machine}
use Rattle.registers.specs.Registers.{has_pm1b_cnt}
use Rattle.model.specs.Ports.{register_at}
use Rattle.model.specs.Step.{answer_to, after, offset_of}
use Rattle.model.specs.declared.Access.{Access}
use Rattle.model.specs.declared.Event.{Event}
use Rattle.model.specs.declared.Register.TheVariants as register
use Rattle.model.specs.declared.Step.{Step}
use Rattle.model.specs.declared.Step.TheVariants as step
use Rattle.split_access.specs.Gap.{event_before}
use Rattle.split_access.proofs.Effects.{affected, effect_of, On, event-affects, event-on}
use Rattle.split_access.proofs.Commute.{Apart, events-commute}
use Rattle.split_access.proofs.Halves.{Passes, half-commutes, commute-back, on-back, event-read-passes, event-write-passes, control-read-passes, control-write-passes}
use Rattle.split_access.proofs.Homes.{mask_of, raises-at-home, raises-small, clearable-elsewhere, ones_small, ones-at-home}

-- awake, with these settings
pub record Ok (s : Settings) (m : Machine) : Type 0 where
  pub settings : m.settings ≡ s
  pub state : m.state ≡ 0

-- a half access to the event registers of a block, or to block A's control register with block B present
pub data EventHalf (s : Settings) (b : Bool) : Step → Type 0 where
  event-read : (a : Access) → register_at s a.port ≡ register.Pm1Evt b → EventHalf s b (step.Read a)
  event-write : (a : Access) (written : ℕ) → register_at s a.port ≡ register.Pm1Evt b → EventHalf s b (step.Write a written)

pub data ControlHalf (s : Settings) : Step → Type 0 where
  control-read : (a : Access) → register_at s a.port ≡ register.Pm1Cnt false → ControlHalf s (step.Read a)
  control-write : (a : Access) (written : ℕ) → register_at s a.port ≡ register.Pm1Cnt false → has_pm1b_cnt s ≡ true → ControlHalf s (step.Write a written)

pub data Free (s : Settings) : Step → Step → Type 0 where
  past-control : {x : Step} (e : Event) → ControlHalf s x → Free s x (step.Event e)
  past-half-a : {x : Step} (e : Event) → EventHalf s false x → event_before s e ≡ true → Free s x (step.Event e)
  past-event : (g e : Event) → Apart s g e → Free s (step.Event g) (step.Event e)

pub data FreeLast (s : Settings) : Step → Step → Type 0 where
  past-half-b : {x : Step} (e : Event) → EventHalf s true x → event_before s e ≡ false → FreeLast s (step.Event e) x

-- ---- a half and an event

-- the half passes the event, whose bits lie in the other block
event-half-passes : (m : Machine) (b : Bool) (e : Event) (x : Step) → EventHalf m.settings b x → event_before m.settings e ≡ not b → Passes m e x
event-half-passes m b e x (event-read a r) h =
    event-read-passes m e a b r (raises-at-home m.settings e b h m.button m.hold m.counter)
event-half-passes m b e x (event-write a written r) h =
    event-write-passes m e a written b r (clearable-elsewhere m e b h)
    (ones-at-home m b a.width (offset_of m a) written (mask_of m.settings e m.button m.hold m.counter) (raises-at-home m.settings e b h m.button m.hold m.counter))
    (ones_small m b a.width (offset_of m a) written)
    (raises-small m.settings e m.button m.hold m.counter)

control-half-passes : (m : Machine) (e : Event) (x : Step) → ControlHalf m.settings x → Passes m e x
control-half-passes m e x (control-read a r) = control-read-passes m e a false r
control-half-passes m e x (control-write a written r h) = control-write-passes m e a written r h

-- what a step leaves is awake, so that no override came
on-after : (m : Machine) (e : Event) (x : Step) → Passes m e x → (after m x).state ≡ 0 → (after (after m x) (step.Event e)).state ≡ 0 → On m e
on-after m e x p z w = on-back m p.n e p.same (event-on p.n e (rw p.half at z) (rw p.half at w))

-- an event that is no override leaves the machine awake: the new middle
event-ok : (s : Settings) (m : Machine) (e : Event) → Ok s m → On m e → Ok s (after m (step.Event e))
event-ok s m e ok on =
    let now = (event-affects m e ok.state on).1 in
    record { settings = rw now ok.settings; state = rw now ok.state }

half-swap : (s : Settings) (m : Machine) (e : Event) (x : Step) → Ok s m → Passes m e x → Ok s (after m x) → Ok s (after (after m x) (step.Event e))
    → Commute answer_to after m x (step.Event e) × Ok s (after m (step.Event e))
half-swap s m e x ok p ok₁ ok₂ =
    let on = on-after m e x p ok₁.state ok₂.state in
    (half-commutes m e x ok.state on p, event-ok s m e ok on)

-- ---- the two laws

pub swap : (s : Settings) (m : Machine) (x y : Step) → Free s x y → Ok s m → Ok s (after m x) → Ok s (after (after m x) y)
    → Commute answer_to after m x y × Ok s (after m y)
swap s m x y (past-control e h) ok ok₁ ok₂ = half-swap s m e x ok (control-half-passes m e x (rw ok.settings h)) ok₁ ok₂
swap s m x y (past-half-a e h q) ok ok₁ ok₂ =
    half-swap s m e x ok (event-half-passes m false e x (rw ok.settings h) (rw ok.settings q)) ok₁ ok₂
swap s m x y (past-event g e apart) ok ok₁ ok₂ =
    let on-g = event-on m g ok.state ok₁.state in
    let now = (event-affects m g ok.state on-g).1 in
    let on-e : On (affected (effect_of m.settings g) m) e =
    event-on (affected (effect_of m.settings g) m) e ok.state (rw now at ok₂.state) in
    let both = events-commute m g e ok.state on-g on-e (rw ok.settings apart) in
    (both.0, event-ok s m e ok both.1)

pub swap-last : (s : Settings) (m : Machine) (x y : Step) → FreeLast s x y → Ok s m → Ok s (after m x) → Commute answer_to after m x y
swap-last s m x y (past-half-b e h q) ok ok₁ =
    let on = event-on m e ok.state ok₁.state in
    commute-back m y (step.Event e) (half-commutes m e y ok.state on (event-half-passes m true e y (rw ok.settings h) (rw ok.settings q)))
