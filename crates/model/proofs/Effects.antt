-- A step is its effect, done to the machine: an effect that changes no scalar, stores nothing and stays in the state leaves the machine, and each
-- rule's effect is the rule. Assumes nothing.
use mathlib.Core.Path.{◌≡◌, refl, sym, ◌∙◌, ap, ap₂}
use mathlib.Core.Bool.{Bool, true, false, cond, ◌&&◌, false≢true}
use Rattle.std.specs.Prelude.{None}
use Prim.Native.Nat.{ℕ}
use lib.Bits.{or_zero_r}
use Rattle.bits.proofs.Algebra.{or_swap}
use Rattle.clock.specs.declared.Clock.{Clock}
use Rattle.platform.specs.declared.settings.Settings.{Settings}
use Rattle.machine.specs.declared.Machine.{Machine}
use Rattle.machine.specs.declared.scalars.Scalars.{Scalars}
use Rattle.machine.specs.Fields.{with_event, with_button, enter}
use Rattle.machine.specs.Gpe.{byte_put, byte_stored, stores, stored}
use Rattle.machine.specs.Lines.{awake}
use Rattle.machine.specs.PowerOn.{no_settings}
use Rattle.machine.specs.Scalars.{bare, scalars_of}
use Rattle.machine.specs.Status.{pwrbtn_bit, wak_bit}
use Rattle.machine.specs.Sleep.{is_sleeping, state_changed, in_next_state}
use Rattle.registers.specs.Registers.{status_after, enable_after, in_gpe_status, gpe_sts_byte, gpe_sts_after, gpe_en_after}
use Rattle.model.specs.Answer.{first_applying}
use Rattle.model.specs.Bus.{write_of, gpe_written}
use Rattle.model.specs.Control.{typ_after, completes, armed_after, bm_rld_after, gbl_rls_after, controlled, control_written}
use Rattle.model.specs.Effect.{stepped_by, unmoved, done, unless_refused, event_write, completing, control_write, sts_byte, en_byte, gpe_write, write_effect, wakes_if, press_wakes, press_effect, release_effect, signal_effect, pin_next, pin_effect, notice_effect, general_byte, general_effect, clock_effect, ticks_effect, effect_by, event_effect, effect_of}
use Rattle.model.specs.EventKinds.{EventKind, event_kind}
use Rattle.model.specs.EventKinds as kind
use Rattle.model.specs.Events.{StatusBit, event_bit, pm1_mask, in_s5, press_of, signal_of, signal_wakes, pin_wakes, pin_of, in_gpe0, general_enabled, general_raised, general_of, timed, clock_after, ticked_by, turns_by, value_by, done_by, event_of}
use Rattle.model.specs.Firmware.{is_acpi_enable, is_acpi_disable, sci_en_after, enables_after, take_of, drop_of}
use Rattle.model.specs.Step.{register_of, offset_of, refusals_by, done_value, done_of, answer_to, accepted, step_of}
use Rattle.model.specs.declared.Answer.{Answer}
use Rattle.model.specs.declared.Answer.TheVariants as answer
use Rattle.model.specs.declared.Effect.{Effect}
use Rattle.model.specs.declared.Register.{Register}
use Rattle.model.specs.declared.Register.TheVariants as register
use Rattle.model.specs.declared.Step.{Step}
use Rattle.model.specs.declared.Step.TheVariants as step
use Rattle.model.specs.declared.Stepped.{Stepped}
use Rattle.model.proofs.Steps.{refused-stays, accepted-does, accepted-answer, reads-change-nothing, refusal_to, stepped-unless-refused}
use Rattle.model.proofs.Ticks.{ticks-awake, ticks-asleep, cond-ap}
use Rattle.model.proofs.Turns.{turns-awake, turns-asleep}

-- accepted with the value, and this machine after it
abbrev given : ℕ → Machine → Stepped
given value m = record { answer = answer.Done value; machine = m }

pub unmoved-stays : (m : Machine) (a : Answer) → stepped_by m (unmoved (scalars_of m) a) ≡ record { answer = a; machine = m }
unfolding stored stores in_next_state
unmoved-stays m a = refl

-- ---- writes

gpe-written : (m : Machine) (b : Bool) (offset written : ℕ) (t : Bool) → in_gpe_status m.settings b offset ≡ t
    → stepped_by m (cond t (gpe_write (scalars_of m) (sts_byte (gpe_sts_byte m b offset) b offset written)) (gpe_write (scalars_of m) (en_byte m.settings b offset written))) ≡ given 0 (gpe_written m b offset written)
unfolding stored stores byte_stored byte_put in_next_state gpe_sts_after gpe_en_after
gpe-written m false offset written true e = rw e refl
gpe-written m true offset written true e = rw e refl
gpe-written m false offset written false e = rw e refl
gpe-written m true offset written false e = rw e refl

control-written : (m : Machine) (b : Bool) (width offset written : ℕ) (t : Bool) → completes m b width offset written ≡ t
    → stepped_by m (done 0 (scalars_of (controlled m b width offset written)) (completing m b width offset written)) ≡ given 0 (control_written m b width offset written)
unfolding stored stores in_next_state state_changed completing
control-written m b width offset written true e = rw e refl
control-written m b width offset written false e = rw e refl

write-does : (m : Machine) (r : Register) (width offset written : ℕ) → stepped_by m (write_effect m r width offset written) ≡ given 0 (write_of m r width offset written)
unfolding stored stores in_next_state write_effect write_of
write-does m register.SmiCmd width offset written = refl
write-does m (register.Pm1Evt b) width offset written = refl
write-does m (register.Pm1Cnt b) width offset written = control-written m b width offset written _ refl
write-does m register.Pm2Cnt width offset written = refl
write-does m register.PmTmr width offset written = refl
write-does m (register.Gpe b) width offset written = gpe-written m b offset written _ refl
write-does m register.Nowhere width offset written = refl

-- ---- events

press-does : (m : Machine) (t u : Bool) → in_s5 m ≡ t → (is_sleeping m.state && true) ≡ u → stepped_by m (press_effect m) ≡ given 0 (press_of m)
unfolding stored stores in_next_state state_changed press_effect press_wakes wakes_if in_s5 press_of
press-does m true u e f = rw e refl
press-does m false true e f = rw (e, f) (ap (λ sts. given 0 (with_button (enter (with_event m sts m.pm1_en) 0) true 0)) (or_swap m.pm1_sts pwrbtn_bit wak_bit))
press-does m false false e f = rw (e, f) refl

signal-does : (m : Machine) (bit : StatusBit) (t u : Bool) → in_s5 m ≡ t → (is_sleeping m.state && signal_wakes m (pm1_mask bit)) ≡ u
    → stepped_by m (signal_effect m bit) ≡ given 0 (signal_of m bit)
unfolding stored stores in_next_state state_changed signal_effect wakes_if signal_of
signal-does m bit true u e f = rw e refl
signal-does m bit false true e f = rw (e, f) refl
signal-does m bit false false e f = rw (e, f) refl

pin-does : (m : Machine) (active t : Bool) → pin_wakes m active ≡ t → stepped_by m (pin_effect m active) ≡ given 0 (pin_of m active)
unfolding stored stores in_next_state state_changed pin_next pin_effect pin_of
pin-does m active true e = rw e refl
pin-does m active false e = rw (e, or_zero_r m.pm1_sts) refl

general-does : (m : Machine) (k : ℕ) (t u v : Bool) → in_s5 m ≡ t → in_gpe0 m.settings k ≡ u → (is_sleeping m.state && general_enabled m k) ≡ v
    → stepped_by m (general_effect m k) ≡ given 0 (general_of m k)
unfolding stored stores byte_stored byte_put in_next_state state_changed general_effect general_byte wakes_if general_of general_raised
general-does m k true u v e f g = rw e refl
general-does m k false true true e f g = rw (e, f, g) refl
general-does m k false true false e f g = rw (e, f, g) refl
general-does m k false false true e f g = rw (e, f, g) refl
general-does m k false false false e f g = rw (e, f, g) refl

clock-does : (m : Machine) (t : Clock) (off : Bool) → t.off ≡ off → stepped_by m (clock_effect m t) ≡ given t.turns (timed m t)
unfolding stored stores in_next_state state_changed timed
clock-does m t true e = rw e refl
clock-does m t false e = rw e refl

ticks-do : (m : Machine) (n : ℕ) (t : Bool) → awake m ≡ t → stepped_by m (ticks_effect m n) ≡ given (turns_by n m) (ticked_by n m)
unfolding ticks_effect
ticks-do m n true e = rw (e, turns-awake n m e, ticks-awake n m e) (clock-does m (clock_after m n) _ refl)
ticks-do m n false e = rw (e, turns-asleep n m e, ticks-asleep n m e) (unmoved-stays m (answer.Done 0))

event-does : (m : Machine) (bit : StatusBit) (k : EventKind) → stepped_by m (effect_by m bit k) ≡ given (value_by m k) (done_by m bit k)
unfolding stored stores in_next_state release_effect notice_effect
event-does m bit kind.press = press-does m _ _ refl refl
event-does m bit kind.release = refl
event-does m bit kind.signal = signal-does m bit _ _ refl refl
event-does m bit (kind.pin active) = pin-does m active _ refl
event-does m bit kind.notice = refl
event-does m bit (kind.general k) = general-does m k _ _ _ refl refl refl
event-does m bit (kind.ticks n) = ticks-do m n _ refl

-- ---- every step

-- a refusal does nothing; else the effect is the step's
unless-refused : (m : Machine) (s : Step) (e : Effect) (t : Bool) → accepted (answer_to m s) ≡ t → stepped_by m e ≡ given (done_value m s) (done_of m s)
    → stepped_by m (unless_refused m (answer_to m s) e) ≡ step_of m s
unless-refused m s e true a d = rw a (d ∙ ap₂ (λ x y. record { answer = x; machine = y }) (sym (accepted-answer m s a)) (sym (accepted-does m s a)))
unless-refused m s e false a d = rw a (unmoved-stays m (answer_to m s) ∙ ap (λ y. record { answer = answer_to m s; machine = y }) (sym (refused-stays m s a)))

pub effect-law : (m : Machine) (s : Step) → stepped_by m (effect_of m s) ≡ step_of m s
unfolding effect_of event_effect event_of stored stores in_next_state
effect-law m (step.Read a) =
    unmoved-stays m (answer_to m (step.Read a)) ∙ ap (λ y. record { answer = answer_to m (step.Read a); machine = y }) (sym (reads-change-nothing m a))
effect-law m (step.Write a written) = unless-refused m (step.Write a written) _ _ refl (write-does m (register_of m a) a.width (offset_of m a) written)
effect-law m (step.Event e) =
    cond-ap (stepped_by m) (accepted (refusal_to m (step.Event e))) _ _
    ∙ ap₂ (cond (accepted (refusal_to m (step.Event e)))) (event-does m (event_bit e) (event_kind e)) (unmoved-stays m (refusal_to m (step.Event e)))
    ∙ sym (stepped-unless-refused m (step.Event e))
effect-law m step.Take = unless-refused m step.Take (done m.command (scalars_of (take_of m)) None) _ refl refl
effect-law m step.Drop = unless-refused m step.Drop (done 0 (scalars_of (drop_of m)) None) _ refl refl

-- ---- refusals, for the functions that give them

pub take-refused : (m : Machine) (a : Answer) → answer_to m step.Take ≡ a → accepted a ≡ false → effect_of m step.Take ≡ unmoved (scalars_of m) a
unfolding effect_of
take-refused m a p q = rw (p, q) refl

pub event-refused : (m : Machine) (bit : StatusBit) (k : EventKind) (a : Answer) → first_applying (refusals_by m bit k) (answer.Done 0) ≡ a → accepted a ≡ false
    → event_effect m bit k ≡ unmoved (scalars_of m) a
unfolding event_effect
event-refused m bit k a p q = rw (p, q) refl

-- ---- what reads no general event byte: the same of the machine without them

-- the machine, its general event bytes zero
abbrev pub bare_of : Machine → Machine
bare_of m = bare m.settings (scalars_of m)

-- what a rule gives of some settings and of the machine's scalars is what it gives of the machine, where it looks at nothing else
pub by-scalars : {A : Type 0} (rule : Machine → A) (s : Settings) (m : Machine) (x : Scalars) (r : A) → x ≡ scalars_of m → r ≡ rule (bare s x)
    → rule (bare s (scalars_of m)) ≡ rule m → r ≡ rule m
by-scalars rule s m x r e d l = d ∙ ap (λ (y : Scalars). rule (bare s y)) e ∙ l

pub control-bare : (m : Machine) (b : Bool) (width offset written : ℕ) → control_write (bare_of m) b width offset written ≡ control_write m b width offset written
unfolding control_write completing completes typ_after armed_after bm_rld_after gbl_rls_after
control-bare m b width offset written = refl

pub event-write-bare : (m : Machine) (b : Bool) (width offset written : ℕ) → event_write (bare_of m) b width offset written ≡ event_write m b width offset written
unfolding status_after enable_after
event-write-bare m b width offset written = refl

-- an event that is no general one
abbrev pub reads_no_byte : EventKind → Bool
reads_no_byte kind.press = true
reads_no_byte kind.release = true
reads_no_byte kind.signal = true
reads_no_byte (kind.pin active) = true
reads_no_byte kind.notice = true
reads_no_byte (kind.general k) = false
reads_no_byte (kind.ticks n) = true

pub event-bare : (m : Machine) (bit : StatusBit) (k : EventKind) → reads_no_byte k ≡ true → event_effect (bare_of m) bit k ≡ event_effect m bit k
unfolding event_effect first_applying awake in_s5 press_effect press_wakes wakes_if release_effect signal_effect pin_effect notice_effect ticks_effect
event-bare m bit kind.press p = refl
event-bare m bit kind.release p = refl
event-bare m bit kind.signal p = refl
event-bare m bit (kind.pin active) p = refl
event-bare m bit kind.notice p = refl
event-bare m bit (kind.general k) p = absurd (false≢true p)
event-bare m bit (kind.ticks n) p = refl

pub notice-bare : (m : Machine) (bit : StatusBit) → event_effect (bare no_settings (scalars_of m)) bit kind.notice ≡ event_effect m bit kind.notice
unfolding event_effect first_applying awake notice_effect
notice-bare m bit = refl

pub take_bare : (m : Machine) → effect_of (bare_of m) step.Take ≡ effect_of m step.Take
unfolding effect_of answer_to first_applying awake is_acpi_enable is_acpi_disable sci_en_after enables_after
take_bare m = refl

pub drop-bare : (m : Machine) → effect_of (bare no_settings (scalars_of m)) step.Drop ≡ effect_of m step.Drop
unfolding effect_of answer_to first_applying awake
drop-bare m = refl
