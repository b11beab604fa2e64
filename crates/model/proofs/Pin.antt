-- The wake pin, request W3, sentence by sentence. Only its own two steps move it; they set its bit where they wake, and else change nothing but the
-- level; sleep does not look at it; while it is active no write clears its bit, and while it is inactive every write clears what it did before.
-- Assumes nothing.
use mathlib.Core.Bool.{Bool, true, false, cond, ◌&&◌, and-true, and-false}
use mathlib.Core.Path.{◌≡◌, refl, sym, ◌∙◌, ap}
use Prim.Native.Nat.{ℕ, ◌^◌, ◌<◌}
use native.Mathlib.Omega.{arith}
use lib.Bits.{bit_and, and_zero_r}
use lib.Dec.{lit<}
use lib.Pow.{pow_pos}
use Rattle.bits.specs.Digit.{digit}
use Rattle.bits.specs.Writes.{kept}
use Rattle.bits.proofs.Digits.{digit_and, digit_or, digit-le, digit-zero, digit-other-bit}
use Rattle.bits.proofs.Writes.{digit-kept, kept_whole}
use Rattle.machine.specs.Fields.{with_wake_pin, enter}
use Rattle.machine.specs.Lines.{awake}
use Rattle.machine.specs.Sleep.{is_sleeping, woken, woken_if, pending, completed, restarted}
use Rattle.machine.specs.Status.{pciexp_wake_bit, pwrbtn_bit, has_bit}
use Rattle.machine.specs.declared.Machine.{Machine}
use Rattle.machine.specs.declared.sleeping.WakeSource.{WakeSource}
use Rattle.machine.specs.declared.sleeping.WakeSource.TheVariants as source
use Rattle.registers.specs.Registers.{status_in, clearable, ones_in, in_status, placed, covered}
use Rattle.model.specs.Bus.{write_of}
use Rattle.model.specs.Control.{completes, entered_state, controlled}
use Rattle.model.specs.EventKinds.{EventKind, event_kind}
use Rattle.model.specs.EventKinds as kind
use Rattle.model.specs.Events.{StatusBit, pm1_mask, signal_wakes, general_enabled, source_of, event_bit, event_source, raised, in_s5, press_of, signal_of, pin_wakes, pin_of, general_of, general_raised, timed, clock_after, done_by, event_of}
use Rattle.model.specs.Pin.{level_by, level_after, leaves_s5}
use Rattle.model.specs.Raises.{unchanged, bits_if, press_change, signal_change, pin_change, ticks_change, change_by, event_change, write_change, rule_change, is_press, clears, raises}
use Rattle.model.specs.Step.{register_of, offset_of, done_of, answer_to, accepted, after}
use Rattle.model.specs.declared.Event.{Event}
use Rattle.model.specs.declared.Event.TheVariants as event
use Rattle.model.specs.declared.Register.{Register}
use Rattle.model.specs.declared.Register.TheVariants as register
use Rattle.model.specs.declared.Step.{Step}
use Rattle.model.specs.declared.Step.TheVariants as step
use Rattle.model.proofs.Fitted.{status-in-lt}
use Rattle.model.proofs.Raises.{status-law, clears-lt}
use Rattle.model.proofs.Steps.{accepted-does}
use Rattle.model.proofs.Ticks.{ticks-at-once}

-- ---- who moves it

-- of two machines with this level
either-level : (t level : Bool) (x y : Machine) → x.wake_pin ≡ level → y.wake_pin ≡ level → (cond t x y).wake_pin ≡ level
either-level true level x y p q = p
either-level false level x y p q = q

woken-level : (by : WakeSource) (test : Bool) (m : Machine) → (woken_if by test m).wake_pin ≡ m.wake_pin
woken-level by test m = either-level (is_sleeping m.state && test) m.wake_pin (woken by m) m refl refl

-- the level after an event of the kind
level_of_kind : EventKind → Bool → Bool
level_of_kind kind.press level = level
level_of_kind kind.release level = level
level_of_kind kind.signal level = level
level_of_kind (kind.pin active) level = active
level_of_kind kind.notice level = level
level_of_kind (kind.general k) level = level
level_of_kind (kind.ticks n) level = level

level-of-kind : (e : Event) (level : Bool) → level_of_kind (event_kind e) level ≡ level_by e level
unfolding level_of_kind
level-of-kind event.Press level = refl
level-of-kind event.Release level = refl
level-of-kind event.SleepPress level = refl
level-of-kind event.Alarm level = refl
level-of-kind event.PinActive level = refl
level-of-kind event.PinInactive level = refl
level-of-kind event.BusMaster level = refl
level-of-kind event.Unlock level = refl
level-of-kind (event.General k) level = refl
level-of-kind (event.Ticks n) level = refl

event-level : (m : Machine) (bit : StatusBit) (k : EventKind) → (done_by m bit k).wake_pin ≡ level_of_kind k m.wake_pin
unfolding level_of_kind press_of signal_of pin_of general_of general_raised timed
event-level m bit kind.press = either-level (in_s5 m) m.wake_pin (restarted m) (woken_if (event_source event.Press) true m) refl (woken-level (event_source event.Press) true m)
event-level m bit kind.release = refl
event-level m bit kind.signal =
    let wakes = signal_wakes m (pm1_mask bit) in
    either-level (in_s5 m) m.wake_pin m (woken_if (source_of bit) wakes (raised m (pm1_mask bit))) refl (woken-level (source_of bit) wakes (raised m (pm1_mask bit)))
event-level m bit (kind.pin active) =
    let level = with_wake_pin m active in
    either-level (pin_wakes m active) active (woken (event_source event.PinActive) (raised level pciexp_wake_bit)) level refl refl
event-level m bit kind.notice = refl
event-level m bit (kind.general k) =
    either-level (in_s5 m) m.wake_pin m (woken_if (event_source (event.General k)) (general_enabled m k) (general_raised m k)) refl
    (woken-level (event_source (event.General k)) (general_enabled m k) (general_raised m k))
event-level m bit (kind.ticks n) =
    let t = clock_after m n in
    ap (λ x. x.wake_pin) (ticks-at-once n m)
    ∙ either-level (awake m) m.wake_pin (timed m t) m (either-level t.off m.wake_pin _ _ refl refl) refl

write-level : (m : Machine) (r : Register) (width offset written : ℕ) → (write_of m r width offset written).wake_pin ≡ m.wake_pin
unfolding write_of completed
write-level m register.SmiCmd width offset written = refl
write-level m (register.Pm1Evt b) width offset written = refl
write-level m (register.Pm1Cnt b) width offset written =
    let x = controlled m b width offset written in
    let state = entered_state m b width offset written in
    either-level (completes m b width offset written) m.wake_pin (completed x state) x (woken-level source.NotKnown (pending x state) (enter x state)) refl
write-level m register.Pm2Cnt width offset written = refl
write-level m register.PmTmr width offset written = refl
write-level m (register.Gpe true) width offset written = refl
write-level m (register.Gpe false) width offset written = refl
write-level m register.Nowhere width offset written = refl

done-level : (m : Machine) (s : Step) → (done_of m s).wake_pin ≡ level_after s m.wake_pin
unfolding event_of
done-level m (step.Read a) = refl
done-level m (step.Write a written) = write-level m (register_of m a) a.width (offset_of m a) written
done-level m (step.Event e) = event-level m (event_bit e) (event_kind e) ∙ level-of-kind e m.wake_pin
done-level m step.Take = refl
done-level m step.Drop = refl

-- the pin after any step: as an accepted pin step says, else as it was; so ACPI_ENABLE, sleep, wake, restart and the override leave it alone
pub pin-exactly : (m : Machine) (s : Step) → (after m s).wake_pin ≡ cond (accepted (answer_to m s)) (level_after s m.wake_pin) m.wake_pin
unfolding after
pin-exactly m s = go (accepted (answer_to m s))
  where
    go : (t : Bool) → (cond t (done_of m s) m).wake_pin ≡ cond t (level_after s m.wake_pin) m.wake_pin
    go true = done-level m s
    go false = refl

-- ---- what its steps do, where they are accepted

abbrev active : Step
active = step.Event event.PinActive

abbrev inactive : Step
inactive = step.Event event.PinInactive

module _ (m : Machine) where
  -- "Pin active while asleep and not disabled wakes and sets the bit."
  pub pin-wakes : accepted (answer_to m active) ≡ true → is_sleeping m.state ≡ true → has_bit m.pm1_en pciexp_wake_bit ≡ false
      → after m active ≡ woken (event_source event.PinActive) (raised (with_wake_pin m true) pciexp_wake_bit)
  unfolding event_of pin_of
  pin-wakes a l d = accepted-does m active a ∙ rw (l, d) refl

  -- disabled: the level alone
  pub pin-disabled : accepted (answer_to m active) ≡ true → has_bit m.pm1_en pciexp_wake_bit ≡ true → after m active ≡ with_wake_pin m true
  unfolding event_of pin_of
  pin-disabled a d = accepted-does m active a ∙ rw (d, and-false (is_sleeping m.state)) refl

  -- "In S0 and S5 a pin step changes the level only"
  pub pin-level-only : accepted (answer_to m active) ≡ true → is_sleeping m.state ≡ false → after m active ≡ with_wake_pin m true
  unfolding event_of pin_of
  pin-level-only a l = accepted-does m active a ∙ rw l refl

  -- "making the pin inactive clears nothing": the level alone, in every state
  pub pin-inactive-clears-nothing : accepted (answer_to m inactive) ≡ true → after m inactive ≡ with_wake_pin m false
  unfolding event_of pin_of
  pin-inactive-clears-nothing a = accepted-does m inactive a

  -- "After a wake from S5 the pin keeps its level while the bit is zero."
  pub restart-keeps-pin : in_s5 m ≡ true → accepted (answer_to m (step.Event event.Press)) ≡ true
      → ((after m (step.Event event.Press)).wake_pin ≡ m.wake_pin) × (digit 14 (after m (step.Event event.Press)).pm1_sts ≡ 0)
  unfolding event_of press_of digit
  restart-keeps-pin off a = rw (accepted-does m (step.Event event.Press) a, off) (refl, refl)

-- "Entering sleep with the pin already active does not wake": sleep does not look at the pin
pub sleep-past-pin : (m : Machine) (active : Bool) (state : ℕ) → completed (with_wake_pin m active) state ≡ with_wake_pin (completed m state) active
unfolding completed pending
sleep-past-pin m active state = go (is_sleeping state && pending m state)
  where
    go : (t : Bool) → cond t (woken source.NotKnown (enter (with_wake_pin m active) state)) (enter (with_wake_pin m active) state)
        ≡ with_wake_pin (cond t (woken source.NotKnown (enter m state)) (enter m state)) active
    go true = refl
    go false = refl

-- ---- what it holds

-- with the pin inactive a write may clear every fitted bit of its block, as document 01 has it
pub inactive-clearable : (m : Machine) (b : Bool) → m.wake_pin ≡ false → clearable m b ≡ status_in m.settings b
inactive-clearable m b e = rw e (kept_whole 16 (status_in m.settings b) 0 (status-in-lt m.settings b) (pow_pos 16) (and_zero_r (status_in m.settings b)))

-- with the pin active it may not clear bit 14
held-digit : (m : Machine) (b : Bool) → m.wake_pin ≡ true → digit 14 (clearable m b) ≡ 0
unfolding digit
held-digit m b e = rw e (digit-kept 16 14 (status_in m.settings b) pciexp_wake_bit (lit< tt) (lit< tt) ∙ omega (arith, digit-le 14 (status_in m.settings b)))

-- the other bits it may clear at either level
pub active-clearable : (m : Machine) (b : Bool) (i : ℕ) → i < 16 → (i ≡ 14 → ⊥) → digit i (clearable m b) ≡ digit i (status_in m.settings b)
active-clearable m b i h n = go m.wake_pin
  where
    go : (t : Bool) → digit i (kept 16 (status_in m.settings b) (cond t pciexp_wake_bit 0)) ≡ digit i (status_in m.settings b)
    go true =
        let k = digit-kept 16 i (status_in m.settings b) pciexp_wake_bit (lit< tt) h in
        omega (arith, digit-other-bit i 14 n, digit-le i (status_in m.settings b))
    go false =
        let k = digit-kept 16 i (status_in m.settings b) 0 (lit< tt) h in
        omega (arith, digit-zero i, digit-le i (status_in m.settings b))

module _ (m : Machine) (up : m.wake_pin ≡ true) where
  write-holds : (r : Register) (width offset written : ℕ) → digit 14 (write_change m r width offset written).cleared ≡ 0
  unfolding write_change
  write-holds register.SmiCmd width offset written = digit-zero 14
  write-holds (register.Pm1Evt b) width offset written = go (in_status offset)
    where
      go : (t : Bool) → digit 14 (bits_if t (ones_in m b width offset written)) ≡ 0
      go true =
          digit_and 14 (placed offset written) (bit_and (clearable m b) (covered width offset))
          ∙ rw (digit_and 14 (clearable m b) (covered width offset), held-digit m b up) (omega arith)
      go false = digit-zero 14
  write-holds (register.Pm1Cnt b) width offset written = digit-zero 14
  write-holds register.Pm2Cnt width offset written = digit-zero 14
  write-holds register.PmTmr width offset written = digit-zero 14
  write-holds (register.Gpe b) width offset written = digit-zero 14
  write-holds register.Nowhere width offset written = digit-zero 14

  event-holds : (bit : StatusBit) (k : EventKind) → (in_s5 m && is_press k) ≡ false → digit 14 (change_by m bit k).cleared ≡ 0
  unfolding press_change signal_change pin_change ticks_change digit
  event-holds bit kind.press off = rw (sym (and-true (in_s5 m)) ∙ off) (digit-zero 14)
  event-holds bit kind.release off = digit-zero 14
  event-holds bit kind.signal off = digit-zero 14
  event-holds bit (kind.pin active) off = digit-zero 14
  event-holds bit kind.notice off = digit-zero 14
  event-holds bit (kind.general k) off = digit-zero 14
  event-holds bit (kind.ticks n) off = go (awake m && (clock_after m n).off)
    where
      go : (t : Bool) → digit 14 (bits_if t pwrbtn_bit) ≡ 0
      go true = refl
      go false = digit-zero 14

  rule-holds : (s : Step) → leaves_s5 m s ≡ false → digit 14 (rule_change m s).cleared ≡ 0
  unfolding rule_change event_change
  rule-holds (step.Read a) off = digit-zero 14
  rule-holds (step.Write a written) off = write-holds (register_of m a) a.width (offset_of m a) written
  rule-holds (step.Event e) off = event-holds (event_bit e) (event_kind e) off
  rule-holds step.Take off = digit-zero 14
  rule-holds step.Drop off = digit-zero 14

  -- "Clearing works only with the pin inactive": with it active no step clears bit 14, but the press that leaves S5
  pub active-pin-holds : (s : Step) → leaves_s5 m s ≡ false → digit 14 (clears m s) ≡ 0
  unfolding clears
  active-pin-holds s off = go (accepted (answer_to m s))
    where
      go : (t : Bool) → digit 14 (cond t (rule_change m s) unchanged).cleared ≡ 0
      go true = rule-holds s off
      go false = digit-zero 14

  -- so a bit that is set stays set
  pub held-bit-stays : m.pm1_sts < 2 ^ 16 → digit 14 m.pm1_sts ≡ 1 → (s : Step) → leaves_s5 m s ≡ false → digit 14 (after m s).pm1_sts ≡ 1
  held-bit-stays h one s off =
      let k = digit-kept 16 14 m.pm1_sts (clears m s) (clears-lt m s) (lit< tt) in
      rw (status-law m s h, digit_or) (omega (arith, active-pin-holds s off, digit-le 14 (raises m s)))
