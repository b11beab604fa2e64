-- The status bits after a step: those that it does not clear, and those that it raises. Each rule says so by its cases; where one step
-- does both, it clears first, or the two have no bit in common.
-- Assumes nothing.
use mathlib.Core.Bool.{Bool, true, false, not, cond, ◌&&◌, ◌||◌, beq, and-false}
use mathlib.Core.List.{List}
use mathlib.Core.Path.{◌≡◌, refl, sym, ap, ◌∙◌}
use Prim.Native.Nat.{ℕ, zero, suc, ◌*◌, ◌-◌, ◌/◌, ◌%◌, ◌^◌, ◌<◌, ◌≤◌}
use native.Mathlib.Omega.{arith}
use borrow.Author.Tests.{eqb-true, eqb-false, ne_eqb, ltb-true, ltb-false, lt-ltb, le-ltb}
use lib.Bits.{bit_and, bit_or, or_zero_r, and_zero_r, and_zero_l, or_lt}
use lib.Dec.{eqb, ltb, leb}
use lib.ListN.{length, get_or, set, replicate, get_or-eq_default}
use lib.Pow.{pow_pos, pow-lt}
use lib.Seq.{set_out, get_or-set_same, get_or-set_other}
use Rattle.bits.specs.Writes.{kept, cleared_by, lane}
use Rattle.bits.proofs.Digits.{below-or-beyond}
use Rattle.bits.proofs.Algebra.{or_assoc}
use Rattle.bits.proofs.Writes.{masked-lt, kept-lt, kept_whole, raise-after-kept}
use Rattle.bits.proofs.Lanes.{lane_mask-lt}
use Rattle.clock.specs.declared.Clock.{Clock}
use Rattle.platform.specs.Rules.{event_count}
use Rattle.platform.specs.declared.block.Block.{Block}
use Rattle.platform.specs.declared.settings.Settings.{Settings}
use Rattle.machine.specs.PowerOn.{gpe_bytes}
use Rattle.machine.specs.declared.Machine.{Machine}
use Rattle.machine.specs.declared.sleeping.WakeSource.{WakeSource}
use Rattle.machine.specs.declared.sleeping.WakeSource.TheVariants as source
use Rattle.model.specs.Answer.{first_applying}
use Rattle.model.specs.Bus.{gpe_written, write_of}
use Rattle.model.specs.Control.{completes, entered_state, controlled, control_written}
use Rattle.machine.specs.Status.{tmr_bit, pwrbtn_bit, pciexp_wake_bit, wak_bit}
use Rattle.registers.specs.Registers.{lane_at, one_byte, placed, covered, clearable, in_status, ones_in, status_after, gpe_sts, in_gpe_status, gpe_sts_after}
use Rattle.model.specs.Events.{StatusBit, pm1, gpe, event_bit, pm1_mask, source_of, event_source, fits, raised, in_s5, press_of, signal_wakes, signal_of, pin_wakes, pin_of, in_gpe0, in_gpe1, with_bit, general_raised, general_enabled, general_of, clock_after, tmr_raised, timed, ticked_by, done_by, event_of}
use Rattle.machine.specs.Fields.{with_time, with_wake_pin, enter}
use Rattle.machine.specs.Lines.{awake}
use Rattle.model.specs.Raises.{Change, unchanged, clearing, raising, bits_if, wak_if, press_change, signal_change, pin_change, ticks_change, change_by, event_change, wakes_at_once, write_change, rule_change, if_accepted, raises, clears, lies_in, gpe_mask, is_press, gpe_change_by, gpe_event_change, gpe_ones, gpe_rule_change, gpe_raises, gpe_clears}
use Rattle.machine.specs.Sleep.{is_sleeping, pending, woken, woken_if, completed, restarted, overridden}
use Rattle.model.specs.EventKinds.{EventKind, event_kind}
use Rattle.model.specs.EventKinds as kind
use Rattle.model.specs.Step.{register_of, offset_of, done_of, answer_to, accepted, after}
use Rattle.model.specs.declared.Answer.TheVariants as answer
use Rattle.model.specs.declared.Event.{Event}
use Rattle.model.specs.declared.Event.TheVariants as event
use Rattle.model.specs.declared.Register.{Register}
use Rattle.model.specs.declared.Register.TheVariants as register
use Rattle.model.specs.declared.Step.{Step}
use Rattle.model.specs.declared.Step.TheVariants as step
use Rattle.model.proofs.EventBits.{Pair, pair_of, pm1-or-general, event-mask-lt, answer_by}
use Rattle.model.proofs.EventBits as pair
use Rattle.model.proofs.Ticks.{ticks-at-once}

-- ---- changes

-- the bits after a change
abbrev changed : ℕ → ℕ → Change → ℕ
changed k old c = bit_or (kept k old c.cleared) c.raised

none-cleared : (k old : ℕ) → old < 2 ^ k → kept k old 0 ≡ old
none-cleared k old h = kept_whole k old 0 h (pow_pos k) (and_zero_r old)

only-raised : (k old r : ℕ) → old < 2 ^ k → bit_or old r ≡ changed k old (raising r)
only-raised k old r h = ap (λ (x : ℕ). bit_or x r) (sym (none-cleared k old h))

raised-twice : (k old r q : ℕ) → old < 2 ^ k → bit_or (bit_or old r) q ≡ changed k old (raising (bit_or r q))
raised-twice k old r q h = or_assoc old r q ∙ only-raised k old (bit_or r q) h

untouched : (k old : ℕ) → old < 2 ^ k → old ≡ changed k old unchanged
untouched k old h = sym (or_zero_r old) ∙ only-raised k old 0 h

-- it clears and raises bits of the register alone
abbrev Fits : ℕ → Change → Type 0
Fits k c = (c.cleared < 2 ^ k) × (c.raised < 2 ^ k)

unchanged-fits : (k : ℕ) → Fits k unchanged
unchanged-fits k = (pow_pos k, pow_pos k)

clearing-fits : (k bits : ℕ) → bits < 2 ^ k → Fits k (clearing bits)
clearing-fits k bits h = (h, pow_pos k)

raising-fits : (k bits : ℕ) → bits < 2 ^ k → Fits k (raising bits)
raising-fits k bits h = (pow_pos k, h)

accepted-fits : (k : ℕ) (m : Machine) (s : Step) (c : Change) → Fits k c → Fits k (if_accepted m s c)
accepted-fits k m s c f = go (accepted (answer_to m s))
  where
    go : (t : Bool) → Fits k (cond t c unchanged)
    go true = f
    go false = unchanged-fits k

bits-if-lt : (k : ℕ) (t : Bool) (bits : ℕ) → bits < 2 ^ k → bits_if t bits < 2 ^ k
bits-if-lt k true bits h = h
bits-if-lt k false bits h = pow_pos k

-- ---- sleep

s5-not-light : (m : Machine) → in_s5 m ≡ true → is_sleeping m.state ≡ false
unfolding in_s5 is_sleeping
s5-not-light m e = rw (eqb-true m.state 5 e) refl

woken-status : (by : WakeSource) (test : Bool) (m : Machine) → (woken_if by test m).pm1_sts ≡ bit_or m.pm1_sts (wak_if m test)
woken-status by test m = go (is_sleeping m.state && test)
  where
    go : (t : Bool) → (cond t (woken by m) m).pm1_sts ≡ bit_or m.pm1_sts (bits_if t wak_bit)
    go true = refl
    go false = sym (or_zero_r _)

wak-lt : (m : Machine) (test : Bool) → wak_if m test < 2 ^ 16
wak-lt m test = bits-if-lt 16 (is_sleeping m.state && test) wak_bit (omega arith)

-- ---- TMR

tmr-lt : (s : Settings) (turns : ℕ) → tmr_raised s turns < 2 ^ 16
unfolding tmr_raised
tmr-lt s turns = bits-if-lt 16 (fits s tmr_bit && not (eqb turns 0)) tmr_bit (omega arith)

tmr-not-pwrbtn : (s : Settings) (turns : ℕ) → bit_and (tmr_raised s turns) pwrbtn_bit ≡ 0
unfolding tmr_raised
tmr-not-pwrbtn s turns = go (fits s tmr_bit && not (eqb turns 0))
  where
    go : (t : Bool) → bit_and (bits_if t tmr_bit) pwrbtn_bit ≡ 0
    go true = refl
    go false = refl

-- ---- the PM1 status after each rule

module _ (m : Machine) (h : m.pm1_sts < 2 ^ 16) where
  -- machine x has the status of m after the change
  abbrev Law : Machine → Change → Type 0
  Law x c = x.pm1_sts ≡ changed 16 m.pm1_sts c

  -- rules that leave the status alone
  nothing : m.pm1_sts ≡ changed 16 m.pm1_sts unchanged
  nothing = untouched 16 m.pm1_sts h

  press-law : (b : Bool) → in_s5 m ≡ b → Law (press_of m) (press_change m)
  unfolding press_of press_change
  press-law true e = rw (e, s5-not-light m e, and_zero_r) refl
  press-law false e =
      rw e (ap (λ (x : ℕ). bit_or x pwrbtn_bit) (woken-status (event_source event.Press) true m) ∙ raised-twice 16 m.pm1_sts (wak_if m true) pwrbtn_bit h)

  signal-law : (bit : StatusBit) (b : Bool) → in_s5 m ≡ b → Law (signal_of m bit) (signal_change m (pm1_mask bit))
  unfolding signal_of signal_change
  signal-law bit true e = rw e nothing
  signal-law bit false e =
      let wakes = signal_wakes m (pm1_mask bit) in
      rw e (woken-status (source_of bit) wakes (raised m (pm1_mask bit)) ∙ raised-twice 16 m.pm1_sts (pm1_mask bit) (wak_if m wakes) h)

  pin-law : (active t : Bool) → pin_wakes m active ≡ t → Law (pin_of m active) (pin_change m active)
  unfolding pin_of pin_change
  pin-law active true e = rw e (raised-twice 16 m.pm1_sts pciexp_wake_bit wak_bit h)
  pin-law active false e = rw e nothing

  general-law : (k : ℕ) (b : Bool) → in_s5 m ≡ b → Law (general_of m k) (raising (wak_if m (general_enabled m k)))
  unfolding general_of general_raised
  general-law k true e = rw (e, s5-not-light m e) nothing
  general-law k false e = rw e (woken-status (event_source (event.General k)) (general_enabled m k) (general_raised m k) ∙ only-raised 16 m.pm1_sts _ h)

  ticks-law : (n : ℕ) (a o : Bool) → awake m ≡ a → (clock_after m n).off ≡ o → Law (cond a (timed m (clock_after m n)) m) (ticks_change m n)
  unfolding timed ticks_change
  ticks-law n true true p q =
      let t = (clock_after m n).turns in
      rw (p, q) (raise-after-kept 16 m.pm1_sts pwrbtn_bit (tmr_raised m.settings t) (omega arith) (tmr-lt m.settings t) (tmr-not-pwrbtn m.settings t))
  ticks-law n true false p q = rw (p, q) (only-raised 16 m.pm1_sts (tmr_raised m.settings (clock_after m n).turns) h)
  ticks-law n false o p q = rw p nothing

  event-law : (bit : StatusBit) (k : EventKind) → Law (done_by m bit k) (change_by m bit k)
  event-law bit kind.press = press-law (in_s5 m) refl
  event-law bit kind.release = nothing
  event-law bit kind.signal = signal-law bit (in_s5 m) refl
  event-law bit (kind.pin active) = pin-law active (pin_wakes m active) refl
  event-law bit kind.notice = only-raised 16 m.pm1_sts (pm1_mask bit) h
  event-law bit (kind.general k) = general-law k (in_s5 m) refl
  event-law bit (kind.ticks n) = ap (λ x. x.pm1_sts) (ticks-at-once n m) ∙ ticks-law n (awake m) (clock_after m n).off refl refl

  module _ (width offset written : ℕ) where
    status-write-law : (b t : Bool) → in_status offset ≡ t
        → status_after m b width offset written ≡ changed 16 m.pm1_sts (clearing (bits_if t (ones_in m b width offset written)))
    unfolding status_after
    status-write-law b true e = rw e (sym (or_zero_r _))
    status-write-law b false e = rw e nothing

    control-law : (b c : Bool) → completes m b width offset written ≡ c
        → Law (control_written m b width offset written) (raising (bits_if (wakes_at_once m b width offset written) wak_bit))
    unfolding completed wakes_at_once pending
    control-law b true e =
        let state = entered_state m b width offset written in
        rw e (woken-status source.NotKnown (pending m state) (enter (controlled m b width offset written) state) ∙ only-raised 16 m.pm1_sts _ h)
    control-law b false e = rw e nothing

    write-law : (r : Register) → Law (write_of m r width offset written) (write_change m r width offset written)
    unfolding write_of write_change
    write-law register.SmiCmd = nothing
    write-law (register.Pm1Evt b) = status-write-law b (in_status offset) refl
    write-law (register.Pm1Cnt b) = control-law b (completes m b width offset written) refl
    write-law register.Pm2Cnt = nothing
    write-law register.PmTmr = nothing
    write-law (register.Gpe true) = nothing
    write-law (register.Gpe false) = nothing
    write-law register.Nowhere = nothing

  rule-law : (s : Step) → Law (done_of m s) (rule_change m s)
  unfolding rule_change event_of event_change
  rule-law (step.Read a) = nothing
  rule-law (step.Write a written) = write-law a.width (offset_of m a) written (register_of m a)
  rule-law (step.Event e) = event-law (event_bit e) (event_kind e)
  rule-law step.Take = nothing
  rule-law step.Drop = nothing

-- the status after any step, accepted or refused
pub status-law : (m : Machine) (s : Step) → m.pm1_sts < 2 ^ 16 → (after m s).pm1_sts ≡ bit_or (kept 16 m.pm1_sts (clears m s)) (raises m s)
unfolding after clears raises
status-law m s h = go (accepted (answer_to m s))
  where
    go : (t : Bool) → (cond t (done_of m s) m).pm1_sts ≡ changed 16 m.pm1_sts (cond t (rule_change m s) unchanged)
    go true = rule-law m h s
    go false = nothing m h

-- ---- bounds

-- what an access covers lies in the register
covered-lt : (mask width offset : ℕ) → bit_and mask (covered width offset) < 2 ^ 16
covered-lt mask width offset = go (one_byte width offset)
  where
    go : (t : Bool) → bit_and mask (cond t (lane (lane_at offset) 255) (2 ^ 16 - 1)) < 2 ^ 16
    go true = lane_mask-lt 16 (offset % 2) mask (omega arith)
    go false = masked-lt 16 mask (2 ^ 16 - 1) (omega arith)

module _ (m : Machine) where
  signal-fits : (bit : ℕ) → bit < 2 ^ 16 → Fits 16 (signal_change m bit)
  unfolding signal_change
  signal-fits bit h = raising-fits 16 _ (bits-if-lt 16 (not (in_s5 m)) _ (or_lt 16 bit (wak_if m (signal_wakes m bit)) h (wak-lt m (signal_wakes m bit))))

  event-fits : (bit : StatusBit) (k : EventKind) → pm1_mask bit < 2 ^ 16 → Fits 16 (change_by m bit k)
  unfolding press_change pin_change ticks_change
  event-fits bit kind.press h = (bits-if-lt 16 (in_s5 m) (2 ^ 16 - 1) (omega arith), or_lt 16 (wak_if m true) pwrbtn_bit (wak-lt m true) (omega arith))
  event-fits bit kind.release h = unchanged-fits 16
  event-fits bit kind.signal h = signal-fits (pm1_mask bit) h
  event-fits bit (kind.pin active) h = raising-fits 16 _ (bits-if-lt 16 (pin_wakes m active) (bit_or pciexp_wake_bit wak_bit) (omega arith))
  event-fits bit kind.notice h = raising-fits 16 (pm1_mask bit) h
  event-fits bit (kind.general k) h = raising-fits 16 _ (wak-lt m (general_enabled m k))
  event-fits bit (kind.ticks n) h =
      (bits-if-lt 16 (awake m && (clock_after m n).off) pwrbtn_bit (omega arith), bits-if-lt 16 (awake m) _ (tmr-lt m.settings (clock_after m n).turns))

  write-fits : (r : Register) (width offset written : ℕ) → Fits 16 (write_change m r width offset written)
  unfolding write_change
  write-fits register.SmiCmd width offset written = unchanged-fits 16
  write-fits (register.Pm1Evt b) width offset written =
      clearing-fits 16 _ (bits-if-lt 16 (in_status offset) _ (masked-lt 16 (placed offset written) _ (covered-lt (clearable m b) width offset)))
  write-fits (register.Pm1Cnt b) width offset written = raising-fits 16 _ (bits-if-lt 16 (wakes_at_once m b width offset written) wak_bit (omega arith))
  write-fits register.Pm2Cnt width offset written = unchanged-fits 16
  write-fits register.PmTmr width offset written = unchanged-fits 16
  write-fits (register.Gpe b) width offset written = unchanged-fits 16
  write-fits register.Nowhere width offset written = unchanged-fits 16

  rule_fits : (s : Step) → Fits 16 (rule_change m s)
  unfolding rule_change event_change
  rule_fits (step.Read a) = unchanged-fits 16
  rule_fits (step.Write a written) = write-fits (register_of m a) a.width (offset_of m a) written
  rule_fits (step.Event e) = event-fits (event_bit e) (event_kind e) (event-mask-lt e)
  rule_fits step.Take = unchanged-fits 16
  rule_fits step.Drop = unchanged-fits 16

pub raises-lt : (m : Machine) (s : Step) → raises m s < 2 ^ 16
unfolding raises
raises-lt m s = (accepted-fits 16 m s (rule_change m s) (rule_fits m s)).1

pub clears-lt : (m : Machine) (s : Step) → clears m s < 2 ^ 16
unfolding clears
clears-lt m s = (accepted-fits 16 m s (rule_change m s) (rule_fits m s)).0

-- the status keeps its width
pub status-stays-below : (m : Machine) (s : Step) → m.pm1_sts < 2 ^ 16 → (after m s).pm1_sts < 2 ^ 16
status-stays-below m s h = rw (status-law m s h) (or_lt 16 _ (raises m s) (kept-lt 16 m.pm1_sts (clears m s)) (raises-lt m s))

-- ---- a status byte after a store

stored-byte : (xs : List ℕ) (j i v : ℕ) (t u : Bool) → eqb j i ≡ t → ltb i (length xs) ≡ u → get_or (set xs j v) i 0 ≡ cond (t && u) v (get_or xs i 0)
stored-byte xs j i v true true p q = rw (eqb-true j i p) (get_or-set_same xs i v 0 (ltb-true i (length xs) q))
stored-byte xs j i v true false p q = rw (eqb-true j i p, set_out xs i v (ltb-false i (length xs) q)) refl
stored-byte xs j i v false u p q = get_or-set_other xs j i v 0 (λ e. eqb-false j i p (sym e))

-- it gains a bit, where the list has such a byte
raised_byte : (xs : List ℕ) (k i : ℕ) → get_or xs i 0 < 2 ^ 8 → (t u : Bool) → eqb (k / 8) i ≡ t → ltb i (length xs) ≡ u
    → get_or (with_bit xs k) i 0 ≡ changed 8 (get_or xs i 0) (raising (bits_if u (bits_if t (2 ^ (k % 8)))))
raised_byte xs k i h t u p q = stored-byte xs (k / 8) i _ t u p q ∙ go t u p
  where
    go : (t u : Bool) → eqb (k / 8) i ≡ t
        → cond (t && u) (bit_or (get_or xs (k / 8) 0) (2 ^ (k % 8))) (get_or xs i 0) ≡ changed 8 (get_or xs i 0) (raising (bits_if u (bits_if t (2 ^ (k % 8)))))
    go true true p = rw (eqb-true (k / 8) i p) (only-raised 8 (get_or xs i 0) (2 ^ (k % 8)) h)
    go true false p = untouched 8 (get_or xs i 0) h
    go false true p = untouched 8 (get_or xs i 0) h
    go false false p = untouched 8 (get_or xs i 0) h

-- it loses the ones written
cleared-byte : (xs : List ℕ) (j i written : ℕ) → get_or xs i 0 < 2 ^ 8 → (t u : Bool) → eqb j i ≡ t → ltb i (length xs) ≡ u
    → get_or (set xs j (cleared_by 8 (get_or xs j 0) written 255)) i 0 ≡ kept 8 (get_or xs i 0) (bits_if t (bit_and written 255))
cleared-byte xs j i written h t u p q = stored-byte xs j i _ t u p q ∙ go t u p q
  where
    go : (t u : Bool) → eqb j i ≡ t → ltb i (length xs) ≡ u
        → cond (t && u) (cleared_by 8 (get_or xs j 0) written 255) (get_or xs i 0) ≡ kept 8 (get_or xs i 0) (bits_if t (bit_and written 255))
    go true true p q = rw (eqb-true j i p) refl
    go true false p q = rw (get_or-eq_default xs 0 (ltb-false i (length xs) q)) (sym (and_zero_l (2 ^ 8 - 1 - bit_and written 255)))
    go false u p q = sym (none-cleared 8 (get_or xs i 0) h)

pub no_byte : (n i : ℕ) → ◌≡◌ {A = ℕ} (get_or (replicate n 0) i 0) 0
no_byte zero i = refl
no_byte (suc n) zero = refl
no_byte (suc n) (suc i) = no_byte n i

-- ---- rules that leave the status bytes alone

module _ (b : Bool) where
  bytes-if : (t : Bool) (x y m : Machine) → gpe_sts x b ≡ gpe_sts m b → gpe_sts y b ≡ gpe_sts m b → gpe_sts (cond t x y) b ≡ gpe_sts m b
  bytes-if true x y m p q = p
  bytes-if false x y m p q = q

  woken-bytes : (by : WakeSource) (test : Bool) (m : Machine) → gpe_sts (woken_if by test m) b ≡ gpe_sts m b
  woken-bytes by test m = bytes-if (is_sleeping m.state && test) (woken by m) m m refl refl

  signal-bytes : (m : Machine) (bit : StatusBit) → gpe_sts (signal_of m bit) b ≡ gpe_sts m b
  unfolding signal_of
  signal-bytes m bit =
      let set = raised m (pm1_mask bit) in
      let wakes = signal_wakes m (pm1_mask bit) in
      bytes-if (in_s5 m) m (woken_if (source_of bit) wakes set) m refl (woken-bytes (source_of bit) wakes set)

  pin-bytes : (m : Machine) (active : Bool) → gpe_sts (pin_of m active) b ≡ gpe_sts m b
  unfolding pin_of
  pin-bytes m active =
      let level = with_wake_pin m active in
      bytes-if (pin_wakes m active) (woken (event_source event.PinActive) (raised level pciexp_wake_bit)) level m refl refl

  timed-bytes : (m : Machine) (t : Clock) → gpe_sts (timed m t) b ≡ gpe_sts m b
  unfolding timed
  timed-bytes m t =
      let x = with_time (raised m (tmr_raised m.settings t.turns)) t.counter t.hold in
      bytes-if t.off (overridden x) x m refl refl

  ticks-bytes : (n : ℕ) (m : Machine) → gpe_sts (ticked_by n m) b ≡ gpe_sts m b
  ticks-bytes n m =
      ap (λ x. gpe_sts x b) (ticks-at-once n m) ∙ bytes-if (awake m) (timed m (clock_after m n)) m m (timed-bytes m (clock_after m n)) refl

  control-bytes : (m : Machine) (c : Bool) (width offset written : ℕ) → gpe_sts (control_written m c width offset written) b ≡ gpe_sts m b
  unfolding completed
  control-bytes m c width offset written =
      let x = controlled m c width offset written in
      let state = entered_state m c width offset written in
      bytes-if (completes m c width offset written) (completed x state) x m (woken-bytes source.NotKnown (pending x state) (enter x state)) refl

-- ---- a status byte after each rule

-- a bit is raised in byte i where the block has such a byte
abbrev has_byte : Machine → Bool → ℕ → Bool
has_byte m b i = ltb i (length (gpe_sts m b))

-- a list has byte i of the block after the change
abbrev ByteLaw : Machine → Bool → ℕ → List ℕ → Change → Type 0
ByteLaw m b i l c = get_or l i 0 ≡ changed 8 (get_or (gpe_sts m b) i 0) (record { cleared = c.cleared; raised = bits_if (has_byte m b i) c.raised })

bits_none : (t : Bool) → bits_if t 0 ≡ 0
bits_none true = refl
bits_none false = refl

none-raised : (t : Bool) (a : ℕ) → bit_or a (bits_if t 0) ≡ a
none-raised t a = rw (bits_none t) (or_zero_r a)

byte-untouched : (m : Machine) (b : Bool) (i : ℕ) → get_or (gpe_sts m b) i 0 < 2 ^ 8 → (l : List ℕ) → l ≡ gpe_sts m b → ByteLaw m b i l unchanged
byte-untouched m b i h l e = ap (λ x. get_or x i 0) e ∙ sym (none-raised (has_byte m b i) _ ∙ none-cleared 8 (get_or (gpe_sts m b) i 0) h)

-- a general event raises its bit in its own block
general-raised-byte : (m : Machine) (k : ℕ) (b : Bool) (i : ℕ) → get_or (gpe_sts m b) i 0 < 2 ^ 8 → (g : Bool) → in_gpe0 m.settings k ≡ g
    → ByteLaw m b i (gpe_sts (general_raised m k) b) (raising (bits_if (lies_in m.settings (gpe k) b i) (gpe_mask m.settings (gpe k))))
unfolding general_raised lies_in gpe_mask
general-raised-byte m k false i h true e = rw e (raised_byte m.gpe0_sts k i h (eqb (k / 8) i) (has_byte m false i) refl refl)
general-raised-byte m k true i h false e =
    let n = k - m.settings.gpe1_base in
    rw e (raised_byte m.gpe1_sts n i h (eqb (n / 8) i) (has_byte m true i) refl refl)
general-raised-byte m k false i h false e = rw e (byte-untouched m false i h m.gpe0_sts refl)
general-raised-byte m k true i h true e = rw e (byte-untouched m true i h m.gpe1_sts refl)

-- a write clears in its own block
gpe-status-write-byte : (m : Machine) (offset written : ℕ) (b : Bool) (i : ℕ) → get_or (gpe_sts m b) i 0 < 2 ^ 8
    → (t : Bool)
    → in_gpe_status m.settings b offset ≡ t
    → ByteLaw m b i (gpe_sts_after m b offset written) (clearing (bits_if (t && eqb offset i) (bit_and written 255)))
unfolding gpe_sts_after
gpe-status-write-byte m offset written b i h true e =
    rw e (cleared-byte (gpe_sts m b) offset i written h (eqb offset i) (has_byte m b i) refl refl ∙ sym (none-raised (has_byte m b i) _))
gpe-status-write-byte m offset written b i h false e = rw e (byte-untouched m b i h (gpe_sts m b) refl)

gpe-write-byte : (m : Machine) (offset written : ℕ) (c b : Bool) (i : ℕ) → get_or (gpe_sts m b) i 0 < 2 ^ 8
    → ByteLaw m b i (gpe_sts (gpe_written m c offset written) b) (clearing (gpe_ones m (register.Gpe c) offset written b i))
unfolding gpe_ones
gpe-write-byte m offset written true true i h = gpe-status-write-byte m offset written true i h (in_gpe_status m.settings true offset) refl
gpe-write-byte m offset written false false i h = gpe-status-write-byte m offset written false i h (in_gpe_status m.settings false offset) refl
gpe-write-byte m offset written true false i h = byte-untouched m false i h m.gpe0_sts refl
gpe-write-byte m offset written false true i h = byte-untouched m true i h m.gpe1_sts refl

module _ (m : Machine) (b : Bool) (i : ℕ) (h : get_or (gpe_sts m b) i 0 < 2 ^ 8) where
  abbrev GpeLaw : Machine → Change → Type 0
  GpeLaw x c = ByteLaw m b i (gpe_sts x b) c

  -- rules that leave the bytes alone
  same : (x : Machine) → gpe_sts x b ≡ gpe_sts m b → GpeLaw x unchanged
  same x e = byte-untouched m b i h (gpe_sts x b) e

  -- an event that goes by a PM1 bit, other than a press, leaves the bytes alone
  pm1-event-law : (j : ℕ) (k : EventKind) → is_press k ≡ false → gpe_sts (done_by m (pm1 j) k) b ≡ gpe_sts m b
      → GpeLaw (done_by m (pm1 j) k) (gpe_change_by m (pm1 j) k b i)
  unfolding lies_in
  pm1-event-law j k q kept = rw (q, and-false (in_s5 m), and-false (not (in_s5 m))) (same (done_by m (pm1 j) k) kept)

  gpe-press-law : (t : Bool) → in_s5 m ≡ t → GpeLaw (press_of m) (gpe_change_by m (pm1 8) kind.press b i)
  unfolding press_of lies_in
  gpe-press-law true e = rw (e, none-raised (has_byte m b i), and_zero_r) (go b)
    where
      go : (c : Bool) → get_or (gpe_sts (restarted m) c) i 0 ≡ 0
      go true = no_byte gpe_bytes i
      go false = no_byte gpe_bytes i
  gpe-press-law false e = rw e (same (woken_if (event_source event.Press) true m) (woken-bytes b (event_source event.Press) true m))

  gpe-general-law : (k : ℕ) (t : Bool) → in_s5 m ≡ t → GpeLaw (general_of m k) (gpe_change_by m (gpe k) (kind.general k) b i)
  unfolding general_of
  gpe-general-law k true e = rw e (same m refl)
  gpe-general-law k false e =
      rw e
      (ap (λ l. get_or l i 0) (woken-bytes b (event_source (event.General k)) (general_enabled m k) (general_raised m k))
      ∙ general-raised-byte m k b i h (in_gpe0 m.settings k) refl)

  gpe-event-law : {bit : StatusBit} {k : EventKind} → Pair bit k → GpeLaw (done_by m bit k) (gpe_change_by m bit k b i)
  gpe-event-law pair.press = gpe-press-law (in_s5 m) refl
  gpe-event-law pair.release = pm1-event-law 8 kind.release refl refl
  gpe-event-law (pair.signal j l) = pm1-event-law j kind.signal refl (signal-bytes b m (pm1 j))
  gpe-event-law (pair.pin active) = pm1-event-law 14 (kind.pin active) refl (pin-bytes b m active)
  gpe-event-law (pair.notice j l f) = pm1-event-law j kind.notice refl refl
  gpe-event-law (pair.general k) = gpe-general-law k (in_s5 m) refl
  gpe-event-law (pair.ticks n) = pm1-event-law 0 (kind.ticks n) refl (ticks-bytes b n m)

  gpe-write-law : (r : Register) (width offset written : ℕ) → GpeLaw (write_of m r width offset written) (clearing (gpe_ones m r offset written b i))
  unfolding write_of gpe_ones
  gpe-write-law register.SmiCmd width offset written = same m refl
  gpe-write-law (register.Pm1Evt c) width offset written = same m refl
  gpe-write-law (register.Pm1Cnt c) width offset written = same (control_written m c width offset written) (control-bytes b m c width offset written)
  gpe-write-law register.Pm2Cnt width offset written = same m refl
  gpe-write-law register.PmTmr width offset written = same m refl
  gpe-write-law (register.Gpe c) width offset written = gpe-write-byte m offset written c b i h
  gpe-write-law register.Nowhere width offset written = same m refl

  gpe-rule-law : (s : Step) → GpeLaw (done_of m s) (gpe_rule_change m s b i)
  unfolding gpe_rule_change event_of gpe_event_change
  gpe-rule-law (step.Read a) = same m refl
  gpe-rule-law (step.Write a written) = gpe-write-law (register_of m a) a.width (offset_of m a) written
  gpe-rule-law (step.Event e) = gpe-event-law (pair_of e)
  gpe-rule-law step.Take = same m refl
  gpe-rule-law step.Drop = same m refl

  -- after any step; past the block's bytes nothing is raised
  gpe-any-law : (s : Step) → get_or (gpe_sts (after m s) b) i 0
      ≡ bit_or (kept 8 (get_or (gpe_sts m b) i 0) (gpe_clears m s b i)) (bits_if (has_byte m b i) (gpe_raises m s b i))
  unfolding after gpe_clears gpe_raises
  gpe-any-law s = go (accepted (answer_to m s))
    where
      go : (t : Bool) → GpeLaw (cond t (done_of m s) m) (cond t (gpe_rule_change m s b i) unchanged)
      go true = gpe-rule-law s
      go false = same m refl

-- status byte i of the block after any step, accepted or refused
pub gpe-status-law : (m : Machine) (s : Step) (b : Bool) (i : ℕ) → i < length (gpe_sts m b) → get_or (gpe_sts m b) i 0 < 2 ^ 8
    → get_or (gpe_sts (after m s) b) i 0 ≡ bit_or (kept 8 (get_or (gpe_sts m b) i 0) (gpe_clears m s b i)) (gpe_raises m s b i)
gpe-status-law m s b i l h = gpe-any-law m b i h s ∙ rw (lt-ltb i (length (gpe_sts m b)) l) refl

-- ---- bounds

module _ (m : Machine) (b : Bool) (i : ℕ) where
  gpe-mask-lt : (s : Settings) (bit : StatusBit) → gpe_mask s bit < 2 ^ 8
  unfolding gpe_mask
  gpe-mask-lt s (pm1 j) = pow_pos 8
  gpe-mask-lt s (gpe k) = pow-lt {j = 8} (omega arith)

  gpe-event-fits : (e : Event) → Fits 8 (gpe_event_change m e b i)
  unfolding gpe_event_change
  gpe-event-fits e = (
    bits-if-lt 8 (in_s5 m && is_press (event_kind e)) (2 ^ 8 - 1) (omega arith),
    bits-if-lt 8 (not (in_s5 m) && lies_in m.settings (event_bit e) b i) _ (gpe-mask-lt m.settings (event_bit e)),
  )

  gpe-ones-lt : (r : Register) (offset written : ℕ) → gpe_ones m r offset written b i < 2 ^ 8
  unfolding gpe_ones
  gpe-ones-lt register.SmiCmd offset written = pow_pos 8
  gpe-ones-lt (register.Pm1Evt c) offset written = pow_pos 8
  gpe-ones-lt (register.Pm1Cnt c) offset written = pow_pos 8
  gpe-ones-lt register.Pm2Cnt offset written = pow_pos 8
  gpe-ones-lt register.PmTmr offset written = pow_pos 8
  gpe-ones-lt (register.Gpe c) offset written =
      bits-if-lt 8 (beq c b && (in_gpe_status m.settings c offset && eqb offset i)) (bit_and written 255) (masked-lt 8 written 255 (omega arith))
  gpe-ones-lt register.Nowhere offset written = pow_pos 8

  gpe-rule-fits : (s : Step) → Fits 8 (gpe_rule_change m s b i)
  unfolding gpe_rule_change
  gpe-rule-fits (step.Read a) = unchanged-fits 8
  gpe-rule-fits (step.Write a written) = clearing-fits 8 _ (gpe-ones-lt (register_of m a) (offset_of m a) written)
  gpe-rule-fits (step.Event e) = gpe-event-fits e
  gpe-rule-fits step.Take = unchanged-fits 8
  gpe-rule-fits step.Drop = unchanged-fits 8

pub gpe-raises-lt : (m : Machine) (s : Step) (b : Bool) (i : ℕ) → gpe_raises m s b i < 2 ^ 8
unfolding gpe_raises
gpe-raises-lt m s b i = (accepted-fits 8 m s (gpe_rule_change m s b i) (gpe-rule-fits m b i s)).1

pub gpe-clears-lt : (m : Machine) (s : Step) (b : Bool) (i : ℕ) → gpe_clears m s b i < 2 ^ 8
unfolding gpe_clears
gpe-clears-lt m s b i = (accepted-fits 8 m s (gpe_rule_change m s b i) (gpe-rule-fits m b i s)).0

-- a status byte keeps its width
pub gpe-status-stays-below : (m : Machine) (s : Step) (b : Bool) (i : ℕ) → get_or (gpe_sts m b) i 0 < 2 ^ 8 → get_or (gpe_sts (after m s) b) i 0 < 2 ^ 8
gpe-status-stays-below m s b i h =
    rw (gpe-any-law m b i h s)
    (or_lt 8 _ (bits_if (has_byte m b i) (gpe_raises m s b i)) (kept-lt 8 (get_or (gpe_sts m b) i 0) (gpe_clears m s b i))
    (bits-if-lt 8 (has_byte m b i) (gpe_raises m s b i) (gpe-raises-lt m s b i)))

-- ---- past the bytes of a block nothing is raised, where it has room for its events

abbrev pub gpe_block : Settings → Bool → Block
gpe_block s b = cond b s.gpe1 s.gpe0

-- the byte of an event comes before the block's events end
event-byte : (k i count : ℕ) → k < count → count ≤ 8 * i → eqb (k / 8) i ≡ false
event-byte k i count l g = ne_eqb (k / 8) i (λ e. omega arith)

in-gpe0-lt : (s : Settings) (k : ℕ) → in_gpe0 s k ≡ true → k < event_count s.gpe0
unfolding in_gpe0
in-gpe0-lt s k e = ltb-true k (event_count s.gpe0) e

in-gpe1-lt : (s : Settings) (k : ℕ) → in_gpe1 s k ≡ true → k - s.gpe1_base < event_count s.gpe1
unfolding in_gpe1
in-gpe1-lt s k e = go (leb s.gpe1_base k) e
  where
    go : (t : Bool) → (t && ltb (k - s.gpe1_base) (event_count s.gpe1)) ≡ true → k - s.gpe1_base < event_count s.gpe1
    go true e = ltb-true (k - s.gpe1_base) (event_count s.gpe1) e
    go false e = let z : ◌≡◌ {A = ℕ} 0 1 = cc in omega arith

-- an event is accepted, by its bit and its kind
abbrev accepted_by : Machine → StatusBit → EventKind → Bool
accepted_by m bit k = accepted (answer_by m bit k)

general-accepted : (m : Machine) (k : ℕ) → accepted_by m (gpe k) (kind.general k) ≡ (in_gpe0 m.settings k || in_gpe1 m.settings k)
unfolding first_applying
general-accepted m k = go (in_gpe0 m.settings k || in_gpe1 m.settings k)
  where
    go : (t : Bool) → accepted (cond (not t) answer.NoSuchEvent (answer.Done 0)) ≡ t
    go true = refl
    go false = refl

none-lies : (s : Settings) (k : ℕ) (b : Bool) (i : ℕ) → event_count (gpe_block s b) ≤ 8 * i → (g o : Bool) → in_gpe0 s k ≡ g → in_gpe1 s k ≡ o
    → ((g || o) && lies_in s (gpe k) b i) ≡ false
unfolding lies_in
none-lies s k false i r true o p q = rw p (event-byte k i (event_count s.gpe0) (in-gpe0-lt s k p) r)
none-lies s k true i r true o p q = rw p refl
none-lies s k false i r false true p q = rw p refl
none-lies s k true i r false true p q = rw p (event-byte (k - s.gpe1_base) i (event_count s.gpe1) (in-gpe1-lt s k q) r)
none-lies s k b i r false false p q = refl

no_bits : (t n l : Bool) (gone bits : ℕ) → (t && l) ≡ false → (cond t (record { cleared = gone; raised = bits_if (n && l) bits }) unchanged).raised ≡ 0
no_bits true true l gone bits e = rw e refl
no_bits true false l gone bits e = refl
no_bits false n l gone bits e = refl

-- a change that raises nothing
none-past : (m : Machine) (s : Step) (bits : ℕ) → (if_accepted m s (clearing bits)).raised ≡ 0
none-past m s bits = go (accepted (answer_to m s))
  where
    go : (t : Bool) → (cond t (clearing bits) unchanged).raised ≡ 0
    go true = refl
    go false = refl

event-past : (m : Machine) (b : Bool) (i : ℕ) → event_count (gpe_block m.settings b) ≤ 8 * i → (e : Event)
    → (if_accepted m (step.Event e) (gpe_event_change m e b i)).raised ≡ 0
unfolding answer_to gpe_event_change lies_in
event-past m b i r e =
    pm1-or-general (λ bit k. (cond (accepted_by m bit k) (gpe_change_by m bit k b i) unchanged).raised ≡ 0)
    (λ j k l. no_bits (accepted_by m (pm1 j) k) (not (in_s5 m)) _ _ _ (and-false (accepted_by m (pm1 j) k)))
    (λ k. rw (general-accepted m k)
    (no_bits (in_gpe0 m.settings k || in_gpe1 m.settings k) (not (in_s5 m)) _ _ _
    (none-lies m.settings k b i r (in_gpe0 m.settings k) (in_gpe1 m.settings k) refl refl)))
    (pair_of e)

pub gpe-raises-past : (m : Machine) (s : Step) (b : Bool) (i : ℕ) → event_count (gpe_block m.settings b) ≤ 8 * i → gpe_raises m s b i ≡ 0
unfolding gpe_raises gpe_rule_change
gpe-raises-past m (step.Read a) b i r = none-past m (step.Read a) 0
gpe-raises-past m (step.Write a written) b i r = none-past m (step.Write a written) _
gpe-raises-past m (step.Event e) b i r = event-past m b i r e
gpe-raises-past m step.Take b i r = none-past m step.Take 0
gpe-raises-past m step.Drop b i r = none-past m step.Drop 0

-- so the law holds at every index
pub gpe-status-law-everywhere : (m : Machine) (s : Step) (b : Bool) (i : ℕ)
    → event_count (gpe_block m.settings b) ≤ 8 * length (gpe_sts m b)
    → get_or (gpe_sts m b) i 0 < 2 ^ 8
    → get_or (gpe_sts (after m s) b) i 0 ≡ bit_or (kept 8 (get_or (gpe_sts m b) i 0) (gpe_clears m s b i)) (gpe_raises m s b i)
gpe-status-law-everywhere m s b i room h =
    below-or-beyond i (length (gpe_sts m b))
    (λ l. gpe-status-law m s b i l h)
    (λ l. gpe-any-law m b i h s ∙ rw (le-ltb i (length (gpe_sts m b)) l, gpe-raises-past m s b i (omega arith)) refl)
