-- What each rule keeps, every step keeps: a property of machines that holds after each single change that the rules make holds after
-- every step. An accepted step is a few of these changes, each with what the table of refusals and the port map say of it.
-- Assumes nothing.
use mathlib.Core.Bool.{Bool, true, false, not, cond, ◌&&◌, ◌||◌, or-true, false≢true}
use mathlib.Core.List.{List, [], ◌∷◌}
use Rattle.std.specs.Prelude.{Option, Some, None, unwrap_or, option_map, position}
use Rattle.std.proofs.lemmas.List.Quantifiers.{position-Some}
use mathlib.Core.Path.{◌≡◌, refl, sym, ◌∙◌}
use Prim.Native.Nat.{ℕ, suc, ◌+◌, ◌%◌, ◌^◌, ◌<◌}
use native.Mathlib.Nat.{mod-lt}
use native.Mathlib.Omega.{arith}
use borrow.Author.Tests.{eqb-true, not-false}
use lib.Bits.{bit_and}
use lib.Dec.{eqb}
use lib.ListN.{get_or, drop}
use lib.Pow.{pow_pos}
use lib.Seq.{get_or-drop}
use Rattle.lists.specs.Any.{any}
use Rattle.lists.proofs.Tests.{or_left, and_left, and_right}
use Rattle.bits.specs.Writes.{kept, taken_by, within}
use Rattle.sleep.specs.Pairs.{absent, named, state_of}
use Rattle.clock.specs.AtOnce.{off_within as overridden_in, ran_of, counter_after, hold_after, after_of}
use Rattle.clock.specs.Clock.{counter_bits}
use Rattle.platform.specs.Blocks.{present, no_block}
use Rattle.platform.specs.Fitted.{status_cells, enable_cells, wide_timer}
use Rattle.platform.specs.FadtBlocks.{smi_block, block_of}
use Rattle.platform.specs.declared.block.Block.{Block}
use Rattle.platform.specs.declared.block.FadtBlock.{FadtBlock}
use Rattle.platform.specs.declared.block.FadtBlock.TheVariants as fadt
use Rattle.platform.specs.declared.settings.Settings.{Settings}
use Rattle.platform.proofs.Legal.{holds-from}
use Rattle.ports.specs.Walk.{walk, Means}
use Rattle.ports.specs.declared.Place.{Place}
use Rattle.ports.proofs.Theorems.{walk-means}
use Rattle.machine.specs.Status.{pwrbtn_bit, pciexp_wake_bit}
use Rattle.registers.specs.Registers.{enable_in, covered, placed, in_status, in_enable, ones_in, status_after, enable_after, has_pm1b_cnt, covers_high, written_bit}
use Rattle.machine.specs.Fields.{with_event, with_control, with_command, with_button, with_arb_dis, with_sci_en, with_time, with_wake_pin, enter}
use Rattle.machine.specs.Lines.{awake}
use Rattle.machine.specs.Sleep.{is_sleeping, woken, woken_if, pending, completed, restarted}
use Rattle.machine.specs.declared.Machine.{Machine}
use Rattle.machine.specs.declared.sleeping.WakeSource.{WakeSource}
use Rattle.machine.specs.declared.sleeping.WakeSource.TheVariants as source
use Rattle.model.specs.Answer.{Refusal, first_applying}
use Rattle.model.specs.Bus.{leads_nowhere, gpe_written, write_of}
use Rattle.model.specs.Control.{completes, entered_state, typ_after, armed_after, controlled, control_written}
use Rattle.model.specs.Events.{StatusBit, pm1, pm1_mask, source_of, event_mask, event_source, fits, fitted, raised, in_s5, press_of, release_of, signal_of, pin_wakes, pin_of, in_gpe0, in_gpe1, general_raised, general_enabled, general_of, clock_of, tmr_raised, timed, ticked_by, done_by, event_of}
use Rattle.model.specs.Firmware.{is_acpi_enable, enables_after, sci_en_after}
use Rattle.model.specs.EventKinds.{EventKind}
use Rattle.model.specs.Legal.{absent_pair, state_allowed}
use Rattle.model.specs.Ports.{block_register, register_in, offset_in, register_at, offset_at}
use Rattle.model.specs.Step.{register_of, offset_of, unfitted, refusals_of, done_of, answer_to, accepted, after}
use Rattle.model.specs.declared.Answer.TheVariants as answer
use Rattle.model.specs.declared.Event.{Event}
use Rattle.model.specs.declared.Event.TheVariants as event
use Rattle.model.specs.declared.Register.{Register}
use Rattle.model.specs.declared.Register.TheVariants as register
use Rattle.model.specs.declared.Step.{Step}
use Rattle.model.specs.declared.Step.TheVariants as step
use Rattle.model.proofs.EventBits.{Pair, pair_of, answer_by}
use Rattle.model.proofs.EventBits as pair
use Rattle.model.proofs.Fitted.{zero-within, or-within, part-within, shown-within, self-within, has_within, tmr-within}
use Rattle.model.proofs.Steps.{row_applies, zero-exactly}
use Rattle.model.proofs.Ticks.{ticks-closed-form}

-- ---- the block that a port leads to

-- the block of a register
abbrev pub register_block : Settings → Register → Block
register_block s register.SmiCmd = smi_block s
register_block s (register.Pm1Evt b) = cond b s.pm1b_evt s.pm1a_evt
register_block s (register.Pm1Cnt b) = cond b s.pm1b_cnt s.pm1a_cnt
register_block s register.Pm2Cnt = s.pm2_cnt
register_block s register.PmTmr = s.pm_tmr
register_block s (register.Gpe b) = cond b s.gpe1 s.gpe0
register_block s register.Nowhere = no_block

-- the register's block is there, and the offset is one of its bytes
abbrev pub Reached : Settings → Register → ℕ → Type 0
Reached s r offset = leads_nowhere r ≡ false → (present (register_block s r) ≡ true) × (offset < (register_block s r).length)

module _ (s : Settings) where
  -- the block of a block's register is that block
  block_back : (b : FadtBlock) → register_block s (block_register b) ≡ block_of s b
  block_back fadt.SmiCmd = refl
  block_back fadt.Pm1aEvtBlk = refl
  block_back fadt.Pm1bEvtBlk = refl
  block_back fadt.Pm1aCntBlk = refl
  block_back fadt.Pm1bCntBlk = refl
  block_back fadt.Pm2CntBlk = refl
  block_back fadt.PmTmrBlk = refl
  block_back fadt.Gpe0Blk = refl
  block_back fadt.Gpe1Blk = refl

  pub reached : (port : ℕ) → Reached s (register_at s port) (offset_at s port)
  unfolding register_at offset_at leads_nowhere
  reached port = go (walk s port) (walk-means s port)
    where
      go : (p : Option Place) → Means s port p → Reached s (register_in p) (offset_in p)
      go (Some p) m n =
          let (there, low, high) = holds-from (block_of s p.block) port m.inside in
          rw (block_back p.block) (there, omega (arith, m.at))
      go None m n = absurd (false≢true (sym n))

-- ---- the state that a pair names

module _ (s : Settings) where
  fitting-allowed : (i : ℕ) → not (absent (get_or s.sleep.pairs (1 + i) absent_pair)) ≡ true → state_allowed s (suc i) ≡ true
  unfolding state_allowed
  fitting-allowed i here =
      let same : 1 + i ≡ suc i = omega arith in
      rw (← same, here) (or-true (eqb (1 + i) 0 || eqb (1 + i) 5))

  named-allowed : (b-control : Bool) (a b : ℕ) → state_allowed s (unwrap_or (state_of b-control a b s.sleep.pairs) 0) ≡ true
  unfolding state_allowed named state_of
  named-allowed b-control a b =
      go (position (named b-control (a ∷ b ∷ [])) (drop 1 s.sleep.pairs))
      (λ i e.
      let (below, passes, earlier) = position-Some (named b-control (a ∷ b ∷ [])) (drop 1 s.sleep.pairs) i absent_pair e in
      let found : not (absent (get_or (drop 1 s.sleep.pairs) i absent_pair)) ≡ true = and_left _ _ passes in
      rw (get_or-drop 1 s.sleep.pairs i absent_pair) at found)
    where
      go : (o : Option ℕ) → ((i : ℕ) → o ≡ Some i → not (absent (get_or s.sleep.pairs (1 + i) absent_pair)) ≡ true)
          → state_allowed s (unwrap_or (option_map suc o) 0) ≡ true
      go None here = refl
      go (Some i) here = fitting-allowed i (here i refl)

-- ---- the changes that the rules make

-- the ticks that run of n, and the machine's counter and hold after them
abbrev pub ran_in : Machine → ℕ → ℕ
ran_in m n = ran_of m.button m.settings.power_override m.hold n

abbrev pub ticked : Machine → ℕ → Machine
ticked m n =
    with_time m (counter_after (counter_bits (wide_timer m.settings)) m.counter (ran_in m n)) (hold_after m.button m.hold (ran_in m n))

abbrev pub overridden_by : Machine → ℕ → Bool
overridden_by m n = overridden_in m.button m.settings.power_override m.hold n

-- what a rule may assume where it changes the machine, and that the property outlasts the change
module _ (P : Machine → Type 0) where
  -- fitted status bits are set, any are cleared
  abbrev pub KeptRaising : Type 0
  KeptRaising = (m : Machine) (bits : ℕ) → within (status_cells m.settings) bits ≡ true → P m → P (raised m bits)

  abbrev pub KeptClearing : Type 0
  KeptClearing = (m : Machine) (bits : ℕ) → P m → P (with_event m (kept 16 m.pm1_sts bits) m.pm1_en)

  -- enables are written, fitted ones alone, or cleared
  abbrev pub KeptEnabling : Type 0
  KeptEnabling = (m : Machine) (cells : ℕ)
      → (within (enable_cells m.settings) m.pm1_en ≡ true → within (enable_cells m.settings) cells ≡ true)
      → P m → P (with_event m m.pm1_sts cells)

  -- a general event byte is written, and a general event sets its bit
  abbrev pub KeptWritingGpe0 : Type 0
  KeptWritingGpe0 = (m : Machine) (offset written : ℕ) → offset < m.settings.gpe0.length → P m → P (gpe_written m false offset written)

  abbrev pub KeptWritingGpe1 : Type 0
  KeptWritingGpe1 = (m : Machine) (offset written : ℕ) → offset < m.settings.gpe1.length → P m → P (gpe_written m true offset written)

  abbrev pub KeptByGeneral : Type 0
  KeptByGeneral = (m : Machine) (k : ℕ) → (in_gpe0 m.settings k || in_gpe1 m.settings k) ≡ true → P m → P (general_raised m k)

  -- a command is latched, and taken
  abbrev pub KeptLatching : Type 0
  KeptLatching = (m : Machine) (written : ℕ) → present (smi_block m.settings) ≡ true → written < 256 → P m → P (with_command m true written)

  abbrev pub KeptTaking : Type 0
  KeptTaking = (m : Machine) (sci-en : Bool) → m.command_waits ≡ true → P m → P (with_command (with_sci_en m sci-en) false 0)

  -- control cells are written
  abbrev pub KeptControlling : Type 0
  KeptControlling = (m : Machine) (bm-rld gbl-rls : Bool) (a b : ℕ) (armed : Bool)
      → awake m ≡ true
      → (m.slp_typ_a < 8 → a < 8)
      → (m.slp_typ_b < 8 → b < 8)
      → (has_pm1b_cnt m.settings ≡ false → b ≡ m.slp_typ_b)
      → (has_pm1b_cnt m.settings ≡ false → armed ≡ true → m.armed ≡ true)
      → P m → P (with_control m bm-rld gbl-rls a b armed)

  abbrev pub KeptArbitrating : Type 0
  KeptArbitrating = (m : Machine) (arb-dis : Bool) → present m.settings.pm2_cnt ≡ true → P m → P (with_arb_dis m arb-dis)

  -- sleep and wake
  abbrev pub KeptSleeping : Type 0
  KeptSleeping = (m : Machine) (state : ℕ) → awake m ≡ true → state_allowed m.settings state ≡ true → P m → P (enter m state)

  abbrev pub KeptWaking : Type 0
  KeptWaking = (source : WakeSource) (m : Machine) → is_sleeping m.state ≡ true → P m → P (woken source m)

  -- the power button
  abbrev pub KeptRestarting : Type 0
  KeptRestarting = (m : Machine) → fitted m.settings event.Press ≡ true → P m → P (with_button (restarted m) true 0)

  abbrev pub KeptPressing : Type 0
  KeptPressing = (m : Machine) → fitted m.settings event.Press ≡ true → P m → P (with_button m true 0)

  abbrev pub KeptReleasing : Type 0
  KeptReleasing = (m : Machine) → P m → P (release_of m)

  -- the wake pin
  abbrev pub KeptPinning : Type 0
  KeptPinning = (m : Machine) (active : Bool) → fits m.settings pciexp_wake_bit ≡ true → P m → P (with_wake_pin m active)

  -- ticks, and those with the override
  abbrev pub KeptTicking : Type 0
  KeptTicking = (m : Machine) (n : ℕ) → awake m ≡ true → overridden_by m n ≡ false → P m → P (ticked m n)

  abbrev pub KeptOverriding : Type 0
  KeptOverriding = (m : Machine) (n : ℕ) → awake m ≡ true → overridden_by m n ≡ true → P m → P (enter (ticked m n) 5)

-- by each of them. `search` finds those that do not look at what is changed.
pub record Keeps (P : Machine → Type 0) : Type 0 where
  pub raises : KeptRaising P
  pub clears : KeptClearing P
  pub enables : KeptEnabling P
  pub bytes0 : KeptWritingGpe0 P
  pub bytes1 : KeptWritingGpe1 P
  pub general : KeptByGeneral P
  pub commands : KeptLatching P
  pub takes : KeptTaking P
  pub controls : KeptControlling P
  pub arbitrates : KeptArbitrating P
  pub sleeps : KeptSleeping P
  pub wakes : KeptWaking P
  pub restarts : KeptRestarting P
  pub presses : KeptPressing P
  pub releases : KeptReleasing P
  pub pins : KeptPinning P
  pub ticks : KeptTicking P
  pub overrides : KeptOverriding P

-- one machine or the other
pick : (P : Machine → Type 0) (t : Bool) (x y : Machine) → (t ≡ true → P x) → (t ≡ false → P y) → P (cond t x y)
pick P true x y p q = p refl
pick P false x y p q = q refl

-- control writes: what they latch, and that without B control they do not arm
typ-below : (t : Bool) (x old : ℕ) → old < 8 → cond t (x % 8) old < 8
typ-below true x old h = omega arith
typ-below false x old h = h

typ-b-kept : (m : Machine) (b : Bool) (width offset written : ℕ) → Reached m.settings (register.Pm1Cnt b) offset → has_pm1b_cnt m.settings ≡ false
    → typ_after m b true width offset written ≡ m.slp_typ_b
unfolding typ_after leads_nowhere
typ-b-kept m true width offset written r n = absurd (false≢true (sym n ∙ (r refl).0))
typ-b-kept m false width offset written r n = refl

armed_kept : (m : Machine) (b : Bool) (width offset written : ℕ) → has_pm1b_cnt m.settings ≡ false → armed_after m b width offset written ≡ true → m.armed ≡ true
unfolding armed_after
armed_kept m b width offset written n = go (covers_high width offset)
  where
    go : (t : Bool) → cond t (written_bit offset written 13 && (has_pm1b_cnt m.settings && not b)) m.armed ≡ true → m.armed ≡ true
    go true e = absurd (false≢true (sym n ∙ and_left (has_pm1b_cnt m.settings) (not b) (and_right (written_bit offset written 13) _ e)))
    go false e = e

enables-within : (m : Machine) (b : Bool) (width offset written : ℕ) → within (enable_cells m.settings) m.pm1_en ≡ true
    → within (enable_cells m.settings) (enable_after m b width offset written) ≡ true
unfolding enable_after
enables-within m b width offset written e = go (in_enable offset)
  where
    go : (t : Bool) → within (enable_cells m.settings) (cond t
        (taken_by 16 m.pm1_en (placed offset written) (bit_and (enable_in m.settings b) (covered width offset))) m.pm1_en) ≡ true
    go true =
        let cells = enable_cells m.settings in
        or-within cells _ _ (part-within cells m.pm1_en _ e)
        (shown-within cells (placed offset written) _ (part-within cells (enable_in m.settings b) _ (part-within cells cells _ (self-within cells))))
    go false = e

taken-within : (m : Machine) → within (enable_cells m.settings) m.pm1_en ≡ true → within (enable_cells m.settings) (enables_after m) ≡ true
unfolding enables_after
taken-within m e = go (is_acpi_enable m) m.sci_en
  where
    go : (t u : Bool) → within (enable_cells m.settings) (cond t (cond u m.pm1_en 0) m.pm1_en) ≡ true
    go true true = e
    go true false = zero-within (enable_cells m.settings)
    go false u = e

-- no line of an accepted step applies
passes : (m : Machine) (s : Step) → accepted (answer_to m s) ≡ true → (k : ℕ) → row_applies k (refusals_of m s) ≡ false
passes m s e = (zero-exactly m s).0 (eqb-true _ _ e)

-- an accepted event that asks to be fitted is
first_fits : (m : Machine) (bit : StatusBit) (ls : List Refusal) (v : ℕ) → accepted (first_applying (unfitted m bit ∷ ls) (answer.Done v)) ≡ true
    → fits m.settings (pm1_mask bit) ≡ true
unfolding first_applying
first_fits m bit ls v = go (fits m.settings (pm1_mask bit))
  where
    go : (t : Bool) → accepted (cond (not t) answer.NotFitted (first_applying ls (answer.Done v))) ≡ true → t ≡ true
    go true a = refl
    go false a = absurd (false≢true a)

module _ (P : Machine → Type 0) (keeps : Keeps P) where
  woken-kept : (source : WakeSource) (test : Bool) (m : Machine) → P m → P (woken_if source test m)
  woken-kept source test m p =
      pick P (is_sleeping m.state && test) (woken source m) m (λ e. keeps.wakes source m (and_left (is_sleeping m.state) test e) p) (λ e. p)

  -- ---- events

  press-kept : (m : Machine) → fitted m.settings event.Press ≡ true → P m → P (press_of m)
  unfolding press_of
  press-kept m f p =
      let bits = event_mask event.Press in
      let by = event_source event.Press in
      let pressed : Machine → Type 0 = λ x. P (with_button (raised x bits) true 0) in
      let fit = has_within (status_cells m.settings) 8 f in
      pick pressed (in_s5 m) (restarted m) (woken_if by true m)
      (λ e. keeps.raises (with_button (restarted m) true 0) bits fit (keeps.restarts m f p))
      (λ e. pick pressed (is_sleeping m.state && true) (woken by m) m
      (λ e. keeps.raises (with_button (woken by m) true 0) bits fit
      (keeps.presses (woken by m) f (keeps.wakes by m (and_left (is_sleeping m.state) true e) p)))
      (λ e. keeps.raises (with_button m true 0) bits fit (keeps.presses m f p)))

  signal-kept : (m : Machine) (bit : StatusBit) → within (status_cells m.settings) (pm1_mask bit) ≡ true → P m → P (signal_of m bit)
  unfolding signal_of
  signal-kept m bit w p =
      let set = raised m (pm1_mask bit) in
      pick P (in_s5 m) m (woken_if (source_of bit) _ set) (λ e. p) (λ e. woken-kept (source_of bit) _ set (keeps.raises m (pm1_mask bit) w p))

  -- what wakes is asleep
  pin-kept : (m : Machine) (active : Bool) → fits m.settings pciexp_wake_bit ≡ true → P m → P (pin_of m active)
  unfolding pin_of
  pin-kept m active f p =
      let by = event_source event.PinActive in
      let level = with_wake_pin m active in
      let set = keeps.raises level pciexp_wake_bit (has_within (status_cells m.settings) 14 f) (keeps.pins m active f p) in
      pick P (pin_wakes m active) (woken by (raised level pciexp_wake_bit)) level
      (λ e. keeps.wakes by (raised level pciexp_wake_bit) (and_left (is_sleeping m.state) _ (and_right active _ e)) set)
      (λ e. keeps.pins m active f p)

  general-kept : (m : Machine) (k : ℕ) → (in_gpe0 m.settings k || in_gpe1 m.settings k) ≡ true → P m → P (general_of m k)
  unfolding general_of
  general-kept m k h p =
      let by = event_source (event.General k) in
      pick P (in_s5 m) m (woken_if by (general_enabled m k) (general_raised m k)) (λ e. p)
      (λ e. woken-kept by (general_enabled m k) (general_raised m k) (keeps.general m k h p))

  ticks-kept : (m : Machine) (n : ℕ) → P m → P (ticked_by n m)
  unfolding timed
  ticks-kept m n p =
      let t = after_of (wide_timer m.settings) m.button m.settings.power_override n (clock_of m) in
      let bits = tmr_raised m.settings t.turns in
      let w = tmr-within m.settings t.turns in
      rw (ticks-closed-form n m)
      (pick P (awake m) (timed m t) m
      (λ up. pick P (overridden_by m n) _ _
      (λ o. keeps.clears (raised (enter (ticked m n) 5) bits) pwrbtn_bit (keeps.raises (enter (ticked m n) 5) bits w (keeps.overrides m n up o p)))
      (λ o. keeps.raises (ticked m n) bits w (keeps.ticks m n up o p)))
      (λ e. p))

  kind-kept : {bit : StatusBit} {k : EventKind} → Pair bit k → (m : Machine) → accepted (answer_by m bit k) ≡ true
      → P m → P (done_by m bit k)
  unfolding answer_to any
  kind-kept pair.press m a p = press-kept m (first_fits m (pm1 8) _ _ a) p
  kind-kept pair.release m a p = keeps.releases m p
  kind-kept (pair.signal i l) m a p = signal-kept m (pm1 i) (has_within _ i (first_fits m (pm1 i) _ _ a)) p
  kind-kept (pair.pin active) m a p = pin-kept m active (first_fits m (pm1 14) _ _ a) p
  kind-kept (pair.notice i l f) m a p = keeps.raises m (2 ^ i) (f m.settings) p
  kind-kept (pair.general k) m a p = general-kept m k (not-false _ (or_left _ _ (passes m (step.Event (event.General k)) a 29))) p
  kind-kept (pair.ticks n) m a p = ticks-kept m n p

  event-kept : (m : Machine) (e : Event) → accepted (answer_to m (step.Event e)) ≡ true → P m → P (event_of m e)
  unfolding answer_to event_of
  event-kept m e a p = kind-kept (pair_of e) m a p

  -- ---- writes

  module _ (m : Machine) (width offset written : ℕ) (up : awake m ≡ true) (p : P m) where
    event-write-kept : (b : Bool) → P (with_event m (status_after m b width offset written) (enable_after m b width offset written))
    unfolding status_after
    event-write-kept b = go (in_status offset)
      where
        done : P (with_event m m.pm1_sts (enable_after m b width offset written))
        done = keeps.enables m (enable_after m b width offset written) (enables-within m b width offset written) p

        go : (t : Bool) → P (with_event m (cond t (kept 16 m.pm1_sts (ones_in m b width offset written)) m.pm1_sts) (enable_after m b width offset written))
        go true = keeps.clears (with_event m m.pm1_sts (enable_after m b width offset written)) (ones_in m b width offset written) done
        go false = done

    controlled-kept : (b : Bool) → Reached m.settings (register.Pm1Cnt b) offset → P (controlled m b width offset written)
    unfolding typ_after
    controlled-kept b r =
        keeps.controls m _ _ _ _ _ up (typ-below (not b && covers_high width offset) _ _) (typ-below (b && covers_high width offset) _ _)
        (typ-b-kept m b width offset written r) (armed_kept m b width offset written) p

    control-kept : (b : Bool) → Reached m.settings (register.Pm1Cnt b) offset → P (control_written m b width offset written)
    unfolding completed awake
    control-kept b r =
        let x = controlled m b width offset written in
        let state = entered_state m b width offset written in
        pick P (completes m b width offset written) (completed x state) x
        (λ e. woken-kept source.NotKnown (pending x state) (enter x state) (keeps.sleeps x state up (named-allowed m.settings _ _ _) (controlled-kept b r)))
        (λ e. controlled-kept b r)

    write_kept : (r : Register) → Reached m.settings r offset → P (write_of m r width offset written)
    unfolding write_of leads_nowhere
    write_kept register.SmiCmd r = keeps.commands m (written % 2 ^ 8) (r refl).0 (mod-lt written (pow_pos 8)) p
    write_kept (register.Pm1Evt b) r = event-write-kept b
    write_kept (register.Pm1Cnt b) r = control-kept b r
    write_kept register.Pm2Cnt r = keeps.arbitrates m _ (r refl).0 p
    write_kept register.PmTmr r = p
    write_kept (register.Gpe false) r = keeps.bytes0 m offset written (r refl).1 p
    write_kept (register.Gpe true) r = keeps.bytes1 m offset written (r refl).1 p
    write_kept register.Nowhere r = p

  -- ---- every step

  done-kept : (m : Machine) (s : Step) → accepted (answer_to m s) ≡ true → P m → P (done_of m s)
  unfolding any
  done-kept m (step.Read a) e p = p
  done-kept m (step.Write a written) e p =
      let row = passes m (step.Write a written) e in
      write_kept m a.width (offset_of m a) written (not-false (awake m) (or_left _ _ (row 20))) p (register_of m a) (reached m.settings a.port)
  done-kept m (step.Event x) e p = event-kept m x e p
  done-kept m step.Take e p =
      keeps.takes (with_event m m.pm1_sts (enables_after m)) (sci_en_after m) (not-false _ (or_left _ _ (passes m step.Take e 31)))
      (keeps.enables m (enables_after m) (taken-within m) p)
  done-kept m step.Drop e p =
      keeps.controls m m.bm_rld false m.slp_typ_a m.slp_typ_b m.armed (not-false _ (or_left _ _ (passes m step.Drop e 20)))
      (λ h. h) (λ h. h) (λ n. refl) (λ n h. h) p

  pub kept-by-steps : (m : Machine) (s : Step) → P m → P (after m s)
  unfolding after
  kept-by-steps m s p = pick P (accepted (answer_to m s)) (done_of m s) m (λ e. done-kept m s e p) (λ e. p)
