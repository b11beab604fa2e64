-- What the tests on the way to a cell say of the offset and of what is written. Assumes nothing.
use mathlib.Core.Bool.{Bool, true, false, cond, ◌&&◌, and-false, or-false, false≢true}
use Rattle.std.specs.Prelude.{Option, None}
use Rattle.std.specs.Option.{is_none}
use mathlib.Core.Path.{◌≡◌, refl, sym, ◌∙◌, ap}
use Prim.Native.Nat.{ℕ, ◌+◌, ◌-◌, ◌/◌, ◌%◌, ◌^◌, ◌≤◌, ◌<◌}
use native.Mathlib.Nat.{zero-div}
use native.Mathlib.Omega.{arith}
use borrow.Author.Tests.{ne_eqb, ltb-true, le-ltb, not-false}
use lib.Dec.{eqb}
use Rattle.acpi.specs.Bits.{ARB_DIS}
use Rattle.platform.specs.declared.settings.Settings.{Settings}
use Rattle.bits.specs.Writes.{byte_at}
use Rattle.registers.specs.Registers.{lane_at, one_byte, shown, in_status, in_enable, status_after, enable_after, covers_low, covers_high, gpe_half, gpe_sts_byte, in_gpe_status}
use Rattle.machine.specs.declared.Machine.{Machine}
use Rattle.machine.specs.Fields.{with_command, with_arb_dis}
use Rattle.machine.specs.Lines.{awake}
use Rattle.machine.specs.Scalars.{bare, scalars_of}
use Rattle.machine.specs.declared.scalars.Scalars.{Scalars}
use Rattle.model.proofs.Effects.{by-scalars, control-bare, event-write-bare}
use Rattle.model.specs.Answer.{first_applying}
use Rattle.model.specs.Bus.{wrong_width, data_too_wide, leads_nowhere, allowed, is_timer, command_lost, read_of}
use Rattle.model.specs.Control.{sets_slp_en, typ_after, completes, armed_after, named_state, names_none, bm_rld_after, gbl_rls_after, controlled}
use Rattle.model.specs.Effect.{unmoved, done, unless_refused, event_write, completing, control_write, sts_byte, en_byte, gpe_write, write_effect, register_write, effect_of}
use Rattle.ports.specs.Walk.{walk}
use Rattle.ports.specs.declared.Place.{Place}
use Rattle.model.specs.Ports.{register_in, offset_in, register_at, offset_at}
use Rattle.model.specs.Step.{write_refusals, answer_to}
use Rattle.model.specs.declared.Access.{Access}
use Rattle.model.specs.declared.Answer.TheVariants as answer
use Rattle.model.specs.declared.Effect.{Effect}
use Rattle.model.specs.declared.Register.{Register}
use Rattle.model.specs.declared.Register.TheVariants as register
use Rattle.model.specs.declared.Step.TheVariants as step
use Rattle.bus.specs.GpeBytes.{gpe_number}
use Rattle.bus.specs.declared.cell_rules.Bytes.{Bytes}

-- a GPE cell below 256 is a status byte, and one from 256 on an enable byte
module _ (s : Settings) (b : Bool) (offset cell : ℕ) where
  pub cell-in-status : cell ≡ gpe_number s b offset → cell < 256 → in_gpe_status s b offset ≡ true
  unfolding gpe_number
  cell-in-status = go (in_gpe_status s b offset)
    where
      go : (t : Bool) → cell ≡ cond t (offset % 256) (256 + (offset - gpe_half s b) % 256) → cell < 256 → t ≡ true
      go true e h = refl
      go false e h = absurd (omega (arith, e))

  pub cell-past-status : cell ≡ gpe_number s b offset → 256 ≤ cell → in_gpe_status s b offset ≡ false
  unfolding gpe_number
  cell-past-status = go (in_gpe_status s b offset)
    where
      go : (t : Bool) → cell ≡ cond t (offset % 256) (256 + (offset - gpe_half s b) % 256) → 256 ≤ cell → t ≡ false
      go true e h = absurd (omega (arith, e))
      go false e h = refl

-- data that fits its width fits 32 bits
pub fits_word : (width written : ℕ) → data_too_wide width written ≡ false → written % 2 ^ 32 ≡ written
unfolding data_too_wide
fits_word width written e = go (eqb width 1) (eqb width 2) (ltb-true _ _ (not-false _ e))
  where
    go : (t u : Bool) → written < cond t (2 ^ 8) (cond u (2 ^ 16) (2 ^ 32)) → written % 2 ^ 32 ≡ written
    go true u h = omega arith
    go false true h = omega arith
    go false false h = omega arith

-- an access of a width or place that is not allowed leads somewhere
pub refused-leads : (r : Register) (width offset : ℕ) → allowed r width offset ≡ false → leads_nowhere r ≡ false
unfolding allowed leads_nowhere
refused-leads register.SmiCmd width offset e = refl
refused-leads (register.Pm1Evt b) width offset e = refl
refused-leads (register.Pm1Cnt b) width offset e = refl
refused-leads register.Pm2Cnt width offset e = refl
refused-leads register.PmTmr width offset e = refl
refused-leads (register.Gpe b) width offset e = refl
refused-leads register.Nowhere width offset e = absurd (false≢true (sym e))

-- ---- what a write comes to, by its register

module _ (m : Machine) (width offset written : ℕ) (x : Effect) where
  abbrev Ends : Register → Type 0
  Ends r = x ≡ register_write m r width offset written

  pub at_register : (r y : Register) → r ≡ y → allowed r width offset ≡ true → (allowed y width offset ≡ true → Ends y) → Ends r
  at_register r y e a f = rw e (f (rw e at a))

  pub smi-refuses : m.command_waits ≡ true → x ≡ unmoved (scalars_of m) answer.CommandWaits → allowed register.SmiCmd width offset ≡ true → Ends register.SmiCmd
  unfolding register_write first_applying leads_nowhere is_timer command_lost names_none
  smi-refuses w q a =
      q ∙ rw a (ap (λ t. unless_refused m (cond t answer.CommandWaits (answer.Done 0)) (write_effect m register.SmiCmd width offset written)) (sym w))

  pub smi-takes : m.command_waits ≡ false → x ≡ done 0 (scalars_of (with_command m true (written % 2 ^ 8))) None
      → allowed register.SmiCmd width offset ≡ true → Ends register.SmiCmd
  unfolding register_write first_applying leads_nowhere is_timer command_lost names_none write_effect
  smi-takes w q a = rw (a, w) q

  pub pm2-takes : x ≡ done 0 (scalars_of (with_arb_dis m (eqb (written / 2 ^ ARB_DIS % 2) 1))) None → allowed register.Pm2Cnt width offset ≡ true
      → Ends register.Pm2Cnt
  unfolding register_write first_applying leads_nowhere is_timer command_lost names_none write_effect
  pm2-takes q a = rw a q

  pub timer-refuses : x ≡ unmoved (scalars_of m) answer.TimerWritten → allowed register.PmTmr width offset ≡ true → Ends register.PmTmr
  unfolding register_write first_applying leads_nowhere is_timer
  timer-refuses q a = rw a q

  pub nowhere-refuses : x ≡ unmoved (scalars_of m) answer.NoBlock → allowed register.Nowhere width offset ≡ true → Ends register.Nowhere
  unfolding register_write first_applying leads_nowhere
  nowhere-refuses q a = q

  module _ (b : Bool) where
    pub event-takes : x ≡ done 0 (event_write m b width offset written) None → allowed (register.Pm1Evt b) width offset ≡ true → Ends (register.Pm1Evt b)
    unfolding register_write first_applying leads_nowhere is_timer command_lost names_none write_effect
    event-takes q a = rw a q

    pub status-takes : in_gpe_status m.settings b offset ≡ true → x ≡ gpe_write (scalars_of m) (sts_byte (gpe_sts_byte m b offset) b offset written)
        → allowed (register.Gpe b) width offset ≡ true → Ends (register.Gpe b)
    unfolding register_write first_applying leads_nowhere is_timer command_lost names_none write_effect
    status-takes t q a = rw (a, t) q

    pub enable-takes : in_gpe_status m.settings b offset ≡ false → x ≡ gpe_write (scalars_of m) (en_byte m.settings b offset written)
        → allowed (register.Gpe b) width offset ≡ true → Ends (register.Gpe b)
    unfolding register_write first_applying leads_nowhere is_timer command_lost names_none write_effect
    enable-takes t q a = rw (a, t) q

    pub control-takes : x ≡ control_write m b width offset written → allowed (register.Pm1Cnt b) width offset ≡ true → Ends (register.Pm1Cnt b)
    unfolding register_write first_applying leads_nowhere is_timer command_lost names_none write_effect control_write
    control-takes q a = q ∙ go (completes m b width offset written && is_none (named_state m b width offset written)) refl a
      where
        go : (t : Bool) → (completes m b width offset written && is_none (named_state m b width offset written)) ≡ t → allowed (register.Pm1Cnt b) width offset ≡ true
            → cond t (unmoved (scalars_of m) answer.NoSleepState) (done 0 (scalars_of (controlled m b width offset written)) (completing m b width offset written))
            ≡ register_write m (register.Pm1Cnt b) width offset written
        go true e a = rw (a, e) refl
        go false e a = rw (a, e) refl

-- ---- the lines before the register's

-- what an access reaches, by the place that the walk gives
pub reaches : (s : Settings) (port : ℕ) (p : Option Place) (r : Register) (offset : ℕ) → p ≡ walk s port → r ≡ register_in p → offset ≡ offset_in p
    → (r ≡ register_at s port) × (offset ≡ offset_at s port)
unfolding register_at offset_at
reaches s port p r offset w e f = (e ∙ ap register_in w, f ∙ ap offset_in w)

-- a write with what its port leads to
abbrev writing : Machine → Register → ℕ → ℕ → ℕ → Effect
writing m r width offset written = unless_refused m (first_applying (write_refusals m r width offset written) (answer.Done 0)) (write_effect m r width offset written)

-- a write is refused by its first lines, or comes to what its register says
module _ (m : Machine) (a : Access) (written : ℕ) (r : Register) (offset : ℕ)
    (leads : (r ≡ register_at m.settings a.port) × (offset ≡ offset_at m.settings a.port)) (x : Effect) where
  write-at : x ≡ writing m r a.width offset written → x ≡ effect_of m (step.Write a written)
  unfolding effect_of answer_to
  write-at q = q ∙ rw (leads.0, leads.1) refl

  pub write-asleep : awake m ≡ false → x ≡ unmoved (scalars_of m) answer.Asleep → x ≡ effect_of m (step.Write a written)
  unfolding first_applying
  write-asleep w q = write-at (rw w q)

  module _ (w : awake m ≡ true) where
    pub write-wrong-width : wrong_width a.width ≡ true → x ≡ unmoved (scalars_of m) answer.WrongWidth → x ≡ effect_of m (step.Write a written)
    unfolding first_applying
    write-wrong-width e q = write-at (rw (w, e) q)

    module _ (right : wrong_width a.width ≡ false) where
      pub write-too-wide : data_too_wide a.width written ≡ true → x ≡ unmoved (scalars_of m) answer.DataTooWide → x ≡ effect_of m (step.Write a written)
      unfolding first_applying
      write-too-wide e q = write-at (rw (w, right, e) q)

      module _ (fit : data_too_wide a.width written ≡ false) where
        pub write-not-allowed : allowed r a.width offset ≡ false → x ≡ unmoved (scalars_of m) answer.NotAllowed
            → x ≡ effect_of m (step.Write a written)
        unfolding first_applying
        write-not-allowed e q = write-at (rw (w, right, fit, refused-leads r a.width offset e, e) q)

        pub write-reaches : (low : ℕ) → low ≡ written % 2 ^ 32 → x ≡ register_write m r a.width offset low
            → x ≡ effect_of m (step.Write a written)
        unfolding first_applying register_write
        write-reaches low l q =
            write-at (rw (w, right, fit) (rw (l ∙ fits_word a.width written fit) at q))

-- ---- past the bytes of a PM1 register

-- none of the first four offsets, or of the first two
pub past-four : (p : ℕ) → (p ≡ 0 → ⊥) → (p ≡ 1 → ⊥) → (p ≡ 2 → ⊥) → (p ≡ 3 → ⊥) → 4 ≤ p
past-four p a b c d = omega arith

pub past_two : (p : ℕ) → (p ≡ 0 → ⊥) → (p ≡ 1 → ⊥) → 2 ≤ p
past_two p a b = omega arith

-- nothing shows of no bits
shown-nothing : (width offset : ℕ) → shown width offset 0 ≡ 0
shown-nothing width offset = go (one_byte width offset)
  where
    go : (t : Bool) → cond t (byte_at (lane_at offset) 0) 0 ≡ 0
    go true = rw zero-div refl
    go false = refl

module _ (m : Machine) (r : Register) (b : Bool) (width offset : ℕ) where
  pub event-read-past : r ≡ register.Pm1Evt b → 4 ≤ offset → 0 ≡ read_of m r width offset
  unfolding read_of in_status in_enable
  event-read-past e h =
      let past : 2 ≤ offset = omega arith in
      rw (e, le-ltb offset 2 past, le-ltb offset 4 h, and-false) (sym (shown-nothing width offset))

  pub control-read-past : r ≡ register.Pm1Cnt b → 2 ≤ offset → 0 ≡ read_of m r width offset
  unfolding read_of
  control-read-past e h = rw (e, le-ltb offset 2 h) (sym (shown-nothing width offset))

  module _ (written : ℕ) where
    pub event-write-past : 4 ≤ offset → scalars_of m ≡ event_write m b width offset written
    unfolding status_after enable_after in_status in_enable
    event-write-past h =
        let past : 2 ≤ offset = omega arith in
        rw (le-ltb offset 2 past, le-ltb offset 4 h, and-false) refl

    control-write-past : 2 ≤ offset → done 0 (scalars_of m) None ≡ control_write m b width offset written
    unfolding control_write completing completes sets_slp_en typ_after armed_after bm_rld_after gbl_rls_after covers_low covers_high
    control-write-past h =
        let low : eqb offset 0 ≡ false = ne_eqb offset 0 (λ e. omega arith) in
        let high : eqb offset 1 ≡ false = ne_eqb offset 1 (λ e. omega arith) in
        simp (low, high, and-false, or-false)

-- ---- the bytes of a control register that a write covers

module _ (m : Machine) (b : Bool) (width offset written : ℕ) (x : Effect) (bytes : Bytes) (n : x ≡ control_write m b bytes.width bytes.offset written) where
  pub control-first : offset ≡ 0 → bytes ≡ record { width = width; offset = 0 } → x ≡ control_write m b width offset written
  control-first o s = n ∙ rw (s, o) refl

  pub control-second : offset ≡ 1 → bytes ≡ record { width = 1; offset = 1 } → x ≡ control_write m b width offset written
  unfolding control_write completing completes sets_slp_en typ_after armed_after covers_high
  control-second o s = n ∙ simp (s, o)

  pub control-none : 2 ≤ offset → bytes ≡ record { width = 1; offset = 2 } → x ≡ control_write m b width offset written
  control-none h s =
      n
      ∙ ap (λ (y : Bytes). control_write m b y.width y.offset written) s
      ∙ sym (control-write-past m register.Nowhere b 1 2 written (omega arith))
      ∙ control-write-past m register.Nowhere b width offset written h

-- ---- what the machine's settings and scalars give is the machine's

module _ (m : Machine) (s : Scalars) (b : Bool) (width offset written : ℕ) (e : s ≡ scalars_of m) where
  pub machine-control : (x : Effect) → x ≡ control_write (bare m.settings s) b width offset written → x ≡ control_write m b width offset written
  machine-control x d = by-scalars (λ n. control_write n b width offset written) m.settings m s x e d (control-bare m b width offset written)

  pub machine-event : (x : Scalars) → x ≡ event_write (bare m.settings s) b width offset written → x ≡ event_write m b width offset written
  machine-event x d = by-scalars (λ n. event_write n b width offset written) m.settings m s x e d (event-write-bare m b width offset written)
