-- Setting up gives legal machines, and every step keeps them legal. Each clause is kept by each change that the rules make, and so,
-- by `kept-by-steps`, by every step. What a table of bytes gives fits its types, and no step changes a setting.
-- Assumes nothing.
use mathlib.Core.Bool.{Bool, true, false, not, cond, ◌&&◌, ◌||◌, or-true, or_assoc, beq, false≢true}
use mathlib.Core.List.{List}
use mathlib.Core.Path.{◌≡◌, refl, sym, ◌∙◌, ap}
use Prim.Native.Nat.{ℕ, ◌+◌, ◌-◌, ◌/◌, ◌%◌, ◌^◌, ◌≤◌, ◌<◌, min}
use native.Mathlib.Nat.{mod-lt}
use native.Mathlib.Omega.{arith}
use borrow.Author.Tests.{eqb-false, ne_eqb, ltb-true, lt-ltb, leb-true, leb-false, le-leb, not-true}
use lib.Dec.{eqb, ltb, leb, lit<, lit≤}
use lib.ListN.{length}
use lib.Pow.{pow_pos}
use Rattle.std.proofs.Common.{Ok}
use Rattle.lists.specs.Any.{any}
use Rattle.lists.proofs.Tests.{and_left, and_right, and-other}
use Rattle.clock.specs.AtOnce.{off_within as overridden_in, ran_of, counter_after, hold_after}
use Rattle.clock.specs.Clock.{counter_bits, hold_limit}
use Rattle.platform.specs.Blocks.{present}
use Rattle.platform.specs.Fitted.{status_cells, enable_cells, wide_timer}
use Rattle.platform.specs.Legal.{legal_settings, Guaranteed}
use Rattle.platform.specs.Rules.{gpe_longest, event_count}
use Rattle.platform.specs.declared.settings.Settings.{Settings}
use Rattle.platform.proofs.Legal.{legal-guaranteed}
use Rattle.fadt.specs.Fields.{byte, settings_of}
use Rattle.machine.specs.Status.{wak_bit, has_bit}
use Rattle.registers.specs.Registers.{has_pm1b_cnt}
use Rattle.machine.specs.Lines.{awake, any_enabled, gpe_event}
use Rattle.machine.specs.PowerOn.{no_bytes, power_on}
use Rattle.machine.specs.SetUp.{set_up_of}
use Rattle.machine.specs.Sleep.{is_sleeping}
use Rattle.machine.specs.declared.Machine.{Machine}
use Rattle.machine.proofs.Accepted.{accepted-machine, accepted-legal}
use Rattle.machine.proofs.AnyEnabled.{or-swapped, walk-with-bit}
use Rattle.model.specs.Bus.{gpe_written}
use Rattle.model.specs.Events.{in_s5, in_gpe0, in_gpe1, is_enabled, general_enabled, general_raised}
use Rattle.model.specs.Legal.{only_if, status_legal, enables_legal, bytes_legal, gpe_legal, arb_dis_legal, state_allowed, state_legal, counter_legal, hold_legal, button_legal, wake_pin_legal, command_legal, armed_legal, slp_typ_b_legal, command_byte_legal, slp_typs_legal, gpe_pending_legal, listed, not_two, settings_fit, fits_types, legal}
use Rattle.model.specs.Step.{after}
use Rattle.model.specs.declared.Step.{Step}
use Rattle.model.proofs.Bytes.{Bytes, bytes-mean, mean-bytes, no_bytes_lem, bytes-with-bit, gpe-length, event-has-byte, status-written, enable-written}
use Rattle.model.proofs.Fits.{set-up-fits}
use Rattle.model.proofs.Fitted.{zero-within, or-within, part-within, wak-within}
use Rattle.model.proofs.Kept.{ticked, overridden_by, KeptRaising, KeptClearing, KeptEnabling, KeptLatching, KeptTaking, KeptControlling, KeptArbitrating, KeptSleeping, KeptWaking, KeptRestarting, KeptPressing, KeptReleasing, KeptPinning, KeptTicking, KeptOverriding, Keeps, kept-by-steps}
use Rattle.model.proofs.LinesExactly.{WalkStored, awake-exactly, both}
use Rattle.model.proofs.Settings.{settings-kept}

-- ---- tests

pub only-if : (a b : Bool) → only_if a b ≡ true → a ≡ true → b ≡ true
only-if true b e h = e
only-if false b e h = absurd (false≢true h)

pub only_of : (a b : Bool) → (a ≡ true → b ≡ true) → only_if a b ≡ true
only_of true b h = h refl
only_of false b h = refl

pub parts : (a b : Bool) → (a && b) ≡ true → (a ≡ true) × (b ≡ true)
parts a b e = (and_left a b e, and_right a b e)

-- ---- the PM1 cells

abbrev Pm1 : Machine → Type 0
Pm1 m = (status_legal m ≡ true) × (enables_legal m ≡ true)

pm1-keeps : Keeps Pm1
unfolding status_legal enables_legal general_raised
pm1-keeps =
    let raises : KeptRaising Pm1 = λ m bits w p. (or-within (status_cells m.settings) m.pm1_sts bits p.0 w, p.1) in
    let clears : KeptClearing Pm1 = λ m bits p. (part-within (status_cells m.settings) m.pm1_sts _ p.0, p.1) in
    let enables : KeptEnabling Pm1 = λ m cells w p. (p.0, w p.1) in
    let wakes : KeptWaking Pm1 = λ source m l p. raises m wak_bit (wak-within m.settings) p in
    search zero-within

-- ---- sleep

abbrev Sleep : Machine → Type 0
Sleep m = (state_legal m ≡ true) × (armed_legal m ≡ true)

-- arming needs B control, or was there before
armed-written : (m : Machine) (armed : Bool) → awake m ≡ true → (has_pm1b_cnt m.settings ≡ false → armed ≡ true → m.armed ≡ true) → armed_legal m ≡ true
    → only_if armed (awake m && has_pm1b_cnt m.settings) ≡ true
unfolding armed_legal
armed-written m armed up na p = only_of armed _ (λ e. both (awake m) (has_pm1b_cnt m.settings) up (go e (has_pm1b_cnt m.settings) refl))
  where
    go : armed ≡ true → (t : Bool) → has_pm1b_cnt m.settings ≡ t → has_pm1b_cnt m.settings ≡ true
    go e true q = q
    go e false q = and_right (awake m) (has_pm1b_cnt m.settings) (only-if m.armed _ p (na q e))

sleep-keeps : Keeps Sleep
unfolding state_allowed armed_legal awake general_raised
sleep-keeps =
    let controls : KeptControlling Sleep = λ m bm-rld gbl-rls a b armed up la lb nb na p. (p.0, armed-written m armed up na p.1) in
    search

-- ---- the power button

-- hold at most its limit, and below it outside S5 with the override fitted
abbrev Held : Machine → Type 0
Held m = (m.hold ≤ hold_limit) × (m.settings.power_override ≡ true → (m.state ≡ 5 → ⊥) → m.hold < hold_limit)

hold-held : (m : Machine) → hold_legal m ≡ true → Held m
unfolding hold_legal in_s5
hold-held m e = (
  leb-true m.hold hold_limit (and_left _ _ e),
  λ o n. ltb-true m.hold hold_limit
      (only-if (m.settings.power_override && not (eqb m.state 5)) _ (and_right (leb m.hold hold_limit) _ e)
      (both m.settings.power_override (not (eqb m.state 5)) o (ap not (ne_eqb m.state 5 n)))),
)

held-hold : (m : Machine) → Held m → hold_legal m ≡ true
unfolding hold_legal in_s5
held-hold m p =
    both (leb m.hold hold_limit) _ (le-leb m.hold hold_limit p.0)
    (only_of (m.settings.power_override && not (eqb m.state 5)) _
    (λ e. lt-ltb m.hold hold_limit (p.1 (and_left _ _ e) (eqb-false m.state 5 (not-true _ (and_right m.settings.power_override _ e))))))

hold-at-most : (down : Bool) (h n : ℕ) → h ≤ hold_limit → hold_after down h n ≤ hold_limit
unfolding hold_after
hold-at-most down h n l = go (down && ltb h hold_limit)
  where
    go : (t : Bool) → cond t (min hold_limit (h + n)) h ≤ hold_limit
    go true = omega arith
    go false = l

-- no override among the ticks: hold stays below the limit
hold-below : (down : Bool) (h n : ℕ) → overridden_in down true h n ≡ false → h < hold_limit → hold_after down h (ran_of down true h n) < hold_limit
unfolding overridden_in ran_of hold_after
hold-below true h n o l =
    let reach : leb hold_limit (h + n) ≡ false = and-other (ltb h hold_limit) (leb hold_limit (h + n)) o (lt-ltb h hold_limit l) in
    let below : h + n < hold_limit = leb-false hold_limit (h + n) reach in
    rw (lt-ltb h hold_limit l, reach) (omega arith)
hold-below false h n o l = l

held-ticked : (m : Machine) (n : ℕ) → overridden_by m n ≡ false → m.settings.power_override ≡ true → m.hold < hold_limit → (ticked m n).hold < hold_limit
held-ticked m n o f l = rw f (hold-below m.button m.hold n (rw f at o) l)

awake-not-5 : (m : Machine) → awake m ≡ true → m.state ≡ 5 → ⊥
awake-not-5 m up e = omega (arith, (awake-exactly m).0 up)

light-not-5 : (x : ℕ) → is_sleeping x ≡ true → x ≡ 5 → ⊥
unfolding is_sleeping
light-not-5 x l e = omega (arith, leb-true x 4 (and_right (leb 1 x) (leb x 4) l))

abbrev Button : Machine → Type 0
Button m = (button_legal m ≡ true) × Held m

button-keeps : Keeps Button
unfolding button_legal general_raised
button-keeps =
    let sleeps : KeptSleeping Button = λ m state up a p. (p.0, (p.1.0, λ o n. p.1.1 o (awake-not-5 m up))) in
    let wakes : KeptWaking Button = λ source m l p. (p.0, (p.1.0, λ o n. p.1.1 o (light-not-5 m.state l))) in
    let restarts : KeptRestarting Button = λ m f p. (f, (lit≤ tt, λ o n. lit< tt)) in
    let presses : KeptPressing Button = λ m f p. (f, (lit≤ tt, λ o n. lit< tt)) in
    let releases : KeptReleasing Button = λ m p. (refl, p.1) in
    let ticks : KeptTicking Button
    = λ m n up o p. (p.0, (hold-at-most m.button m.hold _ p.1.0, λ f u. held-ticked m n o f (p.1.1 f (awake-not-5 m up)))) in
    let overrides : KeptOverriding Button = λ m n up o p. (p.0, (hold-at-most m.button m.hold _ p.1.0, λ f u. absurd (u refl))) in
    search

-- ---- the wake pin

abbrev Pin : Machine → Type 0
Pin m = wake_pin_legal m ≡ true

pin-keeps : Keeps Pin
unfolding wake_pin_legal general_raised
pin-keeps =
    let pins : KeptPinning Pin = λ m active f p. only_of active _ (λ e. f) in
    search

-- ---- the counter

abbrev pub Counter : Machine → Type 0
Counter m = counter_legal m ≡ true

counter-below : (k counter n : ℕ) → counter < 2 ^ k → counter_after k counter n < 2 ^ k
unfolding counter_after
counter-below k counter n h = go (eqb n 0)
  where
    go : (t : Bool) → cond t counter ((counter + n) % 2 ^ k) < 2 ^ k
    go true = h
    go false = mod-lt (counter + n) (pow_pos k)

counter-ticked : (m : Machine) (n : ℕ) → counter_legal m ≡ true → counter_legal (ticked m n) ≡ true
unfolding counter_legal
counter-ticked m n p =
    let k = counter_bits (wide_timer m.settings) in
    lt-ltb _ (2 ^ k) (counter-below k m.counter _ (ltb-true m.counter (2 ^ k) p))

pub counter-keeps : Keeps Counter
unfolding counter_legal general_raised
counter-keeps = search counter-ticked

-- ---- commands

abbrev Commands : Machine → Type 0
Commands m = (command_legal m ≡ true) × (command_byte_legal m ≡ true)

-- a command waits: SMI_CMD is there
waits-smi : (m : Machine) → m.command_waits ≡ true → command_legal m ≡ true → eqb m.settings.smi_cmd 0 ≡ false
unfolding command_legal
waits-smi m w p = go (eqb m.settings.smi_cmd 0) refl
  where
    go : (t : Bool) → eqb m.settings.smi_cmd 0 ≡ t → eqb m.settings.smi_cmd 0 ≡ false
    go false e = e
    go true e =
        let none = and_left (not m.command_waits) m.sci_en (only-if _ _ p e) in
        absurd (false≢true (sym (not-true _ none) ∙ w))

commands-keep : Keeps Commands
unfolding command_legal command_byte_legal present general_raised
commands-keep =
    let latches : KeptLatching Commands
    = λ m written s w p. (rw (not-true (eqb m.settings.smi_cmd 0) s) refl, rw (lt-ltb written 256 w) refl) in
    let takes : KeptTaking Commands = λ m sci-en w p. (rw (waits-smi m w p.0) refl, refl) in
    let restarts : KeptRestarting Commands = λ m f p. (only_of (eqb m.settings.smi_cmd 0) _ (λ e. e), refl) in
    search

-- ---- the other control cells

abbrev Control : Machine → Type 0
Control m = (slp_typ_b_legal m ≡ true) × (slp_typs_legal m ≡ true) × (arb_dis_legal m ≡ true)

-- B's SLP_TYP after a control write that leaves it alone where B is absent
typ-b-written : (m : Machine) (b : ℕ) → (has_pm1b_cnt m.settings ≡ false → b ≡ m.slp_typ_b) → slp_typ_b_legal m ≡ true
    → only_if (not (has_pm1b_cnt m.settings)) (eqb b 0) ≡ true
unfolding slp_typ_b_legal
typ-b-written m b nb p = only_of (not (has_pm1b_cnt m.settings)) (eqb b 0) (λ e. rw (nb (not-true _ e)) (only-if _ _ p e))

typs-written : (m : Machine) (a b : ℕ) → (m.slp_typ_a < 8 → a < 8) → (m.slp_typ_b < 8 → b < 8) → slp_typs_legal m ≡ true
    → (ltb a 8 && ltb b 8) ≡ true
unfolding slp_typs_legal
typs-written m a b la lb p =
    let (ea, eb) = parts (ltb m.slp_typ_a 8) (ltb m.slp_typ_b 8) p in
    both (ltb a 8) (ltb b 8) (lt-ltb a 8 (la (ltb-true _ 8 ea))) (lt-ltb b 8 (lb (ltb-true _ 8 eb)))

control-keeps : Keeps Control
unfolding slp_typ_b_legal slp_typs_legal arb_dis_legal general_raised
control-keeps =
    let controls : KeptControlling Control
    = λ m bm-rld gbl-rls a b armed up la lb nb na p. (typ-b-written m b nb p.0, typs-written m a b la lb p.1, p.2) in
    let arbitrates : KeptArbitrating Control = λ m arb-dis s p. (p.0, p.1, only_of arb-dis _ (λ e. s)) in
    search or-true

-- ---- general event bytes

-- the four lists of bytes, of a platform whose settings are legal, and the walk's answer stored
abbrev pub Gpe : Machine → Type 0
Gpe m =
    Guaranteed m.settings
    × Bytes (m.settings.gpe0.length / 2) m.gpe0_sts
    × Bytes (m.settings.gpe0.length / 2) m.gpe0_en
    × Bytes (m.settings.gpe1.length / 2) m.gpe1_sts
    × Bytes (m.settings.gpe1.length / 2) m.gpe1_en
    × WalkStored m

length0 : (m : Machine) → Gpe m → (m.settings.gpe0.length % 2 ≡ 0) × (m.settings.gpe0.length ≤ gpe_longest)
length0 m p = gpe-length m.settings.gpe0 p.0.gpe0_length p.0.gpe0_none

length1 : (m : Machine) → Gpe m → (m.settings.gpe1.length % 2 ≡ 0) × (m.settings.gpe1.length ≤ gpe_longest)
length1 m p = gpe-length m.settings.gpe1 p.0.gpe1_length p.0.gpe1_none

module _ (m : Machine) (offset written : ℕ) where
  bytes0-written : offset < m.settings.gpe0.length → Gpe m → Gpe (gpe_written m false offset written)
  bytes0-written o p = (
    p.0,
    status-written m false offset written p.1,
    enable-written m false offset written m.settings.gpe0.length refl (length0 m p).0 o p.2,
    p.3,
    p.4,
    refl,
  )

  bytes1-written : offset < m.settings.gpe1.length → Gpe m → Gpe (gpe_written m true offset written)
  bytes1-written o p = (
    p.0,
    p.1,
    p.2,
    status-written m true offset written p.3,
    enable-written m true offset written m.settings.gpe1.length refl (length1 m p).0 o p.4,
    refl,
  )

-- the walk over GPE0, and over GPE1
abbrev walk0 : Machine → Bool
walk0 m = any_enabled m.gpe0_sts m.gpe0_en

abbrev walk1 : Machine → Bool
walk1 m = any_enabled m.gpe1_sts m.gpe1_en

-- a general event's bit: the walk finds it where it is enabled, and what it found before
general-bytes : (m : Machine) (k : ℕ) → (in_gpe0 m.settings k || in_gpe1 m.settings k) ≡ true → Gpe m → Gpe (general_raised m k)
unfolding general_raised general_enabled in_gpe0 in_gpe1
general-bytes m k h p = go (ltb k (event_count m.settings.gpe0)) refl
  where
    go : (t : Bool) → ltb k (event_count m.settings.gpe0) ≡ t → Gpe (general_raised m k)
    go true e =
        let low = ltb-true k _ e in
        let (even, most) = length0 m p in
        let place = event-has-byte m.settings.gpe0.length _ m.gpe0_sts k most low p.1 in
        let found = walk-with-bit m.gpe0_sts m.gpe0_en (k / 8) (2 ^ (k % 8)) place in
        rw e
        (p.0, bytes-with-bit m.settings.gpe0.length m.gpe0_sts k even low p.1, p.2, p.3, p.4, rw (p.5, found) (sym (or_assoc (is_enabled m.gpe0_en k) (walk0 m) (walk1 m))))
    go false e =
        let j = k - m.settings.gpe1_base in
        let inside : (leb m.settings.gpe1_base k && ltb j (event_count m.settings.gpe1)) ≡ true = rw e at h in
        let low = ltb-true j _ (and_right (leb m.settings.gpe1_base k) _ inside) in
        let (even, most) = length1 m p in
        let place = event-has-byte m.settings.gpe1.length _ m.gpe1_sts j most low p.3 in
        let found = walk-with-bit m.gpe1_sts m.gpe1_en (j / 8) (2 ^ (j % 8)) place in
        rw e
        (p.0, p.1, p.2, bytes-with-bit m.settings.gpe1.length m.gpe1_sts j even low p.3, p.4, rw (p.5, found) (or-swapped (is_enabled m.gpe1_en j) (walk0 m) (walk1 m)))

-- no bit is set
no_walk : false ≡ (any_enabled no_bytes no_bytes || any_enabled no_bytes no_bytes)
unfolding any_enabled has_bit
no_walk = refl

gpe-keeps : Keeps Gpe
unfolding general_raised
gpe-keeps =
    let restarts : KeptRestarting Gpe = λ m f p. (p.0, no_bytes_lem _, no_bytes_lem _, no_bytes_lem _, no_bytes_lem _, no_walk) in
    search (bytes0-written, bytes1-written, general-bytes)

pub gpe-bytes-kept : (m : Machine) (s : Step) → Gpe m → Gpe (after m s)
gpe-bytes-kept m s p = kept-by-steps Gpe gpe-keeps m s p

-- ---- all of it

-- what the test means, clause by clause
pub record Legal (m : Machine) : Type 0 where
  pub settings : legal_settings m.settings ≡ true
  pub status : status_legal m ≡ true
  pub enables : enables_legal m ≡ true
  pub gpe0 : gpe_legal m false ≡ true
  pub gpe1 : gpe_legal m true ≡ true
  pub arb-dis : arb_dis_legal m ≡ true
  pub state : state_legal m ≡ true
  pub counter : counter_legal m ≡ true
  pub hold : hold_legal m ≡ true
  pub button : button_legal m ≡ true
  pub wake-pin : wake_pin_legal m ≡ true
  pub command : command_legal m ≡ true
  pub armed : armed_legal m ≡ true
  pub slp-typ-b : slp_typ_b_legal m ≡ true
  pub command-byte : command_byte_legal m ≡ true
  pub slp-typs : slp_typs_legal m ≡ true
  pub gpe-pending : gpe_pending_legal m ≡ true
  pub types : fits_types m ≡ true

pub legal-means : (m : Machine) → legal m ≡ true → Legal m
unfolding legal listed
legal-means m e =
    let (e₀, types) = parts _ (fits_types m) e in
    let (e₁, gpe-pending) = parts _ (gpe_pending_legal m) e₀ in
    let (e₂, slp-typs) = parts _ (slp_typs_legal m) e₁ in
    let (e₃, command-byte) = parts _ (command_byte_legal m) e₂ in
    let (e₄, slp-typ-b) = parts _ (slp_typ_b_legal m) e₃ in
    let (e₅, armed) = parts _ (armed_legal m) e₄ in
    let (e₆, command) = parts _ (command_legal m) e₅ in
    let (e₇, wake-pin) = parts _ (wake_pin_legal m) e₆ in
    let (e₈, button) = parts _ (button_legal m) e₇ in
    let (e₉, hold) = parts _ (hold_legal m) e₈ in
    let (e₁₀, counter) = parts _ (counter_legal m) e₉ in
    let (e₁₁, state) = parts _ (state_legal m) e₁₀ in
    let (e₁₂, arb-dis) = parts _ (arb_dis_legal m) e₁₁ in
    let (e₁₃, gpe1) = parts _ (gpe_legal m true) e₁₂ in
    let (e₁₄, gpe0) = parts _ (gpe_legal m false) e₁₃ in
    let (e₁₅, enables) = parts _ (enables_legal m) e₁₄ in
    let (settings, status) = parts (legal_settings m.settings) (status_legal m) e₁₅ in
    record {
      settings = settings;
      status = status;
      enables = enables;
      gpe0 = gpe0;
      gpe1 = gpe1;
      arb-dis = arb-dis;
      state = state;
      counter = counter;
      hold = hold;
      button = button;
      wake-pin = wake-pin;
      command = command;
      armed = armed;
      slp-typ-b = slp-typ-b;
      command-byte = command-byte;
      slp-typs = slp-typs;
      gpe-pending = gpe-pending;
      types = types;
    }

pub means-legal : (m : Machine) → Legal m → legal m ≡ true
unfolding legal listed
means-legal m l =
    rw (
      l.settings,
      l.status,
      l.enables,
      l.gpe0,
      l.gpe1,
      l.arb-dis,
      l.state,
      l.counter,
      l.hold,
      l.button,
      l.wake-pin,
      l.command,
      l.armed,
      l.slp-typ-b,
      l.command-byte,
      l.slp-typs,
      l.gpe-pending,
      l.types,
    )
    refl

-- the clause on what is stored, and what it means
same_test : (a b : Bool) → beq a b ≡ true → a ≡ b
same_test true true e = refl
same_test true false e = absurd (false≢true e)
same_test false true e = absurd (false≢true e)
same_test false false e = refl

test-same : (a b : Bool) → a ≡ b → beq a b ≡ true
test-same true b e = rw (← e) refl
test-same false b e = rw (← e) refl

walk-means : (m : Machine) → gpe_pending_legal m ≡ true → WalkStored m
unfolding gpe_pending_legal
walk-means m e = same_test m.gpe_pending (gpe_event m) e

pub means-walk : (m : Machine) → WalkStored m → gpe_pending_legal m ≡ true
unfolding gpe_pending_legal
means-walk m e = test-same m.gpe_pending (gpe_event m) e

-- "A legal machine has it right"
pub legal-walk : (m : Machine) → legal m ≡ true → WalkStored m
legal-walk m e = walk-means m (legal-means m e).gpe-pending

-- the two clauses on general event bytes, and what they mean
gpe-mean : (m : Machine) → Legal m → Gpe m
unfolding gpe_legal
gpe-mean m l = (
  legal-guaranteed m.settings l.settings,
  bytes-mean _ m.gpe0_sts (and_left _ _ l.gpe0),
  bytes-mean _ m.gpe0_en (and_right (bytes_legal (m.settings.gpe0.length / 2) m.gpe0_sts) _ l.gpe0),
  bytes-mean _ m.gpe1_sts (and_left _ _ l.gpe1),
  bytes-mean _ m.gpe1_en (and_right (bytes_legal (m.settings.gpe1.length / 2) m.gpe1_sts) _ l.gpe1),
  walk-means m l.gpe-pending,
)

pub legal-gpe : (m : Machine) → legal m ≡ true → Gpe m
legal-gpe m e = gpe-mean m (legal-means m e)

mean-gpe : (m : Machine) → Gpe m → (gpe_legal m false ≡ true) × (gpe_legal m true ≡ true) × (gpe_pending_legal m ≡ true)
unfolding gpe_legal
mean-gpe m p = (
  both _ _ (mean-bytes _ m.gpe0_sts p.1) (mean-bytes _ m.gpe0_en p.2),
  both _ _ (mean-bytes _ m.gpe1_sts p.3) (mean-bytes _ m.gpe1_en p.4),
  means-walk m p.5,
)

-- every step keeps each clause
pub clauses-kept : (m : Machine) (s : Step) → Legal m → Legal (after m s)
clauses-kept m s l =
    let pm1 = kept-by-steps Pm1 pm1-keeps m s (l.status, l.enables) in
    let gpe = mean-gpe (after m s) (gpe-bytes-kept m s (gpe-mean m l)) in
    let control = kept-by-steps Control control-keeps m s (l.slp-typ-b, l.slp-typs, l.arb-dis) in
    let sleep = kept-by-steps Sleep sleep-keeps m s (l.state, l.armed) in
    let button = kept-by-steps Button button-keeps m s (l.button, hold-held m l.hold) in
    let commands = kept-by-steps Commands commands-keep m s (l.command, l.command-byte) in
    record {
      settings = rw (settings-kept m s) l.settings;
      status = pm1.0;
      enables = pm1.1;
      gpe0 = gpe.0;
      gpe1 = gpe.1;
      arb-dis = control.2;
      state = sleep.0;
      counter = kept-by-steps Counter counter-keeps m s l.counter;
      hold = held-hold (after m s) button.1;
      button = button.0;
      wake-pin = kept-by-steps Pin pin-keeps m s l.wake-pin;
      command = commands.0;
      armed = sleep.1;
      slp-typ-b = control.0;
      command-byte = commands.1;
      slp-typs = control.1;
      gpe-pending = gpe.2;
      types = rw (settings-kept m s) l.types;
    }

-- "all that .. any steps then give are legal"
pub legal-kept : (m : Machine) (s : Step) → legal m ≡ true → legal (after m s) ≡ true
legal-kept m s e = means-legal (after m s) (clauses-kept m s (legal-means m e))

-- ---- setting up

size-positive : (wide : Bool) → ltb 0 (2 ^ counter_bits wide) ≡ true
size-positive true = refl
size-positive false = refl

-- the list's clauses at power-on, where they are not plain zeros
module _ (s : Settings) where
  status-off : status_legal (power_on s) ≡ true
  unfolding status_legal
  status-off = zero-within (status_cells s)

  enables-off : enables_legal (power_on s) ≡ true
  unfolding enables_legal
  enables-off = zero-within (enable_cells s)

  counter-zero : counter_legal (power_on s) ≡ true
  unfolding counter_legal
  counter-zero = size-positive (wide_timer s)

  command-none : command_legal (power_on s) ≡ true
  unfolding command_legal
  command-none = only_of (eqb s.smi_cmd 0) _ (λ z. z)

  slp-typ-b-zero : slp_typ_b_legal (power_on s) ≡ true
  unfolding slp_typ_b_legal
  slp-typ-b-zero = or-true (not (not (has_pm1b_cnt s)))

  pub power-on-gpe : legal_settings s ≡ true → Gpe (power_on s)
  power-on-gpe e = (legal-guaranteed s e, no_bytes_lem _, no_bytes_lem _, no_bytes_lem _, no_bytes_lem _, no_walk)

  pub power-on-listed : legal_settings s ≡ true → listed (power_on s) ≡ true
  unfolding listed arb_dis_legal state_allowed button_legal wake_pin_legal armed_legal command_byte_legal slp_typs_legal
  power-on-listed e =
      let bytes = mean-gpe (power_on s) (power-on-gpe e) in
      let hold = held-hold (power_on s) (lit≤ tt, λ o n. lit< tt) in
      rw (e, status-off, enables-off, bytes.0, bytes.1, counter-zero, hold, command-none, slp-typ-b-zero, bytes.2) refl

  pub power-on-legal : legal_settings s ≡ true → settings_fit s ≡ true → legal (power_on s) ≡ true
  unfolding legal
  power-on-legal e t = both (listed (power_on s)) (settings_fit s) (power-on-listed e) t

-- the machine of an accepted set-up is the one at power-on
module _ (t : List ℕ) (event_homes control_homes : ℕ) (power-override : Bool) (pairs : List (List ℕ)) where
  -- the general event bytes and what is stored of them, and W2's list, whatever the numbers of the table
  pub set-up-gpe : (set_up_of t event_homes control_homes power-override pairs).answer ≡ Ok tt
      → Gpe (set_up_of t event_homes control_homes power-override pairs).machine
  set-up-gpe e =
      let s = settings_of t event_homes control_homes power-override pairs in
      let same = accepted-machine t s e in
      rw same (power-on-gpe s (rw same at (accepted-legal t event_homes control_homes power-override pairs e)))

  pub set-up-listed : (set_up_of t event_homes control_homes power-override pairs).answer ≡ Ok tt
      → listed (set_up_of t event_homes control_homes power-override pairs).machine ≡ true
  set-up-listed e =
      let s = settings_of t event_homes control_homes power-override pairs in
      let same = accepted-machine t s e in
      rw same (power-on-listed s (rw same at (accepted-legal t event_homes control_homes power-override pairs e)))

  -- "all that accepted setting up .. give are legal": from a table of bytes and six pairs of two, as the code's types have them
  pub set-up-legal : ((i : ℕ) → byte t i < 2 ^ 8) → length pairs ≡ 6 → any not_two pairs ≡ false
      → (set_up_of t event_homes control_homes power-override pairs).answer ≡ Ok tt
      → legal (set_up_of t event_homes control_homes power-override pairs).machine ≡ true
  unfolding legal
  set-up-legal bytes six two e =
      both (listed (set_up_of t event_homes control_homes power-override pairs).machine) _ (set-up-listed e)
      (set-up-fits t event_homes control_homes power-override pairs bytes six two)
