-- Every legal machine comes back from its values, with its general event bytes. Field by field: legality bounds what the types of a definition do
-- not, and each value then gives its field back (`Back.antt`).
-- Assumes nothing.
use mathlib.Core.Bool.{Bool, true, false, not, cond, ◌&&◌, ◌||◌, false≢true}
use mathlib.Core.List.{List, [], ◌∷◌, ◌++◌}
use mathlib.Core.Path.{◌≡◌, refl, sym, ◌∙◌, ap}
use Prim.Native.Nat.{ℕ, ◌/◌, ◌%◌, ◌^◌, ◌≤◌, ◌<◌}
use native.Mathlib.Nat.{mod-eq_of_lt, lt_of_lt_of_le}
use native.Mathlib.Omega.{arith}
use borrow.Author.Tests.{eqb-true, ltb-true, leb-true, not-true, not-false}
use lib.Dec.{eqb, ltb, leb, lit<, lit≤}
use lib.ListN.{length, get_or, get_or-eq_default}
use Rattle.lists.specs.Any.{any}
use Rattle.lists.proofs.Search.{any_none}
use Rattle.lists.proofs.Tests.{and_left, and_right}
use Rattle.bits.proofs.Digits.{below-or-beyond}
use Rattle.clock.specs.Clock.{counter_bits, hold_limit}
use Rattle.cells.specs.Cells.{cells}
use Rattle.cells.specs.declared.Column.TheVariants as column
use Rattle.cells.proofs.Masks.{mask-small}
use Rattle.sleep.specs.Pairs.{absent}
use Rattle.platform.specs.Blocks.{block, present}
use Rattle.platform.specs.Fitted.{wide_timer}
use Rattle.platform.specs.Legal.{HasLength, HasGpeLength, HasNone, Guaranteed}
use Rattle.platform.specs.declared.block.Block.{Block}
use Rattle.platform.specs.declared.settings.Settings.{Settings}
use Rattle.platform.proofs.Legal.{legal-guaranteed}
use Rattle.machine.specs.declared.Machine.{Machine}
use Rattle.registers.specs.Registers.{control_in}
use Rattle.model.specs.Legal.{absent_pair, status_legal, enables_legal, state_allowed, counter_legal, hold_legal, command_byte_legal, slp_typs_legal, not_two, settings_fit, legal}
use Rattle.model.proofs.Bytes.{gpe-length}
use Rattle.model.proofs.Legal.{Legal, legal-means, legal-walk, only-if, parts}
use Rattle.values.specs.Values.{pair_value, pair_of, settings_values, values_of, settings_from, machine_from}
use Rattle.values.proofs.Back.{flag-back, bit-0-back, waits_back, command-back, block_back, pm1-block-back, pair-bytes, pair-back, six-back, within-small, halves-back, sci-en-back, bm-rld-back, slp-typ-back, some-home, either-back}

-- ---- what the test of the types means

pub record Fit (s : Settings) : Type 0 where
  pub enable : s.acpi_enable < 2 ^ 8
  pub disable : s.acpi_disable < 2 ^ 8
  pub base : s.gpe1_base < 2 ^ 8
  pub flags : s.flags < 2 ^ 32
  pub six : length s.sleep.pairs ≡ 6
  pub two : (i : ℕ) → i < 6 → length (pair_of s i) ≡ 2

pub fit-means : (s : Settings) → settings_fit s ≡ true → Fit s
unfolding settings_fit not_two
fit-means s e =
    let (e₁, pairs) = parts _ (not (any not_two s.sleep.pairs)) e in
    let (e₂, six) = parts _ (eqb (length s.sleep.pairs) 6) e₁ in
    let (e₃, flags) = parts _ (ltb s.flags (2 ^ 32)) e₂ in
    let (e₄, base) = parts _ (ltb s.gpe1_base (2 ^ 8)) e₃ in
    let (enable, disable) = parts (ltb s.acpi_enable (2 ^ 8)) (ltb s.acpi_disable (2 ^ 8)) e₄ in
    let count : length s.sleep.pairs ≡ 6 = eqb-true _ 6 six in
    record {
      enable = ltb-true _ (2 ^ 8) enable;
      disable = ltb-true _ (2 ^ 8) disable;
      base = ltb-true _ (2 ^ 8) base;
      flags = ltb-true _ (2 ^ 32) flags;
      six = count;
      two = λ i h. eqb-true _ 2 (not-false _ (any_none [] not_two s.sleep.pairs (not-true _ pairs) i (rw count h)));
    }

-- ---- the settings

-- a block of a length that fits, or with none
pub length-small : (b : Block) (n : ℕ) → n < 2 ^ 8 → HasLength n b → HasNone b → b.length < 2 ^ 8
length-small b n h has none = go (present b) refl
  where
    go : (t : Bool) → present b ≡ t → b.length < 2 ^ 8
    go true p = rw (has p) h
    go false p = rw (none p) (lit< tt)

pub gpe-length-small : (b : Block) → HasGpeLength b → HasNone b → b.length < 2 ^ 8
gpe-length-small b has none = omega (arith, (gpe-length b has none).1)

-- A is present, so its length is the one that serves A and B
shared-length : (a b : Block) (n : ℕ) → n < 2 ^ 8 → present a ≡ true → HasLength n a → HasLength n b → HasNone b
    → block b.address (cond (not (eqb b.address 0)) (a.length % 2 ^ 8) 0) ≡ b
shared-length a b n h p has-a has-b none = rw (has-a p) (pm1-block-back b n h has-b none)

none-of-present : (b : Block) → present b ≡ true → HasNone b
none-of-present b p q = absurd (false≢true (sym q ∙ p))

module _ (s : Settings) (g : Guaranteed s) (f : Fit s) where
  pub event-homes-small : s.event_homes < 2 ^ 16
  event-homes-small = within-small 0xC731 s.event_homes (lit< tt) g.event_homes

  pub control-homes-small : s.control_homes < 2 ^ 16
  control-homes-small = within-small 0x0007 s.control_homes (lit< tt) g.control_homes

  pair-at : (i : ℕ) → i < 6 → pair_value (pair_of s i) / 2 ^ 8 % 2 ^ 8 ∷ pair_value (pair_of s i) % 2 ^ 8 ∷ [] ≡ pair_of s i
  pair-at i h =
      let (a, b) = pair-bytes (pair_of s i) (g.pair_range i (rw f.six h)) in
      pair-back (pair_of s i) (f.two i h) a b

  pub settings-back : (vs : List ℕ) → settings_from (settings_values s ++ vs) ≡ s
  settings-back vs =
      rw (
        mod-eq_of_lt f.enable,
        mod-eq_of_lt f.disable,
        shared-length s.pm1a_evt s.pm1a_evt 4 (lit< tt) g.evt_a_present g.evt_a_length g.evt_a_length (none-of-present _ g.evt_a_present),
        shared-length s.pm1a_evt s.pm1b_evt 4 (lit< tt) g.evt_a_present g.evt_a_length g.evt_b_length g.evt_b_none,
        shared-length s.pm1a_cnt s.pm1a_cnt 2 (lit< tt) g.cnt_a_present g.cnt_a_length g.cnt_a_length (none-of-present _ g.cnt_a_present),
        shared-length s.pm1a_cnt s.pm1b_cnt 2 (lit< tt) g.cnt_a_present g.cnt_a_length g.cnt_b_length g.cnt_b_none,
        block_back s.pm2_cnt (length-small _ 1 (lit< tt) g.pm2_length g.pm2_none),
        block_back s.pm_tmr (length-small _ 4 (lit< tt) g.tmr_length g.tmr_none),
        block_back s.gpe0 (gpe-length-small _ g.gpe0_length g.gpe0_none),
        block_back s.gpe1 (gpe-length-small _ g.gpe1_length g.gpe1_none),
        mod-eq_of_lt f.base,
        mod-eq_of_lt f.flags,
        mod-eq_of_lt event-homes-small,
        mod-eq_of_lt control-homes-small,
        flag-back s.power_override,
        pair-at 0 (lit< tt),
        pair-at 1 (lit< tt),
        pair-at 2 (lit< tt),
        pair-at 3 (lit< tt),
        pair-at 4 (lit< tt),
        pair-at 5 (lit< tt),
        six-back s.sleep.pairs f.six,
      )
      refl

-- ---- the machine's own fields

-- a state past the six is absent, so a legal state is below 6
pub state-small : (s : Settings) (state : ℕ) → length s.sleep.pairs ≡ 6 → state_allowed s state ≡ true → state < 6
unfolding state_allowed absent
state-small s state six e = below-or-beyond state 6 (λ h. h) past
  where
    past : 6 ≤ state → state < 6
    past h =
        let gone : get_or s.sleep.pairs state absent_pair ≡ absent_pair = get_or-eq_default s.sleep.pairs absent_pair (rw six h) in
        let zero-or-five : (eqb state 0 || eqb state 5 || false) ≡ true = rw gone at e in
        go (eqb state 0) (eqb state 5) refl refl zero-or-five
      where
        go : (t u : Bool) → eqb state 0 ≡ t → eqb state 5 ≡ u → (t || u || false) ≡ true → state < 6
        go true u p q r = omega (arith, eqb-true state 0 p)
        go false true p q r = omega (arith, eqb-true state 5 q)
        go false false p q r = absurd (false≢true r)

pub counter-small : (m : Machine) → counter_legal m ≡ true → m.counter < 2 ^ 32
unfolding counter_legal
counter-small m e = go (wide_timer m.settings) (ltb-true m.counter (2 ^ counter_bits (wide_timer m.settings)) e)
  where
    go : (t : Bool) → m.counter < 2 ^ counter_bits t → m.counter < 2 ^ 32
    go true h = h
    go false h = omega arith

pub hold-small : (m : Machine) → hold_legal m ≡ true → m.hold < 2 ^ 32
unfolding hold_legal
hold-small m e = omega (arith, leb-true m.hold hold_limit (and_left (leb m.hold hold_limit) _ e))

pub command-small : (m : Machine) → command_byte_legal m ≡ true → (m.command < 2 ^ 8) × (m.command_waits ≡ false → m.command ≡ 0)
unfolding command_byte_legal
command-small m e = (
  ltb-true m.command 256 (and_left (ltb m.command 256) _ e),
  λ w. eqb-true m.command 0 (only-if (not m.command_waits) (eqb m.command 0) (and_right (ltb m.command 256) _ e) (ap not w)),
)

typs-small : (m : Machine) → slp_typs_legal m ≡ true → (m.slp_typ_a < 8) × (m.slp_typ_b < 8)
unfolding slp_typs_legal
typs-small m e =
    let (a, b) = parts (ltb m.slp_typ_a 8) (ltb m.slp_typ_b 8) e in
    (ltb-true m.slp_typ_a 8 a, ltb-true m.slp_typ_b 8 b)

-- a control bit shows in the register of its home
control-bit : (s : Settings) (i : ℕ) (x : Bool) → s.control_homes < 2 ^ 16 → i < 16 → ((control_in s false i && x) || (control_in s true i && x)) ≡ x
unfolding control_in
control-bit s i x h l = either-back (control_in s false i) (control_in s true i) x (some-home s.control_homes i h l)

-- "Writing and reading back gives the same machine for every legal one", of the values
pub machine-back : (m : Machine) → legal m ≡ true
    → machine_from (values_of m) m.gpe0_sts m.gpe0_en m.gpe1_sts m.gpe1_en ≡ m
unfolding status_legal enables_legal
machine-back m e =
    let l : Legal m = legal-means m e in
    let s = m.settings in
    let f : Fit s = fit-means s l.types in
    let g : Guaranteed s = legal-guaranteed s l.settings in
    let homes : s.control_homes < 2 ^ 16 = control-homes-small s g f in
    let sci-a = control_in s false 0 && m.sci_en in
    let sci-b = control_in s true 0 && m.sci_en in
    let bm-a = control_in s false 1 && m.bm_rld in
    let bm-b = control_in s true 1 && m.bm_rld in
    let typs = typs-small m l.slp-typs in
    let command = command-small m l.command-byte in
    rw (
      settings-back s g f _,
      halves-back _ _ m.pm1_sts (mask-small column.Status s.flags (present s.pm_tmr) cells) (event-homes-small s g f) l.status,
      halves-back _ _ m.pm1_en (mask-small column.Enable s.flags (present s.pm_tmr) cells) (event-homes-small s g f) l.enables,
      mod-eq_of_lt (counter-small m l.counter),
      mod-eq_of_lt (hold-small m l.hold),
      flag-back m.button,
      waits_back m.command_waits m.command command.0,
      command-back m.command_waits m.command command.0 command.1,
      sci-en-back sci-a bm-a m.slp_typ_a,
      sci-en-back sci-b bm-b m.slp_typ_b,
      control-bit s 0 m.sci_en homes (lit< tt),
      bm-rld-back sci-a bm-a m.slp_typ_a,
      bm-rld-back sci-b bm-b m.slp_typ_b,
      control-bit s 1 m.bm_rld homes (lit< tt),
      flag-back m.gbl_rls,
      slp-typ-back sci-a bm-a m.slp_typ_a typs.0,
      slp-typ-back sci-b bm-b m.slp_typ_b typs.1,
      bit-0-back m.arb_dis,
      flag-back m.armed,
      mod-eq_of_lt (lt_of_lt_of_le (state-small s m.state f.six l.state) (lit≤ tt)),
      flag-back m.wake_pin,
      ← legal-walk m e,
    )
    refl
