-- The values of a legal machine fit their records: no value has more digits than its record, and each is of its record's form. Row by row, in the
-- order of the table.
-- Assumes nothing.
use mathlib.Core.Bool.{Bool, true, false, ◌&&◌, true≢false}
use mathlib.Core.List.{List, [], ◌∷◌}
use mathlib.Core.Path.{◌≡◌, refl, sym, ◌∙◌}
use Prim.Native.Nat.{ℕ, ◌*◌, ◌%◌, ◌^◌, ◌<◌}
use Prim.Native.String.{String}
use native.Mathlib.Nat.{mod-lt, lt_of_lt_of_le}
use native.Mathlib.Omega.{arith}
use lib.Bits.{bit_and, and_comm, or_lt}
use lib.Dec.{leb, lit<, lit≤}
use lib.Pow.{pow-lt}
use Rattle.bits.proofs.Writes.{masked-lt}
use Rattle.acpi.specs.Bits.{SCI_EN, BM_RLD}
use Rattle.cells.specs.Cells.{mask_of, cells}
use Rattle.cells.specs.declared.Column.{Column}
use Rattle.cells.specs.declared.Column.TheVariants as column
use Rattle.cells.proofs.Masks.{mask-small}
use Rattle.platform.specs.Blocks.{present}
use Rattle.platform.specs.Legal.{Guaranteed}
use Rattle.platform.specs.declared.block.FadtBlock.TheVariants as fadt
use Rattle.platform.proofs.Legal.{legal-guaranteed}
use Rattle.machine.specs.declared.Machine.{Machine}
use Rattle.registers.specs.Registers.{bit_when, homes_in, control_in, control_register, slp_typ}
use Rattle.model.specs.Legal.{legal}
use Rattle.model.proofs.Legal.{Legal, legal-means}
use Rattle.records.specs.Rows.{Row, added, row, hex, flag, command, rows}
use Rattle.records.specs.Records.{AllFit}
use Rattle.records.proofs.ReadBack.{hex-form, flag-form, command-form, no-command-form}
use Rattle.values.specs.Values.{flag_value, pair_value, pair_of, command_value, values_of}
use Rattle.values.proofs.Back.{pair-bytes}
use Rattle.values.proofs.RoundTrip.{Fit, fit-means, length-small, gpe-length-small, event-homes-small, control-homes-small, state-small, counter-small, hold-small, command-small}
use Rattle.saved.specs.Text.{newest}

-- ---- a row and its value, and the rows after it

module _ (name : String) (w v : ℕ) (rs : List Row) (vs : List ℕ) where
  hex-row : v < 16 ^ w → AllFit newest rs vs → AllFit newest (row name hex w ∷ rs) (v ∷ vs)
  unfolding AllFit
  hex-row h rest = (λ i. (h, hex-form v), λ n. absurd (true≢false n), rest)

-- a flag that the newest edition has, whichever added it
flag-row : (name : String) (since : ℕ) (b : Bool) (rs : List Row) (vs : List ℕ) → leb since newest ≡ true → AllFit newest rs vs
    → AllFit newest (added name flag 1 since 0 ∷ rs) (flag_value b ∷ vs)
unfolding AllFit
flag-row name since b rs vs there rest =
    (λ i. (go b, flag-form (flag_value b) (below b)), λ n. absurd (true≢false (sym there ∙ n)), rest)
  where
    go : (t : Bool) → flag_value t < 16 ^ 1
    go true = lit< tt
    go false = lit< tt

    below : (t : Bool) → flag_value t < 2
    below true = lit< tt
    below false = lit< tt

command-row : (waits : Bool) (byte : ℕ) (rs : List Row) (vs : List ℕ) → byte < 2 ^ 8 → AllFit newest rs vs
    → AllFit newest (row "COMMAND" command 3 ∷ rs) (command_value waits byte ∷ vs)
unfolding AllFit
command-row true byte rs vs h rest = (λ i. (omega arith, command-form byte h), λ n. absurd (true≢false n), rest)
command-row false byte rs vs h rest = (λ i. (lit< tt, no-command-form), λ n. absurd (true≢false n), rest)

no_row : AllFit newest [] []
unfolding AllFit
no_row = tt

arb-fits : (b : Bool) → bit_when b 0 < 16 ^ 2
arb-fits true = lit< tt
arb-fits false = lit< tt

-- ---- what bounds a value

module _ (m : Machine) (e : legal m ≡ true) where
  l : Legal m
  l = legal-means m e

  g : Guaranteed m.settings
  g = legal-guaranteed m.settings l.settings

  f : Fit m.settings
  f = fit-means m.settings l.types

  pair_fits : (i : ℕ) → i < 6 → pair_value (pair_of m.settings i) < 16 ^ 4
  pair_fits i h =
      let (a, b) = pair-bytes (pair_of m.settings i) (g.pair_range i (rw f.six h)) in
      omega (arith, a, b)

  register-fits : (of : Column) (x home : ℕ) → bit_and x (bit_and (mask_of of m.settings.flags (present m.settings.pm_tmr) cells) home) < 16 ^ 4
  register-fits of x home =
      let mask = mask_of of m.settings.flags (present m.settings.pm_tmr) cells in
      masked-lt 16 x (bit_and mask home) (rw (and_comm mask home) (masked-lt 16 home mask (mask-small of m.settings.flags (present m.settings.pm_tmr) cells)))

  bit-fits : (b : Bool) (n : ℕ) → n < 16 → bit_when b n < 2 ^ 16
  bit-fits true n h = pow-lt h
  bit-fits false n h = lit< tt

  control-fits : (b : Bool) → control_register m b < 16 ^ 4
  control-fits b =
      or_lt 16 _ (slp_typ m b % 8 * 2 ^ 10)
      (or_lt 16 (bit_when (control_in m.settings b SCI_EN && m.sci_en) 0) (bit_when (control_in m.settings b BM_RLD && m.bm_rld) 1)
      (bit-fits (control_in m.settings b SCI_EN && m.sci_en) 0 (lit< tt)) (bit-fits (control_in m.settings b BM_RLD && m.bm_rld) 1 (lit< tt)))
      (let small : slp_typ m b % 8 < 8 = mod-lt (slp_typ m b) (lit< tt) in omega arith)

  pub all_fit : AllFit newest rows (values_of m)
  unfolding rows
  all_fit =
      let s = m.settings in
      let command = command-small m l.command-byte in
      hex-row "SMI_CMD" 16 _ _ _ (omega (arith, g.within_ports fadt.SmiCmd))
      (hex-row "ACPI_ENABLE" 2 _ _ _ f.enable
      (hex-row "ACPI_DISABLE" 2 _ _ _ f.disable
      (hex-row "PM1a_EVT_BLK" 16 _ _ _ (omega (arith, g.within_ports fadt.Pm1aEvtBlk))
      (hex-row "PM1b_EVT_BLK" 16 _ _ _ (omega (arith, g.within_ports fadt.Pm1bEvtBlk))
      (hex-row "PM1a_CNT_BLK" 16 _ _ _ (omega (arith, g.within_ports fadt.Pm1aCntBlk))
      (hex-row "PM1b_CNT_BLK" 16 _ _ _ (omega (arith, g.within_ports fadt.Pm1bCntBlk))
      (hex-row "PM2_CNT_BLK" 16 _ _ _ (omega (arith, g.within_ports fadt.Pm2CntBlk))
      (hex-row "PM_TMR_BLK" 16 _ _ _ (omega (arith, g.within_ports fadt.PmTmrBlk))
      (hex-row "GPE0_BLK" 16 _ _ _ (omega (arith, g.within_ports fadt.Gpe0Blk))
      (hex-row "GPE1_BLK" 16 _ _ _ (omega (arith, g.within_ports fadt.Gpe1Blk))
      (hex-row "PM1_EVT_LEN" 2 _ _ _ (rw (g.evt_a_length g.evt_a_present) (lit< tt))
      (hex-row "PM1_CNT_LEN" 2 _ _ _ (rw (g.cnt_a_length g.cnt_a_present) (lit< tt))
      (hex-row "PM2_CNT_LEN" 2 _ _ _ (length-small s.pm2_cnt 1 (lit< tt) g.pm2_length g.pm2_none)
      (hex-row "PM_TMR_LEN" 2 _ _ _ (length-small s.pm_tmr 4 (lit< tt) g.tmr_length g.tmr_none)
      (hex-row "GPE0_BLK_LEN" 2 _ _ _ (gpe-length-small s.gpe0 g.gpe0_length g.gpe0_none)
      (hex-row "GPE1_BLK_LEN" 2 _ _ _ (gpe-length-small s.gpe1 g.gpe1_length g.gpe1_none)
      (hex-row "GPE1_BASE" 2 _ _ _ f.base
      (hex-row "FLAGS" 8 _ _ _ f.flags
      (hex-row "EVENT_HOMES" 4 _ _ _ (event-homes-small s g f)
      (hex-row "CONTROL_HOMES" 4 _ _ _ (control-homes-small s g f)
      (flag-row "OVERRIDE" 1 s.power_override _ _ refl
      (hex-row "S0" 4 _ _ _ (pair_fits 0 (lit< tt))
      (hex-row "S1" 4 _ _ _ (pair_fits 1 (lit< tt))
      (hex-row "S2" 4 _ _ _ (pair_fits 2 (lit< tt))
      (hex-row "S3" 4 _ _ _ (pair_fits 3 (lit< tt))
      (hex-row "S4" 4 _ _ _ (pair_fits 4 (lit< tt))
      (hex-row "S5" 4 _ _ _ (pair_fits 5 (lit< tt))
      (hex-row "PM1a_STS" 4 _ _ _ (register-fits column.Status m.pm1_sts (homes_in s.event_homes false))
      (hex-row "PM1b_STS" 4 _ _ _ (register-fits column.Status m.pm1_sts (homes_in s.event_homes true))
      (hex-row "PM1a_EN" 4 _ _ _ (register-fits column.Enable m.pm1_en (homes_in s.event_homes false))
      (hex-row "PM1b_EN" 4 _ _ _ (register-fits column.Enable m.pm1_en (homes_in s.event_homes true))
      (hex-row "PM1a_CNT" 4 _ _ _ (control-fits false)
      (hex-row "PM1b_CNT" 4 _ _ _ (control-fits true)
      (hex-row "PM2_CNT" 2 _ _ _ (arb-fits m.arb_dis)
      (hex-row "PM_TMR" 8 _ _ _ (counter-small m l.counter)
      (hex-row "HOLD" 8 _ _ _ (hold-small m l.hold)
      (flag-row "BUTTON" 1 m.button _ _ refl
      (command-row m.command_waits m.command _ _ command.0
      (flag-row "RELEASE" 1 m.gbl_rls _ _ refl
      (flag-row "ARMED" 1 m.armed _ _ refl
      (hex-row "STATE" 1 _ _ _ (lt_of_lt_of_le (state-small s m.state f.six l.state) (lit≤ tt))
      (flag-row "WAKE_PIN" 2 m.wake_pin _ _ refl
      no_row))))))))))))))))))))))))))))))))))))))))))
