-- Document 01's worked platform, with event homes to choose: setting up accepts its table, and gives this machine.
-- The bytes read give the settings below, and none of the twelve lines refuses them. Assumes nothing.
use mathlib.Core.Bool.{false}
use mathlib.Core.List.{List, [], ◌∷◌}
use mathlib.Core.Path.{◌≡◌, refl, ◌∙◌, ap, subst}
use Prim.Native.Nat.{ℕ}
use Rattle.std.proofs.Common.{Ok}
use Rattle.lists.specs.Any.{any, any_two}
use Rattle.bits.specs.Digit.{digit}
use Rattle.bits.specs.Writes.{within}
use Rattle.cells.specs.Cells.{flag_of, bit_at, mask_of}
use Rattle.clock.specs.Clock.{turned, grow, overrides, tick_of}
use Rattle.runs.specs.Items.{passing, failing, original, moved, steps_of, Every, Run, after as after_all, Throughout, Awake}
use Rattle.sleep.specs.Pairs.{sleep_table, absent, out_of_range, same_pair, shared, named, state_of}
use Rattle.platform.specs.Answer.{first_failing}
use Rattle.platform.specs.Blocks.{block, present, holds, overlap, passes_ports}
use Rattle.platform.specs.Rules.{hardware_reduced, wrong_block_length, wrong_gpe_length, just_one_zero, length_refused, misaligned, place_refused, overlap_refused, gpe_refused, commands_refused, homes_without_block, homes_refused, sleep_pairs_refused}
use Rattle.platform.specs.declared.settings.Settings.{Settings}
use Rattle.fadt.specs.Fields.{dword, settings_of}
use Rattle.fadt.specs.Table.{table_short, stands_at, no_signature, wrong_table_length, wrong_sum}
use Rattle.machine.specs.PowerOn.{power_on}
use Rattle.machine.specs.Status.{has_bit}
use Rattle.registers.specs.Registers.{in_status, in_enable, status_after, enable_after, control_in, covers_low, covers_high, written_bit}
use Rattle.machine.specs.Lines.{awake, any_enabled}
use Rattle.machine.specs.Sleep.{is_sleeping, wake_bits, pending, completed}
use Rattle.machine.specs.SetUp.{set_up_from, set_up_of}
use Rattle.machine.specs.declared.Machine.{Machine}
use Rattle.machine.proofs.Accepted.{accepted-machine}
use Rattle.model.specs.Answer.{first_applying}
use Rattle.model.specs.Bus.{wrong_width, data_too_wide, leads_nowhere, allowed, is_timer, command_lost, read_of, write_of}
use Rattle.model.specs.Control.{sets_slp_en, typ_after, completes, armed_after, names_none, bm_rld_after, gbl_rls_after}
use Rattle.model.specs.Events.{in_s5, press_of, signal_of, pin_of, in_gpe0, in_gpe1, general_raised, general_enabled, general_of, tmr_raised, timed, ticked_once, ticked_by, turned_once, turns_by, event_of}
use Rattle.ports.specs.Walk.{walk_over}
use Rattle.model.specs.Ports.{register_at, offset_at}
use Rattle.model.specs.Raises.{signal_change, press_change, event_change, rule_change, raises}
use Rattle.model.specs.Step.{answer_to, after}
use Rattle.model.specs.declared.Step.{Step}
use Rattle.split_access.specs.Start.{Stepping, next_by, FromSetUp, AfterSteps}
use Rattle.split_access.specs.Gap.{lives_in_b}
use Rattle.split_access.specs.WriteBack.{RaisedIn}

-- "length 116, revision 1, PM1 A 400/404 and B 440/444 hex, timer 408, GPE0 420 length 4, SMI_CMD B2, enable E1, disable 1E, lengths 4, 2, 0, 4;
-- other bytes zero but signature and checksum"
abbrev pub table : List ℕ
table =
    70 ∷ 65 ∷ 67 ∷ 80 ∷ 116 ∷ 0 ∷ 0 ∷ 0 ∷ 1 ∷ 234 ∷ 0 ∷ 0 ∷ 0 ∷ 0 ∷ 0 ∷ 0 ∷
    0 ∷ 0 ∷ 0 ∷ 0 ∷ 0 ∷ 0 ∷ 0 ∷ 0 ∷ 0 ∷ 0 ∷ 0 ∷ 0 ∷ 0 ∷ 0 ∷ 0 ∷ 0 ∷
    0 ∷ 0 ∷ 0 ∷ 0 ∷ 0 ∷ 0 ∷ 0 ∷ 0 ∷ 0 ∷ 0 ∷ 0 ∷ 0 ∷ 0 ∷ 0 ∷ 0 ∷ 0 ∷
    178 ∷ 0 ∷ 0 ∷ 0 ∷ 225 ∷ 30 ∷ 0 ∷ 0 ∷ 0 ∷ 4 ∷ 0 ∷ 0 ∷ 64 ∷ 4 ∷ 0 ∷ 0 ∷
    4 ∷ 4 ∷ 0 ∷ 0 ∷ 68 ∷ 4 ∷ 0 ∷ 0 ∷ 0 ∷ 0 ∷ 0 ∷ 0 ∷ 8 ∷ 4 ∷ 0 ∷ 0 ∷
    32 ∷ 4 ∷ 0 ∷ 0 ∷ 0 ∷ 0 ∷ 0 ∷ 0 ∷ 4 ∷ 2 ∷ 0 ∷ 4 ∷ 4 ∷ 0 ∷ 0 ∷ 0 ∷
    0 ∷ 0 ∷ 0 ∷ 0 ∷ 0 ∷ 0 ∷ 0 ∷ 0 ∷ 0 ∷ 0 ∷ 0 ∷ 0 ∷ 0 ∷ 0 ∷ 0 ∷ 0 ∷
    0 ∷ 0 ∷ 0 ∷ 0 ∷ []

-- "00 - - 52 - 70"; an absent pair is both 255
abbrev pub pairs : List (List ℕ)
pairs = (0 ∷ 0 ∷ []) ∷ (255 ∷ 255 ∷ []) ∷ (255 ∷ 255 ∷ []) ∷ (5 ∷ 2 ∷ []) ∷ (255 ∷ 255 ∷ []) ∷ (7 ∷ 0 ∷ []) ∷ []

-- the settings read, with these event homes; no control homes, no override
abbrev pub platform : ℕ → Settings
platform homes =
    record {
      smi_cmd = 0xB2;
      acpi_enable = 0xE1;
      acpi_disable = 0x1E;
      pm1a_evt = block 0x400 4;
      pm1b_evt = block 0x440 4;
      pm1a_cnt = block 0x404 2;
      pm1b_cnt = block 0x444 2;
      pm2_cnt = block 0 0;
      pm_tmr = block 0x408 4;
      gpe0 = block 0x420 4;
      gpe1 = block 0 0;
      gpe1_base = 0;
      flags = 0;
      event_homes = homes;
      control_homes = 0;
      power_override = false;
      sleep = sleep_table pairs;
    }

-- the machine at power-on; SMI_CMD is there, so SCI_EN is clear
abbrev pub machine : ℕ → Machine
machine homes = power_on (platform homes)

settings-read : (homes : ℕ) → settings_of table homes 0 false pairs ≡ platform homes
unfolding dword
settings-read homes = refl

-- lines 1 to 4
table-long : table_short table ≡ false
unfolding table_short
table-long = refl

table-signed : no_signature table ≡ false
unfolding no_signature stands_at
table-signed = refl

table-length : wrong_table_length table ≡ false
unfolding wrong_table_length dword
table-length = refl

table-sum : wrong_sum table ≡ false
unfolding wrong_sum dword
table-sum = refl

-- lines 5 to 10 and 12, with any event homes
module _ (homes : ℕ) where
  not-reduced : hardware_reduced (platform homes) ≡ false
  unfolding hardware_reduced flag_of
  not-reduced = refl

  lengths-right : length_refused (platform homes) ≡ false
  unfolding length_refused wrong_block_length wrong_gpe_length just_one_zero present
  lengths-right = refl

  places-right : place_refused (platform homes) ≡ false
  unfolding place_refused misaligned present any passes_ports
  places-right = refl

  none-overlap : overlap_refused (platform homes) ≡ false
  unfolding overlap_refused any_two any overlap holds present
  none-overlap = refl

  gpe-right : gpe_refused (platform homes) ≡ false
  unfolding gpe_refused present
  gpe-right = refl

  commands-right : commands_refused (platform homes) ≡ false
  unfolding commands_refused
  commands-right = refl

  pairs-right : sleep_pairs_refused (platform homes) ≡ false
  unfolding sleep_pairs_refused present any any_two absent out_of_range same_pair shared
  pairs-right = refl

  -- line 11 is left
  accepts : homes_refused (platform homes) ≡ false → (set_up_from table (platform homes)).answer ≡ Ok tt
  unfolding first_failing
  accepts e =
      rw (table-long, table-signed, table-length, table-sum, not-reduced, lengths-right, places-right, none-overlap, gpe-right, commands-right, e, pairs-right)

  pub accepted : homes_refused (platform homes) ≡ false → (set_up_of table homes 0 false pairs).answer ≡ Ok tt
  accepted e = ap (λ s. (set_up_from table s).answer) (settings-read homes) ∙ accepts e

  pub gives : homes_refused (platform homes) ≡ false → (set_up_of table homes 0 false pairs).machine ≡ machine homes
  gives e = accepted-machine table (settings_of table homes 0 false pairs) (accepted e) ∙ ap power_on (settings-read homes)

  -- what is claimed of every machine as setting up gives it is claimed of this one, and so is what is claimed after any steps
  pub here : (P : Machine → Type 0) → homes_refused (platform homes) ≡ false → FromSetUp set_up_of P → P (machine homes)
  here P e claim = subst P (gives e) (claim table homes 0 false pairs (accepted e))

  pub here-after : (stepped : Stepping) (P : Machine → Type 0) → homes_refused (platform homes) ≡ false → AfterSteps set_up_of stepped P
      → (steps : List Step) → P (after_all (next_by stepped) (machine homes) steps)
  here-after stepped P e claim = here (λ m. (steps : List Step) → P (after_all (next_by stepped) m steps)) e claim

-- ---- the two platforms

-- the session's: the alarm lives in B, every other bit in A
abbrev pub alarm_in_b : ℕ
alarm_in_b = 0x0400

-- the power button lives in B, every other bit in A
abbrev pub press_in_b : ℕ
press_in_b = 0x0100

pub alarm-homes : homes_refused (platform alarm_in_b) ≡ false
unfolding homes_refused homes_without_block within present
alarm-homes = refl

pub press-homes : homes_refused (platform press_in_b) ≡ false
unfolding homes_refused homes_without_block within present
press-homes = refl

-- ---- computing

-- to unfold this is to unfold what a step of the machine, and a list of them, compute with
unfoldable pub steps-compute : Unit {0}
unfolding any walk_over digit flag_of bit_at mask_of turned grow overrides tick_of absent same_pair named state_of present holds has_bit in_status in_enable status_after enable_after control_in covers_low covers_high written_bit awake any_enabled is_sleeping wake_bits pending completed first_applying wrong_width data_too_wide leads_nowhere allowed is_timer command_lost read_of sets_slp_en typ_after completes armed_after names_none bm_rld_after gbl_rls_after write_of in_s5 press_of signal_of pin_of in_gpe0 in_gpe1 general_raised general_enabled general_of tmr_raised timed ticked_once ticked_by turned_once turns_by event_of register_at offset_at signal_change press_change event_change rule_change raises answer_to after lives_in_b RaisedIn passing failing original moved steps_of Every Run after_all Throughout Awake
steps-compute = tt
