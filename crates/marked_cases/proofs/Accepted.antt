-- Set-up accepts the tables of the marked cases, and gives the rows' settings: each field read, and each line of the table, is computed.
-- Assumes nothing.
use mathlib.Core.Bool.{Bool, true, false}
use mathlib.Core.Path.{◌≡◌, refl, ◌∙◌, ap}
use Rattle.std.proofs.Common.{Ok}
use Rattle.lists.specs.Any.{any, any_two}
use Rattle.bits.specs.Writes.{within}
use Rattle.cells.specs.Cells.{flag_of, bit_at, mask_of}
use Rattle.sleep.specs.Pairs.{absent, out_of_range, same_pair, shared}
use Rattle.platform.specs.Answer.{first_failing}
use Rattle.platform.specs.Blocks.{present, holds, overlap, passes_ports}
use Rattle.platform.specs.Fitted.{status_cells, enable_cells, wide_timer}
use Rattle.platform.specs.Rules.{hardware_reduced, wrong_block_length, wrong_gpe_length, just_one_zero, length_refused, misaligned, place_refused, overlap_refused, gpe_refused, commands_refused, homes_without_block, homes_refused, sleep_pairs_refused}
use Rattle.fadt.specs.Fields.{dword, settings_of}
use Rattle.fadt.specs.Table.{table_short, stands_at, no_signature, wrong_table_length, wrong_sum}
use Rattle.machine.specs.PowerOn.{power_on}
use Rattle.machine.specs.SetUp.{set_up_from}
use Rattle.machine.specs.declared.Machine.{Machine}
use Rattle.machine.proofs.Accepted.{accepted-machine}
use Rattle.marked_cases.specs.Platform.{fadt, sleep_pairs, platform, set_up_on, SetUpGives}

-- the settings read are those of the rows
settings-read : (wide : Bool) → settings_of (fadt wide) 0 0 true sleep_pairs ≡ platform wide
unfolding dword
settings-read true = refl
settings-read false = refl

-- ---- no line refuses

module _ (wide : Bool) where
  long-enough : table_short (fadt wide) ≡ false
  unfolding table_short
  long-enough = refl

  signed : no_signature (fadt wide) ≡ false
  unfolding no_signature stands_at
  signed = refl

  length-right : wrong_table_length (fadt wide) ≡ false
  unfolding wrong_table_length dword
  length-right = refl

  lengths-allowed : length_refused (platform wide) ≡ false
  unfolding length_refused wrong_block_length wrong_gpe_length just_one_zero present
  lengths-allowed = refl

  places-allowed : place_refused (platform wide) ≡ false
  unfolding place_refused misaligned passes_ports any present
  places-allowed = refl

  blocks-apart : overlap_refused (platform wide) ≡ false
  unfolding overlap_refused overlap holds any any_two present
  blocks-apart = refl

  gpe-numbers-right : gpe_refused (platform wide) ≡ false
  unfolding gpe_refused present
  gpe-numbers-right = refl

  commands_differ : commands_refused (platform wide) ≡ false
  unfolding commands_refused
  commands_differ = refl

  homes-allowed : homes_refused (platform wide) ≡ false
  unfolding homes_refused homes_without_block within present
  homes-allowed = refl

  pairs-allowed : sleep_pairs_refused (platform wide) ≡ false
  unfolding sleep_pairs_refused any any_two out_of_range shared absent same_pair
  pairs-allowed = refl

sum-right : (wide : Bool) → wrong_sum (fadt wide) ≡ false
unfolding wrong_sum dword
sum-right true = refl
sum-right false = refl

not-reduced : (wide : Bool) → hardware_reduced (platform wide) ≡ false
unfolding hardware_reduced flag_of
not-reduced true = refl
not-reduced false = refl

passes : (wide : Bool) → (set_up_from (fadt wide) (platform wide)).answer ≡ Ok tt
unfolding first_failing
passes wide =
    rw (
      long-enough wide,
      signed wide,
      length-right wide,
      sum-right wide,
      not-reduced wide,
      lengths-allowed wide,
      places-allowed wide,
      blocks-apart wide,
      gpe-numbers-right wide,
      commands_differ wide,
      homes-allowed wide,
      pairs-allowed wide,
    )

-- ---- set-up, whole

-- "0 is success"
pub set-up-accepts : (wide : Bool) → (set_up_on wide).answer ≡ Ok tt
set-up-accepts wide = rw (settings-read wide) (passes wide)

-- the machine is the power-on machine of the rows' settings
pub set-up-machine : (wide : Bool) → (set_up_on wide).machine ≡ power_on (platform wide)
set-up-machine wide = accepted-machine (fadt wide) _ (set-up-accepts wide) ∙ ap power_on (settings-read wide)

pub set-up-gives : (wide : Bool) → SetUpGives (platform wide)
set-up-gives wide =
    record {
      wide = wide;
      accepted = set-up-accepts wide;
      settings = ap (λ (m : Machine). m.settings) (set-up-machine wide);
    }

-- ---- what they fit

-- "All event bits fitted"
pub every-status-fitted : (wide : Bool) → status_cells (platform wide) ≡ 0xC731
unfolding mask_of flag_of bit_at present
every-status-fitted true = refl
every-status-fitted false = refl

pub every-enable-fitted : (wide : Bool) → enable_cells (platform wide) ≡ 0x4721
unfolding mask_of flag_of bit_at present
every-enable-fitted true = refl
every-enable-fitted false = refl

-- "32 bits if flag 8 is set, else 24"
pub timer-width : (wide : Bool) → wide_timer (platform wide) ≡ wide
unfolding flag_of
timer-width true = refl
timer-width false = refl
