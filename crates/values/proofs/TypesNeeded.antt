-- Each clause of `settings_fit` is needed: without it there is a machine that passes W2's list and does not come back. All are a platform with the PM1a
-- blocks alone, at power-on; each test is computed.
-- Assumes nothing.
use mathlib.Core.Bool.{true, false}
use mathlib.Core.List.{List, [], ◌∷◌}
use mathlib.Core.Path.{◌≡◌, refl, ap}
use Prim.Native.Nat.{ℕ, ◌^◌}
use native.Mathlib.Omega.{arith}
use lib.ListN.{length, replicate, get_or}
use Rattle.lists.specs.Any.{any, any_two}
use Rattle.bits.specs.Writes.{within}
use Rattle.cells.specs.Cells.{flag_of}
use Rattle.sleep.specs.Pairs.{sleep_table, absent, out_of_range, same_pair, shared, sleep_refused}
use Rattle.platform.specs.Blocks.{block, no_block, present, holds, overlap, passes_ports}
use Rattle.platform.specs.Rules.{hardware_reduced, wrong_block_length, wrong_gpe_length, just_one_zero, length_refused, misaligned, place_refused, overlap_refused, gpe_refused, commands_refused, homes_without_block, homes_refused, sleep_pairs_refused}
use Rattle.platform.specs.Legal.{stray_length, legal_settings}
use Rattle.platform.specs.declared.settings.Settings.{Settings}
use Rattle.machine.specs.PowerOn.{power_on, no_bytes}
use Rattle.machine.specs.declared.Machine.{Machine}
use Rattle.model.specs.Legal.{absent_pair, listed}
use Rattle.model.proofs.Legal.{power-on-listed}
use Rattle.values.specs.Values.{values_of, machine_from}

-- PM1a alone, with these fields
abbrev plain : ℕ → ℕ → ℕ → ℕ → List (List ℕ) → Settings
plain enable disable base flags pairs =
    record {
      smi_cmd = 0;
      acpi_enable = enable;
      acpi_disable = disable;
      pm1a_evt = block 0x400 4;
      pm1b_evt = no_block;
      pm1a_cnt = block 0x404 2;
      pm1b_cnt = no_block;
      pm2_cnt = no_block;
      pm_tmr = no_block;
      gpe0 = no_block;
      gpe1 = no_block;
      gpe1_base = base;
      flags = flags;
      event_homes = 0;
      control_homes = 0;
      power_override = false;
      sleep = sleep_table pairs;
    }

abbrev none : List (List ℕ)
none = replicate 6 absent_pair

plain-listed : (enable disable base flags : ℕ) (pairs : List (List ℕ)) → flag_of flags 20 ≡ false → sleep_refused false pairs ≡ false
    → listed (power_on (plain enable disable base flags pairs)) ≡ true
unfolding legal_settings stray_length present holds overlap passes_ports hardware_reduced length_refused wrong_block_length wrong_gpe_length just_one_zero place_refused misaligned overlap_refused gpe_refused commands_refused homes_refused homes_without_block within sleep_pairs_refused any any_two
plain-listed enable disable base flags pairs f p = power-on-listed (plain enable disable base flags pairs) (rw (f, p) refl)

-- listed, and another machine when it is written and read back
abbrev Lost : Settings → Type 0
Lost s = (listed (power_on s) ≡ true) × (machine_from (values_of (power_on s)) no_bytes no_bytes no_bytes no_bytes ≡ power_on s → ⊥)

-- ACPI_ENABLE past a byte
pub enable-needed : Lost (plain 256 0 0 0 none)
unfolding flag_of any any_two out_of_range absent shared same_pair
enable-needed = (plain-listed 256 0 0 0 none refl refl, λ e. let z : ◌≡◌ {A = ℕ} 0 256 = ap (λ (m : Machine). m.settings.acpi_enable) e in omega arith)

-- ACPI_DISABLE past a byte
pub disable-needed : Lost (plain 0 256 0 0 none)
unfolding flag_of any any_two out_of_range absent shared same_pair
disable-needed = (plain-listed 0 256 0 0 none refl refl, λ e. let z : ◌≡◌ {A = ℕ} 0 256 = ap (λ (m : Machine). m.settings.acpi_disable) e in omega arith)

-- GPE1_BASE past a byte, where nothing uses it
pub base-needed : Lost (plain 0 0 256 0 none)
unfolding flag_of any any_two out_of_range absent shared same_pair
base-needed = (plain-listed 0 0 256 0 none refl refl, λ e. let z : ◌≡◌ {A = ℕ} 0 256 = ap (λ (m : Machine). m.settings.gpe1_base) e in omega arith)

-- flags past 32 bits
pub flags-needed : Lost (plain 0 0 0 (2 ^ 32) none)
unfolding flag_of any any_two out_of_range absent shared same_pair
flags-needed = (plain-listed 0 0 0 (2 ^ 32) none refl refl, λ e. let z : ◌≡◌ {A = ℕ} 0 (2 ^ 32) = ap (λ (m : Machine). m.settings.flags) e in omega arith)

-- five pairs
pub six-needed : Lost (plain 0 0 0 0 (replicate 5 absent_pair))
unfolding flag_of any any_two out_of_range absent shared same_pair
six-needed = (plain-listed 0 0 0 0 (replicate 5 absent_pair) refl refl, λ e. let z : ◌≡◌ {A = ℕ} 6 5 = ap (λ (m : Machine). length m.settings.sleep.pairs) e in omega arith)

-- a pair of three
pub two-needed : Lost (plain 0 0 0 0 ((255 ∷ 255 ∷ 255 ∷ []) ∷ replicate 5 absent_pair))
unfolding flag_of any any_two out_of_range absent shared same_pair
two-needed = (plain-listed 0 0 0 0 ((255 ∷ 255 ∷ 255 ∷ []) ∷ replicate 5 absent_pair) refl refl, λ e. let z : ◌≡◌ {A = ℕ} 2 3 = ap (λ (m : Machine). length (get_or m.settings.sleep.pairs 0 [])) e in omega arith)
