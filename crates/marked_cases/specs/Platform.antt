-- The platform of the marked cases: "All event bits fitted, all homes A, override fitted", both B blocks present. Its table as bytes, and
-- the settings read from it. That set-up accepts the table and gives these settings is `proofs/Accepted.antt`.
use Rattle.std.specs.Prelude.{Bool, true, cond, List, [], ◌∷◌, ◌≡◌, ℕ, Ok}
use Rattle.sleep.specs.Pairs.{sleep_table}
use Rattle.platform.specs.Blocks.{block, no_block}
use Rattle.platform.specs.declared.settings.Settings.{Settings}
use Rattle.machine.specs.declared.SetUp.{SetUp}
use Rattle.machine.specs.SetUp.{set_up_of}

-- the 116 bytes of the FADT: those of document 01's session, with flag 14, and flag 8 where the timer has 32 bits
abbrev pub fadt : Bool → List ℕ
fadt wide =
    -- 0: FACP, the length, revision and checksum
    70 ∷ 65 ∷ 67 ∷ 80 ∷ 116 ∷ 0 ∷ 0 ∷ 0 ∷ 1 ∷ cond wide 169 170 ∷
    -- 10
    0 ∷ 0 ∷ 0 ∷ 0 ∷ 0 ∷ 0 ∷ 0 ∷ 0 ∷ 0 ∷ 0 ∷
    0 ∷ 0 ∷ 0 ∷ 0 ∷ 0 ∷ 0 ∷ 0 ∷ 0 ∷ 0 ∷ 0 ∷
    0 ∷ 0 ∷ 0 ∷ 0 ∷ 0 ∷ 0 ∷ 0 ∷ 0 ∷ 0 ∷ 0 ∷
    0 ∷ 0 ∷ 0 ∷ 0 ∷ 0 ∷ 0 ∷ 0 ∷ 0 ∷
    -- 48: SMI_CMD, ACPI_ENABLE and ACPI_DISABLE
    0xB2 ∷ 0 ∷ 0 ∷ 0 ∷ 0xE1 ∷ 0x1E ∷ 0 ∷ 0 ∷
    -- 56: PM1a and PM1b events, PM1a and PM1b control
    0x00 ∷ 0x04 ∷ 0 ∷ 0 ∷ 0x40 ∷ 0x04 ∷ 0 ∷ 0 ∷ 0x04 ∷ 0x04 ∷ 0 ∷ 0 ∷ 0x44 ∷ 0x04 ∷ 0 ∷ 0 ∷
    -- 72: PM2, the timer, GPE0 and GPE1
    0 ∷ 0 ∷ 0 ∷ 0 ∷ 0x08 ∷ 0x04 ∷ 0 ∷ 0 ∷ 0x20 ∷ 0x04 ∷ 0 ∷ 0 ∷ 0 ∷ 0 ∷ 0 ∷ 0 ∷
    -- 88: the lengths, and GPE1_BASE
    4 ∷ 2 ∷ 0 ∷ 4 ∷ 4 ∷ 0 ∷ 0 ∷
    -- 95
    0 ∷ 0 ∷ 0 ∷ 0 ∷ 0 ∷ 0 ∷ 0 ∷ 0 ∷ 0 ∷ 0 ∷ 0 ∷ 0 ∷ 0 ∷ 0 ∷ 0 ∷ 0 ∷ 0 ∷
    -- 112: the flags
    0x00 ∷ cond wide 0x41 0x40 ∷ 0 ∷ 0 ∷
    []

-- "00 - - 52 - 70": the pairs of S0 to S5
abbrev pub sleep_pairs : List (List ℕ)
sleep_pairs =
    (0 ∷ 0 ∷ []) ∷ (255 ∷ 255 ∷ []) ∷ (255 ∷ 255 ∷ []) ∷ (5 ∷ 2 ∷ []) ∷ (255 ∷ 255 ∷ []) ∷ (7 ∷ 0 ∷ []) ∷ []

-- the settings that the table and the host give
abbrev pub platform : Bool → Settings
platform wide =
    record {
      smi_cmd = 0xB2;
      acpi_enable = 0xE1;
      acpi_disable = 0x1E;
      pm1a_evt = block 0x400 4;
      pm1b_evt = block 0x440 4;
      pm1a_cnt = block 0x404 2;
      pm1b_cnt = block 0x444 2;
      pm2_cnt = no_block;
      pm_tmr = block 0x408 4;
      gpe0 = block 0x420 4;
      gpe1 = no_block;
      gpe1_base = 0;
      flags = cond wide 0x4100 0x4000;
      event_homes = 0;
      control_homes = 0;
      power_override = true;
      sleep = sleep_table sleep_pairs;
    }

-- setting up with the table, all homes A and the override fitted
abbrev pub set_up_on : Bool → SetUp
set_up_on wide = set_up_of (fadt wide) 0 0 true sleep_pairs

-- set-up accepts one of the two tables, and gives these settings
pub record SetUpGives (s : Settings) : Type 0 where
  pub wide : Bool
  pub accepted : (set_up_on wide).answer ≡ Ok tt
  pub settings : (set_up_on wide).machine.settings ≡ s
