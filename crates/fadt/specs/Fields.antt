-- "Fields by byte offset": the settings that a table and the host give.
use Rattle.std.specs.Prelude.{ℕ, ◌+◌, ◌*◌, Bool, cond, not, List, ◌==◌, slice_index}
use Rattle.acpi.specs.Fadt.{SMI_CMD, ACPI_ENABLE, ACPI_DISABLE, PM1a_EVT_BLK, PM1b_EVT_BLK, PM1a_CNT_BLK, PM1b_CNT_BLK, PM2_CNT_BLK, PM_TMR_BLK, GPE0_BLK, GPE1_BLK, PM1_EVT_LEN, PM1_CNT_LEN, PM2_CNT_LEN, PM_TMR_LEN, GPE0_BLK_LEN, GPE1_BLK_LEN, GPE1_BASE, «FLAGS»}
use Rattle.sleep.specs.Pairs.{sleep_table}
use Rattle.platform.specs.Blocks.{block}
use Rattle.platform.specs.declared.block.Block.{Block}
use Rattle.platform.specs.declared.settings.Settings.{Settings}

-- the byte at an offset; zero past the end
abbrev pub byte : List ℕ → ℕ → ℕ
byte t i = slice_index t i

-- "All numbers are little-endian": four bytes from an offset on
unfoldable pub dword : List ℕ → ℕ → ℕ
dword t i = byte t i + 256 * byte t (i + 1) + 65536 * byte t (i + 2) + 16777216 * byte t (i + 3)

-- a block from the offsets of its address and its length
abbrev pub block_from : List ℕ → ℕ → ℕ → Block
block_from t address length = block (dword t address) (byte t length)

-- "A PM1b block with address zero is absent": its length counts for nothing then, and is kept as zero
abbrev pub pm1_block : List ℕ → ℕ → ℕ → Block
pm1_block t address length = block (dword t address) (cond (not (dword t address == 0)) (byte t length) 0)

-- "Given: FADT bytes; event homes and control homes ..; whether the power override is fitted; for each of S0 to S5, absent or a pair (a, b)"
abbrev pub settings_of : List ℕ → ℕ → ℕ → Bool → List (List ℕ) → Settings
settings_of t event_homes control_homes power-override pairs =
    record {
      smi_cmd = dword t SMI_CMD;
      acpi_enable = byte t ACPI_ENABLE;
      acpi_disable = byte t ACPI_DISABLE;
      pm1a_evt = pm1_block t PM1a_EVT_BLK PM1_EVT_LEN;
      pm1b_evt = pm1_block t PM1b_EVT_BLK PM1_EVT_LEN;
      pm1a_cnt = pm1_block t PM1a_CNT_BLK PM1_CNT_LEN;
      pm1b_cnt = pm1_block t PM1b_CNT_BLK PM1_CNT_LEN;
      pm2_cnt = block_from t PM2_CNT_BLK PM2_CNT_LEN;
      pm_tmr = block_from t PM_TMR_BLK PM_TMR_LEN;
      gpe0 = block_from t GPE0_BLK GPE0_BLK_LEN;
      gpe1 = block_from t GPE1_BLK GPE1_BLK_LEN;
      gpe1_base = byte t GPE1_BASE;
      flags = dword t «FLAGS»;
      event_homes = event_homes;
      control_homes = control_homes;
      power_override = power-override;
      sleep = sleep_table pairs;
    }
