-- "Power-on: every cell, the counter and hold zero, no release flag, no command, disarmed, state S0, button up, SCI_EN set exactly if SMI_CMD is zero."
use Rattle.std.specs.Prelude.{Bool, false, List, [], ◌∷◌, ℕ, ◌/◌, eqb, replicate}
use Rattle.sleep.specs.Pairs.{sleep_table}
use Rattle.platform.specs.Blocks.{no_block}
use Rattle.platform.specs.Rules.{gpe_longest}
use Rattle.platform.specs.declared.settings.Settings.{Settings}
use Rattle.machine.specs.declared.Machine.{Machine}
use Rattle.machine.specs.Fields.{made}

-- "status bytes, then as many enable bytes": the most of each
abbrev pub gpe_bytes : ℕ
gpe_bytes = gpe_longest / 2

abbrev pub no_bytes : List ℕ
no_bytes = replicate gpe_bytes 0

-- every cell, count and flag zero, with these settings, and SCI_EN as given
abbrev pub zeroed : Settings → Bool → Machine
zeroed s sci-en =
    made s (0, 0) (no_bytes, no_bytes, no_bytes, no_bytes, false) (0, 0, false) (false, 0) (sci-en, false, false, 0, 0, false) (false, 0) false

abbrev pub power_on : Settings → Machine
power_on s = zeroed s (eqb s.smi_cmd 0)

-- "any refusal to make one gives it all zero": the settings too
abbrev pub no_settings : Settings
no_settings =
    record {
      smi_cmd = 0;
      acpi_enable = 0;
      acpi_disable = 0;
      pm1a_evt = no_block;
      pm1b_evt = no_block;
      pm1a_cnt = no_block;
      pm1b_cnt = no_block;
      pm2_cnt = no_block;
      pm_tmr = no_block;
      gpe0 = no_block;
      gpe1 = no_block;
      gpe1_base = 0;
      flags = 0;
      event_homes = 0;
      control_homes = 0;
      power_override = false;
      sleep = sleep_table (replicate 6 (0 ∷ 0 ∷ []));
    }

abbrev pub all_zero : Machine
all_zero = zeroed no_settings false
