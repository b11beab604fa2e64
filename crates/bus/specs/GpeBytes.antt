-- The bytes of a GPE block, numbered for one match with ranges.
use Rattle.std.specs.Prelude.{Bool, cond, ℕ, ◌+◌, ◌-◌, ◌%◌}
use Rattle.registers.specs.Registers.{gpe_half, in_gpe_status}
use Rattle.platform.specs.declared.settings.Settings.{Settings}

-- "GPE: status bytes, then as many enable bytes": status bytes from 0 on, enable bytes from 256 on; a machine has fewer than 256 of each
unfoldable pub gpe_number : Settings → Bool → ℕ → ℕ
gpe_number s b offset = cond (in_gpe_status s b offset) (offset % 256) (256 + (offset - gpe_half s b) % 256)
