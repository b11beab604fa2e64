-- Bus accesses: which are refused, what a read gives and what a write does.
use Rattle.std.specs.Prelude.{Bool, true, false, not, cond, ◌&&◌, ◌||◌, ℕ, ◌/◌, ◌%◌, ◌^◌, eqb, ltb}
use Rattle.acpi.specs.Bits.{ARB_DIS}
use Rattle.clock.specs.Clock.{counter_bits}
use Rattle.platform.specs.Fitted.{wide_timer}
use Rattle.machine.specs.declared.Machine.{Machine}
use Rattle.registers.specs.Registers.{shown, bit_when, event_register, status_after, enable_after, control_shown, gpe_byte, gpe_sts_after, gpe_en_after}
use Rattle.machine.specs.Fields.{with_event, with_gpe, with_command, with_arb_dis}
use Rattle.machine.specs.Lines.{walked}
use Rattle.model.specs.Control.{control_written}
use Rattle.model.specs.declared.Register.{Register}
use Rattle.model.specs.declared.Register.TheVariants as register

-- 21: "width is not 1, 2 or 4"
unfoldable pub wrong_width : ℕ → Bool
wrong_width width = not (eqb width 1 || eqb width 2 || eqb width 4)

-- 22: "written data does not fit the width", of 1, 2 or 4 bytes
unfoldable pub data_too_wide : ℕ → ℕ → Bool
data_too_wide width written = not (ltb written (cond (eqb width 1) (2 ^ 8) (cond (eqb width 2) (2 ^ 16) (2 ^ 32))))

-- 23: "the port lies in no block"
unfoldable pub leads_nowhere : Register → Bool
leads_nowhere register.SmiCmd = false
leads_nowhere (register.Pm1Evt b) = false
leads_nowhere (register.Pm1Cnt b) = false
leads_nowhere register.Pm2Cnt = false
leads_nowhere register.PmTmr = false
leads_nowhere (register.Gpe b) = false
leads_nowhere register.Nowhere = true

-- "Widths: PM1 one byte, or two bytes at a register's start; GPE, PM2 and SMI_CMD one byte; timer four bytes at its start"
unfoldable pub allowed : Register → ℕ → ℕ → Bool
allowed register.SmiCmd width offset = eqb width 1
allowed (register.Pm1Evt b) width offset = eqb width 1 || (eqb width 2 && eqb (offset % 2) 0)
allowed (register.Pm1Cnt b) width offset = eqb width 1 || (eqb width 2 && eqb (offset % 2) 0)
allowed register.Pm2Cnt width offset = eqb width 1
allowed register.PmTmr width offset = eqb width 4 && eqb offset 0
allowed (register.Gpe b) width offset = eqb width 1
allowed register.Nowhere width offset = true

-- 25: "the timer is written"
unfoldable pub is_timer : Register → Bool
is_timer register.SmiCmd = false
is_timer (register.Pm1Evt b) = false
is_timer (register.Pm1Cnt b) = false
is_timer register.Pm2Cnt = false
is_timer register.PmTmr = true
is_timer (register.Gpe b) = false
is_timer register.Nowhere = false

-- 26: "a command is written while one waits"
unfoldable pub command_lost : Machine → Register → Bool
command_lost m register.SmiCmd = m.command_waits
command_lost m (register.Pm1Evt b) = false
command_lost m (register.Pm1Cnt b) = false
command_lost m register.Pm2Cnt = false
command_lost m register.PmTmr = false
command_lost m (register.Gpe b) = false
command_lost m register.Nowhere = false

-- TMR_VAL and E_TMR_VAL: the counter, "32 bits if flag 8 is set, else 24"
abbrev pub timer_register : Machine → ℕ
timer_register m = m.counter % 2 ^ counter_bits (wide_timer m.settings)

-- what a read gives; "SMI_CMD reads zero"
unfoldable pub read_of : Machine → Register → ℕ → ℕ → ℕ
read_of m register.SmiCmd width offset = 0
read_of m (register.Pm1Evt b) width offset = shown width offset (event_register m b offset)
read_of m (register.Pm1Cnt b) width offset = control_shown m b width offset
read_of m register.Pm2Cnt width offset = bit_when m.arb_dis ARB_DIS
read_of m register.PmTmr width offset = timer_register m
read_of m (register.Gpe b) width offset = gpe_byte m b offset
read_of m register.Nowhere width offset = 0

-- ---- writes

-- the bytes after a byte of GPE0, or of GPE1, is written
abbrev pub gpe_bytes_written : Machine → Bool → ℕ → ℕ → Machine
gpe_bytes_written m false offset written =
    with_gpe m (gpe_sts_after m false offset written) (gpe_en_after m false offset written) m.gpe1_sts m.gpe1_en m.gpe_pending
gpe_bytes_written m true offset written =
    with_gpe m m.gpe0_sts m.gpe0_en (gpe_sts_after m true offset written) (gpe_en_after m true offset written) m.gpe_pending

-- a byte is written, and whether an enabled bit is set is looked for again: request W7
abbrev pub gpe_written : Machine → Bool → ℕ → ℕ → Machine
gpe_written m b offset written = walked (gpe_bytes_written m b offset written)

-- what an accepted write does; "A command write latches the byte", "PM2 bit 0 is ARB_DIS"
unfoldable pub write_of : Machine → Register → ℕ → ℕ → ℕ → Machine
write_of m register.SmiCmd width offset written = with_command m true (written % 2 ^ 8)
write_of m (register.Pm1Evt b) width offset written =
    with_event m (status_after m b width offset written) (enable_after m b width offset written)
write_of m (register.Pm1Cnt b) width offset written = control_written m b width offset written
write_of m register.Pm2Cnt width offset written = with_arb_dis m (eqb (written / 2 ^ ARB_DIS % 2) 1)
write_of m register.PmTmr width offset written = m
write_of m (register.Gpe b) width offset written = gpe_written m b offset written
write_of m register.Nowhere width offset written = m
