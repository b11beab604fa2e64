-- What a platform's settings fit: its event cells and its timer.
use Rattle.std.specs.Prelude.{Bool, ℕ}
use Rattle.acpi.specs.Fadt.{TMR_VAL_EXT}
use Rattle.cells.specs.Cells.{flag_of, mask_of, cells}
use Rattle.cells.specs.declared.Column.TheVariants as column
use Rattle.platform.specs.Blocks.{present}
use Rattle.platform.specs.declared.settings.Settings.{Settings}

-- the fitted status cells: the timer's "timer present", the others by their flags
abbrev pub status_cells : Settings → ℕ
status_cells s = mask_of column.Status s.flags (present s.pm_tmr) cells

-- the fitted enable cells, bit 14's disable too
abbrev pub enable_cells : Settings → ℕ
enable_cells s = mask_of column.Enable s.flags (present s.pm_tmr) cells

-- "32 bits if flag 8 is set, else 24"
abbrev pub wide_timer : Settings → Bool
wide_timer s = flag_of s.flags TMR_VAL_EXT
