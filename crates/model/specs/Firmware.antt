-- Firmware steps.
use Rattle.std.specs.Prelude.{Bool, true, false, cond, ℕ, eqb}
use Rattle.machine.specs.declared.Machine.{Machine}
use Rattle.machine.specs.Fields.{with_event, with_command, with_control, with_sci_en}

-- the command that waits is ACPI_ENABLE, or ACPI_DISABLE
unfoldable pub is_acpi_enable : Machine → Bool
is_acpi_enable m = eqb m.command m.settings.acpi_enable

unfoldable pub is_acpi_disable : Machine → Bool
is_acpi_disable m = eqb m.command m.settings.acpi_disable

-- "ACPI_ENABLE sets SCI_EN ..; ACPI_DISABLE clears SCI_EN; others only leave"
unfoldable pub sci_en_after : Machine → Bool
sci_en_after m = cond (is_acpi_enable m) true (cond (is_acpi_disable m) false m.sci_en)

-- ".. and, if it was clear, first clears all PM1 enable cells, bit 14's too"
unfoldable pub enables_after : Machine → ℕ
enables_after m = cond (is_acpi_enable m) (cond m.sci_en m.pm1_en 0) m.pm1_en

-- "Firmware takes it"
abbrev pub take_of : Machine → Machine
take_of m = with_command (with_sci_en (with_event m m.pm1_sts (enables_after m)) (sci_en_after m)) false 0

-- "A second firmware step drops the release flag, and is accepted if none is up.": no other control cell changes
abbrev pub drop_of : Machine → Machine
drop_of m = with_control m m.bm_rld false m.slp_typ_a m.slp_typ_b m.armed
