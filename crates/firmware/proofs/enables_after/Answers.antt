use mathlib.Core.Path.{sym, ◌∙◌}
use Rattle.model.specs.Firmware.{is_acpi_enable, enables_after}
use Rattle.firmware.proofs.enables_after.Goals as goal

pub returns-then-x : goal.returns-then-x
unfolding is_acpi_enable enables_after
returns-then-x c = simp (c.if-x.true, sym c.is_acpi_enable.ensures ∙ c.if-is_acpi_enable.true)

pub returns-else-x : goal.returns-else-x
unfolding is_acpi_enable enables_after
returns-else-x c = simp (c.if-x.false, sym c.is_acpi_enable.ensures ∙ c.if-is_acpi_enable.true)

pub returns-else-is_acpi_enable : goal.returns-else-is_acpi_enable
unfolding is_acpi_enable enables_after
returns-else-is_acpi_enable c = simp (sym c.is_acpi_enable.ensures ∙ c.if-is_acpi_enable.false)
