use mathlib.Core.Path.{sym, ◌∙◌}
use Rattle.model.specs.Firmware.{sci_en_after}
use Rattle.firmware.proofs.sci_en_after.Goals as goal

pub returns-then-is_acpi_enable : goal.returns-then-is_acpi_enable
unfolding sci_en_after
returns-then-is_acpi_enable c = simp (sym c.is_acpi_enable.ensures ∙ c.if-is_acpi_enable.true)

pub returns-then-is_acpi_disable : goal.returns-then-is_acpi_disable
unfolding sci_en_after
returns-then-is_acpi_disable c = simp (sym c.is_acpi_disable.ensures ∙ c.if-is_acpi_disable.true, sym c.is_acpi_enable.ensures ∙ c.if-is_acpi_enable.false)

pub returns-else-is_acpi_disable : goal.returns-else-is_acpi_disable
unfolding sci_en_after
returns-else-is_acpi_disable c = simp (sym c.is_acpi_disable.ensures ∙ c.if-is_acpi_disable.false, sym c.is_acpi_enable.ensures ∙ c.if-is_acpi_enable.false)
