use Rattle.model.specs.Firmware.{is_acpi_enable}
use Rattle.firmware.proofs.is_acpi_enable.Goals as goal

pub returns : goal.returns
unfolding is_acpi_enable
returns c = simp c.wide.ensures
