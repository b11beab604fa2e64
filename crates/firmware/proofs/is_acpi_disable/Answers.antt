use Rattle.model.specs.Firmware.{is_acpi_disable}
use Rattle.firmware.proofs.is_acpi_disable.Goals as goal

pub returns : goal.returns
unfolding is_acpi_disable
returns c = simp c.wide.ensures
