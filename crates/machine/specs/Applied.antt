-- What a step does to the machine, in one place: the scalars after the step's own rule, the byte that it stores, and what becomes of the sleep state.
use Rattle.std.specs.Prelude.{Option}
use Rattle.machine.specs.declared.Machine.{Machine}
use Rattle.machine.specs.declared.scalars.Scalars.{Scalars}
use Rattle.machine.specs.declared.gpe.GpeStore.{GpeStore}
use Rattle.machine.specs.declared.sleeping.StateChange.{StateChange}
use Rattle.machine.specs.Gpe.{stored}
use Rattle.machine.specs.Scalars.{with_scalars}
use Rattle.machine.specs.Sleep.{in_next_state}

abbrev pub applied : Machine → Scalars → GpeStore → Option StateChange → Machine
applied m x store next = in_next_state next (stored (with_scalars m x) store)
