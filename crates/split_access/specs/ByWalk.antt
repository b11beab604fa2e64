-- Request W7: "From a legal machine all answers stay those of the walk over all general event bytes, which remains the definition."; of a set-up and a step.
use Rattle.std.specs.Prelude.{◌≡◌}
use Rattle.machine.specs.Lines.{walked, sci_of, smi_of}
use Rattle.machine.specs.declared.Machine.{Machine}
use Rattle.model.specs.declared.Step.{Step}
use Rattle.split_access.specs.Start.{SettingUp, Stepping, AfterSteps}

-- SCI and SMI, and what any step then answers and does, are the same where the walk's answer is stored anew
pub record ByWalkFrom (stepped : Stepping) (m : Machine) : Type 0 where
  pub sci : sci_of m ≡ sci_of (walked m)
  pub smi : smi_of m ≡ smi_of (walked m)
  pub next : (x : Step) → stepped m x ≡ stepped (walked m) x

-- whatever steps came before
abbrev pub ByWalk : SettingUp → Stepping → Type 0
ByWalk setting stepped = AfterSteps setting stepped (ByWalkFrom stepped)
