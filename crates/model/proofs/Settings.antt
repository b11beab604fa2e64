-- No step changes a setting: none of the changes that the rules make does. Assumes nothing.
use mathlib.Core.Path.{◌≡◌, refl}
use Rattle.platform.specs.declared.settings.Settings.{Settings}
use Rattle.machine.specs.declared.Machine.{Machine}
use Rattle.model.specs.Events.{general_raised}
use Rattle.model.specs.Step.{after}
use Rattle.model.specs.declared.Step.{Step}
use Rattle.model.proofs.Kept.{Keeps, kept-by-steps}

abbrev Has : Settings → Machine → Type 0
Has s m = m.settings ≡ s

settings-keep : (s : Settings) → Keeps (Has s)
unfolding general_raised
settings-keep s = search

pub settings-kept : (m : Machine) (s : Step) → (after m s).settings ≡ m.settings
settings-kept m s = kept-by-steps (Has m.settings) (settings-keep m.settings) m s refl
