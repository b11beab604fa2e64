-- No text and no code can break the test of the types: a machine read passes it whatever the values, and no step changes a setting.
-- That setting up gives machines that pass it, from bytes and pairs of two, is `set-up-fits` (`model/proofs/Fits.antt`).
-- Assumes nothing.
use mathlib.Core.Bool.{true}
use mathlib.Core.List.{List}
use mathlib.Core.Path.{◌≡◌, refl}
use Prim.Native.Nat.{ℕ, ◌%◌, ◌^◌}
use native.Mathlib.Nat.{mod-lt}
use borrow.Author.Tests.{lt-ltb}
use lib.ListN.{get_or}
use lib.Pow.{pow_pos}
use Rattle.lists.specs.Any.{any}
use Rattle.machine.specs.declared.Machine.{Machine}
use Rattle.model.specs.Legal.{not_two, settings_fit, fits_types}
use Rattle.model.specs.Step.{after}
use Rattle.model.specs.declared.Step.{Step}
use Rattle.model.proofs.Settings.{settings-kept}
use Rattle.values.specs.Values.{machine_from}

pub read_fits : (vs gpe0_sts gpe0_en gpe1_sts gpe1_en : List ℕ) → fits_types (machine_from vs gpe0_sts gpe0_en gpe1_sts gpe1_en) ≡ true
unfolding settings_fit not_two any
read_fits vs gpe0_sts gpe0_en gpe1_sts gpe1_en =
    rw (
      lt-ltb (get_or vs 1 0 % 2 ^ 8) (2 ^ 8) (mod-lt (get_or vs 1 0) (pow_pos 8)),
      lt-ltb (get_or vs 2 0 % 2 ^ 8) (2 ^ 8) (mod-lt (get_or vs 2 0) (pow_pos 8)),
      lt-ltb (get_or vs 17 0 % 2 ^ 8) (2 ^ 8) (mod-lt (get_or vs 17 0) (pow_pos 8)),
      lt-ltb (get_or vs 18 0 % 2 ^ 32) (2 ^ 32) (mod-lt (get_or vs 18 0) (pow_pos 32)),
    )
    refl

pub fits_kept : (m : Machine) (s : Step) → fits_types m ≡ true → fits_types (after m s) ≡ true
fits_kept m s e = rw (settings-kept m s) e
