-- Setting up from a table of bytes and six pairs of two gives a machine whose fields fit their types: each is made of bytes, or is such a pair.
-- Assumes nothing.
use mathlib.Core.Bool.{Bool, true, false}
use mathlib.Core.List.{List}
use mathlib.Core.Path.{◌≡◌, refl}
use Prim.Native.Nat.{ℕ, ◌+◌, ◌^◌, ◌<◌}
use native.Mathlib.Omega.{arith}
use borrow.Author.Tests.{eq-eqb, lt-ltb}
use lib.ListN.{length}
use Rattle.std.specs.Prelude.{⊤}
use Rattle.std.proofs.Common.{Result, Ok, Err}
use Rattle.lists.specs.Any.{any}
use Rattle.acpi.specs.Fadt.{ACPI_ENABLE, ACPI_DISABLE, GPE1_BASE, «FLAGS»}
use Rattle.platform.specs.Answer.{first_failing}
use Rattle.platform.specs.declared.rules.SetUpRefusal.{SetUpRefusal}
use Rattle.fadt.specs.Fields.{byte, dword, settings_of}
use Rattle.fadt.specs.Table.{set_up_rules}
use Rattle.machine.specs.SetUp.{machine_for, set_up_of}
use Rattle.model.specs.Legal.{not_two, settings_fit, fits_types}

module _ (t : List ℕ) (event_homes control_homes : ℕ) (power-override : Bool) (pairs : List (List ℕ))
    (bytes : (i : ℕ) → byte t i < 2 ^ 8) (six : length pairs ≡ 6) (two : any not_two pairs ≡ false) where
  dword-small : (i : ℕ) → dword t i < 2 ^ 32
  unfolding dword
  dword-small i = omega (arith, bytes i, bytes (i + 1), bytes (i + 2), bytes (i + 3))

  settings-fit : settings_fit (settings_of t event_homes control_homes power-override pairs) ≡ true
  unfolding settings_fit
  settings-fit =
      rw (
        lt-ltb (byte t ACPI_ENABLE) (2 ^ 8) (bytes ACPI_ENABLE),
        lt-ltb (byte t ACPI_DISABLE) (2 ^ 8) (bytes ACPI_DISABLE),
        lt-ltb (byte t GPE1_BASE) (2 ^ 8) (bytes GPE1_BASE),
        lt-ltb (dword t «FLAGS») (2 ^ 32) (dword-small «FLAGS»),
        eq-eqb (length pairs) 6 six,
        two,
      )
      refl

  -- accepted or refused
  pub set-up-fits : fits_types (set_up_of t event_homes control_homes power-override pairs).machine ≡ true
  unfolding settings_fit not_two any
  set-up-fits = go (first_failing (set_up_rules t (settings_of t event_homes control_homes power-override pairs)))
    where
      go : (a : Result ⊤ SetUpRefusal) → fits_types (machine_for a (settings_of t event_homes control_homes power-override pairs)) ≡ true
      go (Ok _) = settings-fit
      go (Err r) = refl
