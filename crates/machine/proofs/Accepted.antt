-- What setting up gives. Success: the power-on machine of the settings read, which pass lines 5 to 12. Refusal: a machine all zero.
-- An answer of 0 means that no line refuses. Assumes nothing.
use mathlib.Core.Bool.{Bool, true, false}
use mathlib.Core.List.{List}
use mathlib.Core.Path.{◌≡◌, refl}
use Prim.Native.Nat.{ℕ}
use Rattle.std.proofs.Common.{Ok, Err}
use Rattle.lists.specs.Any.{any}
use Rattle.lists.proofs.Search.{any-drop}
use Rattle.platform.specs.Blocks.{present}
use Rattle.platform.specs.Legal.{legal_settings, HasNone, Guaranteed}
use Rattle.platform.specs.declared.settings.Settings.{Settings}
use Rattle.platform.specs.declared.rules.SetUpRefusal.{SetUpRefusal}
use Rattle.platform.proofs.Answers.{done-passes}
use Rattle.platform.proofs.Legal.{settings-legal, legal-guaranteed}
use Rattle.fadt.specs.Fields.{pm1_block, settings_of}
use Rattle.fadt.specs.Table.{set_up_rules}
use Rattle.machine.specs.PowerOn.{power_on, all_zero}
use Rattle.machine.specs.SetUp.{set_up_from, set_up_of}

module _ (t : List ℕ) (s : Settings) where
  -- no line of the table refuses
  pub accepted-passes : (set_up_from t s).answer ≡ Ok tt → any (λ r. r.refused) (set_up_rules t s) ≡ false
  accepted-passes e = done-passes (set_up_rules t s) e

  pub accepted-machine : (set_up_from t s).answer ≡ Ok tt → (set_up_from t s).machine ≡ power_on s
  accepted-machine e = rw e refl

  -- "any refusal to make one gives it all zero"
  pub refused-machine : (r : SetUpRefusal) → (set_up_from t s).answer ≡ Err r → (set_up_from t s).machine ≡ all_zero
  refused-machine r e = rw e refl

-- a PM1 block read as absent has no length
pm1-none : (t : List ℕ) (address length : ℕ) → HasNone (pm1_block t address length)
unfolding present
pm1-none t address length h = rw h refl

module _ (t : List ℕ) (event_homes control_homes : ℕ) (power-override : Bool) (pairs : List (List ℕ)) where
  -- what setting up accepts passes the test of legal settings, and so is as `Guaranteed` says
  pub accepted-legal : (set_up_of t event_homes control_homes power-override pairs).answer ≡ Ok tt
      → legal_settings (set_up_of t event_homes control_homes power-override pairs).machine.settings ≡ true
  accepted-legal e =
      let s = settings_of t event_homes control_homes power-override pairs in
      rw (accepted-machine t s e)
      (settings-legal s (any-drop (λ r. r.refused) (set_up_rules t s) 4 (accepted-passes t s e)) (pm1-none t 60 88) (pm1-none t 68 89))

  pub accepted-guaranteed : (set_up_of t event_homes control_homes power-override pairs).answer ≡ Ok tt
      → Guaranteed (set_up_of t event_homes control_homes power-override pairs).machine.settings
  accepted-guaranteed e = legal-guaranteed _ (accepted-legal e)
