-- What the reader's test of the values means, and that the values of a legal machine pass it.
-- The values of a machine do not look at its general event bytes.
-- Assumes nothing.
use mathlib.Core.Bool.{true, false}
use mathlib.Core.List.{List, []}
use mathlib.Core.Path.{◌≡◌, ap}
use Prim.Native.Nat.{ℕ}
use lib.Bits.{bit_and}
use lib.ListN.{get_or}
use Rattle.text.proofs.Equal.{same-equal, same_self}
use Rattle.bits.specs.Writes.{within}
use Rattle.bits.proofs.Writes.{masked-within}
use Rattle.machine.specs.declared.Machine.{Machine}
use Rattle.registers.specs.Registers.{status_in, enable_in}
use Rattle.model.specs.Legal.{legal}
use Rattle.values.specs.Values.{values_of, settings_from, machine_from, values_agree}
use Rattle.values.proofs.RoundTrip.{machine-back}

module _ (vs gpe0_sts gpe0_en gpe1_sts gpe1_en : List ℕ) where
  -- the test: the machine of the values has these values
  pub agree-means : values_agree vs ≡ true → values_of (machine_from vs gpe0_sts gpe0_en gpe1_sts gpe1_en) ≡ vs
  unfolding values_agree
  agree-means e = same-equal (values_of (machine_from vs [] [] [] [])) vs e

  pub means-agree : values_of (machine_from vs gpe0_sts gpe0_en gpe1_sts gpe1_en) ≡ vs → values_agree vs ≡ true
  unfolding values_agree
  means-agree e = rw e (same_self vs)

-- the values of a legal machine pass the test
pub legal-agrees : (m : Machine) → legal m ≡ true → values_agree (values_of m) ≡ true
legal-agrees m e =
    means-agree (values_of m) m.gpe0_sts m.gpe0_en m.gpe1_sts m.gpe1_en (ap values_of (machine-back m e))

-- "no unfitted or reserved bit, bit outside its home": in the event registers of each block stand only bits that it shows
pub record InHomes (vs : List ℕ) : Type 0 where
  pub status-a : within (status_in (settings_from vs) false) (get_or vs 28 0) ≡ true
  pub status-b : within (status_in (settings_from vs) true) (get_or vs 29 0) ≡ true
  pub enables-a : within (enable_in (settings_from vs) false) (get_or vs 30 0) ≡ true
  pub enables-b : within (enable_in (settings_from vs) true) (get_or vs 31 0) ≡ true

-- a value that a mask let through
let_through : (mask x v : ℕ) → bit_and x mask ≡ v → within mask v ≡ true
let_through mask x v e = rw (← e) (masked-within mask x)

pub agree-in-homes : (vs : List ℕ) → values_agree vs ≡ true → InHomes vs
agree-in-homes vs e =
    let m = machine_from vs [] [] [] [] in
    let same : values_of m ≡ vs = agree-means vs [] [] [] [] e in
    let at : (i : ℕ) → get_or (values_of m) i 0 ≡ get_or vs i 0 = λ i. ap (λ (l : List ℕ). get_or l i 0) same in
    record {
      status-a = let_through (status_in m.settings false) m.pm1_sts (get_or vs 28 0) (at 28);
      status-b = let_through (status_in m.settings true) m.pm1_sts (get_or vs 29 0) (at 29);
      enables-a = let_through (enable_in m.settings false) m.pm1_en (get_or vs 30 0) (at 30);
      enables-b = let_through (enable_in m.settings true) m.pm1_en (get_or vs 31 0) (at 31);
    }
