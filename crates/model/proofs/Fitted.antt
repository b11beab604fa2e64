-- Bits within a mask, and that the bits which steps raise are fitted. A number is within a mask where the mask takes nothing away; a bit
-- that is always fitted has its row in the table.
-- Assumes nothing.
use mathlib.Core.Bool.{Bool, true, false, not, cond, ◌&&◌, and-false}
use mathlib.Core.Path.{◌≡◌, refl, ◌∙◌, ap, ap₂}
use Prim.Native.Nat.{ℕ, ◌^◌, ◌<◌, min}
use native.Mathlib.Omega.{arith}
use borrow.Author.Tests.{eqb-true, eqb-false, eq-eqb}
use lib.Bits.{bit_and, bit_or, and_zero_l, and_comm, and_self}
use lib.Dec.{eqb, lit<}
use Rattle.lists.specs.Any.{any}
use Rattle.bits.specs.Writes.{within}
use Rattle.bits.specs.Digit.{digit}
use Rattle.bits.proofs.Algebra.{and-swap, masked-or}
use Rattle.bits.proofs.Writes.{masked-lt, within-masked}
use Rattle.bits.proofs.Digits.{digit_and, digit-own-bit, digit-other-bit, same_digits}
use Rattle.cells.specs.Cells.{is_in, cells}
use Rattle.cells.specs.declared.Column.TheVariants as column
use Rattle.cells.proofs.Masks.{one, mask-small, mask-digit}
use Rattle.platform.specs.Blocks.{present}
use Rattle.platform.specs.Fitted.{status_cells}
use Rattle.platform.specs.declared.settings.Settings.{Settings}
use Rattle.machine.specs.Status.{tmr_bit, bm_bit, gbl_bit, wak_bit, has_bit}
use Rattle.registers.specs.Registers.{homes_in, status_in}
use Rattle.model.specs.Events.{fits, tmr_raised}
use Rattle.model.proofs.LinesExactly.{BothSet, has-bit-exactly}

pub zero-within : (mask : ℕ) → within mask 0 ≡ true
unfolding within
zero-within mask = eq-eqb (bit_and 0 mask) 0 (and_zero_l mask)

pub or-within : (mask a b : ℕ) → within mask a ≡ true → within mask b ≡ true → within mask (bit_or a b) ≡ true
unfolding within
or-within mask a b p q =
    eq-eqb (bit_and (bit_or a b) mask) (bit_or a b) (masked-or a b mask ∙ ap₂ bit_or (within-masked mask a p) (within-masked mask b q))

-- some of the bits within the mask
pub part-within : (mask a b : ℕ) → within mask a ≡ true → within mask (bit_and a b) ≡ true
unfolding within
part-within mask a b p =
    eq-eqb (bit_and (bit_and a b) mask) (bit_and a b) (and-swap a b mask ∙ ap (λ (x : ℕ). bit_and x b) (within-masked mask a p))

pub shown-within : (mask a b : ℕ) → within mask b ≡ true → within mask (bit_and a b) ≡ true
shown-within mask a b p = rw (and_comm a b) (part-within mask b a p)

pub self-within : (mask : ℕ) → within mask mask ≡ true
unfolding within
self-within mask = eq-eqb (bit_and mask mask) mask (and_self mask)

-- a bit that is set in a mask is within it
set-within : (mask i : ℕ) → digit i mask ≡ 1 → within mask (2 ^ i) ≡ true
unfolding within
set-within mask i e = eq-eqb _ _ (same_digits (bit_and (2 ^ i) mask) (2 ^ i) (λ k. digit_and k (2 ^ i) mask ∙ go k (eqb k i) refl))
  where
    go : (k : ℕ) (t : Bool) → eqb k i ≡ t → min (digit k (2 ^ i)) (digit k mask) ≡ digit k (2 ^ i)
    go k true p = rw (eqb-true k i p, digit-own-bit i, e) refl
    go k false p = omega (arith, digit-other-bit k i (eqb-false k i p))

pub has_within : (mask i : ℕ) → has_bit mask (2 ^ i) ≡ true → within mask (2 ^ i) ≡ true
has_within mask i e =
    let (j, set) = (has-bit-exactly mask (2 ^ i)).0 e in
    go j set (eqb j i) refl
  where
    go : (j : ℕ) → BothSet j mask (2 ^ i) → (t : Bool) → eqb j i ≡ t → within mask (2 ^ i) ≡ true
    go j set true p = set-within mask i (rw (eqb-true j i p) at set.0)
    go j set false p = absurd (omega (arith, digit-other-bit j i (eqb-false j i p), set.1))

-- ---- the bits that steps raise

module _ (s : Settings) where
  -- some fitted row of the table has the bit
  row_within : (i : ℕ) → i < 16 → any (λ c. is_in column.Status s.flags (present s.pm_tmr) c && eqb c.bit i) cells ≡ true
      → within (status_cells s) (2 ^ i) ≡ true
  row_within i h e =
      set-within (status_cells s) i (mask-digit column.Status s.flags (present s.pm_tmr) cells i h ∙ ap one e)

  pub bm-within : within (status_cells s) bm_bit ≡ true
  unfolding any
  bm-within = row_within 4 (lit< tt) (simp and-false)

  pub gbl-within : within (status_cells s) gbl_bit ≡ true
  unfolding any
  gbl-within = row_within 5 (lit< tt) (simp and-false)

  pub wak-within : within (status_cells s) wak_bit ≡ true
  unfolding any
  wak-within = row_within 15 (lit< tt) (simp and-false)

  pub tmr-within : (turns : ℕ) → within (status_cells s) (tmr_raised s turns) ≡ true
  unfolding tmr_raised
  tmr-within turns = go (fits s tmr_bit) (not (eqb turns 0)) refl
    where
      go : (t u : Bool) → fits s tmr_bit ≡ t → within (status_cells s) (cond (t && u) tmr_bit 0) ≡ true
      go true true e = has_within (status_cells s) 0 e
      go true false e = zero-within (status_cells s)
      go false u e = zero-within (status_cells s)

-- what a block shows of the status lies in the register
pub status-in-lt : (s : Settings) (b : Bool) → status_in s b < 2 ^ 16
status-in-lt s b =
    let home = homes_in s.event_homes b in
    rw (and_comm (status_cells s) home) (masked-lt 16 home (status_cells s) (mask-small column.Status s.flags (present s.pm_tmr) cells))
