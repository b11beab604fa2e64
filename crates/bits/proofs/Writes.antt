-- The laws of the two cell rules, over the width k. What is kept is an and with a complement, so each law follows from those
-- of and and or, or is read off digit by digit.
-- Assumes nothing.
use mathlib.Core.Path.{◌≡◌, sym, ap, ap₂, ◌∙◌}
use mathlib.Core.Bool.{true}
use Prim.Native.Nat.{ℕ, ◌-◌, ◌^◌, ◌≤◌, ◌<◌, min, max}
use native.Mathlib.Nat.{lt_of_le_of_lt}
use native.Mathlib.Omega.{arith}
use lib.Pow.{pow_pos, ones_sub-lt}
use lib.Bits.{bit_and, bit_or, and_comm, or_comm, and_self, and_zero_r, or_zero_r, and_le_r, or_lt}
use borrow.Author.Tests.{eqb-true, eq-eqb}
use Rattle.bits.specs.Digit.{digit}
use Rattle.bits.specs.Writes.{kept, cleared_by, taken_by, within}
use Rattle.bits.proofs.Digits.{digit-le, digit_and, digit_or, digit-zero, digit_not, same-digits-below}
use Rattle.bits.proofs.Algebra.{and_assoc, or_assoc, and-swap, or_swap, and-over-or, masked-or, disjoint-digit}

-- ---- bounds

-- what a mask lets through is below the width where the mask is
pub masked-lt : (k a mask : ℕ) → mask < 2 ^ k → bit_and a mask < 2 ^ k
masked-lt k a mask h = lt_of_le_of_lt (and_le_r a mask) h

-- what is kept is always below it: a cleared register too
pub kept-lt : (k old gone : ℕ) → kept k old gone < 2 ^ k
kept-lt k old gone = masked-lt k old _ (ones_sub-lt k gone)

pub take-lt : (k old written mask : ℕ) → mask < 2 ^ k → taken_by k old written mask < 2 ^ k
take-lt k old written mask h = or_lt k _ _ (kept-lt k old mask) (masked-lt k written mask h)

-- ---- digit by digit

pub digit-kept : (k i old gone : ℕ) → gone < 2 ^ k → i < k → digit i (kept k old gone) ≡ min (digit i old) (1 - digit i gone)
digit-kept k i old gone h l = rw (digit_and, digit_not k i gone)

-- where written and mask both have a one: zero; elsewhere: as it was
pub digit-cleared : (k i old written mask : ℕ) → mask < 2 ^ k → i < k
    → digit i (cleared_by k old written mask) ≡ min (digit i old) (1 - min (digit i written) (digit i mask))
digit-cleared k i old written mask h l =
    digit-kept k i old (bit_and written mask) (masked-lt k written mask h) l ∙ rw (digit_and i written mask)

-- where the mask has a one: as written; elsewhere: as it was
pub digit-taken : (k i old written mask : ℕ) → mask < 2 ^ k → i < k
    → digit i (taken_by k old written mask) ≡ max (min (digit i old) (1 - digit i mask)) (min (digit i written) (digit i mask))
digit-taken k i old written mask h l = rw (digit_or, digit-kept k i old mask h l, digit_and)

-- ---- what is kept

-- a number with none of the bits of gone is kept whole
pub kept_whole : (k a gone : ℕ) → a < 2 ^ k → gone < 2 ^ k → bit_and a gone ≡ 0 → kept k a gone ≡ a
kept_whole k a gone h g e =
    same-digits-below k (kept-lt k a gone) h (λ i l. rw (digit-kept k i a gone g l) (omega (arith, digit-le i a, disjoint-digit a gone e i)))

-- none of the bits of gone is left
pub kept-without : (k old gone : ℕ) → gone < 2 ^ k → bit_and (kept k old gone) gone ≡ 0
kept-without k old gone g =
    same-digits-below k (masked-lt k (kept k old gone) gone g) (pow_pos k)
    (λ i l. rw (digit_and, digit-kept k i old gone g l, digit-zero) (omega (arith, digit-le i gone)))

-- in neither is not in either
not-or : (k a b : ℕ) → a < 2 ^ k → b < 2 ^ k → bit_and (2 ^ k - 1 - a) (2 ^ k - 1 - b) ≡ 2 ^ k - 1 - bit_or a b
not-or k a b ha hb =
    same-digits-below k (masked-lt k (2 ^ k - 1 - a) (2 ^ k - 1 - b) (ones_sub-lt k b)) (ones_sub-lt k (bit_or a b))
    (λ i l. rw (digit_and, digit_not k i a ha l, digit_not k i b hb l, digit_not k i (bit_or a b) (or_lt k a b ha hb) l, digit_or)
    (omega arith))

-- twice is once without both
pub kept-twice : (k old a b : ℕ) → a < 2 ^ k → b < 2 ^ k → kept k (kept k old a) b ≡ kept k old (bit_or a b)
kept-twice k old a b ha hb = and_assoc old _ _ ∙ ap (bit_and old) (not-or k a b ha hb)

-- what is gone may be put back
pub kept-or-gone : (k a gone : ℕ) → a < 2 ^ k → gone < 2 ^ k → bit_or (kept k a gone) gone ≡ bit_or a gone
kept-or-gone k a gone h g =
    same-digits-below k (or_lt k (kept k a gone) gone (kept-lt k a gone) g) (or_lt k a gone h g)
    (λ i l. simp (digit_or, digit-kept k i a gone g l) (omega (arith, digit-le i a)))

-- bits outside gone may be raised before or after
pub raise-after-kept : (k old gone r : ℕ) → gone < 2 ^ k → r < 2 ^ k → bit_and r gone ≡ 0
    → kept k (bit_or old r) gone ≡ bit_or (kept k old gone) r
raise-after-kept k old gone r g h e = masked-or old r _ ∙ ap (bit_or (kept k old gone)) (kept_whole k r gone h g e)

-- a reading through a mask outside gone is unchanged
pub read-after-kept : (k s gone m : ℕ) → gone < 2 ^ k → m < 2 ^ k → bit_and gone m ≡ 0 → bit_and (kept k s gone) m ≡ bit_and s m
read-after-kept k s gone m g h e =
    and_assoc s _ m ∙ ap (bit_and s) (and_comm _ m ∙ kept_whole k m gone h g (and_comm m gone ∙ e))

-- what shows through a mask has no bit where the mask has none
pub masked-disjoint : (w m r : ℕ) → bit_and m r ≡ 0 → bit_and (bit_and w m) r ≡ 0
masked-disjoint w m r e = and_assoc w m r ∙ ap (bit_and w) e ∙ and_zero_r w

-- ---- write one to clear

-- writing zero keeps it
pub clear-nothing : (k old mask : ℕ) → old < 2 ^ k → cleared_by k old 0 mask ≡ old
clear-nothing k old mask h = kept_whole k old 0 h (pow_pos k) (and_zero_r old)

-- writing one clears it
pub clear-written : (k old written mask : ℕ) → mask < 2 ^ k → bit_and (cleared_by k old written mask) (bit_and written mask) ≡ 0
clear-written k old written mask h = kept-without k old _ (masked-lt k written mask h)

-- no write sets a status bit
pub clear-sets-none : (k i old written mask : ℕ) → digit i (cleared_by k old written mask) ≤ digit i old
clear-sets-none k i old written mask = rw (digit_and i old _) (omega arith)

-- the order of two clears is free
pub clears-commute : (k old w m w' m' : ℕ) → cleared_by k (cleared_by k old w m) w' m' ≡ cleared_by k (cleared_by k old w' m') w m
clears-commute k old w m w' m' = and-swap old _ _

-- through two masks is through their union
pub clears-join : (k old w m m' : ℕ) → m < 2 ^ k → m' < 2 ^ k
    → cleared_by k (cleared_by k old w m) w m' ≡ cleared_by k old w (bit_or m m')
clears-join k old w m m' h h' =
    kept-twice k old _ _ (masked-lt k w m h) (masked-lt k w m' h') ∙ ap (kept k old) (sym (and-over-or w m m'))

-- a bit outside the mask may be raised before or after
pub raise-after-clear : (k old written mask r : ℕ) → mask < 2 ^ k → r < 2 ^ k → bit_and r mask ≡ 0
    → cleared_by k (bit_or old r) written mask ≡ bit_or (cleared_by k old written mask) r
raise-after-clear k old written mask r g h e =
    raise-after-kept k old _ r (masked-lt k written mask g) h (and_comm r _ ∙ masked-disjoint written mask r (and_comm mask r ∙ e))

-- ---- take what is written

-- the bits of the mask read as written
pub take-written : (k old written mask : ℕ) → mask < 2 ^ k → bit_and (taken_by k old written mask) mask ≡ bit_and written mask
take-written k old written mask h =
    masked-or (kept k old mask) _ mask ∙ ap₂ bit_or (kept-without k old mask h) (and_assoc written mask mask ∙ ap (bit_and written) (and_self mask))

-- the others read as they were
pub take-keeps-others : (k old written mask m : ℕ) → mask < 2 ^ k → m < 2 ^ k → bit_and mask m ≡ 0
    → bit_and (taken_by k old written mask) m ≡ bit_and old m
take-keeps-others k old written mask m g h e =
    masked-or (kept k old mask) _ m
    ∙ ap₂ bit_or (read-after-kept k old mask m g h e) (masked-disjoint written mask m e)
    ∙ or_zero_r _

-- two takes: what neither mask has is kept, and of what the first took, what the second mask has not
take_twice : (k old w m w' m' : ℕ) → m < 2 ^ k → m' < 2 ^ k
    → taken_by k (taken_by k old w m) w' m' ≡ bit_or (bit_or (kept k old (bit_or m m')) (kept k (bit_and w m) m')) (bit_and w' m')
take_twice k old w m w' m' h h' = rw (masked-or (kept k old m) _ _, kept-twice k old m m' h h')

-- the order of two takes with masks apart is free
pub takes-commute : (k old w m w' m' : ℕ) → m < 2 ^ k → m' < 2 ^ k → bit_and m m' ≡ 0
    → taken_by k (taken_by k old w m) w' m' ≡ taken_by k (taken_by k old w' m') w m
takes-commute k old w m w' m' h h' e =
    rw (
      take_twice k old w m w' m' h h',
      take_twice k old w' m' w m h' h,
      kept_whole k (bit_and w m) m' (masked-lt k w m h) h' (masked-disjoint w m m' e),
      kept_whole k (bit_and w' m') m (masked-lt k w' m' h') h (masked-disjoint w' m' m (and_comm m' m ∙ e)),
      or_comm m' m,
    )
    (or_swap (kept k old (bit_or m m')) (bit_and w m) (bit_and w' m'))

-- through two masks is through their union
pub takes-join : (k old w m m' : ℕ) → m < 2 ^ k → m' < 2 ^ k
    → taken_by k (taken_by k old w m) w m' ≡ taken_by k old w (bit_or m m')
takes-join k old w m m' h h' = rw (take_twice k old w m w m' h h', or_assoc (kept k old (bit_or m m')), both)
  where
    both : bit_or (kept k (bit_and w m) m') (bit_and w m') ≡ bit_and w (bit_or m m')
    both = ap (λ (x : ℕ). bit_or x (bit_and w m')) (and_assoc w m _) ∙ sym (and-over-or w (kept k m m') m') ∙ ap (bit_and w) (kept-or-gone k m m' h h')

-- ---- readings

-- a reading through a mask is not changed by raising bits outside it
pub read-after-raise : (s r m : ℕ) → bit_and r m ≡ 0 → bit_and (bit_or s r) m ≡ bit_and s m
read-after-raise s r m e = masked-or s r m ∙ ap (bit_or (bit_and s m)) e ∙ or_zero_r _

-- nor by clearing through a mask apart from it
pub read-after-clear : (k s w m' m : ℕ) → m' < 2 ^ k → m < 2 ^ k → bit_and m' m ≡ 0 → bit_and (cleared_by k s w m') m ≡ bit_and s m
read-after-clear k s w m' m g h e = read-after-kept k s _ m (masked-lt k w m' g) h (masked-disjoint w m' m e)

-- ---- within a mask

-- the mask takes nothing away
pub within-masked : (mask x : ℕ) → within mask x ≡ true → bit_and x mask ≡ x
unfolding within
within-masked mask x e = eqb-true (bit_and x mask) x e

pub masked-within : (mask x : ℕ) → within mask (bit_and x mask) ≡ true
unfolding within
masked-within mask x = eq-eqb _ _ (and_assoc x mask mask ∙ ap (bit_and x) (and_self mask))

-- what is within a mask is apart from what the mask is apart from
pub within-disjoint : (mask x m : ℕ) → within mask x ≡ true → bit_and mask m ≡ 0 → bit_and x m ≡ 0
within-disjoint mask x m e d = rw (← within-masked mask x e) (masked-disjoint x mask m d)
