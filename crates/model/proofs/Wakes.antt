-- What wakes, bit by bit: the bits that are looked at when a sleep completes, and the enable that lets a sleep press or an alarm wake.
-- The mask of the wake bits is 0700 hex, or 0300 where RTC does not count.
-- Assumes nothing.
use Prim.Native.Nat.{ℕ, zero, suc}
use mathlib.Core.Path.{◌≡◌, refl, sym, ◌∙◌}
use mathlib.Core.Logic.{◌↔◌, ◌⊎◌, inl, inr, ⊎_map, ⊎_elim}
use mathlib.Core.Bool.{Bool, true, false, not, cond, ◌||◌, false≢true}
use native.Mathlib.Omega.{arith}
use borrow.Author.Tests.{eqb-false, ne_eqb, not-true}
use lib.Bits.{bit_and}
use lib.Dec.{eqb}
use Rattle.lists.proofs.Tests.{and_left, and_right}
use Rattle.bits.specs.Digit.{digit}
use Rattle.bits.proofs.Digits.{digit-zero}
use Rattle.cells.specs.Cells.{flag_of}
use Rattle.platform.specs.declared.settings.Settings.{Settings}
use Rattle.machine.specs.Status.{slpbtn_bit, rtc_bit, has_bit}
use Rattle.machine.specs.Sleep.{wake_bits, pending}
use Rattle.machine.specs.declared.Machine.{Machine}
use Rattle.model.specs.Events.{signal_wakes}
use Rattle.model.proofs.LinesExactly.{BothSet, GpePair, WalkStored, both-set, has-bit-exactly, either, or-first, or-second, both, stored-exactly}

-- "(bit 10 in S4 only with flag 7)"
abbrev pub RtcWakes : Settings → ℕ → Type 0
RtcWakes s state = (state ≡ 4 → ⊥) ⊎ (flag_of s.flags 7 ≡ true)

-- "one of the enabled bits 8, 9, 10 (bit 10 in S4 only with flag 7) or an enabled GPE is already set"
abbrev pub WakingPair : Machine → ℕ → Type 0
WakingPair m state =
    BothSet 8 m.pm1_sts m.pm1_en
    ⊎ BothSet 9 m.pm1_sts m.pm1_en
    ⊎ (BothSet 10 m.pm1_sts m.pm1_en × RtcWakes m.settings state)
    ⊎ GpePair m

with-rtc : (j : ℕ) → digit j 0x0700 ≡ 1 → (j ≡ 8) ⊎ (j ≡ 9) ⊎ (j ≡ 10)
unfolding digit
with-rtc zero e = absurd (omega arith)
with-rtc (suc zero) e = absurd (omega arith)
with-rtc (suc (suc zero)) e = absurd (omega arith)
with-rtc (suc (suc (suc zero))) e = absurd (omega arith)
with-rtc (suc (suc (suc (suc zero)))) e = absurd (omega arith)
with-rtc (suc (suc (suc (suc (suc zero))))) e = absurd (omega arith)
with-rtc (suc (suc (suc (suc (suc (suc zero)))))) e = absurd (omega arith)
with-rtc (suc (suc (suc (suc (suc (suc (suc zero))))))) e = absurd (omega arith)
with-rtc (suc (suc (suc (suc (suc (suc (suc (suc zero)))))))) e = inl refl
with-rtc (suc (suc (suc (suc (suc (suc (suc (suc (suc zero))))))))) e = inr (inl refl)
with-rtc (suc (suc (suc (suc (suc (suc (suc (suc (suc (suc zero)))))))))) e = inr (inr refl)
with-rtc (suc (suc (suc (suc (suc (suc (suc (suc (suc (suc (suc j))))))))))) e = absurd (omega (arith, digit-zero j))

without-rtc : (j : ℕ) → digit j 0x0300 ≡ 1 → (j ≡ 8) ⊎ (j ≡ 9)
unfolding digit
without-rtc zero e = absurd (omega arith)
without-rtc (suc zero) e = absurd (omega arith)
without-rtc (suc (suc zero)) e = absurd (omega arith)
without-rtc (suc (suc (suc zero))) e = absurd (omega arith)
without-rtc (suc (suc (suc (suc zero)))) e = absurd (omega arith)
without-rtc (suc (suc (suc (suc (suc zero))))) e = absurd (omega arith)
without-rtc (suc (suc (suc (suc (suc (suc zero)))))) e = absurd (omega arith)
without-rtc (suc (suc (suc (suc (suc (suc (suc zero))))))) e = absurd (omega arith)
without-rtc (suc (suc (suc (suc (suc (suc (suc (suc zero)))))))) e = inl refl
without-rtc (suc (suc (suc (suc (suc (suc (suc (suc (suc zero))))))))) e = inr refl
without-rtc (suc (suc (suc (suc (suc (suc (suc (suc (suc (suc zero)))))))))) e = absurd (omega arith)
without-rtc (suc (suc (suc (suc (suc (suc (suc (suc (suc (suc (suc j))))))))))) e = absurd (omega (arith, digit-zero j))

-- RTC counts
abbrev rtc_counts : Settings → ℕ → Bool
rtc_counts s state = not (eqb state 4) || flag_of s.flags 7

rtc-counts : (s : Settings) (state : ℕ) → rtc_counts s state ≡ true → RtcWakes s state
rtc-counts s state e = ⊎_map (λ p. eqb-false state 4 (not-true _ p)) (λ p. p) (either (not (eqb state 4)) (flag_of s.flags 7) e)

counts-rtc : (s : Settings) (state : ℕ) → RtcWakes s state → rtc_counts s state ≡ true
counts-rtc s state (inl n) = or-first (not (eqb state 4)) (flag_of s.flags 7) (rw (ne_eqb state 4 n) refl)
counts-rtc s state (inr p) = or-second (not (eqb state 4)) (flag_of s.flags 7) p

module _ (m : Machine) (state : ℕ) where
  abbrev Set : ℕ → Type 0
  Set j = BothSet j m.pm1_sts m.pm1_en

  abbrev looked : Bool → Bool
  looked t = has_bit (bit_and m.pm1_sts m.pm1_en) (cond t 0x0700 0x0300)

  one_of_three : (j : ℕ) → (j ≡ 8) ⊎ (j ≡ 9) ⊎ (j ≡ 10) → Set j → RtcWakes m.settings state → WakingPair m state
  one_of_three j (inl p) b r = inl (rw p at b)
  one_of_three j (inr (inl p)) b r = inr (inl (rw p at b))
  one_of_three j (inr (inr p)) b r = inr (inr (inl (rw p at b, r)))

  one_of_two : (j : ℕ) → (j ≡ 8) ⊎ (j ≡ 9) → Set j → WakingPair m state
  one_of_two j (inl p) b = inl (rw p at b)
  one_of_two j (inr p) b = inr (inl (rw p at b))

  pm1-found : (t : Bool) → rtc_counts m.settings state ≡ t → looked t ≡ true → WakingPair m state
  pm1-found true e h =
      let found = (has-bit-exactly (bit_and m.pm1_sts m.pm1_en) 0x0700).0 h in
      one_of_three found.0 (with-rtc found.0 found.1.1) ((both-set found.0 _ _).0 found.1.0) (rtc-counts m.settings state e)
  pm1-found false e h =
      let found = (has-bit-exactly (bit_and m.pm1_sts m.pm1_en) 0x0300).0 h in
      one_of_two found.0 (without-rtc found.0 found.1.1) ((both-set found.0 _ _).0 found.1.0)

  by_bit : (j : ℕ) (t : Bool) → digit j (cond t 0x0700 0x0300) ≡ 1 → Set j → looked t ≡ true
  by_bit j t e p = (has-bit-exactly (bit_and m.pm1_sts m.pm1_en) (cond t 0x0700 0x0300)).1 (j, ((both-set j _ _).1 p, e))

  looked-or : WalkStored m → (t : Bool) → rtc_counts m.settings state ≡ t → WakingPair m state → (looked t || m.gpe_pending) ≡ true
  unfolding digit
  looked-or stored true e (inl p) = or-first (looked true) m.gpe_pending (by_bit 8 true refl p)
  looked-or stored true e (inr (inl p)) = or-first (looked true) m.gpe_pending (by_bit 9 true refl p)
  looked-or stored true e (inr (inr (inl p))) = or-first (looked true) m.gpe_pending (by_bit 10 true refl p.0)
  looked-or stored true e (inr (inr (inr p))) = or-second (looked true) m.gpe_pending ((stored-exactly m stored).1 p)
  looked-or stored false e (inl p) = or-first (looked false) m.gpe_pending (by_bit 8 false refl p)
  looked-or stored false e (inr (inl p)) = or-first (looked false) m.gpe_pending (by_bit 9 false refl p)
  looked-or stored false e (inr (inr (inl p))) = absurd (false≢true (sym e ∙ counts-rtc m.settings state p.1))
  looked-or stored false e (inr (inr (inr p))) = or-second (looked false) m.gpe_pending ((stored-exactly m stored).1 p)

  -- a sleep that completes wakes at once exactly if one of these is set together with its enable
  pub pending-exactly : WalkStored m → (pending m state ≡ true) ↔ WakingPair m state
  unfolding pending wake_bits
  pending-exactly stored = (
    λ e. ⊎_elim (pm1-found (rtc_counts m.settings state) refl) (λ p. inr (inr (inr ((stored-exactly m stored).0 p))))
        (either (looked (rtc_counts m.settings state)) m.gpe_pending e),
    looked-or stored (rtc_counts m.settings state) refl,
  )

-- a sleep press that finds the machine in S1 to S4 wakes it exactly if SLPBTN_EN is set
pub sleep-press-wakes-exactly : (m : Machine) → (signal_wakes m slpbtn_bit ≡ true) ↔ (has_bit m.pm1_en slpbtn_bit ≡ true)
unfolding wake_bits has_bit
sleep-press-wakes-exactly m = (λ e. and_left _ _ e, λ e. both _ _ e (go (rtc_counts m.settings m.state)))
  where
    go : (t : Bool) → has_bit (cond t 0x0700 0x0300) slpbtn_bit ≡ true
    go true = refl
    go false = refl

-- an alarm wakes exactly if RTC_EN is set, and in S4 RTC_S4 too
pub alarm-wakes-exactly : (m : Machine) → (signal_wakes m rtc_bit ≡ true) ↔ ((has_bit m.pm1_en rtc_bit ≡ true) × RtcWakes m.settings m.state)
unfolding wake_bits has_bit
alarm-wakes-exactly m = (
  λ e. (and_left _ _ e, rtc-counts m.settings m.state (there (rtc_counts m.settings m.state) (and_right (has_bit m.pm1_en rtc_bit) _ e))),
  λ p. both _ _ p.0 (back (rtc_counts m.settings m.state) (counts-rtc m.settings m.state p.1)),
)
  where
    there : (t : Bool) → has_bit (cond t 0x0700 0x0300) rtc_bit ≡ true → t ≡ true
    there true e = refl
    there false e = absurd (false≢true e)

    back : (t : Bool) → t ≡ true → has_bit (cond t 0x0700 0x0300) rtc_bit ≡ true
    back true e = refl
    back false e = absurd (false≢true e)
