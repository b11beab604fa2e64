-- When SCI and SMI are up, bit by bit. An and of two numbers is zero exactly if no bit is set in both, and the mask 0721 hex has the
-- bits 0, 5, 8, 9 and 10. What the lines take from the stored answer of the walk is so where it is stored, as in every legal machine (`legal-walk` of
-- `Legal.antt`).
-- Assumes nothing.
use Prim.Native.Nat.{ℕ, zero, suc, ◌/◌, ◌%◌, min}
use mathlib.Core.Path.{◌≡◌, refl, sym, ◌∙◌, ap}
use mathlib.Core.Logic.{◌↔◌, ◌⊎◌, inl, inr, ⊎_map}
use mathlib.Core.Bool.{Bool, true, false, not, ◌&&◌, ◌||◌, or-true, false≢true}
use mathlib.Core.List.{List, [], ◌∷◌}
use native.Mathlib.Omega.{arith}
use borrow.Author.Tests.{eqb-true, eqb-false, eq-eqb, ne_eqb, not-true}
use lib.Arith.{bin_ind}
use lib.Bits.{bit_and}
use lib.Dec.{eqb}
use lib.ListN.{get_or}
use Rattle.lists.proofs.Tests.{and_left, and_right}
use Rattle.bits.specs.Digit.{digit}
use Rattle.bits.proofs.Digits.{digit-le, digit-zero, digit_and}
use Rattle.bits.proofs.Algebra.{disjoint-digit}
use Rattle.machine.specs.declared.Machine.{Machine}
use Rattle.machine.specs.Status.{has_bit}
use Rattle.registers.specs.Registers.{gpe_sts, gpe_en}
use Rattle.machine.specs.Fields.{with_gpe_pending}
use Rattle.machine.specs.Lines.{awake, any_enabled, gpe_event, walked, pm1_event, event_output, sci_of, smi_of}

-- ---- what the lines look for

-- bit j is set in status and enable
abbrev pub BothSet : ℕ → ℕ → ℕ → Type 0
BothSet j status enable = (digit j status ≡ 1) × (digit j enable ≡ 1)

-- TMR, GBL, PWRBTN, SLPBTN or RTC
abbrev pub Pm1Pair : Machine → Type 0
Pm1Pair m =
    BothSet 0 m.pm1_sts m.pm1_en
    ⊎ BothSet 5 m.pm1_sts m.pm1_en
    ⊎ BothSet 8 m.pm1_sts m.pm1_en
    ⊎ BothSet 9 m.pm1_sts m.pm1_en
    ⊎ BothSet 10 m.pm1_sts m.pm1_en

-- bit j of byte i
abbrev pub BytePair : List ℕ → List ℕ → Type 0
BytePair status enable = (i : ℕ) × (j : ℕ) × BothSet j (get_or status i 0) (get_or enable i 0)

-- a general event's bit, of GPE0 or GPE1
abbrev pub GpePair : Machine → Type 0
GpePair m = (b : Bool) × BytePair (gpe_sts m b) (gpe_en m b)

abbrev pub EventPair : Machine → Type 0
EventPair m = Pm1Pair m ⊎ GpePair m

-- what is stored is the walk's answer
abbrev pub WalkStored : Machine → Type 0
WalkStored m = m.gpe_pending ≡ gpe_event m

-- then looking for it again changes nothing
pub stored-walked : (m : Machine) → WalkStored m → walked m ≡ m
stored-walked m e = ap (with_gpe_pending m) (sym e)

-- awake is S0
pub awake-exactly : (m : Machine) → (awake m ≡ true) ↔ (m.state ≡ 0)
unfolding awake
awake-exactly m = (eqb-true m.state 0, eq-eqb m.state 0)

pub asleep-exactly : (m : Machine) → (awake m ≡ false) ↔ (m.state ≡ 0 → ⊥)
unfolding awake
asleep-exactly m = (eqb-false m.state 0, ne_eqb m.state 0)

-- ---- bits of an and

some-digit : (a : ℕ) → (a ≡ 0 → ⊥) → (j : ℕ) × (digit j a ≡ 1)
unfolding digit
some-digit =
    bin_ind (λ (a : ℕ). (a ≡ 0 → ⊥) → (j : ℕ) × (digit j a ≡ 1)) (λ n. absurd (n refl)) (λ a rest n. pick a rest n (eqb (a % 2) 1) refl)
  where
    pick : (a : ℕ) → ((a / 2 ≡ 0 → ⊥) → (j : ℕ) × (digit j (a / 2) ≡ 1)) → (a ≡ 0 → ⊥) → (t : Bool) → eqb (a % 2) 1 ≡ t → (j : ℕ) × (digit j a ≡ 1)
    pick a rest n true e = (0, eqb-true (a % 2) 1 e)
    pick a rest n false e =
        let odd : a % 2 ≡ 1 → ⊥ = eqb-false (a % 2) 1 e in
        let found = rest (λ z. n (omega arith)) in
        (suc found.0, found.1)

pub both-set : (j x y : ℕ) → (digit j (bit_and x y) ≡ 1) ↔ BothSet j x y
both-set j x y = (there, λ p. rw (digit_and, p.0, p.1))
  where
    there : digit j (bit_and x y) ≡ 1 → BothSet j x y
    there e =
        let one : min (digit j x) (digit j y) ≡ 1 = sym (digit_and j x y) ∙ e in
        (omega (arith, digit-le j x), omega (arith, digit-le j y))

-- two numbers share a bit
pub has-bit-exactly : (x y : ℕ) → (has_bit x y ≡ true) ↔ ((j : ℕ) × BothSet j x y)
unfolding has_bit
has-bit-exactly x y = (there, λ p. ap not (ne_eqb (bit_and x y) 0 (λ z. omega (arith, disjoint-digit x y z p.0, p.1.0, p.1.1))))
  where
    there : not (eqb (bit_and x y) 0) ≡ true → (j : ℕ) × BothSet j x y
    there e =
        let found = some-digit (bit_and x y) (eqb-false _ _ (not-true _ e)) in
        (found.0, (both-set found.0 x y).0 found.1)

-- ---- PM1

module _ (m : Machine) where
  among : (j : ℕ) → digit j 0x0721 ≡ 1 → BothSet j m.pm1_sts m.pm1_en → Pm1Pair m
  unfolding digit
  among zero e p = inl p
  among (suc zero) e p = absurd (omega arith)
  among (suc (suc zero)) e p = absurd (omega arith)
  among (suc (suc (suc zero))) e p = absurd (omega arith)
  among (suc (suc (suc (suc zero)))) e p = absurd (omega arith)
  among (suc (suc (suc (suc (suc zero))))) e p = inr (inl p)
  among (suc (suc (suc (suc (suc (suc zero)))))) e p = absurd (omega arith)
  among (suc (suc (suc (suc (suc (suc (suc zero))))))) e p = absurd (omega arith)
  among (suc (suc (suc (suc (suc (suc (suc (suc zero)))))))) e p = inr (inr (inl p))
  among (suc (suc (suc (suc (suc (suc (suc (suc (suc zero))))))))) e p = inr (inr (inr (inl p)))
  among (suc (suc (suc (suc (suc (suc (suc (suc (suc (suc zero)))))))))) e p = inr (inr (inr (inr p)))
  among (suc (suc (suc (suc (suc (suc (suc (suc (suc (suc (suc j))))))))))) e p = absurd (omega (arith, digit-zero j))

  pm1-found : pm1_event m ≡ true → Pm1Pair m
  pm1-found e =
      let found = (has-bit-exactly (bit_and m.pm1_sts m.pm1_en) 0x0721).0 e in
      among found.0 found.1.1 ((both-set found.0 _ _).0 found.1.0)

  pm1-by-bit : (j : ℕ) → digit j 0x0721 ≡ 1 → BothSet j m.pm1_sts m.pm1_en → pm1_event m ≡ true
  pm1-by-bit j e p = (has-bit-exactly (bit_and m.pm1_sts m.pm1_en) 0x0721).1 (j, ((both-set j _ _).1 p, e))

  pm1-set : Pm1Pair m → pm1_event m ≡ true
  unfolding digit
  pm1-set (inl p) = pm1-by-bit 0 refl p
  pm1-set (inr (inl p)) = pm1-by-bit 5 refl p
  pm1-set (inr (inr (inl p))) = pm1-by-bit 8 refl p
  pm1-set (inr (inr (inr (inl p)))) = pm1-by-bit 9 refl p
  pm1-set (inr (inr (inr (inr p)))) = pm1-by-bit 10 refl p

  pub pm1-exactly : (pm1_event m ≡ true) ↔ Pm1Pair m
  pm1-exactly = (pm1-found, pm1-set)

-- ---- tests joined

pub either : (t u : Bool) → (t || u) ≡ true → (t ≡ true) ⊎ (u ≡ true)
either true u e = inl refl
either false u e = inr e

pub or-first : (t u : Bool) → t ≡ true → (t || u) ≡ true
or-first t u e = rw e

pub or-second : (t u : Bool) → u ≡ true → (t || u) ≡ true
or-second t u e = rw (e, or-true t)

pub both : (t u : Bool) → t ≡ true → u ≡ true → (t && u) ≡ true
both t u p q = rw (p, q)

-- ---- general events

not-in-zero : (j : ℕ) → digit j 0 ≡ 1 → ⊥
not-in-zero j e = omega (arith, digit-zero j)

bytes-found : (ss es : List ℕ) → any_enabled ss es ≡ true → BytePair ss es
unfolding any_enabled
bytes-found [] es e = absurd (false≢true e)
bytes-found (s ∷ ss) [] e = absurd (false≢true e)
bytes-found (s ∷ ss) (e ∷ es) h = go (bytes-found ss es) (either (has_bit s e) (any_enabled ss es) h)
  where
    go : (any_enabled ss es ≡ true → BytePair ss es) → (has_bit s e ≡ true) ⊎ (any_enabled ss es ≡ true) → BytePair (s ∷ ss) (e ∷ es)
    go rest (inl p) = let found = (has-bit-exactly s e).0 p in (0, found.0, found.1)
    go rest (inr p) = let found = rest p in (suc found.0, found.1, found.2)

byte-set : (ss es : List ℕ) (i j : ℕ) → BothSet j (get_or ss i 0) (get_or es i 0) → any_enabled ss es ≡ true
unfolding any_enabled
byte-set [] es i j p = absurd (not-in-zero j p.0)
byte-set (s ∷ ss) [] i j p = absurd (not-in-zero j p.1)
byte-set (s ∷ ss) (e ∷ es) zero j p = or-first (has_bit s e) (any_enabled ss es) ((has-bit-exactly s e).1 (j, p))
byte-set (s ∷ ss) (e ∷ es) (suc i) j p = or-second (has_bit s e) (any_enabled ss es) (byte-set ss es i j p)

pub bytes-exactly : (ss es : List ℕ) → (any_enabled ss es ≡ true) ↔ BytePair ss es
bytes-exactly ss es = (bytes-found ss es, λ p. byte-set ss es p.0 p.1 p.2)

module _ (m : Machine) where
  gpe-found : gpe_event m ≡ true → GpePair m
  gpe-found e = go (either _ _ e)
    where
      go : (any_enabled m.gpe0_sts m.gpe0_en ≡ true) ⊎ (any_enabled m.gpe1_sts m.gpe1_en ≡ true) → GpePair m
      go (inl p) = (false, bytes-found m.gpe0_sts m.gpe0_en p)
      go (inr p) = (true, bytes-found m.gpe1_sts m.gpe1_en p)

  gpe-set : (b : Bool) → BytePair (gpe_sts m b) (gpe_en m b) → gpe_event m ≡ true
  gpe-set false p = or-first _ _ ((bytes-exactly m.gpe0_sts m.gpe0_en).1 p)
  gpe-set true p = or-second (any_enabled m.gpe0_sts m.gpe0_en) _ ((bytes-exactly m.gpe1_sts m.gpe1_en).1 p)

  pub gpe-exactly : (gpe_event m ≡ true) ↔ GpePair m
  gpe-exactly = (gpe-found, λ p. gpe-set p.0 p.1)

-- ---- the lines

module _ (m : Machine) (stored : WalkStored m) where
  pub stored-exactly : (m.gpe_pending ≡ true) ↔ GpePair m
  stored-exactly = (λ e. (gpe-exactly m).0 (sym stored ∙ e), λ p. stored ∙ (gpe-exactly m).1 p)

  event-found : event_output m ≡ true → EventPair m
  event-found e = ⊎_map (pm1-found m) stored-exactly.0 (either _ _ e)

  event-set : EventPair m → event_output m ≡ true
  event-set (inl p) = or-first _ _ (pm1-set m p)
  event-set (inr p) = or-second (pm1_event m) _ (stored-exactly.1 p)

  pub event-exactly : (event_output m ≡ true) ↔ EventPair m
  event-exactly = (event-found, event-set)

  -- SCI is up exactly in S0, with SCI_EN and an event
  pub sci-exactly : (sci_of m ≡ true) ↔ ((m.state ≡ 0) × (m.sci_en ≡ true) × EventPair m)
  unfolding sci_of
  sci-exactly = (there, λ p. both _ _ ((awake-exactly m).1 p.0) (both _ _ p.1 (event-set p.2)))
    where
      there : (awake m && (m.sci_en && event_output m)) ≡ true → (m.state ≡ 0) × (m.sci_en ≡ true) × EventPair m
      there e =
          let more = and_right (awake m) _ e in
          ((awake-exactly m).0 (and_left (awake m) _ e), and_left _ _ more, event-found (and_right m.sci_en _ more))

  -- what raises SMI in S0: an event with SCI_EN clear, a command waiting, or the release flag
  abbrev pub SmiCause : Type 0
  SmiCause = ((m.sci_en ≡ false) × EventPair m) ⊎ (m.command_waits ≡ true) ⊎ (m.gbl_rls ≡ true)

  smi-found : ((not m.sci_en && event_output m) || m.command_waits || m.gbl_rls) ≡ true → SmiCause
  smi-found e = go (either _ _ e)
    where
      first : (not m.sci_en && event_output m) ≡ true → (m.sci_en ≡ false) × EventPair m
      first p = (not-true _ (and_left _ _ p), event-found (and_right (not m.sci_en) _ p))

      second : ((not m.sci_en && event_output m) ≡ true) ⊎ (m.command_waits ≡ true) → SmiCause
      second (inl p) = inl (first p)
      second (inr p) = inr (inl p)

      go : (((not m.sci_en && event_output m) || m.command_waits) ≡ true) ⊎ (m.gbl_rls ≡ true) → SmiCause
      go (inl p) = second (either _ _ p)
      go (inr p) = inr (inr p)

  smi-set : SmiCause → ((not m.sci_en && event_output m) || m.command_waits || m.gbl_rls) ≡ true
  smi-set (inl p) = or-first _ _ (or-first _ _ (both _ _ (ap not p.0) (event-set p.1)))
  smi-set (inr (inl p)) = or-first _ _ (or-second (not m.sci_en && event_output m) _ p)
  smi-set (inr (inr p)) = or-second ((not m.sci_en && event_output m) || m.command_waits) _ p

  pub smi-exactly : (smi_of m ≡ true) ↔ ((m.state ≡ 0) × SmiCause)
  unfolding smi_of
  smi-exactly = (
    λ e. ((awake-exactly m).0 (and_left (awake m) _ e), smi-found (and_right (awake m) _ e)),
    λ p. both _ _ ((awake-exactly m).1 p.0) (smi-set p.1),
  )

-- "Outside S0 both are down."
pub lines-down-asleep : (m : Machine) → (m.state ≡ 0 → ⊥) → (sci_of m ≡ false) × (smi_of m ≡ false)
unfolding sci_of smi_of
lines-down-asleep m n = let down = (asleep-exactly m).1 n in (rw down, rw down)
