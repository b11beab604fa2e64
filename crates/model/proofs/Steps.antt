-- Every step from every machine: what a refusal leaves, which number is given, and that a read changes nothing.
-- The numbers of a step's lines rise, so the first line that applies has the lowest number that does.
-- Assumes nothing.
use Prim.Native.Nat.{ℕ, ◌≤◌, ◌<◌}
use mathlib.Core.Path.{◌≡◌, refl, sym, ◌∙◌, ap}
use mathlib.Core.Logic.{◌↔◌, ◌⊎◌, inl, inr}
use mathlib.Core.Bool.{Bool, true, false, cond, ◌&&◌, and-false, false≢true}
use mathlib.Core.List.{List, [], ◌∷◌}
use native.Mathlib.Omega.{arith}
use borrow.Author.Tests.{eqb-true, eqb-false, eq-eqb, ne_eqb, ltb-true}
use lib.Dec.{eqb, ltb, lit≤}
use Rattle.lists.specs.Any.{any}
use Rattle.lists.proofs.Tests.{and_left, and_right}
use Rattle.bits.proofs.Digits.{below-or-beyond}
use Rattle.machine.specs.declared.Machine.{Machine}
use Rattle.model.specs.Answer.{step_number, step_value, Refusal, first_applying}
use Rattle.model.specs.Events.{StatusBit, event_bit}
use Rattle.model.specs.EventKinds.{EventKind, event_kind}
use Rattle.model.specs.EventKinds as kind
use Rattle.model.specs.Step.{refusals_by, refusals_of, done_value, done_of, answer_to, accepted, after, step_of}
use Rattle.model.specs.declared.Access.{Access}
use Rattle.model.specs.declared.Answer.{Answer}
use Rattle.model.specs.declared.Answer.TheVariants as answer
use Rattle.model.specs.declared.Step.{Step}
use Rattle.model.specs.declared.Step.TheVariants as step
use Rattle.model.proofs.Ticks.{cond_same}

-- ---- answers

-- 0, or 20 to 31
pub number-among : (a : Answer) → (step_number a ≡ 0) ⊎ ((20 ≤ step_number a) × (step_number a ≤ 31))
number-among (answer.Done v) = inl refl
number-among answer.Asleep = inr (lit≤ tt, lit≤ tt)
number-among answer.WrongWidth = inr (lit≤ tt, lit≤ tt)
number-among answer.DataTooWide = inr (lit≤ tt, lit≤ tt)
number-among answer.NoBlock = inr (lit≤ tt, lit≤ tt)
number-among answer.NotAllowed = inr (lit≤ tt, lit≤ tt)
number-among answer.TimerWritten = inr (lit≤ tt, lit≤ tt)
number-among answer.CommandWaits = inr (lit≤ tt, lit≤ tt)
number-among answer.NoSleepState = inr (lit≤ tt, lit≤ tt)
number-among answer.NotFitted = inr (lit≤ tt, lit≤ tt)
number-among answer.NoSuchEvent = inr (lit≤ tt, lit≤ tt)
number-among answer.AlreadySo = inr (lit≤ tt, lit≤ tt)
number-among answer.NoCommand = inr (lit≤ tt, lit≤ tt)

-- a refusal's value is zero
refusal-value : (a : Answer) → accepted a ≡ false → step_value a ≡ 0
refusal-value (answer.Done v) e = cc
refusal-value answer.Asleep e = refl
refusal-value answer.WrongWidth e = refl
refusal-value answer.DataTooWide e = refl
refusal-value answer.NoBlock e = refl
refusal-value answer.NotAllowed e = refl
refusal-value answer.TimerWritten e = refl
refusal-value answer.CommandWaits e = refl
refusal-value answer.NoSleepState e = refl
refusal-value answer.NotFitted e = refl
refusal-value answer.NoSuchEvent e = refl
refusal-value answer.AlreadySo e = refl
refusal-value answer.NoCommand e = refl

module _ (m : Machine) (s : Step) where
  -- a refusal leaves the machine as it was
  pub refused-stays : accepted (answer_to m s) ≡ false → after m s ≡ m
  unfolding after
  refused-stays e = rw e

  pub accepted-does : accepted (answer_to m s) ≡ true → after m s ≡ done_of m s
  unfolding after
  accepted-does e = rw e

  pub refused-value : accepted (answer_to m s) ≡ false → step_value (answer_to m s) ≡ 0
  refused-value e = refusal-value (answer_to m s) e

  pub answer-number : (step_number (answer_to m s) ≡ 0) ⊎ ((20 ≤ step_number (answer_to m s)) × (step_number (answer_to m s) ≤ 31))
  answer-number = number-among (answer_to m s)

-- ---- the first line that applies

-- the line has the number, and applies
abbrev pub applies_as : ℕ → Refusal → Bool
applies_as k l = eqb (step_number l.answer) k && l.applies

-- a line of number k applies
abbrev pub row_applies : ℕ → List Refusal → Bool
row_applies k ls = any (applies_as k) ls

-- each number is above the one before it, the first above b
abbrev pub rising : ℕ → List Refusal → Bool
rising b [] = true
rising b (l ∷ ls) = ltb b (step_number l.answer) && rising (step_number l.answer) ls

no-row-below : (ls : List Refusal) (b k : ℕ) → rising b ls ≡ true → k ≤ b → row_applies k ls ≡ false
unfolding any
no-row-below [] b k r h = refl
no-row-below (l ∷ ls) b k r h =
    let above : b < step_number l.answer = ltb-true b _ (and_left _ _ r) in
    rw (ne_eqb (step_number l.answer) k (λ e. omega arith))
    (no-row-below ls (step_number l.answer) k (and_right (ltb b (step_number l.answer)) _ r) (omega arith))

-- a line that does not apply may be left out
row-skipped : (l : Refusal) (ls : List Refusal) (k : ℕ) → l.applies ≡ false → row_applies k (l ∷ ls) ≡ row_applies k ls
unfolding any
row-skipped l ls k e = rw (e, and-false (eqb (step_number l.answer) k))

own_row : (l : Refusal) (ls : List Refusal) → l.applies ≡ true → row_applies (step_number l.answer) (l ∷ ls) ≡ true
unfolding any
own_row l ls e = rw (e, eq-eqb (step_number l.answer) (step_number l.answer) refl)

other_row : (l : Refusal) (ls : List Refusal) (k : ℕ) → (step_number l.answer ≡ k → ⊥) → row_applies k (l ∷ ls) ≡ row_applies k ls
unfolding any
other_row l ls k n = rw (ne_eqb (step_number l.answer) k n)

-- row k applies and no lower one does
abbrev pub LowestRow : ℕ → List Refusal → Type 0
LowestRow k ls = (row_applies k ls ≡ true) × ((j : ℕ) → j < k → row_applies j ls ≡ false)

-- a first line that applies has the lowest number: no lower row applies, and none further on is as low
first-is-lowest : (l : Refusal) (ls : List Refusal) (k : ℕ) → rising (step_number l.answer) ls ≡ true → l.applies ≡ true → LowestRow k (l ∷ ls)
    → step_number l.answer ≡ k
first-is-lowest l ls k more p low = go (eqb (step_number l.answer) k) refl
  where
    go : (t : Bool) → eqb (step_number l.answer) k ≡ t → step_number l.answer ≡ k
    go true q = eqb-true _ _ q
    go false q =
        absurd
        (below-or-beyond (step_number l.answer) k
        (λ h. false≢true (sym (low.1 (step_number l.answer) h) ∙ own_row l ls p))
        (λ h. false≢true (sym (other_row l ls k (eqb-false _ _ q) ∙ no-row-below ls (step_number l.answer) k more h) ∙ low.0)))

module _ (last : Answer) where
  given-lowest : step_number last ≡ 0 → (ls : List Refusal) (b k : ℕ) → rising b ls ≡ true → 0 < k → step_number (first_applying ls last) ≡ k → LowestRow k ls
  unfolding first_applying
  given-lowest done [] b k r h e = absurd (omega arith)
  given-lowest done (l ∷ ls) b k r h e =
      let more = and_right (ltb b (step_number l.answer)) _ r in
      go more (given-lowest done ls (step_number l.answer) k more h) l.applies refl
    where
      go : rising (step_number l.answer) ls ≡ true → (step_number (first_applying ls last) ≡ k → LowestRow k ls)
          → (t : Bool) → l.applies ≡ t → LowestRow k (l ∷ ls)
      go more rest true p =
          let same : step_number l.answer ≡ k = rw p at e in
          (rw (← same) (own_row l ls p), λ j i. other_row l ls j (λ q. omega arith) ∙ no-row-below ls (step_number l.answer) j more (omega arith))
      go more rest false p =
          let lower = rest (rw p at e) in
          (row-skipped l ls k p ∙ lower.0, λ j i. row-skipped l ls j p ∙ lower.1 j i)

  lowest-given : (ls : List Refusal) (b k : ℕ) → rising b ls ≡ true → LowestRow k ls → step_number (first_applying ls last) ≡ k
  unfolding first_applying any
  lowest-given [] b k r low = absurd (false≢true low.0)
  lowest-given (l ∷ ls) b k r low =
      let more = and_right (ltb b (step_number l.answer)) _ r in
      go more (lowest-given ls (step_number l.answer) k more) l.applies refl
    where
      go : rising (step_number l.answer) ls ≡ true → (LowestRow k ls → step_number (first_applying ls last) ≡ k)
          → (t : Bool) → l.applies ≡ t → step_number (cond t l.answer (first_applying ls last)) ≡ k
      go more rest true p = first-is-lowest l ls k more p low
      go more rest false p = rest (sym (row-skipped l ls k p) ∙ low.0, λ j i. sym (row-skipped l ls j p) ∙ low.1 j i)

  accepted-none : (ls : List Refusal) (b : ℕ) → rising b ls ≡ true → step_number (first_applying ls last) ≡ 0
      → (first_applying ls last ≡ last) × ((k : ℕ) → row_applies k ls ≡ false)
  unfolding first_applying any
  accepted-none [] b r e = (refl, λ k. refl)
  accepted-none (l ∷ ls) b r e =
      go (accepted-none ls (step_number l.answer) (and_right (ltb b (step_number l.answer)) _ r)) l.applies refl
    where
      go : (step_number (first_applying ls last) ≡ 0 → (first_applying ls last ≡ last) × ((k : ℕ) → row_applies k ls ≡ false))
          → (t : Bool) → l.applies ≡ t → (cond t l.answer (first_applying ls last) ≡ last) × ((k : ℕ) → row_applies k (l ∷ ls) ≡ false)
      go rest true p =
          let above : b < step_number l.answer = ltb-true b _ (and_left _ _ r) in
          let same : step_number l.answer ≡ 0 = rw p at e in
          absurd (omega arith)
      go rest false p =
          let none = rest (rw p at e) in
          (none.0, λ k. row-skipped l ls k p ∙ none.1 k)

-- which refusal is given does not depend on the value
value-apart : (v w : ℕ) (ls : List Refusal) (b : ℕ) → rising b ls ≡ true
    → first_applying ls (answer.Done w) ≡ cond (accepted (first_applying ls (answer.Done v))) (answer.Done w) (first_applying ls (answer.Done v))
unfolding first_applying
value-apart v w [] b r = refl
value-apart v w (l ∷ ls) b r =
    go l.applies (value-apart v w ls (step_number l.answer) (and_right (ltb b (step_number l.answer)) _ r))
  where
    go : (t : Bool)
        → first_applying ls (answer.Done w) ≡ cond (accepted (first_applying ls (answer.Done v))) (answer.Done w) (first_applying ls (answer.Done v))
        → cond t l.answer (first_applying ls (answer.Done w))
        ≡ cond (accepted (cond t l.answer (first_applying ls (answer.Done v)))) (answer.Done w) (cond t l.answer (first_applying ls (answer.Done v)))
    go true rest = rw (ne_eqb (step_number l.answer) 0 (λ e. omega (arith, ltb-true b _ (and_left _ _ r))))
    go false rest = rest

-- ---- which number is given

events-rise : (m : Machine) (bit : StatusBit) (k : EventKind) → rising 0 (refusals_by m bit k) ≡ true
events-rise m bit kind.press = refl
events-rise m bit kind.release = refl
events-rise m bit kind.signal = refl
events-rise m bit (kind.pin active) = refl
events-rise m bit kind.notice = refl
events-rise m bit (kind.general k) = refl
events-rise m bit (kind.ticks n) = refl

-- the lines stand in the order of their numbers
pub lines-rise : (m : Machine) (s : Step) → rising 0 (refusals_of m s) ≡ true
lines-rise m (step.Read a) = refl
lines-rise m (step.Write a written) = refl
lines-rise m (step.Event e) = events-rise m (event_bit e) (event_kind e)
lines-rise m step.Take = refl
lines-rise m step.Drop = refl

module _ (m : Machine) (s : Step) where
  -- "The lowest number that applies is given"
  pub number-exactly : (k : ℕ) → 0 < k → (step_number (answer_to m s) ≡ k) ↔ LowestRow k (refusals_of m s)
  unfolding answer_to
  number-exactly k h =
      let last = answer.Done (done_value m s) in
      (given-lowest last refl (refusals_of m s) 0 k (lines-rise m s) h, lowest-given last (refusals_of m s) 0 k (lines-rise m s))

  none-accepted : ((k : ℕ) → row_applies k (refusals_of m s) ≡ false) → (t : Bool) → accepted (answer_to m s) ≡ t → step_number (answer_to m s) ≡ 0
  none-accepted none true e = eqb-true _ _ e
  none-accepted none false e =
      let n : step_number (answer_to m s) ≡ 0 → ⊥ = eqb-false _ _ e in
      absurd (false≢true (sym (none (step_number (answer_to m s))) ∙ ((number-exactly (step_number (answer_to m s)) (omega arith)).0 refl).0))

  -- "otherwise 0"
  pub zero-exactly : (step_number (answer_to m s) ≡ 0) ↔ ((k : ℕ) → row_applies k (refusals_of m s) ≡ false)
  unfolding answer_to
  zero-exactly =
      (λ e. (accepted-none (answer.Done (done_value m s)) (refusals_of m s) 0 (lines-rise m s) e).1, λ none. none-accepted none _ refl)

  -- an accepted step answers with its value
  pub accepted-answer : accepted (answer_to m s) ≡ true → answer_to m s ≡ answer.Done (done_value m s)
  unfolding answer_to
  accepted-answer e = (accepted-none (answer.Done (done_value m s)) (refusals_of m s) 0 (lines-rise m s) (eqb-true _ _ e)).0

  pub accepted-value : accepted (answer_to m s) ≡ true → step_value (answer_to m s) ≡ done_value m s
  accepted-value e = ap step_value (accepted-answer e)

-- the refusal that a step is given, else an acceptance without its value
abbrev pub refusal_to : Machine → Step → Answer
refusal_to m s = first_applying (refusals_of m s) (answer.Done 0)

-- the refusal alone, or what the step gives and does
pub stepped-unless-refused : (m : Machine) (s : Step)
    → step_of m s
    ≡ cond (accepted (refusal_to m s)) (record { answer = answer.Done (done_value m s); machine = done_of m s }) (record { answer = refusal_to m s; machine = m })
unfolding answer_to after
stepped-unless-refused m s =
    go (accepted (refusal_to m s)) refl (value-apart 0 (done_value m s) (refusals_of m s) 0 (lines-rise m s))
  where
    go : (t : Bool) → accepted (refusal_to m s) ≡ t → answer_to m s ≡ cond t (answer.Done (done_value m s)) (refusal_to m s)
        → step_of m s ≡ cond t (record { answer = answer.Done (done_value m s); machine = done_of m s }) (record { answer = refusal_to m s; machine = m })
    go true p e = rw e refl
    go false p e = rw (e, p) refl

-- ---- reads

pub reads-change-nothing : (m : Machine) (a : Access) → after m (step.Read a) ≡ m
unfolding after
reads-change-nothing m a = cond_same (accepted (answer_to m (step.Read a))) m
