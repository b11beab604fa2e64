-- A text written piece by piece is written whole: each piece at the place where the one before it ends. Assumes nothing.
use mathlib.Core.Bool.{Bool, cond}
use mathlib.Core.List.{List, [], ◌∷◌, ◌++◌, append_assoc}
use mathlib.Core.Path.{◌≡◌, refl, ◌∙◌, ap}
use Prim.Native.Nat.{ℕ, ◌+◌, ◌-◌, ◌^◌, ◌≤◌, ◌<◌}
use native.Mathlib.Omega.{arith}
use borrow.Author.Tests.{le-leb, lt-leb}
use lib.ListN.{length, length-append}
use lib.Seq.{sets}
use mir.Syntax.{w64}
use mir.Val.{Fits}
use Rattle.text.specs.Numbers.{digits, digit_count}
use Rattle.text.specs.Parts.{tab, lf}
use Rattle.text.proofs.Digits.{digits-length}
use Rattle.text.proofs.Stores.{two-writes}
use Rattle.listing.specs.Entry.{decimal, flag, state_digit, state_text, tail, fields, entry_of, text_of, entry, entry_length, put_at}
use Rattle.listing.specs.declared.Entry.{Entry}
use Rattle.machine.specs.declared.Machine.{Machine}
use Rattle.model.specs.Answer.{step_number}
use Rattle.model.specs.declared.Answer.{Answer}

-- digits, and a text after them
pub after-digits : (b width n : ℕ) (l : List ℕ) (at : ℕ) (ys first second : List ℕ) → first ≡ sets l at (digits b width n)
    → second ≡ sets first (at + width) ys → second ≡ sets l at (digits b width n ++ ys)
after-digits b width n l at ys first second e f = two-writes l at (at + width) (digits b width n) ys first second e (ap (λ (k : ℕ). at + k) (digits-length b width n)) f

-- a decimal number, in its fewest digits, and a tab
pub after-decimal : (n width : ℕ) (l : List ℕ) (at : ℕ) (first second : List ℕ) → width ≡ digit_count 10 n → first ≡ sets l at (digits 10 width n)
    → second ≡ sets first (at + width) (tab ∷ []) → second ≡ sets l at (decimal n ++ (tab ∷ []))
after-decimal n width l at first second w e f = rw w at (after-digits 10 width n l at (tab ∷ []) first second e f)

pub after-flag : (up : Bool) (n : ℕ) (l : List ℕ) (at : ℕ) (first second : List ℕ) → n ≡ cond up 1 0 → first ≡ sets l at (digits 10 1 n)
    → second ≡ sets first (at + 1) (tab ∷ []) → second ≡ sets l at (flag up ++ (tab ∷ []))
after-flag up n l at first second w e f = rw w at (after-digits 10 1 n l at (tab ∷ []) first second e f)

-- a piece with its tab, and what comes after
pub piece : (l : List ℕ) (at j : ℕ) (xs : List ℕ) (t : ℕ) (ys first second : List ℕ) → first ≡ sets l at (xs ++ (t ∷ [])) → at + (length xs + 1) ≡ j
    → second ≡ sets first j ys → second ≡ sets l at (xs ++ (t ∷ ys))
piece l at j xs t ys first second e p f =
    two-writes l at j (xs ++ (t ∷ [])) ys first second e (ap (λ (k : ℕ). at + k) (length-append xs (t ∷ [])) ∙ p) f
    ∙ ap (sets l at) (append_assoc xs (t ∷ []) ys)

-- a flag is one digit
flag-length : (up : Bool) → length (flag up) ≡ 1
flag-length up = digits-length 10 1 (cond up 1 0)

-- the state's three bytes
pub state-written : (l : List ℕ) (at state digit : ℕ) (first second third : List ℕ) → digit ≡ state_digit state → first ≡ sets l at (83 ∷ [])
    → second ≡ sets first (at + 1) (digit ∷ []) → third ≡ sets second (at + 2) (lf ∷ []) → third ≡ sets l at (state_text state ++ (lf ∷ []))
state-written l at state digit first second third d e f g =
    two-writes l at (at + 2) (state_text state) (lf ∷ []) second third
    (two-writes l at (at + 1) (83 ∷ []) (state_digit state ∷ []) first second e refl (f ∙ ap (λ (x : ℕ). sets first (at + 1) (x ∷ [])) d))
    refl g

pub tail_written : (l : List ℕ) (at value : ℕ) (sci smi : Bool) (state : ℕ) (first second third fourth : List ℕ)
    → first ≡ sets l at (digits 16 8 value ++ (tab ∷ []))
    → second ≡ sets first (at + 9) (flag sci ++ (tab ∷ []))
    → third ≡ sets second (at + 11) (flag smi ++ (tab ∷ []))
    → fourth ≡ sets third (at + 13) (state_text state ++ (lf ∷ []))
    → fourth ≡ sets l at (tail value sci smi state)
unfolding tail
tail_written l at value sci smi state first second third fourth e f g h =
    piece l at (at + 9) (digits 16 8 value) tab _ first fourth e (omega (arith, digits-length 16 8 value))
    (piece first (at + 9) (at + 11) (flag sci) tab _ second fourth f (omega (arith, flag-length sci))
    (piece second (at + 11) (at + 13) (flag smi) tab _ third fourth g (omega (arith, flag-length smi)) h))

-- the tail has 16 bytes
tail-length : (value : ℕ) (sci smi : Bool) (state : ℕ) → length (tail value sci smi state) ≡ 16
unfolding tail
tail-length value sci smi state = simp (length-append, digits-length)

pub entry_length_lem : (k : ℕ) (a : Answer) (m : Machine) → length (entry k a m) ≡ entry_length k a
unfolding fields
entry_length_lem k a m = simp (length-append, digits-length, tail-length) (omega arith)

pub fields-written : (l : List ℕ) (at second third k number value : ℕ) (sci smi : Bool) (state : ℕ) (b₁ b₂ b₃ : List ℕ)
    → second ≡ at + (digit_count 10 k + 1)
    → third ≡ second + (digit_count 10 number + 1)
    → b₁ ≡ sets l at (decimal k ++ (tab ∷ []))
    → b₂ ≡ sets b₁ second (decimal number ++ (tab ∷ []))
    → b₃ ≡ sets b₂ third (tail value sci smi state)
    → b₃ ≡ sets l at (fields k number value sci smi state)
unfolding fields
fields-written l at second third k number value sci smi state b₁ b₂ b₃ p q e f g =
    piece l at second (decimal k) tab _ b₁ b₃ e (omega (arith, p, digits-length 10 (digit_count 10 k) k))
    (piece b₁ second third (decimal number) tab _ b₂ b₃ f (omega (arith, q, digits-length 10 (digit_count 10 number) number)) g)

-- so two of them, and what comes after, are no wider than a place
pub sum_fits : (a b : ℕ) → a ≤ 20 → b ≤ 20 → Fits w64 (a + b)
sum_fits a b p q = record { fits = omega (arith, p, q) }

pub rest-fits : (a b : ℕ) → a ≤ 20 → b ≤ 20 → Fits w64 (a + b + 18)
rest-fits a b p q = record { fits = omega (arith, p, q) }

-- ---- a line that fits, and one that does not

module _ (k : ℕ) (a : Answer) (at : ℕ) where
  -- room for the line is room for its places
  pub room-suffices : (room number len : ℕ) → len ≡ entry_length k a → number ≡ step_number a → at ≤ room → len ≤ room - at → room < 2 ^ 64
      → at + (digit_count 10 k + digit_count 10 number + 18) < 2 ^ 64
  room-suffices room number len e n p q r = rw n (omega (arith, e, p, q, r))

  module _ (m : Machine) (l : List ℕ) (len : ℕ) (e : len ≡ entry_length k a) where
    pub put-there : (line : Entry) (exit : List ℕ) → at ≤ length l → len ≤ length l - at → line ≡ entry_of k a m
        → exit ≡ sets l at (text_of line) → exit ≡ put_at l at (entry k a m)
    put-there line exit p q s w =
        let fit : at + length (entry k a m) ≤ length l = omega (arith, e, entry_length_lem k a m, p, q) in
        rw (le-leb _ _ fit) (w ∙ ap (λ (x : Entry). sets l at (text_of x)) s)

    pub put-nowhere : at ≤ length l → length l - at < len → l ≡ put_at l at (entry k a m)
    put-nowhere p q = rw (lt-leb (at + length (entry k a m)) (length l) (omega (arith, e, entry_length_lem k a m, p, q))) refl

  pub put-past : (m : Machine) (l : List ℕ) → length l < at → l ≡ put_at l at (entry k a m)
  put-past m l p = rw (lt-leb (at + length (entry k a m)) (length l) (omega (arith, p))) refl
