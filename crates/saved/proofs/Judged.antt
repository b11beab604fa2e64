-- What the reader's steps come to. Assumes nothing.
use mathlib.Core.Bool.{Bool, true, false, cond}
use mathlib.Core.List.{List}
use mathlib.Core.Path.{◌≡◌, refl, sym, ◌∙◌, ap}
use Prim.Native.Nat.{ℕ, ◌+◌, ◌*◌}
use lib.Dec.{eqb}
use Rattle.std.specs.Prelude.{⊤, Result, Ok, Err}
use native.Mathlib.Omega.{arith}
use lib.ListN.{length, drop}
use lib.Seq.{drop-drop}
use Rattle.std.proofs.Common.{Ok}
use Rattle.machine.specs.declared.Machine.{Machine}
use Rattle.legality.specs.Legality.{legality_of}
use Rattle.values.specs.Agree.{agreeing}
use Rattle.values.specs.Values.{values_of}
use Rattle.values.proofs.Agreeing.{same-exactly}
use Rattle.records.specs.Ascii.{ascii}
use Rattle.records.specs.Rows.{row_count, rows}
use Rattle.records.specs.Records.{values_in}
use Rattle.records.specs.Bytes.{bytes_in}
use Rattle.saved.specs.declared.parts.Parts.{Parts}
use Rattle.saved.specs.Text.{parts, own0, own1, text_of, records_at, gpe_at}
use Rattle.saved.specs.Reading.{values_read, bytes_read, parts_in, machine_of, text_answer, legal_answer, is_done, first_refusal, read_as, read_parts}
use Rattle.saved.specs.declared.ReadBack.{ReadBack}
use Rattle.saved.specs.declared.ReadRefusal.{ReadRefusal}
use Rattle.saved.specs.declared.ReadRefusal.TheVariants as refusal

-- the answer on a legal machine, by the place of the first value that is not the machine's
pub legal-answer : (m : Machine) (vs : List ℕ) → length vs ≡ row_count → legality_of m ≡ Ok tt
    → (stray : ℕ) → stray ≡ agreeing (values_of m) vs → (r : Result ⊤ ReadRefusal) → r ≡ cond (eqb stray row_count) (Ok tt) (Err (refusal.Stray (stray + 2)))
    → r ≡ legal_answer m vs
legal-answer m vs long legal stray e r f =
    f ∙ rw (e, legal, same-exactly (values_of m) vs (sym long), long) refl

-- a text of an edition, whose parts are these: its answer, and the machine of its parts
module _ (edition : ℕ) (text : List ℕ) (p : Parts) (a : Result ⊤ ReadRefusal) (m : Machine) (r : ReadBack)
    (e : a ≡ text_answer text (text_of edition p)) (f : m ≡ machine_of p) where
  pub accepted-parts : (b : Result ⊤ ReadRefusal) → is_done a ≡ true → b ≡ legal_answer m p.values → r ≡ read_as b m → r ≡ read_parts edition text p
  accepted-parts b d g h = h ∙ rw (g, f, ← e, d) refl

  pub refused-parts : is_done a ≡ false → r ≡ read_as a m → r ≡ read_parts edition text p
  refused-parts d h =
      h
      ∙ ap (read_as a) f
      ∙ ap (λ (x : Result ⊤ ReadRefusal). read_as x (machine_of p)) (sym (ap (λ (t : Bool). cond t (legal_answer (machine_of p) p.values) a) d) ∙ ap (λ (x : Result ⊤ ReadRefusal). first_refusal x (legal_answer (machine_of p) p.values)) e)

-- the parts that a text has, each by its place
module _ (edition : ℕ) (text : List ℕ) (at₀ : ℕ) (vs : List ℕ) (own own' at : ℕ) (s e s' e' : List ℕ)
    (a : at₀ ≡ records_at edition) (v : vs ≡ values_in edition rows (drop at₀ text)) (h : own ≡ own0 vs) (h' : own' ≡ own1 vs) (b : at ≡ gpe_at edition)
    (p : s ≡ bytes_in 8 own (drop (at + 9) text))
    (q : e ≡ bytes_in 8 own (drop (at + (10 + own * 2) + 8) text))
    (p' : s' ≡ bytes_in 8 own' (drop (at + (10 + own * 2) + (9 + own * 2) + 9) text))
    (q' : e' ≡ bytes_in 8 own' (drop (at + (10 + own * 2) + (9 + own * 2) + (10 + own' * 2) + 8) text)) where
  -- one drop after another
  past₂ : (i j k : ℕ) → drop k (drop j (drop i text)) ≡ drop (i + (j + k)) text
  past₂ i j k = drop-drop k j (drop i text) ∙ drop-drop (j + k) i text

  past₃ : (i j k l : ℕ) → drop l (drop k (drop j (drop i text))) ≡ drop (i + (j + (k + l))) text
  past₃ i j k l = drop-drop l k (drop j (drop i text)) ∙ past₂ i j (k + l)

  past₄ : (i j k l n : ℕ) → drop n (drop l (drop k (drop j (drop i text)))) ≡ drop (i + (j + (k + (l + n)))) text
  past₄ i j k l n = drop-drop n l (drop k (drop j (drop i text))) ∙ past₃ i j k (l + n)

  bytes-at : (n n' i j : ℕ) (xs : List ℕ) → n ≡ n' → i ≡ j → xs ≡ drop j text → bytes_in 8 n (drop i text) ≡ bytes_in 8 n' xs
  bytes-at n n' i j xs f g x = rw (f, g, x) refl

  pub parts-found : parts vs s e s' e' ≡ parts_in edition text
  unfolding ascii
  parts-found =
      let vs' = values_read edition text in
      let same : vs ≡ vs' = v ∙ ap (λ (n : ℕ). values_in edition rows (drop n text)) a in
      let o : own ≡ own0 vs' = h ∙ ap own0 same in
      let o' : own' ≡ own1 vs' = h' ∙ ap own1 same in
      let n = 9 + own0 vs' * 2 + 1 in
      let n' = 8 + own0 vs' * 2 + 1 in
      let n'' = 9 + own1 vs' * 2 + 1 in
      let g = gpe_at edition in
      let e₁ = p ∙ bytes-at own (own0 vs') (at + 9) (g + 9) (drop 9 (drop g text)) o (omega (arith, b)) (drop-drop 9 g text) in
      let e₂ = q ∙ bytes-at own (own0 vs') (at + (10 + own * 2) + 8) (g + (n + 8)) (drop 8 (drop n (drop g text))) o (omega (arith, b, o)) (past₂ g n 8) in
      let e₃ = p' ∙ bytes-at own' (own1 vs') (at + (10 + own * 2) + (9 + own * 2) + 9) (g + (n + (n' + 9))) (drop 9 (drop n' (drop n (drop g text)))) o'
      (omega (arith, b, o)) (past₃ g n n' 9) in
      let e₄ = q' ∙ bytes-at own' (own1 vs') (at + (10 + own * 2) + (9 + own * 2) + (10 + own' * 2) + 8) (g + (n + (n' + (n'' + 8))))
      (drop 8 (drop n'' (drop n' (drop n (drop g text))))) o' (omega (arith, b, o, o')) (past₄ g n n' n'' 8) in
      ap (λ (l : List ℕ). parts l s e s' e') same
      ∙ ap (λ (l : List ℕ). parts vs' l e s' e') e₁
      ∙ ap (λ (l : List ℕ). parts vs' (bytes_read "GPE0_STS" (own0 vs') (drop (gpe_at edition) text)) l s' e') e₂
      ∙ ap (λ (l : List ℕ). parts vs' (parts_in edition text).gpe0_sts (parts_in edition text).gpe0_en l e') e₃
      ∙ ap (λ (l : List ℕ). parts vs' (parts_in edition text).gpe0_sts (parts_in edition text).gpe0_en (parts_in edition text).gpe1_sts l) e₄
