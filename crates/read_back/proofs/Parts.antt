-- What a legal machine's text says is what was written into it: its values, by `Fits.antt`, and its general event bytes, each record's after the one
-- before it.
-- Assumes nothing.
use mathlib.Core.Bool.{Bool, true, false}
use mathlib.Core.List.{List, [], ◌∷◌, ◌++◌, append_assoc, append-nil}
use mathlib.Core.Path.{◌≡◌, refl, sym, ◌∙◌, ap}
use Prim.Native.Nat.{ℕ, zero, suc, ◌+◌, ◌-◌, ◌*◌, ◌/◌, ◌^◌, ◌≤◌, ◌<◌}
use Prim.Native.String.{String}
use native.Mathlib.Omega.{arith}
use lib.ListN.{length, get_or, take, drop, replicate, length-append, length-drop}
use lib.Seq.{drop_at, drop-drop, get_or-drop, length-take-le}
use Rattle.lists.proofs.Tests.{and_left, and_right}
use Rattle.text.specs.Parts.{tab, lf}
use Rattle.records.specs.Ascii.{ascii}
use Rattle.records.specs.Rows.{rows}
use Rattle.records.specs.Records.{records_length, records_text, values_in}
use Rattle.records.specs.Bytes.{bytes_text, bytes_in, AllBytes}
use Rattle.records.proofs.ReadBack.{records-read-back, records-rest}
use Rattle.records.proofs.ByteLaws.{bytes-length, bytes-read-back}
use Rattle.platform.specs.Blocks.{present}
use Rattle.platform.specs.Legal.{HasGpeLength, HasNone, Guaranteed}
use Rattle.platform.specs.declared.block.Block.{Block}
use Rattle.platform.proofs.Legal.{legal-guaranteed}
use Rattle.machine.specs.declared.Machine.{Machine}
use Rattle.model.specs.Legal.{bytes_legal, gpe_legal, legal}
use Rattle.model.proofs.Bytes.{Bytes, bytes-mean}
use Rattle.model.proofs.Legal.{Legal, legal-means}
use Rattle.values.specs.Values.{values_of}
use Rattle.saved.specs.Text.{newest, parts, own_bytes, own0, own1, edition_line, bytes_record, gpe_text, records_at, gpe_at, parts_of, saved_text}
use Rattle.saved.specs.Reading.{values_read, bytes_read, past_bytes, parts_from, parts_in}
use Rattle.read_back.proofs.Fits.{all_fit}

-- ---- general event bytes

all-bytes : (xs : List ℕ) → ((i : ℕ) → get_or xs i 0 < 2 ^ 8) → AllBytes xs
unfolding AllBytes
all-bytes [] h = tt
all-bytes (x ∷ xs) h = (h 0, all-bytes xs (λ i. h (suc i)))

first-bytes : (n : ℕ) (xs : List ℕ) → AllBytes xs → AllBytes (take n xs)
unfolding AllBytes
first-bytes zero xs b = tt
first-bytes (suc n) [] b = tt
first-bytes (suc n) (x ∷ xs) b = (b.0, first-bytes n xs b.1)

all-zero : (xs : List ℕ) → ((i : ℕ) → get_or xs i 0 ≡ 0) → xs ≡ replicate (length xs) 0
all-zero [] h = refl
all-zero (x ∷ xs) h = rw (h 0, ← all-zero xs (λ i. h (suc i))) refl

-- a record of bytes, and what comes after it
module _ (name : String) (own : ℕ) (bytes rest : List ℕ) (short : own ≤ 8) (b : Bytes own bytes) where
  long : length (bytes_text (take own bytes)) ≡ own * 2
  long = bytes-length (take own bytes) ∙ ap (λ (n : ℕ). n * 2) (length-take-le own bytes (omega (arith, b.size)))

  past-name : drop (length (ascii name) + 1) (bytes_record name own bytes ++ rest) ≡ bytes_text (take own bytes) ++ (lf ∷ rest)
  past-name =
      ap (drop (length (ascii name) + 1)) (joined ∙ sym (append_assoc (ascii name) (tab ∷ []) (bytes_text (take own bytes) ++ (lf ∷ rest))))
      ∙ drop_at (ascii name ++ (tab ∷ [])) (bytes_text (take own bytes) ++ (lf ∷ rest)) (length (ascii name) + 1) (length-append (ascii name) (tab ∷ []))
    where
      joined : bytes_record name own bytes ++ rest ≡ ascii name ++ (tab ∷ (bytes_text (take own bytes) ++ (lf ∷ rest)))
      joined =
          append_assoc (ascii name) (tab ∷ (bytes_text (take own bytes) ++ (lf ∷ []))) rest
          ∙ ap (λ (l : List ℕ). ascii name ++ (tab ∷ l)) (append_assoc (bytes_text (take own bytes)) (lf ∷ []) rest)

  record-bytes : bytes_read name own (bytes_record name own bytes ++ rest) ≡ bytes
  record-bytes =
      let zeros : drop own bytes ≡ replicate (length bytes - own) 0 =
      rw (← length-drop own bytes) (all-zero (drop own bytes) (λ i. get_or-drop own bytes i 0 ∙ b.past (own + i) (omega arith))) in
      ap (bytes_in 8 own) past-name
      ∙ rw (← b.size) (bytes-read-back bytes (lf ∷ rest) own (omega (arith, b.size)) (first-bytes own bytes (all-bytes bytes b.below)) zeros)

  record-past : past_bytes name own (bytes_record name own bytes ++ rest) ≡ rest
  record-past =
      drop_at (bytes_record name own bytes) rest (length (ascii name) + 1 + own * 2 + 1)
      (omega (arith, long, length-append (ascii name) (tab ∷ (bytes_text (take own bytes) ++ (lf ∷ []))), length-append (bytes_text (take own bytes)) (lf ∷ [])))

-- a GPE block's own bytes, all of which the text has
own-bytes : (b : Block) → HasGpeLength b → HasNone b → (own_bytes b.length ≡ b.length / 2) × (b.length / 2 ≤ 8)
own-bytes b has none = go (present b) refl
  where
    go : (t : Bool) → present b ≡ t → (own_bytes b.length ≡ b.length / 2) × (b.length / 2 ≤ 8)
    go true p = let most = (has p).2 in (omega (arith, most), omega (arith, most))
    go false p = let zero = none p in (omega (arith, zero), omega (arith, zero))

-- the four records, one after the other
module _ (own own' : ℕ) (s e s' e' : List ℕ) (h : own ≤ 8) (h' : own' ≤ 8) (a : Bytes own s) (b : Bytes own e) (c : Bytes own' s') (d : Bytes own' e') where
  abbrev fourth : List ℕ
  fourth = bytes_record "GPE1_EN" own' e'

  abbrev third : List ℕ
  third = bytes_record "GPE1_STS" own' s' ++ fourth

  abbrev second : List ℕ
  second = bytes_record "GPE0_EN" own e ++ third

  abbrev first : List ℕ
  first = bytes_record "GPE0_STS" own s ++ second

  past₁ : past_bytes "GPE0_STS" own first ≡ second
  past₁ = record-past "GPE0_STS" own s second h a

  past₂ : past_bytes "GPE0_EN" own (past_bytes "GPE0_STS" own first) ≡ third
  past₂ = ap (past_bytes "GPE0_EN" own) past₁ ∙ record-past "GPE0_EN" own e third h b

  past₃ : past_bytes "GPE1_STS" own' (past_bytes "GPE0_EN" own (past_bytes "GPE0_STS" own first)) ≡ fourth
  past₃ = ap (past_bytes "GPE1_STS" own') past₂ ∙ record-past "GPE1_STS" own' s' fourth h' c

  pub gpe-back : (vs : List ℕ) → own ≡ own0 vs → own' ≡ own1 vs → parts_from vs (gpe_text own own' s e s' e') ≡ parts vs s e s' e'
  gpe-back vs o o' =
      rw (← o, ← o')
      (ap (λ (l : List ℕ). parts vs l (bytes_read "GPE0_EN" own (past_bytes "GPE0_STS" own first)) (bytes_read "GPE1_STS" own' (past_bytes "GPE0_EN" own (past_bytes "GPE0_STS" own first))) (bytes_read "GPE1_EN" own' (past_bytes "GPE1_STS" own' (past_bytes "GPE0_EN" own (past_bytes "GPE0_STS" own first)))))
      (record-bytes "GPE0_STS" own s second h a)
      ∙ ap (λ (l : List ℕ). parts vs s l (bytes_read "GPE1_STS" own' (past_bytes "GPE0_EN" own (past_bytes "GPE0_STS" own first))) (bytes_read "GPE1_EN" own' (past_bytes "GPE1_STS" own' (past_bytes "GPE0_EN" own (past_bytes "GPE0_STS" own first)))))
      (ap (bytes_read "GPE0_EN" own) past₁ ∙ record-bytes "GPE0_EN" own e third h b)
      ∙ ap (λ (l : List ℕ). parts vs s e l (bytes_read "GPE1_EN" own' (past_bytes "GPE1_STS" own' (past_bytes "GPE0_EN" own (past_bytes "GPE0_STS" own first)))))
      (ap (bytes_read "GPE1_STS" own') past₂ ∙ record-bytes "GPE1_STS" own' s' fourth h' c)
      ∙ ap (λ (l : List ℕ). parts vs s e s' l)
      (ap (bytes_read "GPE1_EN" own') (past₃ ∙ sym (append-nil fourth)) ∙ record-bytes "GPE1_EN" own' e' [] h' d))

-- ---- the whole text

-- past a line and its LF
pub past-line : (line rest : List ℕ) → drop (length line + 1) (line ++ (lf ∷ rest)) ≡ rest
past-line line rest =
    ap (drop (length line + 1)) (sym (append_assoc line (lf ∷ []) rest))
    ∙ drop_at (line ++ (lf ∷ [])) rest (length line + 1) (length-append line (lf ∷ []))

module _ (m : Machine) (e : legal m ≡ true) where
  l : Legal m
  l = legal-means m e

  g : Guaranteed m.settings
  g = legal-guaranteed m.settings l.settings

  abbrev gpe : List ℕ
  gpe = gpe_text (own0 (values_of m)) (own1 (values_of m)) m.gpe0_sts m.gpe0_en m.gpe1_sts m.gpe1_en

  values-back : values_read newest (saved_text m) ≡ values_of m
  unfolding saved_text
  values-back =
      ap (values_in newest rows) (past-line (edition_line newest) (records_text newest rows (values_of m) ++ gpe))
      ∙ records-read-back newest (values_of m) gpe refl (all_fit m e)

  gpe-there : drop (gpe_at newest) (saved_text m) ≡ gpe
  unfolding saved_text
  gpe-there =
      sym (drop-drop (records_length newest rows) (records_at newest) (saved_text m))
      ∙ ap (drop (records_length newest rows)) (past-line (edition_line newest) (records_text newest rows (values_of m) ++ gpe))
      ∙ records-rest newest (values_of m) gpe

  pub parts-back : parts_in newest (saved_text m) ≡ parts_of m
  unfolding gpe_legal
  parts-back =
      let (o, short) = own-bytes m.settings.gpe0 g.gpe0_length g.gpe0_none in
      let (o', short') = own-bytes m.settings.gpe1 g.gpe1_length g.gpe1_none in
      let half = m.settings.gpe0.length / 2 in
      let half' = m.settings.gpe1.length / 2 in
      rw (values-back, gpe-there)
      (gpe-back (own0 (values_of m)) (own1 (values_of m)) m.gpe0_sts m.gpe0_en m.gpe1_sts m.gpe1_en (rw o short) (rw o' short')
      (rw o (bytes-mean half m.gpe0_sts (and_left (bytes_legal half m.gpe0_sts) (bytes_legal half m.gpe0_en) l.gpe0)))
      (rw o (bytes-mean half m.gpe0_en (and_right (bytes_legal half m.gpe0_sts) (bytes_legal half m.gpe0_en) l.gpe0)))
      (rw o' (bytes-mean half' m.gpe1_sts (and_left (bytes_legal half' m.gpe1_sts) (bytes_legal half' m.gpe1_en) l.gpe1)))
      (rw o' (bytes-mean half' m.gpe1_en (and_right (bytes_legal half' m.gpe1_sts) (bytes_legal half' m.gpe1_en) l.gpe1)))
      (values_of m) refl refl)
