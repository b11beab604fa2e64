-- Writes one after the other make the text: each begins where the one before it ends.
use mathlib.Core.List.{List, [], ◌∷◌, ◌++◌, append_assoc}
use mathlib.Core.Path.{◌≡◌, refl, sym, ◌∙◌, ap}
use native.Mathlib.Omega.{arith}
use Prim.Native.String.{String}
use mathlib.Core.Bool.{Bool, true, false, cond}
use native.Mathlib.Nat.{min-le_right, le_trans}
use borrow.Author.Tests.{le-leb, lt-leb}
use lib.Dec.{leb, lit≤}
use Prim.Native.Nat.{ℕ, ◌+◌, ◌*◌, ◌/◌, ◌^◌, ◌≤◌, ◌<◌}
use lib.ListN.{length, take, length-append}
use lib.Seq.{sets, length-take-le}
use Rattle.text.specs.Parts.{tab, lf}
use Rattle.text.proofs.Stores.{sets-append, sets_then, sets-there}
use Rattle.records.specs.Bytes.{bytes_text}
use Rattle.text.specs.Numbers.{digits, digit_count}
use Rattle.text.proofs.Digits.{digits-length}
use Rattle.text.proofs.Fewest.{at-most-20}
use Rattle.records.specs.Ascii.{ascii}
use Rattle.records.specs.Records.{is_in, record_length, records_length, records_text}
use Rattle.records.specs.Rows.{Row, rows}
use Rattle.records.proofs.ReadBack.{records-length}
use Rattle.machine.specs.declared.Machine.{Machine}
use Rattle.saved.specs.declared.parts.Parts.{Parts}
use Rattle.saved.specs.Text.{newest, edition_line, own_bytes, own0, own1, gpe_text, text_of, records_at, gpe_at, parts_of, saved_text, write_answer, written_buffer}
use Rattle.std.specs.Prelude.{Ok, Err, get_or}
use Rattle.saved.specs.declared.WriteRefusal.TheVariants as refusal
use Rattle.records.proofs.ByteLaws.{bytes-length}

-- a record of general event bytes
pub bytes-written : (l l₁ l₂ l₃ name bytes : List ℕ) (at own : ℕ) → own ≤ length bytes
    → l₁ ≡ sets l at name
    → l₂ ≡ sets l₁ (at + length name) (bytes_text (take own bytes))
    → l₃ ≡ sets l₂ (at + length name + own * 2) (lf ∷ [])
    → l₃ ≡ sets l at (name ++ (bytes_text (take own bytes) ++ (lf ∷ [])))
bytes-written l l₁ l₂ l₃ name bytes at own h a b c =
    let long : length (bytes_text (take own bytes)) ≡ own * 2 = bytes-length (take own bytes) ∙ ap (λ n. n * 2) (length-take-le own bytes h) in
    c
    ∙ ap (λ x. sets x (at + length name + own * 2) (lf ∷ [])) (b ∙ ap (λ x. sets x (at + length name) (bytes_text (take own bytes))) a)
    ∙ sym (sets_then (sets l at name) (at + length name) (at + length name + own * 2) (bytes_text (take own bytes)) (lf ∷ []) (ap (λ n. at + length name + n) long))
    ∙ sym (sets-append l at name (bytes_text (take own bytes) ++ (lf ∷ [])))

-- four texts, each where the one before it ends
pub four-written : (l l₁ l₂ l₃ l₄ a b c d : List ℕ) (i j k n : ℕ) → i + length a ≡ j → j + length b ≡ k → k + length c ≡ n
    → l₁ ≡ sets l i a → l₂ ≡ sets l₁ j b → l₃ ≡ sets l₂ k c → l₄ ≡ sets l₃ n d
    → l₄ ≡ sets l i (a ++ (b ++ (c ++ d)))
four-written l l₁ l₂ l₃ l₄ a b c d i j k n p q r e₁ e₂ e₃ e₄ =
    e₄
    ∙ ap (λ x. sets x n d) (e₃ ∙ ap (λ x. sets x k c) (e₂ ∙ ap (λ x. sets x j b) e₁))
    ∙ sym (sets_then (sets (sets l i a) j b) k n c d r)
    ∙ sym (sets_then (sets l i a) j k b (c ++ d) q)
    ∙ sym (sets_then l i j a (b ++ (c ++ d)) p)

-- the length of a record of general event bytes
pub record-length : (name bytes : List ℕ) (own : ℕ) → own ≤ length bytes → length (name ++ (bytes_text (take own bytes) ++ (lf ∷ []))) ≡ length name + (own * 2 + 1)
record-length name bytes own h =
    length-append name (bytes_text (take own bytes) ++ (lf ∷ []))
    ∙ ap (λ n. length name + n)
    (length-append (bytes_text (take own bytes)) (lf ∷ []) ∙ ap (λ n. n + 1) (bytes-length (take own bytes) ∙ ap (λ n. n * 2) (length-take-le own bytes h)))

-- a name as it stands in a line, with its tab, and what the line is then
abbrev pub named : String → List ℕ
named name = ascii name ++ (tab ∷ [])

abbrev pub line_of : String → ℕ → List ℕ → List ℕ
line_of name own bytes = named name ++ (bytes_text (take own bytes) ++ (lf ∷ []))

-- the four records of general event bytes
pub gpe-written : (l l₁ l₂ l₃ l₄ s e s' e' : List ℕ) (at own own' : ℕ) → own ≤ length s → own ≤ length e → own' ≤ length s'
    → l₁ ≡ sets l at (line_of "GPE0_STS" own s)
    → l₂ ≡ sets l₁ (at + (10 + own * 2)) (line_of "GPE0_EN" own e)
    → l₃ ≡ sets l₂ (at + (10 + own * 2) + (9 + own * 2)) (line_of "GPE1_STS" own' s')
    → l₄ ≡ sets l₃ (at + (10 + own * 2) + (9 + own * 2) + (10 + own' * 2)) (line_of "GPE1_EN" own' e')
    → l₄ ≡ sets l at (gpe_text own own' s e s' e')
unfolding ascii
gpe-written l l₁ l₂ l₃ l₄ s e s' e' at own own' h i j a b c d =
    let x = record-length (named "GPE0_STS") s own h in
    let y = record-length (named "GPE0_EN") e own i in
    let z = record-length (named "GPE1_STS") s' own' j in
    four-written l l₁ l₂ l₃ l₄ (line_of "GPE0_STS" own s) (line_of "GPE0_EN" own e) (line_of "GPE1_STS" own' s') (line_of "GPE1_EN" own' e')
    at (at + (10 + own * 2)) (at + (10 + own * 2) + (9 + own * 2)) (at + (10 + own * 2) + (9 + own * 2) + (10 + own' * 2))
    (omega (arith, x)) (omega (arith, y)) (omega (arith, z)) a b c d

-- the first line, with its LF
pub edition-written : (l l₁ l₂ l₃ : List ℕ) (edition n : ℕ) → n ≡ digit_count 10 edition
    → l₁ ≡ sets l 0 (named "edition") → l₂ ≡ sets l₁ 8 (digits 10 n edition) → l₃ ≡ sets l₂ (8 + n) (lf ∷ [])
    → l₃ ≡ sets l 0 (edition_line edition ++ (lf ∷ []))
unfolding ascii
edition-written l l₁ l₂ l₃ edition n e a b c =
    c
    ∙ ap (λ x. sets x (8 + n) (lf ∷ [])) (b ∙ ap (λ x. sets x 8 (digits 10 n edition)) a)
    ∙ sym (sets_then (sets l 0 (named "edition")) 8 (8 + n) (digits 10 n edition) (lf ∷ []) (ap (λ k. 8 + k) (digits-length 10 n edition)))
    ∙ sym (sets_then l 0 8 (named "edition") (digits 10 n edition ++ (lf ∷ [])) refl)
    ∙ ap (λ k. sets l 0 (named "edition" ++ (digits 10 k edition ++ (lf ∷ [])))) e

-- the bytes of all the rows
unfoldable whole_length : List Row → ℕ
whole_length [] = 0
whole_length (r ∷ rs) = record_length r + whole_length rs

-- where the records begin
pub records-at : (edition : ℕ) → records_at edition ≡ 9 + digit_count 10 edition
unfolding ascii
records-at edition = omega (arith, digits-length 10 (digit_count 10 edition) edition)

-- the records of any edition, and so where the general event bytes begin, are well within a place
in-edition : (edition : ℕ) (rs : List Row) → records_length edition rs ≤ whole_length rs
unfolding records_length whole_length
in-edition edition [] = lit≤ tt
in-edition edition (r ∷ rs) = go (is_in edition r) (in-edition edition rs)
  where
    go : (t : Bool) → records_length edition rs ≤ whole_length rs → cond t (record_length r) 0 + records_length edition rs ≤ record_length r + whole_length rs
    go true h = omega arith
    go false h = omega arith

pub records-short : (edition : ℕ) → records_length edition rows ≤ 800
unfolding rows whole_length ascii
records-short edition = le_trans (in-edition edition rows) (lit≤ tt)

pub gpe-at-short : (edition : ℕ) → edition < 2 ^ 64 → gpe_at edition ≤ 829
gpe-at-short edition h = omega (arith, records-at edition, records-short edition, at-most-20 edition h)

-- the whole text
pub all-written : (l l₁ l₂ l₃ vs gpe : List ℕ) (edition at at' : ℕ) → at ≡ records_at edition → at' ≡ gpe_at edition
    → l₁ ≡ sets l 0 (edition_line edition ++ (lf ∷ []))
    → l₂ ≡ sets l₁ at (records_text edition rows vs)
    → l₃ ≡ sets l₂ at' gpe
    → l₃ ≡ sets l 0 (edition_line edition ++ (lf ∷ (records_text edition rows vs ++ gpe)))
all-written l l₁ l₂ l₃ vs gpe edition at at' p q a b c =
    let first = edition_line edition ++ (lf ∷ []) in
    c
    ∙ ap (λ x. sets x at' gpe) (b ∙ ap (λ x. sets x at (records_text edition rows vs)) a)
    ∙ rw (p, q) refl
    ∙ sym (sets_then (sets l 0 first) (records_at edition) (gpe_at edition) (records_text edition rows vs) gpe (ap (λ n. records_at edition + n) (records-length edition vs)))
    ∙ sym (sets_then l 0 (records_at edition) first (records_text edition rows vs ++ gpe) (omega (arith, length-append (edition_line edition) (lf ∷ []))))
    ∙ ap (sets l 0) (append_assoc (edition_line edition) (lf ∷ []) (records_text edition rows vs ++ gpe))

-- the length of the general event records, and of the whole text
pub gpe-length : (s e s' e' : List ℕ) (own own' : ℕ) → own ≤ length s → own ≤ length e → own' ≤ length s' → own' ≤ length e'
    → length (gpe_text own own' s e s' e') ≡ 38 + (own * 4 + own' * 4)
unfolding ascii
gpe-length s e s' e' own own' h i j k =
    let x = record-length (named "GPE0_STS") s own h in
    let y = record-length (named "GPE0_EN") e own i in
    let z = record-length (named "GPE1_STS") s' own' j in
    let w = record-length (named "GPE1_EN") e' own' k in
    let p = length-append (line_of "GPE0_STS" own s) (line_of "GPE0_EN" own e ++ (line_of "GPE1_STS" own' s' ++ line_of "GPE1_EN" own' e')) in
    let q = length-append (line_of "GPE0_EN" own e) (line_of "GPE1_STS" own' s' ++ line_of "GPE1_EN" own' e') in
    let r = length-append (line_of "GPE1_STS" own' s') (line_of "GPE1_EN" own' e') in
    omega (arith, x, y, z, w, p, q, r)

pub text-length : (vs gpe : List ℕ) (edition : ℕ) → length (edition_line edition ++ (lf ∷ (records_text edition rows vs ++ gpe))) ≡ gpe_at edition + length gpe
text-length vs gpe edition =
    let first = length-append (edition_line edition) (lf ∷ (records_text edition rows vs ++ gpe)) in
    let rest = length-append (records_text edition rows vs) gpe in
    omega (arith, first, rest, records-length edition vs)

-- a block has no more bytes of its own than the machine has
pub own-small : (x : ℕ) → own_bytes x ≤ 8
own-small x = min-le_right (x / 2) 8

-- the text of parts whose blocks have 8 bytes each
module _ (edition : ℕ) (p : Parts) (l₁ : length p.gpe0_sts ≡ 8) (l₂ : length p.gpe0_en ≡ 8) (l₃ : length p.gpe1_sts ≡ 8) (l₄ : length p.gpe1_en ≡ 8) where
  pub parts-length : length (text_of edition p) ≡ gpe_at edition + (38 + (own0 p.values * 4 + own1 p.values * 4))
  parts-length =
      let h = own-small (get_or p.values 15 0) in
      let k = own-small (get_or p.values 16 0) in
      let long = gpe-length p.gpe0_sts p.gpe0_en p.gpe1_sts p.gpe1_en (own0 p.values) (own1 p.values) (omega arith) (omega arith) (omega arith) (omega arith) in
      omega (arith, long, text-length p.values (gpe_text (own0 p.values) (own1 p.values) p.gpe0_sts p.gpe0_en p.gpe1_sts p.gpe1_en) edition)

  pub parts-short : edition < 2 ^ 64 → length (text_of edition p) ≤ 1024
  parts-short small = omega (arith, parts-length, gpe-at-short edition small, own-small (get_or p.values 15 0), own-small (get_or p.values 16 0))

-- printed into an empty buffer, and read from it again
pub printed-whole : (text l empty : List ℕ) (n : ℕ) → n ≡ length text → n ≤ 1024 → length empty ≡ 1024 → l ≡ sets empty 0 text → take n l ≡ text
printed-whole text l empty n c short room e = rw (e, c) (sets-there empty 0 text (omega (arith, short, c, room)))

-- a machine's text is written where it fits, and where it does not nothing is
module _ (m : Machine) (p : Parts) (a : p ≡ parts_of m) (n : ℕ) (c : n ≡ length (text_of newest p)) where
  saved-length : length (saved_text m) ≡ n
  unfolding saved_text
  saved-length = ap (λ (x : Parts). length (text_of newest x)) (sym a) ∙ sym c

  pub write-fits : (buffer l : List ℕ) → n ≤ length buffer → l ≡ sets buffer 0 (text_of newest p)
      → (Ok n ≡ write_answer m (length buffer)) × (l ≡ written_buffer m buffer)
  unfolding saved_text
  write-fits buffer l f e =
      let fits : leb (length (saved_text m)) (length buffer) ≡ true = rw saved-length (le-leb n (length buffer) f) in
      (rw (fits, saved-length) refl, rw fits (e ∙ ap (λ (x : Parts). sets buffer 0 (text_of newest x)) a))

  pub write-refused : (buffer : List ℕ) → length buffer < n → (Err refusal.NoRoom ≡ write_answer m (length buffer)) × (buffer ≡ written_buffer m buffer)
  write-refused buffer f =
      let none : leb (length (saved_text m)) (length buffer) ≡ false = rw saved-length (lt-leb n (length buffer) f) in
      (rw none refl, rw none refl)
