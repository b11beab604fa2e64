-- The loops over the rows: one turn and the end of each, in rest form, for any rows and any edition. Assumes nothing.
use mathlib.Core.Bool.{Bool, true, false, cond}
use mathlib.Core.List.{List, [], ◌∷◌, ◌++◌, append_assoc, append-nil}
use mathlib.Core.Path.{◌≡◌, refl, sym, ap, ◌∙◌}
use Prim.Native.Nat.{ℕ, ◌+◌, ◌*◌, ◌≤◌, ◌<◌}
use native.Mathlib.Nat.{add-zero}
use native.Mathlib.Numerals.{add-one}
use native.Mathlib.Omega.{arith}
use lib.ListN.{length, get_or, take, drop, set, length-append, drop_of_length-le}
use lib.Seq.{sets, drop-cons, drop-drop, get_or-drop, take_all, take-suc-set}
use Rattle.lists.specs.Any.{any}
use Rattle.lists.proofs.Tests.{or_left, or_right}
use Rattle.text.specs.Numbers.{digits}
use Rattle.text.specs.Parts.{tab, lf}
use Rattle.text.proofs.Digits.{digits-length}
use Rattle.text.proofs.Stores.{sets_then}
use Rattle.records.specs.Rows.{Row, row_count, rows}
use Rattle.records.specs.Records.{formed, record_text, is_in, text_in, records_text, record_length, length_in, records_length, read_in, values_in}
use Rattle.records.proofs.RowFacts.{unsound, Sound, sound, rows-sound, row_count_lem}

-- a record takes the bytes that its row says
pub record-length : (r : Row) (v : ℕ) → length (record_text r v) ≡ record_length r
record-length r v =
    let shown = digits-length 16 r.width (formed r.form v) in
    length-append r.name _ ∙ omega (arith, shown, length-append (digits 16 r.width (formed r.form v)) (lf ∷ []))

-- what a record's four writes make
pub record-written : (l : List ℕ) (at : ℕ) (r : Row) (v : ℕ)
    → sets (sets (sets (sets l at r.name) (at + length r.name) (tab ∷ [])) (at + length r.name + 1) (digits 16 r.width (formed r.form v))) (at + length r.name + 1 + r.width) (lf ∷ [])
    ≡ sets l at (record_text r v)
record-written l at r v =
    let shown = digits-length 16 r.width (formed r.form v) in
    let value = digits 16 r.width (formed r.form v) in
    let past = at + length r.name in
    let named = sets l at r.name in
    let tabbed = sets named past (tab ∷ []) in
    sym (
    sets_then l at past r.name (tab ∷ (value ++ (lf ∷ []))) (omega arith)
    ∙ sets_then named past (past + 1) (tab ∷ []) (value ++ (lf ∷ [])) (omega arith)
    ∙ sets_then tabbed (past + 1) (past + 1 + r.width) value (lf ∷ []) (omega (arith, shown))
    )

module _ (edition : ℕ) where
  pub in-length : (r : Row) (v : ℕ) → length (text_in edition r v) ≡ length_in edition r
  in-length r v = go (is_in edition r)
    where
      go : (t : Bool) → length (cond t (record_text r v) []) ≡ cond t (record_length r) 0
      go true = record-length r v
      go false = refl

  -- no longer than 16 bytes of a name, a tab, 16 digits and LF
  pub in-short : (r : Row) → Sound r → length_in edition r ≤ 34
  in-short r s = go (is_in edition r)
    where
      go : (t : Bool) → cond t (record_length r) 0 ≤ 34
      go true = omega arith
      go false = omega arith

  pub records-length-of : (rs : List Row) (vs : List ℕ) → length (records_text edition rs vs) ≡ records_length edition rs
  unfolding records_text records_length
  records-length-of [] vs = refl
  records-length-of (r ∷ rs) vs =
      let first = in-length r (get_or vs 0 0) in
      let rest = records-length-of rs (drop 1 vs) in
      length-append (text_in edition r (get_or vs 0 0)) (records_text edition rs (drop 1 vs)) ∙ omega (arith, first, rest)

  pub records-short : (rs : List Row) → any unsound rs ≡ false → records_length edition rs ≤ length rs * 34
  unfolding any records_length
  records-short [] e = omega arith
  records-short (r ∷ rs) e =
      omega (arith, in-short r (sound r (or_left (unsound r) _ e)), records-short rs (or_right (unsound r) _ e))

  pub rows_short : records_length edition rows ≤ row_count * 34
  rows_short = omega (arith, records-short rows rows-sound, row_count_lem)

  module _ (rs : List Row) (d : Row) (i : ℕ) (h : i < length rs) where
    pub length-turn : records_length edition (drop i rs) ≡ length_in edition (get_or rs i d) + records_length edition (drop (i + 1) rs)
    unfolding records_length
    length-turn = rw (drop-cons rs i d h, add-one i)

    text-turn : (vs : List ℕ)
        → records_text edition (drop i rs) (drop i vs) ≡ text_in edition (get_or rs i d) (get_or vs i 0) ++ records_text edition (drop (i + 1) rs) (drop (i + 1) vs)
    unfolding records_text
    text-turn vs = rw (drop-cons rs i d h, get_or-drop i vs 0 0, drop-drop 1 i vs, add-one, add-zero)

    -- a record written, and those after it
    pub write-turn : (vs l : List ℕ) (o : ℕ)
        → sets (sets l o (text_in edition (get_or rs i d) (get_or vs i 0))) (o + length_in edition (get_or rs i d)) (records_text edition (drop (i + 1) rs) (drop (i + 1) vs))
        ≡ sets l o (records_text edition (drop i rs) (drop i vs))
    write-turn vs l o =
        let r = get_or rs i d in
        let long = in-length r (get_or vs i 0) in
        sym (
        ap (sets l o) (text-turn vs)
        ∙ sets_then l o (o + length_in edition r) (text_in edition r (get_or vs i 0)) (records_text edition (drop (i + 1) rs) (drop (i + 1) vs)) (omega (arith, long))
        )

    -- a record read, and those after it
    pub read-turn : (values xs : List ℕ) (o : ℕ) → i < length values
        → take (i + 1) (set values i (read_in edition (get_or rs i d) (drop o xs))) ++ values_in edition (drop (i + 1) rs) (drop (o + length_in edition (get_or rs i d)) xs)
        ≡ take i values ++ values_in edition (drop i rs) (drop o xs)
    unfolding values_in
    read-turn values xs o k =
        rw (add-one i, take-suc-set values i _ k, append_assoc, drop-cons rs i d h, drop-drop (length_in edition (get_or rs i d)) o xs)

  pub length-end : (rs : List Row) (i : ℕ) → length rs ≤ i → records_length edition (drop i rs) ≡ 0
  unfolding records_length
  length-end rs i h = rw (drop_of_length-le rs h)

  pub write-end : (rs : List Row) (vs l : List ℕ) (o i : ℕ) → length rs ≤ i → sets l o (records_text edition (drop i rs) (drop i vs)) ≡ l
  unfolding records_text
  write-end rs vs l o i h = rw (drop_of_length-le rs h)

  pub read-end : (rs : List Row) (values xs : List ℕ) (i : ℕ) → length rs ≤ i → length values ≤ i → take i values ++ values_in edition (drop i rs) xs ≡ values
  unfolding values_in
  read-end rs values xs i h k = rw (drop_of_length-le rs h, append-nil) (take_all i values k)
