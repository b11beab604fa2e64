-- What is written reads back, and what stands after it is left: record by record, for any rows, and of the table. Assumes nothing.
use mathlib.Core.Bool.{Bool, true, false, cond}
use mathlib.Core.List.{List, [], ◌∷◌, ◌++◌, append_assoc}
use mathlib.Core.Path.{◌≡◌, refl, sym, ap, ◌∙◌}
use Prim.Native.Nat.{ℕ, zero, suc, ◌+◌, ◌/◌, ◌%◌, ◌^◌, ◌<◌}
use native.Mathlib.Nat.{one-le-pow}
use native.Mathlib.Omega.{arith}
use borrow.Author.Tests.{eq-eqb}
use lib.Dec.{eqb}
use lib.ListN.{length, get_or, take, drop}
use lib.Seq.{drop-drop, drop_at, take_at}
use Rattle.lists.specs.Any.{any}
use Rattle.lists.proofs.Tests.{or_left, or_right}
use Rattle.text.specs.Numbers.{digits}
use Rattle.text.proofs.Digits.{digits-length, number-of-digits}
use Rattle.records.specs.Rows.{Row, hex, flag, command, form_numbered, row_count, rows}
use Rattle.records.specs.Records.{command_of, formed, record_text, is_in, text_in, records_text, length_in, records_length, value_in, read_in, values_in, Fits, AllFit}
use Rattle.records.proofs.RowFacts.{unsound, Sound, sound, row_count_lem, rows-sound}
use Rattle.records.proofs.Small.{number_small}
use Rattle.records.proofs.Turns.{in-length, records-length-of}

-- what the form that a number has writes
by-tests : (is-flag is-command : Bool) (v : ℕ) → formed (cond is-flag flag (cond is-command command hex)) v ≡ cond is-flag (v % 2) (cond is-command (command_of v) v)
unfolding formed
by-tests true c v = refl
by-tests false true v = refl
by-tests false false v = refl

pub formed-numbered : (n v : ℕ) → formed (form_numbered n) v ≡ cond (eqb n 1) (v % 2) (cond (eqb n 2) (command_of v) v)
unfolding form_numbered
formed-numbered n v = by-tests (eqb n 1) (eqb n 2) v

-- what a form writes as it is: any number; a flag; no command, and a command's byte past 1
pub hex-form : (v : ℕ) → formed hex v ≡ v
unfolding formed
hex-form v = refl

pub flag-form : (v : ℕ) → v < 2 → formed flag v ≡ v
unfolding formed
flag-form v h = omega arith

pub no-command-form : formed command 0 ≡ 0
unfolding formed command_of
no-command-form = refl

pub command-form : (byte : ℕ) → byte < 2 ^ 8 → formed command (2 ^ 8 + byte) ≡ 2 ^ 8 + byte
unfolding formed command_of
command-form byte h =
    let one : (2 ^ 8 + byte) / 2 ^ 8 % 2 ≡ 1 = omega arith in
    rw (eq-eqb _ _ one) (omega arith)

module _ (r : Row) (s : Sound r) (v : ℕ) (rest : List ℕ) where
  -- the digits stand past the name and the tab
  pub digits-there : take r.width (drop (length r.name + 1) (record_text r v ++ rest)) ≡ digits 16 r.width (formed r.form v)
  digits-there =
      let shown = digits 16 r.width (formed r.form v) in
      rw (append_assoc, ← drop-drop 1 (length r.name) (r.name ++ _), drop_at r.name _ (length r.name) refl, append_assoc)
      (take_at shown _ r.width (digits-length 16 r.width (formed r.form v)))

  value-back : Fits r v → value_in r (record_text r v ++ rest) ≡ v
  value-back f = rw (digits-there, f.1) (number-of-digits 16 (omega arith) (omega arith) r.width 16 v s.shown s.short f.0)

  module _ (edition : ℕ) where
    in-back : (is_in edition r ≡ true → Fits r v) → (is_in edition r ≡ false → v ≡ r.initial) → read_in edition r (text_in edition r v ++ rest) ≡ v
    in-back f z = go (is_in edition r) f z
      where
        go : (t : Bool) → (t ≡ true → Fits r v) → (t ≡ false → v ≡ r.initial) → cond t (value_in r (cond t (record_text r v) [] ++ rest)) r.initial ≡ v
        go true f z = value-back (f refl)
        go false f z = sym (z refl)

    pub in-past : drop (length_in edition r) (text_in edition r v ++ rest) ≡ rest
    in-past = drop_at (text_in edition r v) rest (length_in edition r) (in-length edition r v)

module _ (edition : ℕ) where
  pub values-back : (rs : List Row) (vs rest : List ℕ) → any unsound rs ≡ false → length vs ≡ length rs → AllFit edition rs vs
      → values_in edition rs (records_text edition rs vs ++ rest) ≡ vs
  unfolding any records_text values_in AllFit
  values-back [] [] rest e l f = refl
  values-back [] (v ∷ vs) rest e l f = absurd (omega arith)
  values-back (r ∷ rs) [] rest e l f = absurd (omega arith)
  values-back (r ∷ rs) (v ∷ vs) rest e l f =
      let s = sound r (or_left (unsound r) _ e) in
      let after = records_text edition rs vs ++ rest in
      let ih = values-back rs vs rest (or_right (unsound r) _ e) (omega arith) f.2 in
      rw (append_assoc (text_in edition r v) (records_text edition rs vs) rest, in-back r s v after edition f.0 f.1, in-past r s v after edition, ih)

  -- as many values are read as there are rows
  values-count : (rs : List Row) (xs : List ℕ) → length (values_in edition rs xs) ≡ length rs
  unfolding values_in
  values-count [] xs = refl
  values-count (r ∷ rs) xs = ap suc (values-count rs (drop (length_in edition r) xs))

  -- a row that the edition does not have reads as its power-on setting
  values-added : (rs : List Row) (i : ℕ) (xs : List ℕ) (d : Row) → i < length rs → is_in edition (get_or rs i d) ≡ false
      → get_or (values_in edition rs xs) i 0 ≡ (get_or rs i d).initial
  unfolding values_in
  values-added [] i xs d h e = absurd (omega arith)
  values-added (r ∷ rs) zero xs d h e = ap (λ (t : Bool). cond t (value_in r xs) r.initial) e
  values-added (r ∷ rs) (suc i) xs d h e = values-added rs i (drop (length_in edition r) xs) d (omega arith) e

  -- and one that it has, as no more than its digits show
  values-below : (rs : List Row) (i : ℕ) (xs : List ℕ) (d : Row) → is_in edition (get_or rs i d) ≡ true
      → get_or (values_in edition rs xs) i 0 < 16 ^ (get_or rs i d).width
  unfolding values_in
  values-below [] i xs d e = one-le-pow d.width 16 (omega arith)
  values-below (r ∷ rs) zero xs d e = rw e (number_small r.width (drop (length r.name + 1) xs))
  values-below (r ∷ rs) (suc i) xs d e = values-below rs i (drop (length_in edition r) xs) d e

  -- the table's text: its length, its values read back, and what stands after it
  pub records-length : (vs : List ℕ) → length (records_text edition rows vs) ≡ records_length edition rows
  records-length vs = records-length-of edition rows vs

  pub records-read-back : (vs rest : List ℕ) → length vs ≡ row_count → AllFit edition rows vs
      → values_in edition rows (records_text edition rows vs ++ rest) ≡ vs
  records-read-back vs rest l f = values-back rows vs rest rows-sound (l ∙ sym row_count_lem) f

  pub records-text : (vs rest : List ℕ) → take (records_length edition rows) (records_text edition rows vs ++ rest) ≡ records_text edition rows vs
  records-text vs rest = take_at (records_text edition rows vs) rest (records_length edition rows) (records-length vs)

  pub records-rest : (vs rest : List ℕ) → drop (records_length edition rows) (records_text edition rows vs ++ rest) ≡ rest
  records-rest vs rest = drop_at (records_text edition rows vs) rest (records_length edition rows) (records-length vs)

  -- any text's values: how many; "an older text reads with the added record at its power-on setting"; and what the others are below
  pub records-count : (xs : List ℕ) → length (values_in edition rows xs) ≡ row_count
  records-count xs = values-count rows xs ∙ row_count_lem

  pub added-reads : (i : ℕ) (xs : List ℕ) (d : Row) → i < row_count → is_in edition (get_or rows i d) ≡ false
      → get_or (values_in edition rows xs) i 0 ≡ (get_or rows i d).initial
  added-reads i xs d h e = values-added rows i xs d (omega (arith, row_count_lem)) e

  pub values-small : (i : ℕ) (xs : List ℕ) (d : Row) → is_in edition (get_or rows i d) ≡ true
      → get_or (values_in edition rows xs) i 0 < 16 ^ (get_or rows i d).width
  values-small i xs d e = values-below rows i xs d e
