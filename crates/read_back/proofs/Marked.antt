-- The clauses that only say "one value for each meaning" are broken by no well formed text: what a form would not write does not stand in one.
-- Nor is the clause on what is stored of the general events, by any text: the reader looks for it.
-- Assumes nothing.
use mathlib.Core.Bool.{Bool, true, false, not, cond, ◌&&◌, ◌||◌}
use mathlib.Core.List.{List, [], ◌∷◌, ◌++◌, append_assoc}
use mathlib.Core.Path.{◌≡◌, refl, sym, ◌∙◌, ap}
use Prim.Native.Nat.{ℕ, zero, suc, ◌+◌, ◌/◌, ◌%◌, ◌^◌, ◌<◌}
use native.Mathlib.Nat.{mod-lt}
use native.Mathlib.Omega.{arith}
use borrow.Author.Tests.{eq-eqb, lt-ltb, le-leb}
use lib.Dec.{eqb, ltb, lit<}
use lib.ListN.{length, get_or, drop}
use lib.Seq.{get_or-drop}
use Rattle.lists.specs.Any.{any}
use Rattle.lists.proofs.Tests.{or_left, or_right}
use Rattle.text.proofs.Digits.{number-of-digits}
use Rattle.text.proofs.Equal.{same-equal}
use Rattle.records.specs.Rows.{Row, row, hex, command, rows}
use Rattle.records.specs.Records.{command_of, formed, is_in, text_in, record_text, records_text, length_in, value_in, read_in, values_in}
use Rattle.records.proofs.RowFacts.{unsound, sound, Sound, rows-sound}
use Rattle.records.proofs.ReadBack.{digits-there, in-past}
use Rattle.platform.specs.Blocks.{block, present}
use Rattle.platform.specs.Legal.{stray_length}
use Rattle.model.specs.Legal.{command_byte_legal, slp_typs_legal, gpe_pending_legal}
use Rattle.model.proofs.Legal.{means-walk}
use Rattle.legality.specs.Legality.{one_value}
use Rattle.values.specs.Values.{byte_in}
use Rattle.saved.specs.declared.parts.Parts.{Parts}
use Rattle.saved.specs.Text.{edition_line, own0, own1, gpe_text, text_of, records_at}
use Rattle.saved.specs.Reading.{values_read, parts_in, machine_in, well_formed}
use Rattle.read_back.proofs.Parts.{past-line}

-- the general event records of a text's parts
abbrev gpe_in : Parts → List ℕ
gpe_in p = gpe_text (own0 p.values) (own1 p.values) p.gpe0_sts p.gpe0_en p.gpe1_sts p.gpe1_en

module _ (edition : ℕ) where
  row-formed : (r : Row) (v : ℕ) (rest : List ℕ) → Sound r → read_in edition r (text_in edition r v ++ rest) ≡ v
      → is_in edition r ≡ true → formed r.form v < 16 ^ r.width → formed r.form v ≡ v
  row-formed r v rest s same i small =
      let one : value_in r (record_text r v ++ rest) ≡ v = rw i at same in
      sym (number-of-digits 16 (omega arith) (omega arith) r.width 16 (formed r.form v) s.shown s.short small) ∙ rw (← digits-there r s v rest) one

  -- values that are read from their own text are as their rows' forms write them, where that has no more digits than the row
  formed-at : (rs : List Row) (vs rest : List ℕ) → any unsound rs ≡ false → values_in edition rs (records_text edition rs vs ++ rest) ≡ vs
      → (i : ℕ) (d : Row) → i < length rs → is_in edition (get_or rs i d) ≡ true → formed (get_or rs i d).form (get_or vs i 0) < 16 ^ (get_or rs i d).width
      → formed (get_or rs i d).form (get_or vs i 0) ≡ get_or vs i 0
  unfolding any records_text values_in
  formed-at [] vs rest e same i d h = absurd (omega arith)
  formed-at (r ∷ rs) vs rest e same zero d h =
      let v = get_or vs 0 0 in
      let joined = append_assoc (text_in edition r v) (records_text edition rs (drop 1 vs)) rest in
      row-formed r v (records_text edition rs (drop 1 vs) ++ rest) (sound r (or_left (unsound r) _ e)) (rw joined at (ap (λ (l : List ℕ). get_or l 0 0) same))
  formed-at (r ∷ rs) vs rest e same (suc i) d h =
      let v = get_or vs 0 0 in
      let after = records_text edition rs (drop 1 vs) ++ rest in
      let s = sound r (or_left (unsound r) _ e) in
      let joined = append_assoc (text_in edition r v) (records_text edition rs (drop 1 vs)) rest in
      let tail : values_in edition rs (drop (length_in edition r) (text_in edition r v ++ after)) ≡ drop 1 vs = rw joined at (ap (λ (l : List ℕ). drop 1 l) same) in
      let later : get_or (drop 1 vs) i 0 ≡ get_or vs (suc i) 0 = get_or-drop 1 vs i 0 ∙ ap (λ (k : ℕ). get_or vs k 0) (omega arith) in
      rw later at (formed-at rs (drop 1 vs) rest (or_right (unsound r) _ e) (rw (in-past r s v after edition) at tail) i d (omega arith))

-- a value that the command's form writes: the byte is zero where none waits
command-alone : (v : ℕ) → formed command v ≡ v → (ltb (v % 2 ^ 8) 256 && (not (not (eqb (v / 2 ^ 8 % 2) 1)) || eqb (v % 2 ^ 8) 0)) ≡ true
unfolding formed command_of
command-alone v e = rw (lt-ltb (v % 2 ^ 8) 256 (mod-lt v (lit< tt))) (go (eqb (v / 2 ^ 8 % 2) 1) refl)
  where
    go : (t : Bool) → eqb (v / 2 ^ 8 % 2) 1 ≡ t → (not (not t) || eqb (v % 2 ^ 8) 0) ≡ true
    go true p = refl
    go false p = let zero : 0 ≡ v = rw p at e in eq-eqb (v % 2 ^ 8) 0 (omega (arith, zero))

command-small : (v : ℕ) → formed command v < 16 ^ 3
unfolding formed command_of
command-small v = go (eqb (v / 2 ^ 8 % 2) 1)
  where
    go : (t : Bool) → cond t (2 ^ 8 + v % 2 ^ 8) 0 < 16 ^ 3
    go true = let byte : v % 2 ^ 8 < 2 ^ 8 = mod-lt v (lit< tt) in omega arith
    go false = lit< tt

-- an absent PM1b block has no length
none-stray : (address n : ℕ) → stray_length (block address (cond (not (eqb address 0)) n 0)) ≡ false
unfolding stray_length present
none-stray address n = go (eqb address 0)
  where
    go : (t : Bool) → (not (not t) && not (eqb (cond (not t) n 0) 0)) ≡ false
    go true = refl
    go false = refl

typ-small : (v : ℕ) → ltb (v % 8) 8 ≡ true
typ-small v = lt-ltb (v % 8) 8 (mod-lt v (lit< tt))

module _ (edition : ℕ) (text : List ℕ) (known : edition ≡ 0 → ⊥) (w : well_formed edition text ≡ true) where
  abbrev vs : List ℕ
  vs = values_read edition text

  -- the values are those of their own text
  own-text : values_in edition rows (records_text edition rows vs ++ gpe_in (parts_in edition text)) ≡ vs
  unfolding well_formed
  own-text =
      let same : text ≡ text_of edition (parts_in edition text) = same-equal text (text_of edition (parts_in edition text)) w in
      sym
      (ap (λ (t : List ℕ). values_in edition rows (drop (records_at edition) t)) same
      ∙ ap (values_in edition rows) (past-line (edition_line edition) (records_text edition rows vs ++ gpe_in (parts_in edition text))))

  command-formed : formed command (get_or vs 38 0) ≡ get_or vs 38 0
  unfolding rows
  command-formed = formed-at edition rows vs (gpe_in (parts_in edition text)) rows-sound own-text 38 (row "" hex 0) (lit< tt) (le-leb 1 edition (omega arith)) (command-small (get_or vs 38 0))

  -- no text breaks them
  pub no-text-breaks : one_value (machine_in edition text) ≡ true
  unfolding one_value command_byte_legal slp_typs_legal
  no-text-breaks =
      rw (
        none-stray (get_or vs 4 0) (byte_in vs 11),
        none-stray (get_or vs 6 0) (byte_in vs 12),
        command-alone (get_or vs 38 0) command-formed,
        typ-small (get_or vs 32 0 / 2 ^ 10),
        typ-small (get_or vs 33 0 / 2 ^ 10),
      )
      refl

pub reading-walks : (edition : ℕ) (text : List ℕ) → gpe_pending_legal (machine_in edition text) ≡ true
reading-walks edition text = means-walk (machine_in edition text) refl
