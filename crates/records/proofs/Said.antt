-- What the program's table says: its records are the rows, in their order, and the turns of the loops over it. Assumes nothing.
use mathlib.Core.List.{List, map, ◌++◌}
use mathlib.Core.Path.{◌≡◌, sym, ap, ◌∙◌}
use Prim.Native.Nat.{ℕ, ◌+◌, ◌≤◌, ◌<◌}
use native.Mathlib.Omega.{arith}
use lib.ListN.{length, get_or, take, drop, set}
use lib.Seq.{sets}
use Rattle.std.proofs.lemmas.List.{length-map}
use Rattle.lists.proofs.Search.{map-within}
use Rattle.records.specs.Rows.{Row, row_count, rows, no_row}
use Rattle.records.specs.Records.{text_in, records_text, record_length, length_in, records_length, read_in, values_in}
use Rattle.records.specs.Table.{row_of}
use Rattle.records.specs.declared.table.Record.{Record}
use Rattle.records.proofs.RowFacts.{Sound, row_count_lem, row-sound}
use Rattle.records.proofs.Turns.{length-turn, write-turn, read-turn}

module _ (table : List Record) (t : map row_of table ≡ rows) where
  pub table-count : length table ≡ row_count
  table-count = sym (length-map table row_of) ∙ ap length t ∙ row_count_lem

  -- record i says row i
  pub row_said : (r : Record) (i : ℕ) → i < row_count → r ≡ get_or table i r → row_of r ≡ get_or rows i no_row
  row_said r i h e =
      ap row_of e ∙ sym (map-within row_of r no_row table i (omega (arith, table-count))) ∙ ap (λ (rs : List Row). get_or rs i no_row) t

  -- a record of the table, and the row that it says
  pub row_here : (r : Record) (i : ℕ) → i < length table → r ≡ get_or table i r → (i < row_count) × (row_of r ≡ get_or rows i no_row)
  row_here r i k e = let h : i < row_count = omega (arith, k, table-count) in (h, row_said r i h e)

-- a turn at row i
module _ (r : Row) (i : ℕ) (h : i < row_count) (e : r ≡ get_or rows i no_row) where
  row_sound : Sound r
  row_sound = rw e (row-sound i h)

  pub row-short : record_length r ≤ 34
  row-short = omega (arith, row_sound.named, row_sound.short)

  module _ (edition : ℕ) where
    pub length-step : records_length edition (drop i rows) ≡ length_in edition r + records_length edition (drop (i + 1) rows)
    length-step = rw e (length-turn edition rows no_row i (omega (arith, row_count_lem)))

    pub write_step : (vs l : List ℕ) (o : ℕ)
        → sets (sets l o (text_in edition r (get_or vs i 0))) (o + length_in edition r) (records_text edition (drop (i + 1) rows) (drop (i + 1) vs))
        ≡ sets l o (records_text edition (drop i rows) (drop i vs))
    write_step vs l o = rw e (write-turn edition rows no_row i (omega (arith, row_count_lem)) vs l o)

    pub read_step : (values xs : List ℕ) (o : ℕ) → i < length values
        → take (i + 1) (set values i (read_in edition r (drop o xs))) ++ values_in edition (drop (i + 1) rows) (drop (o + length_in edition r) xs)
        ≡ take i values ++ values_in edition (drop i rows) (drop o xs)
    read_step values xs o k = rw e (read-turn edition rows no_row i (omega (arith, row_count_lem)) values xs o k)
