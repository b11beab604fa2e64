-- The map's names are those of the saved text's records, a line's pieces come to the line, and the loop over the blocks. Assumes nothing.
use Rattle.std.proofs.Common.{◌≡◌, ℕ, ◌+◌, ◌%◌, ◌^◌, ◌<◌, ◌≤◌, Bool, true, false, cond, ltb, List, [], ◌∷◌, ◌++◌, map, length, get_or, drop, sym, refl, ap, ◌∙◌, add-one, arith, lit<, length-append, drop_of_length-le, drop-cons, ltb-false}
use lib.Seq.{sets}
use Rattle.lists.specs.Any.{any}
use Rattle.lists.proofs.Search.{any_none, map-within}
use Rattle.platform.specs.Blocks.{present, no_block}
use Rattle.platform.specs.FadtBlocks.{block_of, block_count, fadt_order, blocks_of}
use Rattle.platform.specs.declared.block.Block.{Block}
use Rattle.platform.specs.declared.block.FadtBlock.{FadtBlock}
use Rattle.platform.specs.declared.block.FadtBlock.TheVariants as fadt
use Rattle.platform.specs.declared.settings.Settings.{Settings}
use Rattle.platform.proofs.FadtOrder.{name_at, block_at}
use Rattle.records.specs.Ascii.{ascii}
use Rattle.records.specs.Rows.{rows, record_name}
use Rattle.text.specs.Numbers.{digits}
use Rattle.text.specs.Parts.{tab, lf}
use Rattle.text.proofs.Digits.{digits-length, digits_low}
use Rattle.text.proofs.Stores.{two-writes}
use Rattle.map_lines.specs.MapText.{address_records, fadt_name, last_port, port_field, line_of, block_text, text_over}

-- ---- names

abbrev name : FadtBlock → List ℕ
name b = ascii (fadt_name b)

all_named : map record_name address_records ≡ map name fadt_order
unfolding rows ascii
all_named = refl

-- "the address record's name in the saved text"
pub record-named : (i : ℕ) → i < block_count → record_name (get_or address_records i 0) ≡ ascii (fadt_name (name_at i))
record-named i h =
    sym (map-within record_name 0 [] address_records i h) ∙ ap (λ (names : List (List ℕ)). get_or names i []) all_named ∙ map-within name fadt.SmiCmd [] fadt_order i h

-- ---- a line

port-length : (port : ℕ) → length (port_field port) ≡ 17
port-length port = omega (arith, digits-length 16 16 port)

pub port-written : (l : List ℕ) (at port : ℕ) (first second : List ℕ) → first ≡ sets l at (tab ∷ []) → second ≡ sets first (at + 1) (digits 16 16 port)
    → second ≡ sets l at (port_field port)
port-written l at port first second e f = two-writes l at (at + 1) (tab ∷ []) (digits 16 16 port) first second e refl f

-- a block's ports, and the line's end
abbrev ports_of : Block → List ℕ
ports_of b = port_field b.address ++ (port_field (last_port b) ++ (lf ∷ []))

-- of the last port the 16 digits show, whatever lies above them
last-shown : (b : Block) → port_field (last_port b % 2 ^ 64) ≡ port_field (last_port b)
last-shown b = ap (λ (xs : List ℕ). tab ∷ xs) (digits_low 16 (lit< tt) 16 (last_port b))

pub ports-written : (l : List ℕ) (at : ℕ) (b : Block) (last : ℕ) (first second third : List ℕ) → last ≡ last_port b % 2 ^ 64
    → first ≡ sets l at (port_field b.address) → second ≡ sets first (at + 17) (port_field last) → third ≡ sets second (at + 34) (lf ∷ [])
    → third ≡ sets l at (ports_of b)
ports-written l at b last first second third p e f g =
    two-writes l at (at + 17) (port_field b.address) (port_field (last_port b) ++ (lf ∷ [])) first third e (omega (arith, port-length b.address))
    (two-writes first (at + 17) (at + 34) (port_field (last_port b)) (lf ∷ []) second third
    (f ∙ ap (sets first (at + 17)) (ap port_field p ∙ last-shown b)) (omega (arith, port-length (last_port b))) g)

line-length : (named : List ℕ) (b : Block) → length (line_of named b) ≡ length named + 35
unfolding line_of
line-length named b =
    omega (arith, length-append named (ports_of b), length-append (port_field b.address) (port_field (last_port b) ++ (lf ∷ [])), length-append (port_field (last_port b)) (lf ∷ []), port-length b.address, port-length (last_port b))

-- no name is longer than 16 bytes, and no line than 51
name-short : (i : ℕ) → i < block_count → length (name (name_at i)) ≤ 16
unfolding ascii any
name-short i h = ltb-false _ _ (any_none fadt.SmiCmd (λ b. ltb 16 (length (name b))) fadt_order refl i h)

module _ (i : ℕ) (h : i < block_count) where
  pub record-short : (size : ℕ) → size ≡ length (record_name (get_or address_records i 0)) → size ≤ 16
  record-short size n = omega (arith, n, ap length (record-named i h), name-short i h)

  module _ (b : Block) where
    pub block-short : length (block_text (name_at i) b) ≤ 51
    block-short = go (present b)
      where
        go : (t : Bool) → length (cond t (line_of (name (name_at i)) b) []) ≤ 51
        go true = omega (arith, line-length (name (name_at i)) b, name-short i h)
        go false = omega arith

    module _ (l : List ℕ) (at : ℕ) where
      -- a present block: its record's name, and its ports
      pub block_written : (size : ℕ) (first second : List ℕ) → present b ≡ true → size ≡ length (record_name (get_or address_records i 0))
          → first ≡ sets l at (record_name (get_or address_records i 0)) → second ≡ sets first (at + size) (ports_of b)
          → (size + 35 ≡ length (block_text (name_at i) b)) × (second ≡ sets l at (block_text (name_at i) b))
      unfolding line_of
      block_written size first second p n e f =
          let named : record_name (get_or address_records i 0) ≡ name (name_at i) = record-named i h in
          let long : size ≡ length (name (name_at i)) = n ∙ ap length named in
          rw p (
            omega (arith, long, line-length (name (name_at i)) b),
            two-writes l at (at + size) (name (name_at i)) (ports_of b) first second (e ∙ ap (sets l at) named) (omega (arith, long)) f,
          )

      -- an absent one: nothing
      pub block-skipped : present b ≡ false → (0 ≡ length (block_text (name_at i) b)) × (l ≡ sets l at (block_text (name_at i) b))
      block-skipped p = rw p (refl, refl)

-- ---- the loop

module _ (s : Settings) (i : ℕ) where
  -- one turn: the block at i, then the rest
  text-turn : i < block_count → text_over s (drop i fadt_order) ≡ block_text (name_at i) (block_of s (name_at i)) ++ text_over s (drop (i + 1) fadt_order)
  unfolding text_over
  text-turn h = rw (drop-cons fadt_order i fadt.SmiCmd h, add-one) refl

  module _ (h : i < block_count) (blocks : List Block) (of : blocks ≡ blocks_of s) where
    there : get_or blocks i no_block ≡ block_of s (name_at i)
    there = ap (λ (bs : List Block). get_or bs i no_block) of ∙ block_at s i h

    pub length-turn : (at size : ℕ) → size ≡ length (block_text (name_at i) (get_or blocks i no_block))
        → at + size + length (text_over s (drop (i + 1) fadt_order)) ≡ at + length (text_over s (drop i fadt_order))
    length-turn at size n =
        omega (arith, n ∙ ap (λ (b : Block). length (block_text (name_at i) b)) there, ap length (text-turn h), length-append (block_text (name_at i) (block_of s (name_at i))) (text_over s (drop (i + 1) fadt_order)))

    pub write-turn : (l : List ℕ) (at size : ℕ) (next : List ℕ) → size ≡ length (block_text (name_at i) (get_or blocks i no_block))
        → next ≡ sets l at (block_text (name_at i) (get_or blocks i no_block))
        → sets next (at + size) (text_over s (drop (i + 1) fadt_order)) ≡ sets l at (text_over s (drop i fadt_order))
    write-turn l at size next n e =
        let long : size ≡ length (block_text (name_at i) (block_of s (name_at i))) = n ∙ ap (λ (b : Block). length (block_text (name_at i) b)) there in
        two-writes l at (at + size) (block_text (name_at i) (block_of s (name_at i))) (text_over s (drop (i + 1) fadt_order)) next _
        (e ∙ ap (λ (b : Block). sets l at (block_text (name_at i) b)) there) (omega (arith, long)) refl
        ∙ ap (sets l at) (sym (text-turn h))

  -- the end: nothing is left
  pub text-end : block_count ≤ i → text_over s (drop i fadt_order) ≡ []
  unfolding text_over
  text-end h = rw (drop_of_length-le fadt_order h) refl
