-- The map says what the walk does: on a legal platform a port leads to a block exactly if the printed line of the block has it, and nowhere exactly if no
-- line has it. A present block has a port and lies below 65,536, so that its line's digits read back as its first port and its last. Assumes nothing.
use Rattle.std.proofs.Common.{◌≡◌, Option, Some, None, ℕ, zero, suc, ◌+◌, ◌-◌, ◌^◌, ◌<◌, ◌≤◌, true, List, [], ◌∷◌, ◌++◌, length, get_or, take, drop, sym, refl, ap, ◌∙◌, append_assoc, le_of_suc-le-suc, not-suc-le-zero, arith, lit<, take_at}
use lib.Seq.{drop-append-add}
use Rattle.platform.specs.Blocks.{present}
use Rattle.platform.specs.FadtBlocks.{block_of, fadt_order}
use Rattle.platform.specs.Legal.{Guaranteed, legal_settings}
use Rattle.platform.specs.declared.block.Block.{Block}
use Rattle.platform.specs.declared.block.FadtBlock.{FadtBlock}
use Rattle.platform.specs.declared.block.FadtBlock.TheVariants as fadt
use Rattle.platform.specs.declared.settings.Settings.{Settings}
use Rattle.platform.proofs.FadtOrder.{each}
use Rattle.platform.proofs.Legal.{holds-from, legal-guaranteed}
use Rattle.ports.specs.Walk.{in_block, walk}
use Rattle.ports.specs.declared.Place.{Place}
use Rattle.ports.proofs.Theorems.{first-exactly, leads-to-own}
use Rattle.records.specs.Ascii.{ascii}
use Rattle.text.specs.Numbers.{number_of, digits}
use Rattle.text.specs.Parts.{lf}
use Rattle.text.proofs.Digits.{digits-length, number-of-digits}
use Rattle.map_lines.specs.InLine.{number_in, printed, InLine}
use Rattle.map_lines.specs.MapText.{fadt_name, last_port, port_field, line_of, block_text, text_over, map_text}

-- ---- the line stands in the map

-- some text comes before it, and some after it
abbrev Within : List ℕ → List ℕ → Type 0
Within part whole = (front : List ℕ) × (rest : List ℕ) × (whole ≡ front ++ (part ++ rest))

module _ (s : Settings) where
  text-within : (bs : List FadtBlock) (i : ℕ) → i < length bs
      → Within (block_text (get_or bs i fadt.SmiCmd) (block_of s (get_or bs i fadt.SmiCmd))) (text_over s bs)
  unfolding text_over
  text-within [] i h = absurd (not-suc-le-zero h)
  text-within (b ∷ bs) zero h = ([], text_over s bs, refl)
  text-within (b ∷ bs) (suc i) h =
      let (front, rest, e) = text-within bs i (le_of_suc-le-suc h) in
      let own = block_text b (block_of s b) in
      (own ++ front, rest, ap (λ (xs : List ℕ). own ++ xs) e ∙ sym (append_assoc own front _))

  -- of a present block
  pub map-has-line : (b : FadtBlock) → present (block_of s b) ≡ true → Within (printed s b) (map_text s)
  map-has-line =
      each (λ b. present (block_of s b) ≡ true → Within (printed s b) (map_text s))
      (λ i h p. rw p at (text-within fadt_order i h))

-- ---- what the line says

module _ (named : List ℕ) (b : Block) where
  first_said : b.address < 16 ^ 16 → number_of 16 16 (take 16 (drop (length named + 1) (line_of named b))) ≡ b.address
  unfolding line_of
  first_said h =
      let rest = port_field (last_port b) ++ (lf ∷ []) in
      ap (λ (xs : List ℕ). number_of 16 16 (take 16 xs)) (drop-append-add named (port_field b.address ++ rest) 1)
      ∙ ap (number_of 16 16) (take_at (digits 16 16 b.address) rest 16 (digits-length 16 16 b.address))
      ∙ number-of-digits 16 (lit< tt) (omega arith) 16 16 b.address (omega arith) (omega arith) h

  last-said : last_port b < 16 ^ 16 → number_of 16 16 (take 16 (drop (length named + 18) (line_of named b))) ≡ last_port b
  unfolding line_of
  last-said h =
      let first = port_field b.address in
      let rest = port_field (last_port b) ++ (lf ∷ []) in
      let long : length first + 1 ≡ 18 = omega (arith, digits-length 16 16 b.address) in
      ap (λ (xs : List ℕ). number_of 16 16 (take 16 xs)) (drop-append-add named (first ++ rest) 18 ∙ ap (λ (n : ℕ). drop n (first ++ rest)) (sym long) ∙ drop-append-add first rest 1)
      ∙ ap (number_of 16 16) (take_at (digits 16 16 (last_port b)) (lf ∷ []) 16 (digits-length 16 16 (last_port b)))
      ∙ number-of-digits 16 (lit< tt) (omega arith) 16 16 (last_port b) (omega arith) (omega arith) h

-- ---- the map against the walk

module _ (s : Settings) (g : Guaranteed s) where
  has-a-port : (b : FadtBlock) → present (block_of s b) ≡ true → 0 < (block_of s b).length
  has-a-port fadt.SmiCmd p = omega arith
  has-a-port fadt.Pm1aEvtBlk p = omega (arith, g.evt_a_length p)
  has-a-port fadt.Pm1bEvtBlk p = omega (arith, g.evt_b_length p)
  has-a-port fadt.Pm1aCntBlk p = omega (arith, g.cnt_a_length p)
  has-a-port fadt.Pm1bCntBlk p = omega (arith, g.cnt_b_length p)
  has-a-port fadt.Pm2CntBlk p = omega (arith, g.pm2_length p)
  has-a-port fadt.PmTmrBlk p = omega (arith, g.tmr_length p)
  has-a-port fadt.Gpe0Blk p = omega (arith, (g.gpe0_length p).1)
  has-a-port fadt.Gpe1Blk p = omega (arith, (g.gpe1_length p).1)

  module _ (b : FadtBlock) (p : present (block_of s b) ≡ true) where
    first-is : number_in b 1 (printed s b) ≡ (block_of s b).address
    first-is = first_said (ascii (fadt_name b)) (block_of s b) (omega (arith, g.within_ports b))

    last-is : number_in b 18 (printed s b) ≡ last_port (block_of s b)
    last-is = last-said (ascii (fadt_name b)) (block_of s b) (omega (arith, g.within_ports b, has-a-port b p))

  line-leads : (b : FadtBlock) (port : ℕ) → InLine s b port → walk s port ≡ in_block b (port - (block_of s b).address)
  line-leads b port (p, low, high) =
      let address = (block_of s b).address in
      let from : address ≤ port = rw (first-is b p) at low in
      let to : port ≤ last_port (block_of s b) = rw (last-is b p) at high in
      let back : address + (port - address) ≡ port = omega arith in
      ap (walk s) (sym back) ∙ leads-to-own s b (port - address) p (omega (arith, has-a-port b p)) g.one_block

  leads-in-line : (b : FadtBlock) (port offset : ℕ) → walk s port ≡ in_block b offset → InLine s b port
  leads-in-line b port offset e =
      let (p, low, high) = holds-from (block_of s b) port ((first-exactly s port b offset).0 e).inside in
      (p, rw (first-is b p) low, rw (last-is b p) (omega arith))

  in-no-line : (port : ℕ) → ((b : FadtBlock) → InLine s b port → ⊥) → (q : Option Place) → walk s port ≡ q → q ≡ None
  in-no-line port none (Some p) e = absurd (none p.block (leads-in-line p.block port p.offset e))
  in-no-line port none None e = refl

  in-none : (b : FadtBlock) (port : ℕ) → walk s port ≡ None → InLine s b port → ⊥
  in-none b port e l = let no : ◌≡◌ {A = ℕ} 0 1 = cc (line-leads b port l) in omega arith

module _ (s : Settings) (e : legal_settings s ≡ true) where
  -- to a block
  pub map-says-walk : (b : FadtBlock) (port : ℕ)
      → (InLine s b port → walk s port ≡ in_block b (port - (block_of s b).address))
      × (walk s port ≡ in_block b (port - (block_of s b).address) → InLine s b port)
  map-says-walk b port = (line-leads s (legal-guaranteed s e) b port, leads-in-line s (legal-guaranteed s e) b port (port - (block_of s b).address))

  -- and nowhere
  pub map-says-nowhere : (port : ℕ)
      → (((b : FadtBlock) → InLine s b port → ⊥) → walk s port ≡ None)
      × (walk s port ≡ None → (b : FadtBlock) → InLine s b port → ⊥)
  map-says-nowhere port =
      (λ none. in-no-line s (legal-guaranteed s e) port none (walk s port) refl, λ n b l. in-none s (legal-guaranteed s e) b port n l)
