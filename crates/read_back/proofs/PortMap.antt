-- The port map has the names of the saved text's address records, and each such record has that block's address: one table, computed, and taken to each
-- block. Assumes nothing.
use mathlib.Core.List.{List, map}
use mathlib.Core.Path.{◌≡◌, refl, sym, ap, ◌∙◌}
use Prim.Native.Nat.{ℕ, ◌<◌}
use lib.ListN.{get_or}
use Rattle.lists.proofs.Search.{map-within}
use Rattle.platform.specs.FadtBlocks.{block_of, block_count, fadt_order}
use Rattle.platform.specs.declared.block.FadtBlock.{FadtBlock}
use Rattle.platform.specs.declared.block.FadtBlock.TheVariants as fadt
use Rattle.platform.proofs.FadtOrder.{name_at, each}
use Rattle.machine.specs.declared.Machine.{Machine}
use Rattle.records.specs.Ascii.{ascii}
use Rattle.records.specs.Rows.{record_name}
use Rattle.map_lines.specs.MapText.{address_records, fadt_name}
use Rattle.map_lines.proofs.Laws.{record-named}
use Rattle.values.specs.Values.{values_of}

address-recorded : (m : Machine) (i : ℕ) → i < block_count → get_or (values_of m) (get_or address_records i 0) 0 ≡ (block_of m.settings (name_at i)).address
address-recorded m i h =
    let all : map (λ k. get_or (values_of m) k 0) address_records ≡ map (λ b. (block_of m.settings b).address) fadt_order = refl in
    sym (map-within (λ k. get_or (values_of m) k 0) 0 0 address_records i h)
    ∙ ap (λ (addresses : List ℕ). get_or addresses i 0) all
    ∙ map-within (λ b. (block_of m.settings b).address) fadt.SmiCmd 0 fadt_order i h

-- a record of that name, with that address, for each block
pub named-as-saved : (b : FadtBlock) → (k : ℕ) × (record_name k ≡ ascii (fadt_name b)) × ((m : Machine) → get_or (values_of m) k 0 ≡ (block_of m.settings b).address)
named-as-saved =
    each (λ b. (k : ℕ) × (record_name k ≡ ascii (fadt_name b)) × ((m : Machine) → get_or (values_of m) k 0 ≡ (block_of m.settings b).address))
    (λ i h. (get_or address_records i 0, record-named i h, λ m. address-recorded m i h))
