-- Where a port leads, and what that means. Request W4: "one public walk over the present blocks in the order of their FADT address fields, SMI_CMD
-- first: for a port it gives the first that holds it and the offset in it, or none exactly if no block does".
use Rattle.std.specs.Prelude.{true, false, cond, Option, Some, None, List, [], ◌∷◌, ◌≡◌, ℕ, ◌-◌, ◌<◌}
use Rattle.platform.specs.Blocks.{present, holds}
use Rattle.platform.specs.FadtBlocks.{address_field, block_of, fadt_order}
use Rattle.platform.specs.declared.block.FadtBlock.{FadtBlock}
use Rattle.platform.specs.declared.settings.Settings.{Settings}
use Rattle.ports.specs.declared.Place.{Place}

-- in a block, at an offset
abbrev pub in_block : FadtBlock → ℕ → Option Place
in_block b offset = Some (record { block = b; offset = offset })

-- the first of these blocks that holds the port (an absent block holds none), and how far the port lies past its address
unfoldable pub walk_over : Settings → ℕ → List FadtBlock → Option Place
walk_over s port [] = None
walk_over s port (b ∷ bs) = cond (holds (block_of s b) port) (in_block b (port - (block_of s b).address)) (walk_over s port bs)

abbrev pub walk : Settings → ℕ → Option Place
walk s port = walk_over s port fadt_order

-- ---- what each answer means

-- no present block holds the port
abbrev pub NoneHolds : Settings → ℕ → Type 0
NoneHolds s port = (b : FadtBlock) → holds (block_of s b) port ≡ false

-- the block is present and holds the port, no earlier one does (whose address field stands lower in the FADT), and the offset is the port less the
-- block's address
pub record FirstHolds (s : Settings) (port : ℕ) (b : FadtBlock) (offset : ℕ) : Type 0 where
  pub there : present (block_of s b) ≡ true
  pub inside : holds (block_of s b) port ≡ true
  pub no_earlier : (c : FadtBlock) → address_field c < address_field b → holds (block_of s c) port ≡ false
  pub at : offset ≡ port - (block_of s b).address

abbrev pub Means : Settings → ℕ → Option Place → Type 0
Means s port (Some p) = FirstHolds s port p.block p.offset
Means s port None = NoneHolds s port
