-- What holds at each place of the FADT's order holds of each block; the address fields rise along it, so that no two are the same. Assumes nothing.
use mathlib.Core.Path.{◌≡◌, refl, ap}
use Prim.Native.Nat.{ℕ, ◌<◌}
use native.Mathlib.Omega.{arith}
use borrow.Author.Tests.{leb-false}
use lib.Dec.{leb, lit<}
use lib.ListN.{get_or}
use Rattle.lists.specs.Any.{any, any_two}
use Rattle.lists.proofs.Search.{any-two-none, map-within}
use Rattle.bits.proofs.Digits.{below-or-beyond}
use Rattle.platform.specs.Blocks.{no_block}
use Rattle.platform.specs.FadtBlocks.{address_field, block_of, block_count, fadt_order, blocks_of}
use Rattle.platform.specs.declared.block.FadtBlock.{FadtBlock}
use Rattle.platform.specs.declared.block.FadtBlock.TheVariants as fadt
use Rattle.platform.specs.declared.settings.Settings.{Settings}

-- the name at a place
abbrev pub name_at : ℕ → FadtBlock
name_at i = get_or fadt_order i fadt.SmiCmd

-- every name stands in the order
pub each : (P : FadtBlock → Type 0) → ((i : ℕ) → i < block_count → P (name_at i)) → (b : FadtBlock) → P b
each P at fadt.SmiCmd = at 0 (lit< tt)
each P at fadt.Pm1aEvtBlk = at 1 (lit< tt)
each P at fadt.Pm1bEvtBlk = at 2 (lit< tt)
each P at fadt.Pm1aCntBlk = at 3 (lit< tt)
each P at fadt.Pm1bCntBlk = at 4 (lit< tt)
each P at fadt.Pm2CntBlk = at 5 (lit< tt)
each P at fadt.PmTmrBlk = at 6 (lit< tt)
each P at fadt.Gpe0Blk = at 7 (lit< tt)
each P at fadt.Gpe1Blk = at 8 (lit< tt)

-- the block at a place is the one of that name
pub block_at : (s : Settings) (i : ℕ) → i < block_count → get_or (blocks_of s) i no_block ≡ block_of s (name_at i)
block_at s i h = map-within (block_of s) fadt.SmiCmd no_block fadt_order i h

-- "in the order of their FADT address fields": a later block has a later field
pub fields-rise : (i j : ℕ) → i < j → j < block_count → address_field (name_at i) < address_field (name_at j)
unfolding any any_two
fields-rise i j h k = leb-false _ _ (any-two-none fadt.SmiCmd (λ b c. leb (address_field c) (address_field b)) fadt_order refl i j h k)

-- each block has a field of its own
pub fields-differ : (b c : FadtBlock) → address_field b ≡ address_field c → b ≡ c
fields-differ =
    each (λ b. (c : FadtBlock) → address_field b ≡ address_field c → b ≡ c)
    (λ i i<. each (λ c. address_field (name_at i) ≡ address_field c → name_at i ≡ c) (λ j j< e. ap name_at (same i j i< j< e)))
  where
    same : (i j : ℕ) → i < block_count → j < block_count → address_field (name_at i) ≡ address_field (name_at j) → i ≡ j
    same i j i< j< e =
        below-or-beyond i j (λ h. absurd (omega (arith, fields-rise i j h j<, e)))
        (λ h. below-or-beyond j i (λ k. absurd (omega (arith, fields-rise j i k i<, e))) (λ k. omega arith))
