-- One turn of the walk: a block that holds the port ends it, another is passed. Assumes nothing.
use mathlib.Core.Bool.{true, false}
use mathlib.Core.List.{List, ◌∷◌}
use Rattle.std.specs.Prelude.{Option}
use mathlib.Core.Path.{◌≡◌, refl, sym, ◌∙◌}
use Prim.Native.Nat.{ℕ, suc, ◌-◌, ◌<◌}
use lib.ListN.{drop}
use lib.Seq.{drop-cons}
use Rattle.platform.specs.Blocks.{holds}
use Rattle.platform.specs.FadtBlocks.{block_of, block_count, fadt_order}
use Rattle.platform.specs.declared.block.FadtBlock.{FadtBlock}
use Rattle.platform.specs.declared.block.FadtBlock.TheVariants as fadt
use Rattle.platform.specs.declared.settings.Settings.{Settings}
use Rattle.platform.proofs.FadtOrder.{name_at}
use Rattle.ports.specs.Walk.{in_block, walk_over, walk}
use Rattle.ports.specs.declared.Place.{Place}

module _ (s : Settings) (port : ℕ) where
  module _ (b : FadtBlock) (bs : List FadtBlock) where
    pub walk_here : holds (block_of s b) port ≡ true → walk_over s port (b ∷ bs) ≡ in_block b (port - (block_of s b).address)
    unfolding walk_over
    walk_here e = rw e refl

    pub walk-past : holds (block_of s b) port ≡ false → walk_over s port (b ∷ bs) ≡ walk_over s port bs
    unfolding walk_over
    walk-past e = rw e refl

  -- the first k blocks do not hold the port
  abbrev pub Passed : ℕ → Type 0
  Passed k = walk s port ≡ walk_over s port (drop k fadt_order)

  module _ (k : ℕ) (h : k < block_count) (passed : Passed k) where
    pub passes : holds (block_of s (name_at k)) port ≡ false → Passed (suc k)
    passes e = passed ∙ rw (drop-cons fadt_order k fadt.SmiCmd h) (walk-past (name_at k) (drop (suc k) fadt_order) e)

    pub ends : holds (block_of s (name_at k)) port ≡ true → (r : Option Place) → r ≡ in_block (name_at k) (port - (block_of s (name_at k)).address) → r ≡ walk s port
    ends e r q = q ∙ sym (passed ∙ rw (drop-cons fadt_order k fadt.SmiCmd h) (walk_here (name_at k) (drop (suc k) fadt_order) e))
