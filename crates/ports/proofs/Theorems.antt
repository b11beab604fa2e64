-- The walk's answer means what it says, and no other answer does: the walk passes what does not hold the port, in the order of the FADT's address fields,
-- and stops at the first that does. Where no two blocks share a port the first is the only one. Assumes nothing.
use mathlib.Core.Bool.{Bool, true, false, cond}
use mathlib.Core.List.{List, [], ◌∷◌}
use Rattle.std.specs.Prelude.{Option, Some, None}
use mathlib.Core.Path.{◌≡◌, refl, sym, ◌∙◌, ap, ap₂}
use Prim.Native.Nat.{ℕ, zero, suc, ◌+◌, ◌-◌, ◌≤◌, ◌<◌, zero-le, suc-le-suc}
use native.Mathlib.Nat.{le_of_suc-le-suc, not-suc-le-zero}
use native.Mathlib.Omega.{arith}
use lib.ListN.{length, get_or}
use Rattle.std.proofs.Common.{Ok}
use Rattle.bits.proofs.Digits.{below-or-beyond}
use Rattle.platform.specs.Answer.{first_failing}
use Rattle.platform.specs.Blocks.{present, holds}
use Rattle.platform.specs.FadtBlocks.{address_field, block_of, block_count, fadt_order}
use Rattle.platform.specs.Legal.{OneBlock}
use Rattle.platform.specs.Rules.{settings_rules}
use Rattle.platform.specs.declared.block.FadtBlock.{FadtBlock}
use Rattle.platform.specs.declared.block.FadtBlock.TheVariants as fadt
use Rattle.platform.specs.declared.settings.Settings.{Settings}
use Rattle.platform.proofs.FadtOrder.{name_at, each, fields-rise, fields-differ}
use Rattle.platform.proofs.Legal.{holds-from, holds_of, accepted-one-block}
use Rattle.ports.specs.Walk.{in_block, walk_over, walk, NoneHolds, FirstHolds, Means}
use Rattle.ports.specs.declared.Place.{Place}

-- a test is not both
not-both : (t : Bool) → t ≡ true → t ≡ false → ⊥
not-both t p q = let no : ◌≡◌ {A = ℕ} 0 1 = cc in omega arith

-- ---- over any blocks

module _ (s : Settings) (port : ℕ) where
  -- the first k of these blocks do not hold the port
  abbrev Passes : List FadtBlock → ℕ → Type 0
  Passes bs k = (j : ℕ) → j < k → holds (block_of s (get_or bs j fadt.SmiCmd)) port ≡ false

  passes-more : (b : FadtBlock) (bs : List FadtBlock) (k : ℕ) → holds (block_of s b) port ≡ false → Passes bs k → Passes (b ∷ bs) (suc k)
  passes-more b bs k e more zero h = e
  passes-more b bs k e more (suc j) h = more j (le_of_suc-le-suc h)

  -- the block stands at some place, holds the port, and all before it are passed
  record Stops (bs : List FadtBlock) (b : FadtBlock) (offset : ℕ) : Type 0 where
    place : ℕ
    within : place < length bs
    named : get_or bs place fadt.SmiCmd ≡ b
    inside : holds (block_of s b) port ≡ true
    passed : Passes bs place
    at : offset ≡ port - (block_of s b).address

  abbrev Over : List FadtBlock → Option Place → Type 0
  Over bs (Some p) = Stops bs p.block p.offset
  Over bs None = Passes bs (length bs)

  over-means : (bs : List FadtBlock) → Over bs (walk_over s port bs)
  unfolding walk_over
  over-means [] = λ j h. absurd (not-suc-le-zero h)
  over-means (b ∷ bs) = go (holds (block_of s b) port) refl (walk_over s port bs) (over-means bs)
    where
      go : (t : Bool) → holds (block_of s b) port ≡ t → (p : Option Place) → Over bs p → Over (b ∷ bs) (cond t (in_block b (port - (block_of s b).address)) p)
      go true e p m = record { place = 0; within = suc-le-suc zero-le; named = refl; inside = e; passed = λ j h. absurd (not-suc-le-zero h); at = refl }
      go false e (Some p) m =
          record {
            place = suc m.place;
            within = suc-le-suc m.within;
            named = m.named;
            inside = m.inside;
            passed = passes-more b bs m.place e m.passed;
            at = m.at;
          }
      go false e None m = passes-more b bs (length bs) e m

-- ---- what the answer means

-- a field that is no later stands no later in the order
no-later : (i j : ℕ) → i ≤ j → j < block_count → address_field (name_at i) ≤ address_field (name_at j)
no-later i j h k =
    below-or-beyond i j (λ less. omega (arith, fields-rise i j less k))
    (λ more. let same : i ≡ j = omega arith in rw same (omega arith))

module _ (s : Settings) (port : ℕ) where
  pub walk-means : Means s port (walk s port)
  walk-means = go (walk s port) (over-means s port fadt_order)
    where
      go : (p : Option Place) → Over s port fadt_order p → Means s port p
      go (Some p) m =
          record {
            there = (holds-from (block_of s p.block) port m.inside).0;
            inside = m.inside;
            no_earlier =
                each (λ c. address_field c < address_field p.block → holds (block_of s c) port ≡ false)
                (λ j j< less.
                below-or-beyond j m.place (λ h. m.passed j h)
                (λ h. absurd (omega (arith, no-later m.place j h j<, ap address_field m.named, less))));
            at = m.at;
          }
      go None m = each (λ b. holds (block_of s b) port ≡ false) m

  -- one block of two that each stand first
  first_alone : (b c : FadtBlock) (offset other : ℕ) → FirstHolds s port b offset → FirstHolds s port c other → b ≡ c
  first_alone b c offset other m n =
      fields-differ b c
      (below-or-beyond (address_field b) (address_field c) (λ h. absurd (not-both _ m.inside (n.no_earlier b h)))
      (λ h. below-or-beyond (address_field c) (address_field b) (λ k. absurd (not-both _ n.inside (m.no_earlier c k))) (λ k. omega arith)))

  means-alone : (p q : Option Place) → Means s port p → Means s port q → p ≡ q
  means-alone (Some p) (Some q) m n =
      let same : p.block ≡ q.block = first_alone p.block q.block p.offset q.offset m n in
      let offsets : p.offset ≡ q.offset = m.at ∙ ap (λ (d : FadtBlock). port - (block_of s d).address) same ∙ sym n.at in
      ap₂ in_block same offsets
  means-alone (Some p) None m n = absurd (not-both _ m.inside (n p.block))
  means-alone None (Some q) m n = absurd (not-both _ n.inside (m q.block))
  means-alone None None m n = refl

  -- the walk gives the answer that is so
  pub means-walk : (p : Option Place) → Means s port p → walk s port ≡ p
  means-walk p m = means-alone (walk s port) p walk-means m

  -- "none exactly if no block does"
  pub none-exactly : (walk s port ≡ None → NoneHolds s port) × (NoneHolds s port → walk s port ≡ None)
  none-exactly = (λ e. rw e at walk-means, means-walk None)

  -- "the first that holds it and the offset in it"
  pub first-exactly : (b : FadtBlock) (offset : ℕ)
      → (walk s port ≡ in_block b offset → FirstHolds s port b offset) × (FirstHolds s port b offset → walk s port ≡ in_block b offset)
  first-exactly b offset = (λ e. rw e at walk-means, means-walk (in_block b offset))

-- ---- every port of every present block

module _ (s : Settings) (b : FadtBlock) (offset : ℕ) (there : present (block_of s b) ≡ true) (inside : offset < (block_of s b).length) where
  holds-its-own : holds (block_of s b) ((block_of s b).address + offset) ≡ true
  holds-its-own = holds_of (block_of s b) ((block_of s b).address + offset) there (omega arith) (omega arith)

  -- is found, on any platform
  pub every-port-found : walk s ((block_of s b).address + offset) ≡ None → ⊥
  every-port-found e = not-both _ holds-its-own ((none-exactly s ((block_of s b).address + offset)).0 e b)

  -- and leads to that block where no two share a port
  pub leads-to-own : OneBlock s → walk s ((block_of s b).address + offset) ≡ in_block b offset
  leads-to-own one =
      means-walk s ((block_of s b).address + offset) (in_block b offset)
      (record {
        there = there;
        inside = holds-its-own;
        no_earlier = λ c less. go c less (holds (block_of s c) ((block_of s b).address + offset)) refl;
        at = omega arith;
      })
    where
      go : (c : FadtBlock) → address_field c < address_field b → (t : Bool) → holds (block_of s c) ((block_of s b).address + offset) ≡ t → t ≡ false
      go c less true e = let same : c ≡ b = one _ c b e holds-its-own in absurd (omega (arith, ap address_field same, less))
      go c less false e = refl

-- the block that the walk gives is the only one that holds the port, where no two share one
pub found-alone : (s : Settings) → OneBlock s → (port : ℕ) (b : FadtBlock) (offset : ℕ) → walk s port ≡ in_block b offset
    → (c : FadtBlock) → holds (block_of s c) port ≡ true → c ≡ b
found-alone s one port b offset e c h = one port c b h ((first-exactly s port b offset).0 e).inside

-- ---- on an accepted platform no two share one

module _ (s : Settings) (accepted : first_failing (settings_rules s) ≡ Ok tt) where
  pub accepted-alone : (port : ℕ) (b : FadtBlock) (offset : ℕ) → walk s port ≡ in_block b offset
      → (c : FadtBlock) → holds (block_of s c) port ≡ true → c ≡ b
  accepted-alone = found-alone s (accepted-one-block s accepted)

  -- every port of every present block leads to that block
  pub accepted-leads : (b : FadtBlock) (offset : ℕ) → present (block_of s b) ≡ true → offset < (block_of s b).length
      → walk s ((block_of s b).address + offset) ≡ in_block b offset
  accepted-leads b offset there inside = leads-to-own s b offset there inside (accepted-one-block s accepted)
