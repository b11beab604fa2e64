-- A port written as a block's address plus an offset leads to that block: it is inside it, and by the rule against overlaps in no other.
-- Assumes nothing.
use mathlib.Core.Bool.{true, false}
use mathlib.Core.Path.{◌≡◌, ap}
use Prim.Native.Nat.{ℕ, ◌+◌, ◌<◌}
use native.Mathlib.Omega.{arith}
use Rattle.platform.specs.Blocks.{present}
use Rattle.platform.specs.FadtBlocks.{block_of}
use Rattle.platform.specs.Legal.{Guaranteed}
use Rattle.platform.specs.declared.block.FadtBlock.{FadtBlock}
use Rattle.platform.specs.declared.block.FadtBlock.TheVariants as fadt
use Rattle.platform.specs.declared.settings.Settings.{Settings}
use Rattle.ports.proofs.Theorems.{leads-to-own}
use Rattle.model.specs.Ports.{block_register, register_in, offset_in, register_at, offset_at}
use Rattle.model.specs.declared.Register.TheVariants as register

module _ (s : Settings) (legal : Guaranteed s) (offset : ℕ) where
  module _ (b : FadtBlock) (there : present (block_of s b) ≡ true) (inside : offset < (block_of s b).length) where
    register-is : register_at s ((block_of s b).address + offset) ≡ block_register b
    unfolding register_at
    register-is = ap register_in (leads-to-own s b offset there inside legal.one_block)

    offset-is : offset_at s ((block_of s b).address + offset) ≡ offset
    unfolding offset_at
    offset-is = ap offset_in (leads-to-own s b offset there inside legal.one_block)

  pub event-a : offset < s.pm1a_evt.length → register_at s (s.pm1a_evt.address + offset) ≡ register.Pm1Evt false
  event-a o = register-is fadt.Pm1aEvtBlk legal.evt_a_present o

  pub event-b : present s.pm1b_evt ≡ true → offset < s.pm1a_evt.length → register_at s (s.pm1b_evt.address + offset) ≡ register.Pm1Evt true
  event-b p o =
      let a = legal.evt_a_length legal.evt_a_present in
      let b = legal.evt_b_length p in
      register-is fadt.Pm1bEvtBlk p (omega arith)

  pub control-a : offset < s.pm1a_cnt.length → register_at s (s.pm1a_cnt.address + offset) ≡ register.Pm1Cnt false
  control-a o = register-is fadt.Pm1aCntBlk legal.cnt_a_present o

  pub offset-a : offset < s.pm1a_evt.length → offset_at s (s.pm1a_evt.address + offset) ≡ offset
  offset-a o = offset-is fadt.Pm1aEvtBlk legal.evt_a_present o

  pub offset-b : present s.pm1b_evt ≡ true → offset < s.pm1a_evt.length → offset_at s (s.pm1b_evt.address + offset) ≡ offset
  offset-b p o =
      let a = legal.evt_a_length legal.evt_a_present in
      let b = legal.evt_b_length p in
      offset-is fadt.Pm1bEvtBlk p (omega arith)
