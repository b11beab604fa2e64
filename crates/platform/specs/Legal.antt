-- What an accepted set-up guarantees of the settings: a test, and what it means.
use Rattle.std.specs.Prelude.{Bool, true, false, not, ◌&&◌, List, [], ◌∷◌, ◌≡◌, ℕ, ◌+◌, ◌%◌, ◌≤◌, ◌<◌, eqb, length, get_or}
use Rattle.std.specs.Int.Bits.{bit_and}
use Rattle.lists.specs.Any.{any, any_of}
use Rattle.acpi.specs.Fadt.{HW_REDUCED_ACPI}
use Rattle.cells.specs.Cells.{flag_of}
use Rattle.sleep.specs.Pairs.{out_of_range, shared}
use Rattle.platform.specs.Blocks.{present, holds, port_limit}
use Rattle.platform.specs.FadtBlocks.{block_of}
use Rattle.platform.specs.Rules.{gpe_longest, event_count, settings_rules}
use Rattle.platform.specs.declared.block.Block.{Block}
use Rattle.platform.specs.declared.block.FadtBlock.{FadtBlock}
use Rattle.platform.specs.declared.settings.Settings.{Settings}

-- an absent block that has a length all the same; that no PM1b block is one is one value for each meaning: no text can break it
unfoldable pub stray_length : Block → Bool
stray_length b = not (present b) && not (eqb b.length 0)

-- none of lines 5 to 12 refuses, and an absent PM1b block has no length, so that equal platforms are equal values
abbrev pub legal_tests : Settings → List Bool
legal_tests s = any (λ r. r.refused) (settings_rules s) ∷ stray_length s.pm1b_evt ∷ stray_length s.pm1b_cnt ∷ []

unfoldable pub legal_settings : Settings → Bool
legal_settings s = not (any_of (legal_tests s))

-- where the block is present it has this length
abbrev pub HasLength : ℕ → Block → Type 0
HasLength n b = present b ≡ true → b.length ≡ n

-- a present GPE block's length is "even and 2 to 16"
abbrev pub HasGpeLength : Block → Type 0
HasGpeLength b = present b ≡ true → (b.length % 2 ≡ 0) × (2 ≤ b.length) × (b.length ≤ gpe_longest)

-- where it is absent it has no length
abbrev pub HasNone : Block → Type 0
HasNone b = present b ≡ false → b.length ≡ 0

-- a port inside a present block belongs to that block alone
abbrev pub OneBlock : Settings → Type 0
OneBlock s = (port : ℕ) (b c : FadtBlock) → holds (block_of s b) port ≡ true → holds (block_of s c) port ≡ true → b ≡ c

-- what the test means, and so what every accepted set-up gives
pub record Guaranteed (s : Settings) : Type 0 where
  pub full_hardware : flag_of s.flags HW_REDUCED_ACPI ≡ false
  pub evt_a_length : HasLength 4 s.pm1a_evt
  pub evt_b_length : HasLength 4 s.pm1b_evt
  pub cnt_a_length : HasLength 2 s.pm1a_cnt
  pub cnt_b_length : HasLength 2 s.pm1b_cnt
  pub pm2_length : HasLength 1 s.pm2_cnt
  pub tmr_length : HasLength 4 s.pm_tmr
  pub gpe0_length : HasGpeLength s.gpe0
  pub gpe1_length : HasGpeLength s.gpe1
  pub evt_b_none : HasNone s.pm1b_evt
  pub cnt_b_none : HasNone s.pm1b_cnt
  pub pm2_none : HasNone s.pm2_cnt
  pub tmr_none : HasNone s.pm_tmr
  pub gpe0_none : HasNone s.gpe0
  pub gpe1_none : HasNone s.gpe1
  pub evt_a_present : present s.pm1a_evt ≡ true
  pub cnt_a_present : present s.pm1a_cnt ≡ true
  pub evt_a_aligned : s.pm1a_evt.address % 4 ≡ 0
  pub evt_b_aligned : s.pm1b_evt.address % 4 ≡ 0
  pub tmr_aligned : s.pm_tmr.address % 4 ≡ 0
  pub cnt_a_aligned : s.pm1a_cnt.address % 2 ≡ 0
  pub cnt_b_aligned : s.pm1b_cnt.address % 2 ≡ 0
  pub within_ports : (b : FadtBlock) → (block_of s b).address + (block_of s b).length ≤ port_limit
  pub one_block : OneBlock s
  pub gpe1_above_gpe0 : present s.gpe1 ≡ true → event_count s.gpe0 ≤ s.gpe1_base
  pub gpe1_numbers : present s.gpe1 ≡ true → s.gpe1_base + event_count s.gpe1 ≤ 256
  pub commands_differ : (s.smi_cmd ≡ 0 → ⊥) → s.acpi_enable ≡ s.acpi_disable → ⊥
  pub event_homes : bit_and s.event_homes 0xC731 ≡ s.event_homes
  pub control_homes : bit_and s.control_homes 0x0007 ≡ s.control_homes
  pub event_homes_in_b : present s.pm1b_evt ≡ false → s.event_homes ≡ 0
  pub control_homes_in_b : present s.pm1b_cnt ≡ false → s.control_homes ≡ 0
  pub pair_range : (i : ℕ) → i < length s.sleep.pairs → out_of_range (get_or s.sleep.pairs i []) ≡ false
  pub pairs_differ : (i j : ℕ) → i < j → j < length s.sleep.pairs
      → shared (present s.pm1b_cnt) (get_or s.sleep.pairs i []) (get_or s.sleep.pairs j []) ≡ false
