-- Rules 5 to 12 of setting up: tests of the settings read.
use Rattle.std.specs.Prelude.{Bool, not, ◌&&◌, ◌||◌, List, [], ◌∷◌, ℕ, ◌+◌, ◌*◌, ◌%◌, eqb, ltb, leb}
use Rattle.lists.specs.Any.{any, any_two, any_of}
use Rattle.acpi.specs.Fadt.{HW_REDUCED_ACPI}
use Rattle.bits.specs.Writes.{within}
use Rattle.cells.specs.Cells.{flag_of}
use Rattle.sleep.specs.Pairs.{sleep_refused}
use Rattle.platform.specs.Answer.{Rule, ◌when◌}
use Rattle.platform.specs.Blocks.{present, overlap, passes_ports}
use Rattle.platform.specs.FadtBlocks.{blocks_of}
use Rattle.platform.specs.declared.block.Block.{Block}
use Rattle.platform.specs.declared.settings.Settings.{Settings}
use Rattle.platform.specs.declared.rules.SetUpRefusal.TheVariants as refusal

-- 5: "flag bit 20 (hardware-reduced) is set"
unfoldable pub hardware_reduced : Settings → Bool
hardware_reduced s = flag_of s.flags HW_REDUCED_ACPI

-- "PM1_EVT length 4, PM1_CNT 2, PM2_CNT 1, PM_TMR 4, a GPE block even and 2 to 16": a present block has another length than the one allowed
unfoldable pub wrong_block_length : ℕ → Block → Bool
wrong_block_length n b = present b && not (eqb b.length n)

-- "a GPE block even and 2 to 16"
abbrev pub gpe_longest : ℕ
gpe_longest = 16

-- a present GPE block is none of these
unfoldable pub wrong_gpe_length : Block → Bool
wrong_gpe_length b = present b && not (eqb (b.length % 2) 0 && (leb 2 b.length && leb b.length gpe_longest))

-- "just one of address and length is zero"
unfoldable pub just_one_zero : Block → Bool
just_one_zero b = (eqb b.address 0 && not (eqb b.length 0)) || (not (eqb b.address 0) && eqb b.length 0)

-- 6: "a present block's length is not allowed, or just one of address and length is zero for PM2, timer or GPE"
abbrev pub length_tests : Settings → List Bool
length_tests s =
    wrong_block_length 4 s.pm1a_evt ∷
    wrong_block_length 4 s.pm1b_evt ∷
    wrong_block_length 2 s.pm1a_cnt ∷
    wrong_block_length 2 s.pm1b_cnt ∷
    wrong_block_length 1 s.pm2_cnt ∷
    wrong_block_length 4 s.pm_tmr ∷
    wrong_gpe_length s.gpe0 ∷
    wrong_gpe_length s.gpe1 ∷
    just_one_zero s.pm2_cnt ∷
    just_one_zero s.pm_tmr ∷
    just_one_zero s.gpe0 ∷
    just_one_zero s.gpe1 ∷
    []

unfoldable pub length_refused : Settings → Bool
length_refused s = any_of (length_tests s)

-- "PM1 event and timer addresses are multiples of 4, PM1 control addresses of 2; the others are free": an address is no multiple of n
unfoldable pub misaligned : ℕ → Block → Bool
misaligned n b = not (eqb (b.address % n) 0)

-- 7: "PM1a event or control is absent, an address is misaligned, or a block or SMI_CMD passes port 65,535"
abbrev pub place_tests : Settings → List Bool
place_tests s =
    not (present s.pm1a_evt) ∷
    not (present s.pm1a_cnt) ∷
    misaligned 4 s.pm1a_evt ∷
    misaligned 4 s.pm1b_evt ∷
    misaligned 4 s.pm_tmr ∷
    misaligned 2 s.pm1a_cnt ∷
    misaligned 2 s.pm1b_cnt ∷
    any passes_ports (blocks_of s) ∷
    []

unfoldable pub place_refused : Settings → Bool
place_refused s = any_of (place_tests s)

-- 8: "two present blocks overlap (SMI_CMD, if nonzero, is a one-byte block)"
unfoldable pub overlap_refused : Settings → Bool
overlap_refused s = any_two overlap (blocks_of s)

-- "GPE0 has 4 events for each byte of block length, .. GPE1 likewise"
abbrev pub event_count : Block → ℕ
event_count b = 4 * b.length

-- 9: "GPE1 is present and its base is below GPE0's event count, or base plus count exceeds 256"
unfoldable pub gpe_refused : Settings → Bool
gpe_refused s = present s.gpe1 && (ltb s.gpe1_base (event_count s.gpe0) || ltb 256 (s.gpe1_base + event_count s.gpe1))

-- 10: "SMI_CMD is nonzero and ACPI_ENABLE equals ACPI_DISABLE"
unfoldable pub commands_refused : Settings → Bool
commands_refused s = not (eqb s.smi_cmd 0) && eqb s.acpi_enable s.acpi_disable

-- "any bit where that B block is absent"
unfoldable pub homes_without_block : Block → ℕ → Bool
homes_without_block b homes = not (present b) && not (eqb homes 0)

-- 11: "event homes have a bit outside C731 hex, control homes outside 0007, or any bit where that B block is absent"
abbrev pub home_tests : Settings → List Bool
home_tests s =
    not (within 0xC731 s.event_homes) ∷
    not (within 0x0007 s.control_homes) ∷
    homes_without_block s.pm1b_evt s.event_homes ∷
    homes_without_block s.pm1b_cnt s.control_homes ∷
    []

unfoldable pub homes_refused : Settings → Bool
homes_refused s = any_of (home_tests s)

-- 12: "an a or b exceeds 7 (b also without PM1b control), or two present states share their pair (only a counts when PM1b control is absent)"
unfoldable pub sleep_pairs_refused : Settings → Bool
sleep_pairs_refused s = sleep_refused (present s.pm1b_cnt) s.sleep.pairs

-- the table's lines 5 to 12
abbrev pub settings_rules : Settings → List Rule
settings_rules s =
    refusal.HardwareReduced when hardware_reduced s ∷
    refusal.BlockLength when length_refused s ∷
    refusal.BlockPlace when place_refused s ∷
    refusal.BlocksOverlap when overlap_refused s ∷
    refusal.Gpe1Numbers when gpe_refused s ∷
    refusal.SameCommands when commands_refused s ∷
    refusal.WrongHomes when homes_refused s ∷
    refusal.SleepPairs when sleep_pairs_refused s ∷
    []
