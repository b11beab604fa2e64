-- The registers that blocks A and B and the GPE blocks show: where each bit lives, what a read shows, and what a write does.
-- Throughout, b is true for block B, or GPE1, and false for block A, or GPE0.
use Rattle.std.specs.Prelude.{Bool, not, cond, ◌&&◌, ◌||◌, List, ℕ, ◌*◌, ◌-◌, ◌/◌, ◌%◌, ◌^◌, eqb, ltb, leb, get_or, set}
use Rattle.std.specs.Int.Bits.{bit_and, bit_or}
use Rattle.acpi.specs.Bits.{SCI_EN, BM_RLD, SLP_TYPx}
use Rattle.bits.specs.Writes.{kept, cleared_by, taken_by, lane, byte_at}
use Rattle.platform.specs.Blocks.{present}
use Rattle.platform.specs.Fitted.{status_cells, enable_cells}
use Rattle.platform.specs.declared.settings.Settings.{Settings}
use Rattle.machine.specs.Status.{pciexp_wake_bit, has_bit}
use Rattle.machine.specs.declared.Machine.{Machine}

-- the bits whose home is the block. A bit's home, document 01's word, is the block where it is read and written, "one bit set meaning block B"
abbrev pub homes_in : ℕ → Bool → ℕ
homes_in homes b = cond b homes (2 ^ 16 - 1 - homes)

-- "Each event bit lives in one block, its home; status and enable share it": the fitted cells that the block shows
abbrev pub status_in : Settings → Bool → ℕ
status_in s b = bit_and (status_cells s) (homes_in s.event_homes b)

abbrev pub enable_in : Settings → Bool → ℕ
enable_in s b = bit_and (enable_cells s) (homes_in s.event_homes b)

-- ---- accesses of one or two bytes to a register of two

-- "A byte access touches that byte alone": the byte of the register at an even or odd offset
abbrev pub lane_at : ℕ → ℕ
lane_at offset = offset % 2

-- the access is of one byte; one at an odd offset always is, since "two bytes at a register's start" alone are allowed
abbrev pub one_byte : ℕ → ℕ → Bool
one_byte width offset = not (eqb (lane_at offset) 0) || eqb width 1

-- what an access of the width shows of the register
abbrev pub shown : ℕ → ℕ → ℕ → ℕ
shown width offset register = cond (one_byte width offset) (byte_at (lane_at offset) register) register

-- the register's bits that the access covers
abbrev pub covered : ℕ → ℕ → ℕ
covered width offset = cond (one_byte width offset) (lane (lane_at offset) 255) (2 ^ 16 - 1)

-- what is written, at its place in the register
abbrev pub placed : ℕ → ℕ → ℕ
placed offset written = lane (lane_at offset) written

-- ---- the PM1 event registers: PM1a_STS and PM1a_EN, PM1b_STS and PM1b_EN

-- "The status half comes first, the enable half second.": two bytes each
unfoldable pub in_status : ℕ → Bool
in_status offset = ltb offset 2

unfoldable pub in_enable : ℕ → Bool
in_enable offset = leb 2 offset && ltb offset 4

-- "Elsewhere, and for unfitted or reserved bits, reads give zero": what the block's halves show
abbrev pub status_register : Machine → Bool → ℕ
status_register m b = bit_and m.pm1_sts (status_in m.settings b)

abbrev pub enable_register : Machine → Bool → ℕ
enable_register m b = bit_and m.pm1_en (enable_in m.settings b)

abbrev pub event_register : Machine → Bool → ℕ → ℕ
event_register m b offset = cond (in_status offset) (status_register m b) (cond (in_enable offset) (enable_register m b) 0)

-- the status bits that a write to the block may clear: bit 14's "Clearing works only with the pin inactive" (request W3)
abbrev pub clearable : Machine → Bool → ℕ
clearable m b = kept 16 (status_in m.settings b) (cond m.wake_pin pciexp_wake_bit 0)

-- the ones written to such bits
abbrev pub ones_in : Machine → Bool → ℕ → ℕ → ℕ → ℕ
ones_in m b width offset written = bit_and (placed offset written) (bit_and (clearable m b) (covered width offset))

-- "Writing one to a status bit clears it; writing zero keeps it."
abbrev pub status_cleared : Machine → Bool → ℕ → ℕ → ℕ → ℕ
status_cleared m b width offset written = kept 16 m.pm1_sts (ones_in m b width offset written)

-- the status after a write at an offset of the status half; elsewhere it is kept
unfoldable pub status_after : Machine → Bool → ℕ → ℕ → ℕ → ℕ
status_after m b width offset written = cond (in_status offset) (status_cleared m b width offset written) m.pm1_sts

-- "An enable bit takes the value written."
abbrev pub enable_taken : Machine → Bool → ℕ → ℕ → ℕ → ℕ
enable_taken m b width offset written =
    taken_by 16 m.pm1_en (placed offset written) (bit_and (enable_in m.settings b) (covered width offset))

-- the enables after a write at an offset of the enable half
unfoldable pub enable_after : Machine → Bool → ℕ → ℕ → ℕ → ℕ
enable_after m b width offset written = cond (in_enable offset) (enable_taken m b width offset written) m.pm1_en

-- ---- the PM1 control registers: PM1a_CNT, PM1b_CNT

-- a control bit, SCI_EN, BM_RLD or GBL_RLS, lives in the block
unfoldable pub control_in : Settings → Bool → ℕ → Bool
control_in s b bit = has_bit (homes_in s.control_homes b) (2 ^ bit)

-- a bit that reads one where the test holds
abbrev pub bit_when : Bool → ℕ → ℕ
bit_when test bit = cond test (2 ^ bit) 0

-- PM1b control is present
abbrev pub has_pm1b_cnt : Settings → Bool
has_pm1b_cnt s = present s.pm1b_cnt

-- "10 to 12 SLP_TYP in both blocks": each its own
abbrev pub slp_typ : Machine → Bool → ℕ
slp_typ m b = cond b m.slp_typ_b m.slp_typ_a

-- "0 SCI_EN (writes ignored), 1 BM_RLD, 2 GBL_RLS (.. reads zero), each in its home; 10 to 12 SLP_TYP in both blocks; 13 SLP_EN, reads zero"
abbrev pub control_register : Machine → Bool → ℕ
control_register m b =
    bit_or (bit_or (bit_when (control_in m.settings b SCI_EN && m.sci_en) SCI_EN) (bit_when (control_in m.settings b BM_RLD && m.bm_rld) BM_RLD)) (slp_typ m b % 8 * 2 ^ SLP_TYPx)

-- what a read at the offset shows: the register has two bytes
abbrev pub control_shown : Machine → Bool → ℕ → ℕ → ℕ
control_shown m b width offset = shown width offset (cond (ltb offset 2) (control_register m b) 0)

-- the access covers the register's low byte, or its high byte
unfoldable pub covers_low : ℕ → Bool
covers_low offset = eqb offset 0

unfoldable pub covers_high : ℕ → ℕ → Bool
covers_high width offset = eqb offset 1 || (eqb offset 0 && eqb width 2)

-- bit n of what is written at the offset
unfoldable pub written_bit : ℕ → ℕ → ℕ → Bool
written_bit offset written n = eqb (placed offset written / 2 ^ n % 2) 1

-- ---- the general event bytes: GPE0_STS, GPE0_EN, GPE1_STS, GPE1_EN

-- "GPE: status bytes, then as many enable bytes"
abbrev pub gpe_half : Settings → Bool → ℕ
gpe_half s b = cond b s.gpe1.length s.gpe0.length / 2

abbrev pub gpe_sts : Machine → Bool → List ℕ
gpe_sts m b = cond b m.gpe1_sts m.gpe0_sts

abbrev pub gpe_en : Machine → Bool → List ℕ
gpe_en m b = cond b m.gpe1_en m.gpe0_en

-- the offset is one of the status bytes
unfoldable pub in_gpe_status : Settings → Bool → ℕ → Bool
in_gpe_status s b offset = ltb offset (gpe_half s b)

-- the block's byte at an offset of its status half, and of its enable half
abbrev pub gpe_sts_byte : Machine → Bool → ℕ → ℕ
gpe_sts_byte m b offset = get_or (gpe_sts m b) offset 0

abbrev pub gpe_en_byte : Machine → Bool → ℕ → ℕ
gpe_en_byte m b offset = get_or (gpe_en m b) (offset - gpe_half m.settings b) 0

abbrev pub gpe_byte : Machine → Bool → ℕ → ℕ
gpe_byte m b offset = cond (in_gpe_status m.settings b offset) (gpe_sts_byte m b offset) (gpe_en_byte m b offset)

-- ".. the same rules": the ones of the byte written are cleared
abbrev pub gpe_sts_cleared : Machine → Bool → ℕ → ℕ → List ℕ
gpe_sts_cleared m b offset written = set (gpe_sts m b) offset (cleared_by 8 (gpe_sts_byte m b offset) written 255)

unfoldable pub gpe_sts_after : Machine → Bool → ℕ → ℕ → List ℕ
gpe_sts_after m b offset written = cond (in_gpe_status m.settings b offset) (gpe_sts_cleared m b offset written) (gpe_sts m b)

-- "the same rules": an enable byte takes the byte written
abbrev pub gpe_en_taken : Machine → Bool → ℕ → ℕ → List ℕ
gpe_en_taken m b offset written = set (gpe_en m b) (offset - gpe_half m.settings b) (written % 2 ^ 8)

unfoldable pub gpe_en_after : Machine → Bool → ℕ → ℕ → List ℕ
gpe_en_after m b offset written = cond (in_gpe_status m.settings b offset) (gpe_en m b) (gpe_en_taken m b offset written)
