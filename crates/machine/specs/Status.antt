-- The PM1 status bits.
use Rattle.std.specs.Prelude.{Bool, not, ℕ, ◌^◌, eqb}
use Rattle.std.specs.Int.Bits.{bit_and}
use Rattle.acpi.specs.Bits.{TMR_STS, BM_STS, GBL_STS, PWRBTN_STS, SLPBTN_STS, RTC_STS, PCIEXP_WAKE_STS, WAK_STS}

-- each status bit at its place in the register
abbrev pub tmr_bit : ℕ
tmr_bit = 2 ^ TMR_STS

abbrev pub bm_bit : ℕ
bm_bit = 2 ^ BM_STS

abbrev pub gbl_bit : ℕ
gbl_bit = 2 ^ GBL_STS

abbrev pub pwrbtn_bit : ℕ
pwrbtn_bit = 2 ^ PWRBTN_STS

abbrev pub slpbtn_bit : ℕ
slpbtn_bit = 2 ^ SLPBTN_STS

abbrev pub rtc_bit : ℕ
rtc_bit = 2 ^ RTC_STS

abbrev pub pciexp_wake_bit : ℕ
pciexp_wake_bit = 2 ^ PCIEXP_WAKE_STS

abbrev pub wak_bit : ℕ
wak_bit = 2 ^ WAK_STS

-- a bit is among those of a mask
unfoldable pub has_bit : ℕ → ℕ → Bool
has_bit mask bit = not (eqb (bit_and mask bit) 0)
