-- The named bits make document 01's masks: C731 hex, and with enables 4721, of which 0721 raise SCI or SMI.
use mathlib.Core.Path.{◌≡◌, refl}
use Prim.Native.Nat.{◌+◌, ◌^◌}
use Rattle.acpi.specs.Bits.{TMR_STS, BM_STS, GBL_STS, PWRBTN_STS, SLPBTN_STS, RTC_STS, PCIEXP_WAKE_STS, WAK_STS, TMR_EN, GBL_EN, PWRBTN_EN, SLPBTN_EN, RTC_EN, PCIEXP_WAKE_DIS, SCI_EN, BM_RLD, GBL_RLS}

pub status-bits : 2 ^ TMR_STS + 2 ^ BM_STS + 2 ^ GBL_STS + 2 ^ PWRBTN_STS + 2 ^ SLPBTN_STS + 2 ^ RTC_STS + 2 ^ PCIEXP_WAKE_STS + 2 ^ WAK_STS ≡ 0xC731
status-bits = refl

pub event-enables : 2 ^ TMR_EN + 2 ^ GBL_EN + 2 ^ PWRBTN_EN + 2 ^ SLPBTN_EN + 2 ^ RTC_EN ≡ 0x0721
event-enables = refl

pub enable-bits : 0x0721 + 2 ^ PCIEXP_WAKE_DIS ≡ 0x4721
enable-bits = refl

-- the control bits that have a home
pub home-bits : 2 ^ SCI_EN + 2 ^ BM_RLD + 2 ^ GBL_RLS ≡ 0x0007
home-bits = refl
