-- The bits of the fixed registers by the standard's names.
use Rattle.std.specs.Prelude.{ℕ}

-- ---- PM1 status, PM1a_STS and PM1b_STS

-- the timer's top bit changed
abbrev pub TMR_STS : ℕ
TMR_STS = 0

-- a bus master asked for the bus
abbrev pub BM_STS : ℕ
BM_STS = 4

-- the firmware released the global lock
abbrev pub GBL_STS : ℕ
GBL_STS = 5

-- the power button went down
abbrev pub PWRBTN_STS : ℕ
PWRBTN_STS = 8

-- the sleep button went down
abbrev pub SLPBTN_STS : ℕ
SLPBTN_STS = 9

-- the real-time clock's alarm
abbrev pub RTC_STS : ℕ
RTC_STS = 10

-- a PCI Express wake
abbrev pub PCIEXP_WAKE_STS : ℕ
PCIEXP_WAKE_STS = 14

-- the machine woke, from S1 to S4
abbrev pub WAK_STS : ℕ
WAK_STS = 15

-- ---- PM1 enable, PM1a_EN and PM1b_EN: each at the bit of its status

-- TMR_STS raises SCI or SMI
abbrev pub TMR_EN : ℕ
TMR_EN = 0

-- GBL_STS raises SCI or SMI
abbrev pub GBL_EN : ℕ
GBL_EN = 5

-- PWRBTN_STS raises SCI or SMI
abbrev pub PWRBTN_EN : ℕ
PWRBTN_EN = 8

-- SLPBTN_STS raises SCI or SMI, and wakes
abbrev pub SLPBTN_EN : ℕ
SLPBTN_EN = 9

-- RTC_STS raises SCI or SMI, and wakes
abbrev pub RTC_EN : ℕ
RTC_EN = 10

-- a disable: set, PCI Express does not wake; by document 01 its status is not set then either
abbrev pub PCIEXP_WAKE_DIS : ℕ
PCIEXP_WAKE_DIS = 14

-- ---- PM1 control, PM1a_CNT and PM1b_CNT

-- events raise SCI, not SMI
abbrev pub SCI_EN : ℕ
SCI_EN = 0

-- a bus master's request takes a processor out of C3
abbrev pub BM_RLD : ℕ
BM_RLD = 1

-- written: the OS released the global lock, told to the firmware
abbrev pub GBL_RLS : ℕ
GBL_RLS = 2

-- the sleep type, bits 10 to 12
abbrev pub SLP_TYPx : ℕ
SLP_TYPx = 10

-- written: enters the state that SLP_TYPx names; reads zero
abbrev pub SLP_EN : ℕ
SLP_EN = 13

-- ---- PM2 control, PM2_CNT

-- the bus arbiter is disabled
abbrev pub ARB_DIS : ℕ
ARB_DIS = 0
