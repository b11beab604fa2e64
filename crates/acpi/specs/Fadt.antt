-- The FADT by the standard's names: fields by byte offset, flags by number.
use Rattle.std.specs.Prelude.{ℕ}

-- ---- FADT fields

-- 4 bytes: FACP
abbrev pub «SIGNATURE» : ℕ
«SIGNATURE» = 0

-- 4 bytes: the table's own length
abbrev pub «LENGTH» : ℕ
«LENGTH» = 4

-- of the table's layout
abbrev pub «REVISION» : ℕ
«REVISION» = 8

-- with it the table's bytes sum to zero
abbrev pub «CHECKSUM» : ℕ
«CHECKSUM» = 9

-- 4 bytes: the SMI command port
abbrev pub SMI_CMD : ℕ
SMI_CMD = 48

-- the command that sets SCI_EN
abbrev pub ACPI_ENABLE : ℕ
ACPI_ENABLE = 52

-- the command that clears it
abbrev pub ACPI_DISABLE : ℕ
ACPI_DISABLE = 53

-- 4 bytes: the block's address
abbrev pub PM1a_EVT_BLK : ℕ
PM1a_EVT_BLK = 56

-- 4 bytes: the block's address
abbrev pub PM1b_EVT_BLK : ℕ
PM1b_EVT_BLK = 60

-- 4 bytes: the block's address
abbrev pub PM1a_CNT_BLK : ℕ
PM1a_CNT_BLK = 64

-- 4 bytes: the block's address
abbrev pub PM1b_CNT_BLK : ℕ
PM1b_CNT_BLK = 68

-- 4 bytes: the block's address
abbrev pub PM2_CNT_BLK : ℕ
PM2_CNT_BLK = 72

-- 4 bytes: the block's address
abbrev pub PM_TMR_BLK : ℕ
PM_TMR_BLK = 76

-- 4 bytes: the block's address
abbrev pub GPE0_BLK : ℕ
GPE0_BLK = 80

-- 4 bytes: the block's address
abbrev pub GPE1_BLK : ℕ
GPE1_BLK = 84

-- a byte: the length of block A, and of block B
abbrev pub PM1_EVT_LEN : ℕ
PM1_EVT_LEN = 88

-- a byte: the length of block A, and of block B
abbrev pub PM1_CNT_LEN : ℕ
PM1_CNT_LEN = 89

-- a byte: the block's length
abbrev pub PM2_CNT_LEN : ℕ
PM2_CNT_LEN = 90

-- a byte: the block's length
abbrev pub PM_TMR_LEN : ℕ
PM_TMR_LEN = 91

-- a byte: the block's length
abbrev pub GPE0_BLK_LEN : ℕ
GPE0_BLK_LEN = 92

-- a byte: the block's length
abbrev pub GPE1_BLK_LEN : ℕ
GPE1_BLK_LEN = 93

-- the number of GPE1's first event
abbrev pub GPE1_BASE : ℕ
GPE1_BASE = 94

-- 4 bytes: the flags
abbrev pub «FLAGS» : ℕ
«FLAGS» = 112

-- ---- FADT flags

-- set: no fixed power button
abbrev pub PWR_BUTTON : ℕ
PWR_BUTTON = 4

-- set: no fixed sleep button
abbrev pub SLP_BUTTON : ℕ
SLP_BUTTON = 5

-- set: no fixed RTC wake status
abbrev pub FIX_RTC : ℕ
FIX_RTC = 6

-- the alarm wakes S4 too
abbrev pub RTC_S4 : ℕ
RTC_S4 = 7

-- the timer has 32 bits, not 24
abbrev pub TMR_VAL_EXT : ℕ
TMR_VAL_EXT = 8

-- PCIEXP_WAKE_STS and PCIEXP_WAKE_DIS are there
abbrev pub PCI_EXP_WAK : ℕ
PCI_EXP_WAK = 14

-- no fixed hardware at all
abbrev pub HW_REDUCED_ACPI : ℕ
HW_REDUCED_ACPI = 20
