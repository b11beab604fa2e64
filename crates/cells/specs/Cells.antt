-- "The cells": the eight rows, and the masks computed from them.
use Rattle.std.specs.Prelude.{ℕ, ◌^◌, ◌/◌, ◌%◌, Bool, true, false, not, cond, ◌&&◌, List, [], ◌∷◌, eqb, ltb}
use Rattle.std.specs.Int.Bits.{bit_or}
use Rattle.acpi.specs.Bits.{TMR_STS, BM_STS, GBL_STS, PWRBTN_STS, SLPBTN_STS, RTC_STS, PCIEXP_WAKE_STS, WAK_STS}
use Rattle.acpi.specs.Fadt.{PWR_BUTTON, SLP_BUTTON, FIX_RTC, PCI_EXP_WAK}
use Rattle.cells.specs.declared.Status.{Status}
use Rattle.cells.specs.declared.Status.TheVariants as status
use Rattle.cells.specs.declared.Enable.{Enable}
use Rattle.cells.specs.declared.Enable.TheVariants as enable
use Rattle.cells.specs.declared.Fitted.{Fitted}
use Rattle.cells.specs.declared.Fitted.TheVariants as fitted
use Rattle.cells.specs.declared.Cell.{Cell}
use Rattle.cells.specs.declared.Column.{Column}
use Rattle.cells.specs.declared.Column.TheVariants as column

-- one row: bit, status, enable, what it is fitted by
abbrev pub row : ℕ → Status → Enable → Fitted → Cell
row bit status enable fitted = record { bit = bit; status = status; enable = enable; fitted = fitted }

-- the table "Bit, Status, Enable, Fitted"
abbrev pub cells : List Cell
cells =
    row TMR_STS status.Tmr enable.Yes fitted.TimerPresent ∷
    row BM_STS status.Bm enable.No fitted.Always ∷
    row GBL_STS status.Gbl enable.Yes fitted.Always ∷
    row PWRBTN_STS status.Pwrbtn enable.Yes (fitted.FlagClear PWR_BUTTON) ∷
    row SLPBTN_STS status.Slpbtn enable.Yes (fitted.FlagClear SLP_BUTTON) ∷
    row RTC_STS status.Rtc enable.Yes (fitted.FlagClear FIX_RTC) ∷
    row PCIEXP_WAKE_STS status.PciexpWake enable.Disable (fitted.FlagSet PCI_EXP_WAK) ∷
    row WAK_STS status.Wak enable.No fitted.Always ∷
    []

-- flag n of the FADT's flags
unfoldable pub flag_of : ℕ → ℕ → Bool
flag_of flags n = eqb (flags / 2 ^ n % 2) 1

-- the column "Fitted", on a platform with these flags, with or without a timer
abbrev pub is_fitted : ℕ → Bool → Fitted → Bool
is_fitted flags timer fitted.Always = true
is_fitted flags timer fitted.TimerPresent = timer
is_fitted flags timer (fitted.FlagClear n) = not (flag_of flags n)
is_fitted flags timer (fitted.FlagSet n) = flag_of flags n

-- the column "Enable": there is an enable cell, bit 14's disable too
abbrev pub has_enable : Enable → Bool
has_enable enable.No = false
has_enable enable.Yes = true
has_enable enable.Disable = true

-- "PM1 status and enable and 0721 hex": an enable, no disable
abbrev pub is_event : Enable → Bool
is_event enable.No = false
is_event enable.Yes = true
is_event enable.Disable = false

-- whether the row counts for the column
abbrev pub is_in : Column → ℕ → Bool → Cell → Bool
is_in column.Known flags timer c = true
is_in column.Status flags timer c = is_fitted flags timer c.fitted
is_in column.Enable flags timer c = has_enable c.enable && is_fitted flags timer c.fitted
is_in column.Event flags timer c = is_event c.enable

-- bit n of a register of 16
unfoldable pub bit_at : ℕ → ℕ
bit_at n = cond (ltb n 16) (2 ^ n) 0

-- the row's bit where the row counts, else nothing
abbrev pub cell_bit : Column → ℕ → Bool → Cell → ℕ
cell_bit of flags timer c = cond (is_in of flags timer c) (bit_at c.bit) 0

-- "for unfitted or reserved bits, reads give zero and writes do nothing": a mask is the bits of the rows that count
unfoldable pub mask_of : Column → ℕ → Bool → List Cell → ℕ
mask_of of flags timer [] = 0
mask_of of flags timer (c ∷ cs) = bit_or (cell_bit of flags timer c) (mask_of of flags timer cs)
