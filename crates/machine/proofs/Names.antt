-- The status bits by name are the table's, row by row. (That 0721 hex is the table's event column is `event-bits` of `cells`.) Assumes nothing.
use mathlib.Core.List.{map}
use mathlib.Core.Path.{◌≡◌, refl}
use Prim.Native.Nat.{ℕ, ◌^◌}
use Rattle.cells.specs.Cells.{cells}
use Rattle.cells.specs.declared.Status.{Status}
use Rattle.cells.specs.declared.Status.TheVariants as status
use Rattle.machine.specs.Status.{tmr_bit, bm_bit, gbl_bit, pwrbtn_bit, slpbtn_bit, rtc_bit, pciexp_wake_bit, wak_bit}

abbrev pub bit_named : Status → ℕ
bit_named status.Tmr = tmr_bit
bit_named status.Bm = bm_bit
bit_named status.Gbl = gbl_bit
bit_named status.Pwrbtn = pwrbtn_bit
bit_named status.Slpbtn = slpbtn_bit
bit_named status.Rtc = rtc_bit
bit_named status.PciexpWake = pciexp_wake_bit
bit_named status.Wak = wak_bit

pub named-bits : map (λ c. bit_named c.status) cells ≡ map (λ c. 2 ^ c.bit) cells
named-bits = refl
