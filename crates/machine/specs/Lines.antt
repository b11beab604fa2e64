-- The SCI and SMI lines.
use Rattle.std.specs.Prelude.{Bool, false, not, ◌&&◌, ◌||◌, List, [], ◌∷◌, ℕ, eqb}
use Rattle.std.specs.Int.Bits.{bit_and}
use Rattle.machine.specs.declared.Machine.{Machine}
use Rattle.machine.specs.Fields.{with_gpe_pending}
use Rattle.machine.specs.Status.{has_bit}

-- "Awake is S0": document 01's word for the working state
abbrev pub is_awake : ℕ → Bool
is_awake state = eqb state 0

unfoldable pub awake : Machine → Bool
awake m = is_awake m.state

-- some general status bit is set together with its enable, byte by byte
unfoldable pub any_enabled : List ℕ → List ℕ → Bool
any_enabled [] es = false
any_enabled (s ∷ ss) [] = false
any_enabled (s ∷ ss) (e ∷ es) = has_bit s e || any_enabled ss es

-- "any GPE status and enable": request W7's "walk over all general event bytes, which remains the definition"
abbrev pub gpe_event : Machine → Bool
gpe_event m = any_enabled m.gpe0_sts m.gpe0_en || any_enabled m.gpe1_sts m.gpe1_en

-- the machine with the walk's answer stored
abbrev pub walked : Machine → Machine
walked m = with_gpe_pending m (gpe_event m)

-- "(PM1 status and enable and 0721 hex)": the bits of TMR_EN, GBL_EN, PWRBTN_EN, SLPBTN_EN and RTC_EN (`event-enables` of `acpi/proofs/Masks.antt`)
abbrev pub pm1_event : Machine → Bool
pm1_event m = has_bit (bit_and m.pm1_sts m.pm1_en) 0x0721

-- "Event output"; W7: "store in the machine whether any enabled general status bit is set, and take the lines from that"
abbrev pub event_output : Machine → Bool
event_output m = pm1_event m || m.gpe_pending

-- "In S0, SCI is SCI_EN and event"; "Outside S0 both are down"
unfoldable pub sci_of : Machine → Bool
sci_of m = awake m && (m.sci_en && event_output m)

-- "SMI is (not SCI_EN and event), or a command waiting, or the release flag"
unfoldable pub smi_of : Machine → Bool
smi_of m = awake m && ((not m.sci_en && event_output m) || m.command_waits || m.gbl_rls)
