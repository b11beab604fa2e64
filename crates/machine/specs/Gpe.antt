-- The general event bytes that a step stores.
use Rattle.std.specs.Prelude.{Bool, true, false, cond, ℕ, set}
use Rattle.machine.specs.declared.Machine.{Machine}
use Rattle.machine.specs.declared.gpe.GpeArray.{GpeArray}
use Rattle.machine.specs.declared.gpe.GpeArray.TheVariants as array
use Rattle.machine.specs.declared.gpe.GpeStore.{GpeStore}
use Rattle.machine.specs.Fields.{with_gpe}
use Rattle.machine.specs.Lines.{walked}

-- a byte of one of the four arrays
unfoldable pub byte_put : Machine → GpeArray → ℕ → ℕ → Machine
byte_put m array.None place byte = m
byte_put m array.Gpe0Sts place byte = with_gpe m (set m.gpe0_sts place byte) m.gpe0_en m.gpe1_sts m.gpe1_en m.gpe_pending
byte_put m array.Gpe0En place byte = with_gpe m m.gpe0_sts (set m.gpe0_en place byte) m.gpe1_sts m.gpe1_en m.gpe_pending
byte_put m array.Gpe1Sts place byte = with_gpe m m.gpe0_sts m.gpe0_en (set m.gpe1_sts place byte) m.gpe1_en m.gpe_pending
byte_put m array.Gpe1En place byte = with_gpe m m.gpe0_sts m.gpe0_en m.gpe1_sts (set m.gpe1_en place byte) m.gpe_pending

-- the byte stored; where it says so, whether an enabled bit is set is looked for again: request W7
unfoldable pub byte_stored : Machine → GpeStore → Machine
byte_stored m s = cond s.walks (walked (byte_put m s.array s.place s.byte)) (byte_put m s.array s.place s.byte)

unfoldable pub stores : GpeArray → Bool
stores array.None = false
stores array.Gpe0Sts = true
stores array.Gpe0En = true
stores array.Gpe1Sts = true
stores array.Gpe1En = true

unfoldable pub stored : Machine → GpeStore → Machine
stored m s = cond (stores s.array) (byte_stored m s) m

-- nothing is stored
abbrev pub no_store : GpeStore
no_store = record { place = 0; byte = 0; walks = false; array = array.None }
