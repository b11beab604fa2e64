-- "A byte access touches that byte alone": a byte written to the status or the enable half of an event register is the byte's rule of `bits`,
-- which leaves the other byte as it was (`clear-byte-other`, `take-byte-other`). Assumes nothing.
use mathlib.Core.Bool.{Bool, or-true}
use mathlib.Core.Path.{◌≡◌, refl}
use Prim.Native.Nat.{ℕ}
use Rattle.bits.specs.Writes.{cleared_byte, taken_byte}
use Rattle.registers.specs.Registers.{clearable, enable_in, lane_at, status_cleared, enable_taken}
use Rattle.machine.specs.declared.Machine.{Machine}

module _ (m : Machine) (b : Bool) (offset written : ℕ) where
  pub status-byte : status_cleared m b 1 offset written ≡ cleared_byte 16 (lane_at offset) m.pm1_sts written (clearable m b)
  status-byte = rw or-true refl

  pub enable-byte : enable_taken m b 1 offset written ≡ taken_byte 16 (lane_at offset) m.pm1_en written (enable_in m.settings b)
  enable-byte = rw or-true refl
