-- The values that document 01 marks for the cell rules: all event bits fitted, all homes A. Each is computed.
-- Assumes nothing.
use mathlib.Core.Path.{◌≡◌, refl}
use Rattle.bits.specs.Writes.{cleared_by, taken_by, cleared_byte}

pub status-write-FFFF : cleared_by 16 0xC731 0xFFFF 0xC731 ≡ 0x0000
status-write-FFFF = refl

pub status-write-0100 : cleared_by 16 0xC731 0x0100 0xC731 ≡ 0xC631
status-write-0100 = refl

pub status-write-0000 : cleared_by 16 0xC731 0x0000 0xC731 ≡ 0xC731
status-write-0000 = refl

pub status-write-high-FF : cleared_byte 16 1 0xC731 0xFF 0xC731 ≡ 0x0031
status-write-high-FF = refl

pub enable-write-FFFF : taken_by 16 0x0000 0xFFFF 0x4721 ≡ 0x4721
enable-write-FFFF = refl
