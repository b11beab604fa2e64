-- A table made field by field, as bytes.
use Rattle.std.specs.Prelude.{ℕ, ◌+◌, ◌-◌, ◌/◌, ◌%◌, Bool, cond, ◌&&◌, ◌||◌, List, [], ◌∷◌, take, set, nat_eq, nat_le, nat_lt, slice_index, slice_index_or, slice_set}
use Rattle.acpi.specs.Fadt.{«LENGTH», «CHECKSUM», SMI_CMD, PM1a_EVT_BLK, GPE1_BLK, «FLAGS»}

-- the fields of four bytes: the length, SMI_CMD, the addresses and the flags; every other has one
unfoldable pub is_wide : ℕ → Bool
is_wide at = nat_eq at «LENGTH» || nat_eq at SMI_CMD || (nat_le PM1a_EVT_BLK at && nat_le at GPE1_BLK) || nat_eq at «FLAGS»

-- the lowest byte of a value at an offset
abbrev pub byte_set : List ℕ → ℕ → ℕ → List ℕ
byte_set t at v = slice_set t at (v % 256)

-- four bytes of it, the lowest first
abbrev pub dword_set : List ℕ → ℕ → ℕ → List ℕ
dword_set t at v = byte_set (byte_set (byte_set (byte_set t at v) (at + 1) (v / 256)) (at + 2) (v / 65536)) (at + 3) (v / 16777216)

-- a field set; none where four bytes have no room
unfoldable pub field_set : List ℕ → ℕ → ℕ → List ℕ
field_set t at v = cond (nat_lt 124 (at + 4)) t (cond (is_wide at) (dword_set t at v) (byte_set t at v))

-- fields set in turn, each its offset and its value
unfoldable pub filled_of : List ℕ → List (List ℕ) → List ℕ
filled_of t [] = t
filled_of t (f ∷ fs) = filled_of (field_set t (slice_index f 0) (slice_index f 1)) fs

-- the bytes added up
abbrev pub sum : List ℕ → ℕ
sum [] = 0
sum (x ∷ xs) = x + sum xs

-- the sum of as many bytes as the lowest byte of the length says, the checksum being zero
abbrev pub others_sum : List ℕ → ℕ
others_sum t = sum (take (slice_index_or t «LENGTH» 0) (set t «CHECKSUM» 0)) % 256

-- the checksum with which they sum to this, modulo 256
unfoldable pub summing_to : ℕ → List ℕ → List ℕ
summing_to s t = set t «CHECKSUM» ((s + 256 - others_sum t) % 256)
