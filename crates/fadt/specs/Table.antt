-- Setting up is refused: the table of twelve lines. Lines 1 to 4 are tests of the bytes lent, the others of the settings read.
use Rattle.std.specs.Prelude.{ℕ, suc, ◌+◌, ◌%◌, Bool, true, not, ◌&&◌, ◌||◌, List, [], ◌∷◌, length, take, ◌==◌, nat_lt}
use Rattle.acpi.specs.Fadt.{«SIGNATURE», «LENGTH»}
use Rattle.platform.specs.Answer.{Rule, ◌when◌}
use Rattle.platform.specs.Rules.{settings_rules}
use Rattle.platform.specs.declared.settings.Settings.{Settings}
use Rattle.platform.specs.declared.rules.SetUpRefusal.TheVariants as refusal
use Rattle.fadt.specs.Fields.{byte, dword}

-- 1: "fewer than 116 bytes are lent"
unfoldable pub table_short : List ℕ → Bool
table_short t = nat_lt (length t) 116

-- the bytes F, A, C, P
abbrev pub signature : List ℕ
signature = 70 ∷ 65 ∷ 67 ∷ 80 ∷ []

-- the table has these bytes from offset i on
unfoldable pub stands_at : ℕ → List ℕ → List ℕ → Bool
stands_at i [] t = true
stands_at i (x ∷ xs) t = byte t i == x && stands_at (suc i) xs t

-- 2: "the first four bytes are not the signature FACP"
unfoldable pub no_signature : List ℕ → Bool
no_signature t = not (stands_at «SIGNATURE» signature t)

-- "length 4"
abbrev pub table_length : List ℕ → ℕ
table_length t = dword t «LENGTH»

-- 3: "the length field is below 116 or above the bytes lent"
unfoldable pub wrong_table_length : List ℕ → Bool
wrong_table_length t = nat_lt (table_length t) 116 || nat_lt (length t) (table_length t)

-- the bytes added up
abbrev pub sum : List ℕ → ℕ
sum [] = 0
sum (x ∷ xs) = x + sum xs

-- 4: "that many bytes do not sum to 0 modulo 256"
unfoldable pub wrong_sum : List ℕ → Bool
wrong_sum t = not (sum (take (table_length t) t) % 256 == 0)

-- the table, in its order
abbrev pub set_up_rules : List ℕ → Settings → List Rule
set_up_rules t s =
    refusal.TableShort when table_short t ∷
    refusal.NoSignature when no_signature t ∷
    refusal.WrongLength when wrong_table_length t ∷
    refusal.WrongSum when wrong_sum t ∷
    settings_rules s
