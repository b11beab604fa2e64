-- The answers of a session, and of its end: a number and a value for each.
use Rattle.std.specs.Prelude.{ℕ, ⊤, Result, Ok, Err}
use Rattle.platform.specs.Answer.{refusal_number, refusal_value}
use Rattle.session.specs.declared.EndRefusal.{EndRefusal}
use Rattle.session.specs.declared.EndRefusal.TheVariants as end
use Rattle.session.specs.declared.SessionRefusal.{SessionRefusal}
use Rattle.session.specs.declared.SessionRefusal.TheVariants as refusal

-- 0, 46 for a line that does not read, and setting up's own number
abbrev pub end_number : Result ⊤ EndRefusal → ℕ
end_number (Ok done) = 0
end_number (Err end.PlatformLine) = 46
end_number (Err (end.SetUp r)) = refusal_number r
end_number (Err (end.Line number)) = 46

-- the number of the line
abbrev pub end_value : Result ⊤ EndRefusal → ℕ
end_value (Ok done) = 0
end_value (Err end.PlatformLine) = 1
end_value (Err (end.SetUp r)) = refusal_value r
end_value (Err (end.Line number)) = number

-- 0, the number of an end that is refused, and 43 for no room
abbrev pub session_number : Result ℕ SessionRefusal → ℕ
session_number (Ok length) = 0
session_number (Err (refusal.NoEnd why)) = end_number (Err why)
session_number (Err refusal.NoRoom) = 43

-- the listing's length, or the number of the line
abbrev pub session_value : Result ℕ SessionRefusal → ℕ
session_value (Ok length) = length
session_value (Err (refusal.NoEnd why)) = end_value (Err why)
session_value (Err refusal.NoRoom) = 0
