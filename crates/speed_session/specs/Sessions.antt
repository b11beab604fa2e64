-- A session, n times into one buffer.
use Rattle.std.specs.Hash.DefaultHasher.{wrapping_add}
use Rattle.std.specs.Prelude.{ℕ, zero, suc, List, length}
use Rattle.session.specs.Answer.{session_number, session_value}
use Rattle.session.specs.Session.{answer_of, buffer_after}

-- one more: its answer's number and value are added
unfoldable pub session_turn : List ℕ → List ℕ → ℕ → ℕ → ℕ
session_turn table script room sum = wrapping_add (wrapping_add sum (session_number (answer_of table script room))) (session_value (answer_of table script room))

-- n more: the sum, and the lent buffer
unfoldable pub sum_after : List ℕ → List ℕ → ℕ → List ℕ → ℕ → ℕ
sum_after table script zero buffer sum = sum
sum_after table script (suc n) buffer sum = sum_after table script n (buffer_after table script buffer) (session_turn table script (length buffer) sum)

unfoldable pub buffers_after : List ℕ → List ℕ → ℕ → List ℕ → List ℕ
buffers_after table script zero buffer = buffer
buffers_after table script (suc n) buffer = buffers_after table script n (buffer_after table script buffer)
