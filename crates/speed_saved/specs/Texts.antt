-- A saved text read n times, and a machine's text written n times into one buffer.
use Rattle.std.specs.Hash.DefaultHasher.{wrapping_add}
use Rattle.std.specs.Prelude.{ℕ, zero, suc, ◌%◌, ◌^◌, List, length}
use Rattle.machine.specs.Fields.{with_time}
use Rattle.machine.specs.declared.Machine.{Machine}
use Rattle.saved.specs.Answer.{read_number, written_number, written_value}
use Rattle.saved.specs.Reading.{read_of}
use Rattle.saved.specs.Text.{write_answer, written_buffer}

-- ---- reading

-- one more: its answer's number and its machine's counter are added
unfoldable pub read_turn : List ℕ → ℕ → ℕ
read_turn text sum = wrapping_add (wrapping_add sum (read_number (read_of text).answer)) (read_of text).machine.counter

-- n more
unfoldable pub reads_of : List ℕ → ℕ → ℕ → ℕ
reads_of text zero sum = sum
reads_of text (suc n) sum = reads_of text n (read_turn text sum)

-- ---- writing

-- what is written: the machine with the sum so far as its counter
abbrev pub counting : Machine → ℕ → Machine
counting m sum = with_time m (sum % 2 ^ 32) m.hold

-- one more: its answer's number and value are added
unfoldable pub write_turn : Machine → ℕ → ℕ → ℕ
write_turn m room sum = wrapping_add (wrapping_add sum (written_number (write_answer (counting m sum) room))) (written_value (write_answer (counting m sum) room))

-- n more: the sum, and the lent buffer
unfoldable pub writes_of : Machine → ℕ → ℕ → ℕ → ℕ
writes_of m room zero sum = sum
writes_of m room (suc n) sum = writes_of m room n (write_turn m room sum)

unfoldable pub buffer_after : Machine → ℕ → List ℕ → ℕ → List ℕ
buffer_after m zero buffer sum = buffer
buffer_after m (suc n) buffer sum = buffer_after m n (written_buffer (counting m sum) buffer) (write_turn m (length buffer) sum)
