-- `records::bytes::read_byte` meets its contract: two digits are a byte. Assumes nothing.
use lib.ListN.{drop}
use Rattle.text.proofs.Digits.{number_or_zero}
use Rattle.records.proofs.ByteLaws.{byte-below}
use Rattle.records.proofs.bytes.read_byte.Goals as goal

pub overflow_cast-result : goal.overflow_cast-result
overflow_cast-result c =
    record { fits = rw (c.unwrap_or.ensures, c.hex_value.ensures, c.part_at.ensures, number_or_zero) (byte-below (drop c.args.from c.args.text.now)) }

pub returns-then-here : goal.returns-then-here
returns-then-here c = simp (c.if-here.true, c.unwrap_or.ensures, c.hex_value.ensures, c.part_at.ensures, number_or_zero)
