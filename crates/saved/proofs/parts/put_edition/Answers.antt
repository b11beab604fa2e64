use native.Mathlib.Omega.{arith}
use Rattle.records.specs.Ascii.{ascii}
use Rattle.text.proofs.Fewest.{at-most-20}
use Rattle.saved.proofs.Laws.{edition-written}
use Rattle.saved.proofs.parts.put_edition.Goals as goal

pub overflow_add-digits : goal.overflow_add-digits
overflow_add-digits c =
    record { fits = omega (arith, c.decimal_digits-digits.ensures, at-most-20 c.args.edition (omega arith)) }

pub returns : goal.returns
unfolding ascii
returns c =
    edition-written c.args.buf.now _ _ _ c.args.edition c.decimal_digits-digits.result c.decimal_digits-digits.ensures
    c.write_text.ensures
    c.write_decimal.ensures
    c.write_byte.ensures
