use mathlib.Core.Path.{refl, sym, ◌∙◌}
use Rattle.saved.specs.Reading.{edition_up_to}
use Rattle.text.specs.Numbers.{digits, digit_count, count_within, glyph}
use Rattle.records.specs.Ascii.{ascii}
use Rattle.saved.proofs.reading.edition_of.Goals as goal

pub returns-then-same : goal.returns-then-same
unfolding edition_up_to ascii digits digit_count count_within glyph
returns-then-same c = rw (sym c.same.ensures ∙ c.if-same.true) refl

pub returns-then-same-2 : goal.returns-then-same-2
unfolding edition_up_to ascii digits digit_count count_within glyph
returns-then-same-2 c = rw (sym c.same.ensures ∙ c.if-same.false, sym c.same-else-same.ensures ∙ c.if-same-2.true) refl

pub returns-else-same-2 : goal.returns-else-same-2
unfolding edition_up_to ascii digits digit_count count_within glyph
returns-else-same-2 c = rw (sym c.same.ensures ∙ c.if-same.false, sym c.same-else-same.ensures ∙ c.if-same-2.false) refl
