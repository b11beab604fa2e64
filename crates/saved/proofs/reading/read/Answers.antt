use mathlib.Core.Path.{◌≡◌, subst}
use borrow.Author.Tests.{ne_eqb}
use mathlib.Core.Path.{refl, sym, ◌∙◌}
use Rattle.saved.specs.Reading.{read_in}
use Rattle.saved.proofs.reading.read.Goals as goal

pub returns-then-edition-eq0 : goal.returns-then-edition-eq0
unfolding read_in
returns-then-edition-eq0 c =
    let e = sym c.edition_of-edition.ensures ∙ c.if-edition-eq0.true in
    rw (sym c.line_from.ensures) (rw e c.read_as.ensures)

pub returns : goal.returns
unfolding read_in
returns c =
    let e = ne_eqb _ 0 (subst (λ x. x ≡ 0 → ⊥) c.edition_of-edition.ensures c.if-edition-eq0.false) in
    rw (sym c.line_from.ensures) (rw e (c.read_in.ensures ∙ rw c.edition_of-edition.ensures refl))
