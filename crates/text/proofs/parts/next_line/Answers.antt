use borrow.Author.Tests.{lt-ltb, le-ltb}
use Rattle.text.specs.Parts.{next_line}
use Rattle.text.proofs.parts.next_line.Goals as goal

pub returns-then-end-text : goal.returns-then-end-text
unfolding next_line
returns-then-end-text c = simp (c.part_end-end.ensures, lt-ltb _ _ (rw c.part_end-end.ensures at c.if-end-text.true))

pub returns-else-end-text : goal.returns-else-end-text
unfolding next_line
returns-else-end-text c = simp (le-ltb _ _ (rw c.part_end-end.ensures at c.if-end-text.false))
