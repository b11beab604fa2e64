-- The lines of a text, one after another.
use Rattle.std.specs.Prelude.{List, ℕ}
use Rattle.text.specs.Parts.{lines_of}
use Rattle.text.specs.declared.line_iter.LineIter.{LineIter}

-- the lines that are still to come
abbrev pub lines_left : LineIter → List (List ℕ)
lines_left it = lines_of it.rest.now
