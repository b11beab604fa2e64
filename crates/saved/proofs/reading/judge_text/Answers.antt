use mathlib.Core.Path.{◌≡◌, refl, ◌∙◌, ap}
use lib.ListN.{length}
use borrow.Author.Rules.{rules}
use Rattle.saved.specs.Text.{text_of}
use Rattle.saved.specs.Reading.{text_answer}
use Rattle.saved.proofs.Laws.{printed-whole}
use Rattle.saved.proofs.reading.judge_text.Goals as goal

pub returns : goal.returns
returns c =
    c.compare.ensures
    ∙ ap (text_answer c.args.text.now)
    (printed-whole (text_of c.args.edition c.args.parts.now) c.print.new.buf _ _ c.text_length-n.ensures.0 c.text_length-n.ensures.1 refl c.print.ensures)
