-- `session::entries_fit` meets its contract: in a room that is large enough for any answers the lines fit, and else they are counted. Assumes nothing.
use mathlib.Core.Path.{sym, ◌∙◌}
use Rattle.text.specs.Parts.{lines_of}
use Rattle.session.proofs.Laws.{any_fit}
use Rattle.session.proofs.entries_fit.Goals as goal

pub returns-then-any_entries_fit : goal.returns-then-any_entries_fit
returns-then-any_entries_fit c =
    c.if-any_entries_fit.true
    ∙ sym
    (any_fit c.args.m (lines_of c.args.steps.now) c.args.room
    (rw (← c.line_count.ensures) (sym c.any_entries_fit.ensures ∙ c.if-any_entries_fit.true)))
