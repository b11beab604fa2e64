use mathlib.Core.Logic.{inl, inr}
use Rattle.text.specs.Parts.{lines_of}
use Rattle.session.proofs.Laws.{listing-written, no_room}
use mathlib.Core.Path.{sym, ◌∙◌}
use Rattle.session.proofs.write_listing.Goals as goal

pub returns-then-entries_fit : goal.returns-then-entries_fit
returns-then-entries_fit c =
    listing-written c.args.m (lines_of c.args.steps.now) c.args.buf.now _ _ _ c.if-room-ge-HEADER_LENGTH.true
    (sym c.entries_fit.ensures ∙ c.if-entries_fit.true) c.write_header.ensures
    c.write_entries-end.ensures.0 c.write_entries-end.ensures.1

pub returns-else-entries_fit : goal.returns-else-entries_fit
returns-else-entries_fit c = no_room c.args.m (lines_of c.args.steps.now) c.args.buf.now (inr (sym c.entries_fit.ensures ∙ c.if-entries_fit.false))

pub returns-else-room-ge-HEADER_LENGTH : goal.returns-else-room-ge-HEADER_LENGTH
returns-else-room-ge-HEADER_LENGTH c = no_room c.args.m (lines_of c.args.steps.now) c.args.buf.now (inl c.if-room-ge-HEADER_LENGTH.false)
