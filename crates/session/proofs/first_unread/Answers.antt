use mathlib.Core.Path.{◌≡◌, sym, ◌∙◌, ap}
use native.Mathlib.Omega.{arith}
use lib.ListN.{length, drop, length-drop}
use Rattle.text.specs.Parts.{lines_of}
use Rattle.text.specs.LineIter.{lines_left}
use Rattle.text.proofs.Lines.{lines-fewer}
use Rattle.session.specs.Session.{first_unread, step_lines}
use Rattle.session.proofs.Laws.{unread-turn, unread-here}
use Rattle.session.proofs.first_unread.Goals as goal

pub loop-line-init : goal.loop-line-init
loop-line-init c =
    let script : _ = c.args.source.now in
    let left : lines_left c.into_iter-line-iterator.result ≡ step_lines script c.args.from =
    ap lines_left c.into_iter-line-iterator.ensures.into_iter_gives ∙ c.each_line-line-items.ensures ∙ ap lines_of c.rest_from.ensures in (
      ap (first_unread (length script) c.args.first c.args.from) left,
      omega (arith, ap length left, lines-fewer (drop c.args.from script), length-drop c.args.from script, c.requires),
    )

pub loop-line-preserved : goal.loop-line-preserved
loop-line-preserved c =
    let size = length c.args.source.now in
    let here = c.in-Some.ensures.steps in (
      unread-turn size c.loop-line.k c.loop-line.at c.line_end-at.result c.in-Some.line.now (lines_left c.next.new.self) c.line_end-at.ensures
          (sym c.step_reads.ensures ∙ c.if-not-step_reads.false)
          ∙ ap (first_unread size c.loop-line.k c.loop-line.at) (sym here)
          ∙ c.loop-line.invariant.0,
      omega (arith, ap length here, c.loop-line.invariant.1),
    )

pub returns-then-not-step_reads : goal.returns-then-not-step_reads
returns-then-not-step_reads c =
    let size = length c.args.source.now in
    unread-here size c.loop-line.k c.loop-line.at c.line_end-at.result c.in-Some.line.now (lines_left c.next.new.self) c.line_end-at.ensures
    (sym c.step_reads.ensures ∙ c.if-not-step_reads.true)
    ∙ ap (first_unread size c.loop-line.k c.loop-line.at) (sym c.in-Some.ensures.steps)
    ∙ c.loop-line.invariant.0

pub returns : goal.returns
unfolding first_unread
returns c =
    ap (first_unread (length c.args.source.now) c.loop-line.k c.loop-line.at) (sym c.in-None.ensures.steps.0) ∙ c.loop-line.invariant.0
