use mathlib.Core.List.{List}
use mathlib.Core.Path.{◌≡◌, sym, ◌∙◌, ap}
use Prim.Native.Nat.{ℕ}
use native.Mathlib.Numerals.{add-one}
use native.Mathlib.Omega.{arith}
use borrow.Author.Tests.{le-leb}
use lib.Dec.{leb}
use lib.ListN.{length}
use Rattle.text.specs.Parts.{lines_of}
use Rattle.text.specs.LineIter.{lines_left}
use Rattle.text.proofs.Lines.{lines-fewer}
use Rattle.model.specs.declared.Stepped.{Stepped}
use Rattle.listing.specs.Entry.{entry_length}
use Rattle.session.specs.Session.{entries}
use Rattle.session.proofs.Laws.{fit-turn, fit-not}
use Rattle.session.proofs.run_fits.Goals as goal

pub loop-line-init : goal.loop-line-init
loop-line-init c =
    let left : lines_left c.into_iter-line-iterator.result ≡ lines_of c.args.steps.now =
    ap lines_left c.into_iter-line-iterator.ensures.into_iter_gives ∙ c.each_line-line-items.ensures in (
      ap (λ (ls : List (List ℕ)). leb (length (entries 1 c.args.m ls)) c.args.room) left,
      omega (arith, ap length left, lines-fewer c.args.steps.now),
    )

pub loop-line-preserved : goal.loop-line-preserved
loop-line-preserved c =
    let here = c.in-Some.ensures.steps in
    let e = c.entry_length-n.ensures ∙ ap (λ (s : Stepped). entry_length c.loop-line.k s.answer) c.stepped-done.ensures in (
      rw (add-one, c.stepped-done.ensures)
          (fit-turn c.loop-line.k c.loop-line.current c.in-Some.line.now (lines_left c.next.new.self) c.loop-line.left c.entry_length-n.result e c.if-left-n.false
          ∙ ap (λ (ls : List (List ℕ)). leb (length (entries c.loop-line.k c.loop-line.current ls)) c.loop-line.left) (sym here)
          ∙ c.loop-line.invariant.0),
      omega (arith, ap length here, c.loop-line.invariant.1),
    )

pub returns-then-left-n : goal.returns-then-left-n
returns-then-left-n c =
    let e = c.entry_length-n.ensures ∙ ap (λ (s : Stepped). entry_length c.loop-line.k s.answer) c.stepped-done.ensures in
    sym (fit-not c.loop-line.k c.loop-line.current c.in-Some.line.now (lines_left c.next.new.self) c.loop-line.left c.entry_length-n.result e c.if-left-n.true)
    ∙ ap (λ (ls : List (List ℕ)). leb (length (entries c.loop-line.k c.loop-line.current ls)) c.loop-line.left) (sym c.in-Some.ensures.steps)
    ∙ c.loop-line.invariant.0

pub returns : goal.returns
unfolding entries
returns c =
    sym (le-leb 0 c.loop-line.left (omega arith))
    ∙ ap (λ (ls : List (List ℕ)). leb (length (entries c.loop-line.k c.loop-line.current ls)) c.loop-line.left) (sym c.in-None.ensures.steps.0)
    ∙ c.loop-line.invariant.0
