use mathlib.Core.List.{List, ◌∷◌}
use mathlib.Core.Path.{◌≡◌, refl, sym, ◌∙◌, ap}
use Prim.Native.Nat.{ℕ, ◌+◌, ◌≤◌}
use native.Mathlib.Numerals.{add-one}
use native.Mathlib.Omega.{arith}
use lib.ListN.{length}
use lib.Seq.{sets}
use Rattle.text.specs.Parts.{lines_of}
use Rattle.text.specs.LineIter.{lines_left}
use Rattle.text.proofs.Lines.{lines-fewer}
use Rattle.model.specs.declared.Stepped.{Stepped}
use Rattle.listing.specs.Entry.{entry, entry_length, put_at}
use Rattle.session.specs.Session.{entries}
use Rattle.session.proofs.Laws.{done, entries-length, write-turn, put-length}
use Rattle.session.proofs.write_entries.Goals as goal

pub loop-line-init : goal.loop-line-init
loop-line-init c =
    let left : lines_left c.into_iter-line-iterator.result ≡ lines_of c.args.steps.now =
    ap lines_left c.into_iter-line-iterator.ensures.into_iter_gives ∙ c.each_line-line-items.ensures in (
      ap (λ (ls : List (List ℕ)). sets c.args.buf.now c.args.at (entries 1 c.args.m ls)) left,
      refl,
      ap (λ (ls : List (List ℕ)). c.args.at + length (entries 1 c.args.m ls)) left,
      omega (arith, ap length left, lines-fewer c.args.steps.now),
    )

pub overflow_add-o : goal.overflow_add-o
overflow_add-o c =
    let e = c.entry_length-o.ensures ∙ ap (λ (s : Stepped). entry_length c.loop-line.k s.answer) c.stepped-done.ensures in
    let here = ap (λ (ls : List (List ℕ)). length (entries c.loop-line.k c.loop-line.current ls)) c.in-Some.ensures.steps in
    let long = entries-length c.loop-line.k c.loop-line.current c.in-Some.line.now (lines_left c.next.new.self) in
    record { fits = omega (arith, here, long, e, c.loop-line.invariant.1, c.loop-line.invariant.2, c.requires, c.well_formed.0.1) }

pub loop-line-preserved : goal.loop-line-preserved
loop-line-preserved c =
    let k = c.loop-line.k in
    let m = c.loop-line.current in
    let line = c.in-Some.line.now in
    let rest = lines_left c.next.new.self in
    let step = done k m line rest in
    let did = c.stepped-done.ensures in
    let here = c.in-Some.ensures.steps in
    let wrote = c.write_entry.ensures ∙ ap (λ (s : Stepped). put_at c.loop-line.buf c.loop-line.o (entry k s.answer s.machine)) did in
    let e = c.entry_length-o.ensures ∙ ap (λ (s : Stepped). entry_length k s.answer) did in
    let long = entries-length k m line rest in
    let left = ap (λ (ls : List (List ℕ)). length (entries k m ls)) here in
    let same = ap length wrote ∙ put-length c.loop-line.buf c.loop-line.o (entry k step.answer step.machine) in
    let fit : c.loop-line.o + length (entries k m (line ∷ rest)) ≤ length c.loop-line.buf = omega (arith, left, c.loop-line.invariant.1, c.loop-line.invariant.2, c.requires) in (
      rw (add-one, wrote, e, did)
          (write-turn k m line rest c.loop-line.buf c.loop-line.o fit
          ∙ ap (λ (ls : List (List ℕ)). sets c.loop-line.buf c.loop-line.o (entries k m ls)) (sym here)
          ∙ c.loop-line.invariant.0),
      same ∙ c.loop-line.invariant.1,
      rw (add-one, did) (omega (arith, e, long, left, c.loop-line.invariant.2)),
      omega (arith, ap length here, c.loop-line.invariant.3),
    )

pub returns : goal.returns
unfolding entries
returns c =
    let none = ap (entries c.loop-line.k c.loop-line.current) c.in-None.ensures.steps.0 in
    (omega (arith, ap length none, c.loop-line.invariant.2), sym (ap (sets c.loop-line.buf c.loop-line.o) none) ∙ c.loop-line.invariant.0)
