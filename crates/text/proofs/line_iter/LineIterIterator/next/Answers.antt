use Rattle.std.proofs.Common.{List, ℕ, ◌≡◌, ◌+◌, ◌<◌, ◌≤◌, ◌∷◌, length, take, drop, ap, sym, rules, arith, zero-add, add-one}
use Rattle.text.specs.Parts.{lf, lines_of, end_of}
use lib.Seq.{length-take-le}
use Rattle.text.proofs.Cuts.{stop-within}
use Rattle.text.proofs.Lines.{first-line, no-line}
use Rattle.text.proofs.line_iter.LineIterIterator.next.Goals as goal

pub returns-then-is_empty-clause-steps : goal.returns-then-is_empty-clause-steps
returns-then-is_empty-clause-steps c =
    let none = no-line c.args.self.now.rest.now (search rules) in
    (none, none)

pub slice_bounds-result-end : goal.slice_bounds-result-end
slice_bounds-result-end c =
    let within : c.part_end-end.result ≤ length c.args.self.now.rest.now = omega (arith, c.part_end-end.ensures, stop-within lf c.args.self.now.rest.now) in
    sym (length-take-le c.part_end-end.result c.args.self.now.rest.now within)

pub overflow_add-end : goal.overflow_add-end
overflow_add-end c = record { fits = omega (arith, c.part_end-end.ensures, stop-within lf c.args.self.now.rest.now) }

line-here : (rest next : List ℕ) (end : ℕ) → end ≡ end_of lf rest 0 → next ≡ drop (end + 1) rest → 0 < length rest → lines_of rest ≡ take end rest ∷ lines_of next
line-here rest next end e f h = rw (f, e, zero-add, add-one) (first-line rest h)

pub returns-clause-steps : goal.returns-clause-steps
returns-clause-steps c = line-here c.args.self.now.rest.now _ _ c.part_end-end.ensures c.rest_from-self.ensures (search rules)

pub returns-clause-goes : goal.returns-clause-goes
returns-clause-goes c =
    let turn = line-here c.args.self.now.rest.now _ _ c.part_end-end.ensures c.rest_from-self.ensures (search rules) in
    record { on = λ _. (tt, tt, omega (arith, ap length turn)); keeps = tt; rests = λ _. tt }
