use mathlib.Core.Path.{subst}
use Prim.Native.Nat.{◌≤◌}
use lib.ListN.{length}
use lib.Seq.{length-take-le}
use Rattle.values.proofs.Agreeing.{agree-first}
use mathlib.Core.Path.{sym}
use Rattle.saved.specs.Reading.{malformed_line}
use Rattle.saved.proofs.reading.malformed_line.Goals as goal

pub slice_bounds-part_count-end : goal.slice_bounds-part_count-end
slice_bounds-part_count-end c =
    let text : _ = c.args.text.now in
    let printed : _ = c.args.printed.now in
    sym (length-take-le _ text (subst (λ n. n ≤ length text) (sym c.agreeing-n.ensures) (agree-first text printed)))

pub returns : goal.returns
unfolding malformed_line
returns c = simp (c.part_count.ensures, c.agreeing-n.ensures)
