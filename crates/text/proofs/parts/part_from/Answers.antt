use mathlib.Core.Path.{sym}
use Prim.Native.Nat.{◌≤◌}
use Rattle.std.proofs.Common.{arith}
use lib.ListN.{length}
use lib.Seq.{length-take-le}
use Rattle.text.proofs.Cuts.{stop-within}
use Rattle.text.proofs.parts.part_from.Goals as goal

pub slice_bounds-result-end : goal.slice_bounds-result-end
slice_bounds-result-end c =
    let within = stop-within c.args.stop c.in-Some.rest.now in
    let h : c.stop_at.result ≤ length c.in-Some.rest.now = omega arith in
    sym (length-take-le c.stop_at.result c.in-Some.rest.now h)
