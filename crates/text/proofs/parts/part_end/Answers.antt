use mathlib.Core.Path.{sym}
use Prim.Native.Nat.{◌≤◌}
use native.Mathlib.Omega.{arith}
use lib.ListN.{length}
use Rattle.text.proofs.Cuts.{stop-within, end-past}
use Rattle.text.proofs.parts.part_end.Goals as goal

pub overflow_add-result : goal.overflow_add-result
overflow_add-result c =
    let within = stop-within c.args.stop c.in-Some.rest.now in
    let there = c.in-Some.ensures in
    omega arith

pub returns-in-None : goal.returns-in-None
returns-in-None c =
    let there = c.in-None.ensures in
    let past : length c.args.text.now ≤ c.args.start = grind arith in
    sym (end-past c.args.stop c.args.text.now c.args.start past)
