use Prim.Native.Nat.{◌≤◌}
use native.Mathlib.Omega.{arith}
use lib.ListN.{length}
use Rattle.legality.proofs.Typed.{past-absent}
use Rattle.legality.proofs.clauses.state_allowed.Goals as goal

pub returns-else-i-lt6 : goal.returns-else-i-lt6
returns-else-i-lt6 c =
    let h : length c.args.pairs ≤ c.args.state = omega arith in
    simp (c.if-state.false, past-absent c.args.pairs c.args.state h)
