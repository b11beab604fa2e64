use lib.Dec.{eqb}
use Rattle.registers.specs.Registers.{has_pm1b_cnt}
use Rattle.model.specs.Legal.{slp_typ_b_legal}
use Rattle.legality.proofs.Typed.{or-only}
use Rattle.legality.proofs.clauses.slp_typ_b_legal.Goals as goal

pub returns : goal.returns
unfolding slp_typ_b_legal
returns c =
    let m : _ = c.args.m in
    rw c.has_pm1b_cnt.ensures (or-only (has_pm1b_cnt m.settings) (eqb m.slp_typ_b 0))
