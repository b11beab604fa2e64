use native.Mathlib.Omega.{arith}
use Rattle.saved.proofs.Laws.{gpe-at-short}
use Rattle.saved.proofs.parts.gpe_at.Goals as goal

pub overflow_add-result : goal.overflow_add-result
overflow_add-result c = record { fits = omega (arith, c.records_at.ensures, c.records_length.ensures, gpe-at-short c.args.edition (omega arith)) }

pub returns : goal.returns
returns c =
    let short = gpe-at-short c.args.edition (omega arith) in
    (omega (arith, c.records_at.ensures, c.records_length.ensures), omega (arith, c.records_at.ensures, c.records_length.ensures, short))
