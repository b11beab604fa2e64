use mathlib.Core.Path.{sym, ◌∙◌, ap}
use native.Mathlib.Omega.{arith}
use lib.ListN.{length}
use Rattle.text.specs.LineIter.{lines_left}
use Rattle.text.proofs.Lines.{lines-fewer}
use Rattle.text.proofs.parts.line_count.Goals as goal

pub loop-line-init : goal.loop-line-init
loop-line-init c =
    let left = ap length (ap lines_left c.into_iter-line-iterator.ensures.into_iter_gives ∙ c.each_line-line-items.ensures) in
    (omega (arith, left), omega (arith, left, lines-fewer c.args.text.now))

pub loop-line-preserved : goal.loop-line-preserved
loop-line-preserved c =
    let here = ap length c.in-Some.ensures.steps in
    (omega (arith, here, c.loop-line.invariant.0), omega (arith, here, c.loop-line.invariant.1))

pub returns : goal.returns
returns c = omega (arith, ap length c.in-None.ensures.steps.0, c.loop-line.invariant.0)
