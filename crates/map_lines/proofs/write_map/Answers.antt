use Rattle.std.proofs.Common.{◌≤◌, length, sym, ap, ◌∙◌, arith}
use lib.Seq.{sets, length-sets}
use Rattle.map_lines.proofs.Laws.{block-short, length-turn, write-turn, text-end}
use Rattle.map_lines.proofs.write_map.Goals as goal

pub overflow_add-at : goal.overflow_add-at
overflow_add-at c =
    let short : c.put_block-at.result ≤ 51 = rw c.put_block-at.ensures.0 (block-short c.loop-i.i (omega arith) _) in
    omega (arith, short, c.loop-i.invariant.1)

pub loop-i-preserved : goal.loop-i-preserved
loop-i-preserved c =
    let wrote = c.put_block-at.ensures in
    let short : c.put_block-at.result ≤ 51 = rw c.put_block-at.ensures.0 (block-short c.loop-i.i (omega arith) _) in (
      λ s of. (
        write-turn s c.loop-i.i (omega arith) c.blocks-blocks.result of c.loop-i.buf c.loop-i.at _ _ wrote.0 wrote.1 ∙ (c.loop-i.invariant.0 s of).0,
        length-turn s c.loop-i.i (omega arith) c.blocks-blocks.result of c.loop-i.at _ wrote.0 ∙ (c.loop-i.invariant.0 s of).1,
      ),
      omega (arith, short, c.loop-i.invariant.1),
      rw (wrote.1, length-sets) c.loop-i.invariant.2,
    )

pub returns : goal.returns
returns c =
    let all : _ = c.loop-i.invariant.0 c.args.s c.blocks-blocks.ensures in
    let none : _ = text-end c.args.s c.loop-i.i (omega arith) in
    (omega (arith, all.1, ap length none), sym (ap (sets c.loop-i.buf c.loop-i.at) none) ∙ all.0)
