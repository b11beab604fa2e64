-- `map_lines::put_block` meets its contract: a present block's line is its record's name and its ports, one after the other. Assumes nothing.
use Rattle.std.proofs.Common.{◌≤◌, sym, ◌∙◌, arith}
use Rattle.map_lines.proofs.Laws.{record-short, block_written}
use Rattle.map_lines.proofs.put_block.Goals as goal

pub overflow_add-at : goal.overflow_add-at
overflow_add-at c =
    let small : c.write_name-named.result ≤ 16 = record-short c.args.i c.requires.0 _ c.write_name-named.ensures.0 in
    omega (arith, small, c.requires.1)

pub put_ports-requires : goal.put_ports-requires
put_ports-requires c =
    let small : c.write_name-named.result ≤ 16 = record-short c.args.i c.requires.0 _ c.write_name-named.ensures.0 in
    omega (arith, small, c.requires.1)

pub overflow_add-result : goal.overflow_add-result
overflow_add-result c =
    let small : c.write_name-named.result ≤ 16 = record-short c.args.i c.requires.0 _ c.write_name-named.ensures.0 in
    omega (arith, small)

pub returns-then-is_present : goal.returns-then-is_present
returns-then-is_present c =
    let there = sym c.is_present.ensures ∙ c.if-is_present.true in
    block_written c.args.i c.requires.0 _ _ _ _ _ _ there c.write_name-named.ensures.0 c.write_name-named.ensures.1 c.put_ports.ensures
