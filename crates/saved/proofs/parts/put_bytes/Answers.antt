use mathlib.Core.Path.{◌≡◌}
use Prim.Native.Nat.{◌≤◌}
use lib.ListN.{length}
use native.Mathlib.Omega.{arith}
use Rattle.saved.proofs.Laws.{bytes-written}
use borrow.Author.Rules.{rules}
use Rattle.saved.proofs.parts.put_bytes.Goals as goal

pub returns : goal.returns
returns c =
    let eight : length c.args.bytes ≡ 8 = search rules in
    let h : c.args.own ≤ length c.args.bytes = omega (arith, c.requires.0, eight) in
    bytes-written c.args.buf.now _ _ _ c.args.name.now c.args.bytes c.args.at c.args.own h
    c.write_text.ensures
    c.write_bytes.ensures
    c.write_byte.ensures
