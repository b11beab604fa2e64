use mathlib.Core.Path.{◌≡◌, refl}
use Prim.Native.Nat.{◌+◌}
use native.Mathlib.Omega.{arith}
use lib.ListN.{length}
use lib.Seq.{drop-drop}
use Rattle.text.proofs.Digits.{number_or_zero}
use Rattle.records.proofs.table.Record.read.Goals as goal

pub returns : goal.returns
returns c =
    let name : _ = length c.args.self.now.name.now in
    let past : c.args.from + (name + 1) ≡ c.args.from + name + 1 = omega arith in
    rw (c.unwrap_or.ensures, c.hex_value.ensures, c.part_at.ensures, number_or_zero, drop-drop (name + 1) c.args.from c.args.text.now, past) refl
