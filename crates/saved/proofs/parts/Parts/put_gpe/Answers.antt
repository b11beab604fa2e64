use mathlib.Core.Path.{◌≡◌}
use Prim.Native.Nat.{◌≤◌}
use lib.ListN.{length}
use native.Mathlib.Omega.{arith}
use Rattle.records.specs.Ascii.{ascii}
use Rattle.saved.proofs.Laws.{gpe-written}
use borrow.Author.Rules.{rules}
use Rattle.saved.proofs.parts.Parts.put_gpe.Goals as goal

pub returns : goal.returns
unfolding ascii
returns c =
    let p = c.args.self.now in
    let own0 = c.own-own0.result in
    let own1 = c.own-own1.result in
    let l : length p.gpe0_sts ≡ 8 = search rules in
    let l' : length p.gpe0_en ≡ 8 = search rules in
    let l'' : length p.gpe1_sts ≡ 8 = search rules in
    let h : own0 ≤ length p.gpe0_sts = omega (arith, c.own-own0.ensures.1, l) in
    let i : own0 ≤ length p.gpe0_en = omega (arith, c.own-own0.ensures.1, l') in
    let j : own1 ≤ length p.gpe1_sts = omega (arith, c.own-own1.ensures.1, l'') in
    rw (← c.own-own0.ensures.0, ← c.own-own1.ensures.0)
    (gpe-written c.args.buf.now _ _ _ _ p.gpe0_sts p.gpe0_en p.gpe1_sts p.gpe1_en c.args.at own0 own1 h i j
    c.put_bytes.ensures c.put_bytes-2.ensures c.put_bytes-3.ensures c.put_bytes-4.ensures)
