use mathlib.Core.Path.{◌≡◌}
use lib.ListN.{length}
use native.Mathlib.Omega.{arith}
use Rattle.saved.proofs.Laws.{parts-length, parts-short}
use borrow.Author.Rules.{rules}
use Rattle.saved.proofs.parts.Parts.text_length.Goals as goal

pub returns : goal.returns
returns c =
    let p = c.args.self.now in
    let l₁ : length p.gpe0_sts ≡ 8 = search rules in
    let l₂ : length p.gpe0_en ≡ 8 = search rules in
    let l₃ : length p.gpe1_sts ≡ 8 = search rules in
    let l₄ : length p.gpe1_en ≡ 8 = search rules in
    let whole = parts-length c.args.edition p l₁ l₂ l₃ l₄ in
    let short = parts-short c.args.edition p l₁ l₂ l₃ l₄ (omega arith) in
    (omega (arith, whole, c.requires.0, c.own.ensures.0, c.own-2.ensures.0), omega (arith, whole, short, c.requires.0, c.own.ensures.0, c.own-2.ensures.0))
