use Rattle.saved.specs.Text.{own0, own1, gpe_text}
use Rattle.saved.proofs.Laws.{all-written}
use Rattle.saved.proofs.parts.Parts.print.Goals as goal

pub returns : goal.returns
returns c =
    let p = c.args.self.now in
    all-written c.args.buf.now _ _ _ p.values
    (gpe_text (own0 p.values) (own1 p.values) p.gpe0_sts p.gpe0_en p.gpe1_sts p.gpe1_en)
    c.args.edition c.records_at.result c.args.at c.records_at.ensures c.requires.0
    c.put_edition.ensures c.write_records.ensures c.put_gpe.ensures
