use Rattle.saved.proofs.Judged.{parts-found}
use Rattle.saved.proofs.parts.Parts.read.Goals as goal

pub returns : goal.returns
returns c =
    parts-found c.args.edition c.args.text.now _ _ _ _ _ _ _ _ _
    c.records_at.ensures c.read_records-values.ensures
    c.own-own0.ensures.0 c.own-own1.ensures.0 c.requires.0
    c.read_bytes.ensures c.read_bytes-2.ensures c.read_bytes-3.ensures c.read_bytes-4.ensures
