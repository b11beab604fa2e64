use mathlib.Core.Path.{◌≡◌}
use lib.ListN.{length}
use Rattle.records.specs.Rows.{row_count}
use Rattle.values.specs.Values.{values_of}
use Rattle.values.proofs.Agreeing.{agree-first}
use Rattle.saved.proofs.Judged.{legal-answer}
use mathlib.Core.Path.{sym, ◌∙◌}
use borrow.Author.Rules.{rules}
use Rattle.saved.proofs.reading.judge_machine.Goals as goal

pub judge_values-requires : goal.judge_values-requires
judge_values-requires c =
    rw c.first_stray.ensures (agree-first (values_of c.args.m) c.args.values)

pub returns-in-Ok : goal.returns-in-Ok
returns-in-Ok c =
    let long : length c.args.values ≡ row_count = search rules in
    legal-answer c.args.m c.args.values long (sym c.judge.ensures ∙ c.in-Ok.is) _ c.first_stray.ensures _ c.judge_values.ensures
