use mathlib.Core.Path.{◌∙◌}
use Rattle.text.proofs.Cuts.{stop_or_end}
use Rattle.text.proofs.parts.stop_at.Goals as goal

pub returns : goal.returns
returns c = rw c.first_stop.ensures at c.unwrap_or.ensures ∙ stop_or_end c.args.stop c.args.text.now
