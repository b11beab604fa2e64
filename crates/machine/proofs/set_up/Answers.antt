use mathlib.Core.Path.{sym, ◌∙◌}
use Rattle.platform.specs.Answer.{first_failing}
use Rattle.machine.proofs.set_up.Goals as goal

pub returns-then-table_short : goal.returns-then-table_short
unfolding first_failing
returns-then-table_short c = simp (c.all_zero-machine.ensures, sym c.table_short.ensures ∙ c.if-table_short.true)

pub returns : goal.returns
returns c = simp (c.machine_for-machine.ensures, c.judge-answer.ensures, c.settings-s.ensures)
