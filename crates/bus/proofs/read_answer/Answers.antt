use Rattle.machine.specs.Lines.{awake}
use mathlib.Core.Path.{sym, ◌∙◌}
use Rattle.model.specs.Answer.{first_applying}
use Rattle.bus.proofs.read_answer.Goals as goal

pub returns-then-wrong_width : goal.returns-then-wrong_width
unfolding awake first_applying
returns-then-wrong_width c = simp (sym c.wrong_width.ensures ∙ c.if-wrong_width.true, sym c.awake.ensures ∙ c.if-awake.true)

pub returns-then-leads_nowhere : goal.returns-then-leads_nowhere
unfolding awake first_applying
returns-then-leads_nowhere c = simp (sym c.leads_nowhere.ensures ∙ c.if-leads_nowhere.true, sym c.wrong_width.ensures ∙ c.if-wrong_width.false, sym c.awake.ensures ∙ c.if-awake.true)

pub returns-then-allowed : goal.returns-then-allowed
unfolding awake first_applying
returns-then-allowed c = simp (c.read_cells.ensures, sym c.allowed.ensures ∙ c.if-allowed.true, sym c.leads_nowhere.ensures ∙ c.if-leads_nowhere.false, sym c.wrong_width.ensures ∙ c.if-wrong_width.false, sym c.awake.ensures ∙ c.if-awake.true)

pub returns-else-allowed : goal.returns-else-allowed
unfolding awake first_applying
returns-else-allowed c = simp (sym c.allowed.ensures ∙ c.if-allowed.false, sym c.leads_nowhere.ensures ∙ c.if-leads_nowhere.false, sym c.wrong_width.ensures ∙ c.if-wrong_width.false, sym c.awake.ensures ∙ c.if-awake.true)

pub returns-else-awake : goal.returns-else-awake
unfolding awake first_applying
returns-else-awake c = simp (sym c.awake.ensures ∙ c.if-awake.false)
