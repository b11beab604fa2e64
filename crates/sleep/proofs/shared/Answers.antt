use mathlib.Core.Path.{sym, ◌∙◌}
use Rattle.sleep.specs.Pairs.{shared}
use Rattle.sleep.proofs.shared.Goals as goal

pub returns-then-absent : goal.returns-then-absent
unfolding shared
returns-then-absent c = simp (sym c.absent.ensures ∙ c.if-absent.true)

pub returns-then-absent-2 : goal.returns-then-absent-2
unfolding shared
returns-then-absent-2 c = simp (sym c.absent-2.ensures ∙ c.if-absent-2.true, sym c.absent.ensures ∙ c.if-absent.false)

pub returns : goal.returns
unfolding shared
returns c = simp (c.same_pair.ensures, sym c.absent-2.ensures ∙ c.if-absent-2.false, sym c.absent.ensures ∙ c.if-absent.false)
