use mathlib.Core.Path.{sym, ◌∙◌}
use Rattle.machine.specs.Gpe.{stored}
use Rattle.machine.proofs.Machine.store.Goals as goal

pub returns-then-stores : goal.returns-then-stores
unfolding stored
returns-then-stores c = simp (c.store_byte.ensures, sym c.stores.ensures ∙ c.if-stores.true)

pub returns-else-stores : goal.returns-else-stores
unfolding stored
returns-else-stores c = simp (sym c.stores.ensures ∙ c.if-stores.false)
