use mathlib.Core.Path.{sym, ◌∙◌}
use Rattle.model.specs.Effect.{general_byte}
use Rattle.events.proofs.general.raised_byte.Goals as goal

pub returns-then-in_gpe0 : goal.returns-then-in_gpe0
unfolding general_byte
returns-then-in_gpe0 c = simp (c.bit8.ensures, c.byte_of.ensures, sym c.in_gpe0.ensures ∙ c.if-in_gpe0.true)

pub returns-else-in_gpe0 : goal.returns-else-in_gpe0
unfolding general_byte
returns-else-in_gpe0 c = simp (c.bit8-else-in_gpe0.ensures, c.byte_of-else-in_gpe0.ensures, c.number_in-n.ensures, sym c.in_gpe0.ensures ∙ c.if-in_gpe0.false)
