use Rattle.machine.specs.Lines.{awake}
use mathlib.Core.Path.{sym, ◌∙◌}
use Rattle.bus.proofs.Laws.{write-asleep, write-wrong-width, write-too-wide, write-not-allowed, write-reaches}
use Rattle.bus.proofs.write.Goals as goal

pub returns-then-wrong_width : goal.returns-then-wrong_width
unfolding awake
returns-then-wrong_width c =
    write-wrong-width _ _ _ _ _ c.requires _ (sym c.awake.ensures ∙ c.if-awake.true) (sym c.wrong_width.ensures ∙ c.if-wrong_width.true) (simp (c.unmoved.ensures, c.scalars.ensures))

pub returns-then-data_too_wide : goal.returns-then-data_too_wide
unfolding awake
returns-then-data_too_wide c =
    write-too-wide _ _ _ _ _ c.requires _ (sym c.awake.ensures ∙ c.if-awake.true) (sym c.wrong_width.ensures ∙ c.if-wrong_width.false) (sym c.data_too_wide.ensures ∙ c.if-data_too_wide.true) (simp (c.unmoved-then-data_too_wide.ensures, c.scalars-then-data_too_wide.ensures))

pub returns-then-allowed : goal.returns-then-allowed
unfolding awake
returns-then-allowed c =
    write-reaches _ _ _ _ _ c.requires _ (sym c.awake.ensures ∙ c.if-awake.true) (sym c.wrong_width.ensures ∙ c.if-wrong_width.false) (sym c.data_too_wide.ensures ∙ c.if-data_too_wide.false) _ c.low.ensures c.write_cells.ensures

pub returns-else-allowed : goal.returns-else-allowed
unfolding awake
returns-else-allowed c =
    write-not-allowed _ _ _ _ _ c.requires _ (sym c.awake.ensures ∙ c.if-awake.true) (sym c.wrong_width.ensures ∙ c.if-wrong_width.false) (sym c.data_too_wide.ensures ∙ c.if-data_too_wide.false) (sym c.allowed.ensures ∙ c.if-allowed.false) (simp (c.unmoved-else-allowed.ensures, c.scalars-else-allowed.ensures))

pub returns-else-awake : goal.returns-else-awake
unfolding awake
returns-else-awake c =
    write-asleep _ _ _ _ _ c.requires _ (sym c.awake.ensures ∙ c.if-awake.false) (simp (c.unmoved-else-awake.ensures, c.scalars-else-awake.ensures))
