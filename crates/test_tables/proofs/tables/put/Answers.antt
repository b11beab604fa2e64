use Rattle.std.proofs.Common.{sym, ◌∙◌, le-ltb, lt-ltb}
use Rattle.test_tables.specs.Tables.{field_set}
use Rattle.test_tables.proofs.tables.put.Goals as goal

pub returns-then-at-gt-ROOM : goal.returns-then-at-gt-ROOM
unfolding field_set
returns-then-at-gt-ROOM c = simp (lt-ltb _ _ c.if-at-gt-ROOM.true)

pub returns-then-is_wide : goal.returns-then-is_wide
unfolding field_set
returns-then-is_wide c = simp (c.low_byte-then-is_wide-3.ensures, c.low_byte-then-is_wide-2.ensures, c.low_byte-then-is_wide.ensures, sym c.is_wide.ensures ∙ c.if-is_wide.true, c.low_byte.ensures, le-ltb _ _ c.if-at-gt-ROOM.false)

pub returns : goal.returns
unfolding field_set
returns c = simp (sym c.is_wide.ensures ∙ c.if-is_wide.false, c.low_byte.ensures, le-ltb _ _ c.if-at-gt-ROOM.false)
