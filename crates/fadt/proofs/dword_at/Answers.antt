use Rattle.fadt.specs.Fields.{dword}
use Rattle.fadt.proofs.dword_at.Goals as goal

pub returns-then-i-table : goal.returns-then-i-table
unfolding dword
returns-then-i-table c = simp (c.joined.ensures, c.if-i-table.true)

pub returns : goal.returns
unfolding dword
returns c = simp (c.joined-2.ensures, c.byte-4.ensures, c.byte-3.ensures, c.byte-2.ensures, c.byte.ensures, c.if-i-table.false)
