use mathlib.Core.Bool.{and-true}
use Rattle.fadt.specs.Table.{no_signature, stands_at}
use Rattle.fadt.proofs.no_signature.Goals as goal

pub returns : goal.returns
unfolding no_signature stands_at
returns c = simp (c.byte-b3.ensures, c.byte-b2.ensures, c.byte-b1.ensures, c.byte-b0.ensures, and-true)
