use Rattle.legality.specs.Legality.{one_value}
use Rattle.model.specs.Legal.{command_byte_legal}
use Rattle.legality.proofs.clauses.one_value.Goals as goal

pub returns : goal.returns
unfolding one_value command_byte_legal
returns c = simp (c.slp_typs_legal.ensures, c.command_byte_legal.ensures, c.stray_length-2.ensures, c.stray_length.ensures)
