use Rattle.platform.specs.Rules.{length_refused}
use Rattle.platform.proofs.rules.length_refused.Goals as goal

pub returns : goal.returns
unfolding length_refused
returns c = simp (c.just_one_zero-4.ensures, c.just_one_zero-3.ensures, c.just_one_zero-2.ensures, c.just_one_zero.ensures, c.wrong_gpe_length-2.ensures, c.wrong_gpe_length.ensures, c.wrong_block_length-6.ensures, c.wrong_block_length-5.ensures, c.wrong_block_length-4.ensures, c.wrong_block_length-3.ensures, c.wrong_block_length-2.ensures, c.wrong_block_length.ensures)
