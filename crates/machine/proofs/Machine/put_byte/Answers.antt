use Rattle.machine.specs.Gpe.{byte_put}
use Rattle.machine.proofs.Machine.put_byte.Goals as goal

pub returns-in-None : goal.returns-in-None
unfolding byte_put
returns-in-None c = simp c.in-None.is

pub returns-in-Gpe0Sts : goal.returns-in-Gpe0Sts
unfolding byte_put
returns-in-Gpe0Sts c = simp (c.with_byte-new.ensures, c.in-Gpe0Sts.is)

pub returns-in-Gpe0En : goal.returns-in-Gpe0En
unfolding byte_put
returns-in-Gpe0En c = simp (c.with_byte-new-in-Gpe0En.ensures, c.in-Gpe0En.is)

pub returns-in-Gpe1Sts : goal.returns-in-Gpe1Sts
unfolding byte_put
returns-in-Gpe1Sts c = simp (c.with_byte-new-in-Gpe1Sts.ensures, c.in-Gpe1Sts.is)

pub returns-in-Gpe1En : goal.returns-in-Gpe1En
unfolding byte_put
returns-in-Gpe1En c = simp (c.with_byte-new-in-Gpe1En.ensures, c.in-Gpe1En.is)
