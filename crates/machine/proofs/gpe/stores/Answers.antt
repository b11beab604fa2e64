use Rattle.machine.specs.Gpe.{stores}
use Rattle.machine.proofs.gpe.stores.Goals as goal

pub returns-in-None : goal.returns-in-None
unfolding stores
returns-in-None c = simp c.in-None.is

pub returns-in-Gpe0Sts : goal.returns-in-Gpe0Sts
unfolding stores
returns-in-Gpe0Sts c = simp c.in-Gpe0Sts.is

pub returns-in-Gpe0En : goal.returns-in-Gpe0En
unfolding stores
returns-in-Gpe0En c = simp c.in-Gpe0En.is

pub returns-in-Gpe1Sts : goal.returns-in-Gpe1Sts
unfolding stores
returns-in-Gpe1Sts c = simp c.in-Gpe1Sts.is

pub returns-in-Gpe1En : goal.returns-in-Gpe1En
unfolding stores
returns-in-Gpe1En c = simp c.in-Gpe1En.is
