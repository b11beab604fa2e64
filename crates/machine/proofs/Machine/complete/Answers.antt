use mathlib.Core.Path.{◌≡◌, refl}
use mathlib.Core.Bool.{Bool, true, false, cond, ◌&&◌}
use Prim.Native.Nat.{ℕ}
use lib.Bits.{bit_or}
use Rattle.machine.specs.declared.Machine.{Machine}
use Rattle.machine.specs.declared.sleeping.WakeSource.TheVariants as source
use Rattle.machine.specs.Fields.{with_event, enter}
use Rattle.machine.specs.Status.{wak_bit}
use Rattle.machine.specs.Sleep.{is_sleeping, woken, pending, completed}
use Rattle.machine.proofs.Machine.complete.Goals as goal

-- a choice inside the fields, for a choice between two machines
within : (m : Machine) (state : ℕ) (t : Bool)
    → enter (with_event m (cond t (bit_or m.pm1_sts wak_bit) m.pm1_sts) m.pm1_en) (cond t 0 state) ≡ cond t (woken source.NotKnown (enter m state)) (enter m state)
within m state true = refl
within m state false = refl

pub returns : goal.returns
unfolding completed pending
returns c =
    let at : _ = c.args in
    simp (c.enter.ensures, c.pick.ensures, c.pick-sts.ensures, c.pending.ensures, c.scalars.ensures, c.is_sleeping.ensures) (within at.self at.state (is_sleeping at.state && pending at.self at.state))
