-- `control::write` meets its contract: the pair that this write latches names the state. Assumes nothing.
use mathlib.Core.Path.{◌≡◌, sym, ◌∙◌, ap}
use mathlib.Core.Bool.{Bool}
use Prim.Native.Nat.{ℕ}
use Rattle.std.specs.Prelude.{Option}
use Rattle.sleep.specs.Pairs.{state_of}
use Rattle.machine.specs.declared.Machine.{Machine}
use Rattle.machine.specs.declared.scalars.Scalars.{Scalars}
use Rattle.machine.specs.Scalars.{scalars_of}
use Rattle.registers.specs.Registers.{has_pm1b_cnt}
use Rattle.model.specs.Control.{named_state, controlled}
use Rattle.model.specs.Effect.{control_write, completing}
use Rattle.control.proofs.write.Goals as goal

named : (m : Machine) (b : Bool) (width offset written : ℕ) (x : Scalars) (state : Option ℕ) → x ≡ scalars_of (controlled m b width offset written)
    → state ≡ state_of (has_pm1b_cnt m.settings) x.slp_typ_a x.slp_typ_b m.settings.sleep.pairs → state ≡ named_state m b width offset written
named m b width offset written x state p e =
    e ∙ ap (λ (y : Scalars). state_of (has_pm1b_cnt m.settings) y.slp_typ_a y.slp_typ_b m.settings.sleep.pairs) p

pub returns-in-None : goal.returns-in-None
unfolding control_write
returns-in-None c =
    let n : _ = named _ _ _ _ _ _ _ c.controlled-next.ensures c.named_state.ensures in
    simp (c.unmoved.ensures, sym n ∙ c.in-None.is, sym c.completes.ensures ∙ c.if-completes.true)

pub returns-in-Some : goal.returns-in-Some
unfolding control_write completing
returns-in-Some c =
    let n : _ = named _ _ _ _ _ _ _ c.controlled-next.ensures c.named_state.ensures in
    simp (c.done.ensures, sym n ∙ c.in-Some.is, sym c.completes.ensures ∙ c.if-completes.true, c.controlled-next.ensures)

pub returns-else-completes : goal.returns-else-completes
unfolding control_write completing
returns-else-completes c = simp (c.done-else-completes.ensures, sym c.completes.ensures ∙ c.if-completes.false, c.controlled-next.ensures)
