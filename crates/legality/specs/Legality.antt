-- The first clause of W2's list, with W3's in it and after it W7's, that a machine breaks. That a machine breaks none exactly if it passes the list is `listed-exactly` of `proofs/Laws.antt`.
use Rattle.std.specs.Prelude.{⊤, Bool, true, false, not, cond, ◌&&◌, Result, Ok, Err}
use Rattle.platform.specs.Answer.{if_done, first_failing}
use Rattle.platform.specs.Legal.{stray_length}
use Rattle.platform.specs.Rules.{settings_rules}
use Rattle.machine.specs.declared.Machine.{Machine}
use Rattle.model.specs.Legal.{status_legal, enables_legal, gpe_legal, arb_dis_legal, state_legal, counter_legal, hold_legal, button_legal, wake_pin_legal, command_legal, armed_legal, slp_typ_b_legal, command_byte_legal, slp_typs_legal, gpe_pending_legal}
use Rattle.legality.specs.declared.Clause.{Clause}
use Rattle.legality.specs.declared.Clause.TheVariants as clause

-- the clauses that only say "one value for each meaning"
unfoldable pub one_value : Machine → Bool
one_value m = not (stray_length m.settings.pm1b_evt) && not (stray_length m.settings.pm1b_cnt) && command_byte_legal m && slp_typs_legal m

-- the list from "no unfitted or reserved bit" on; last request W7's "A legal machine has it right"
unfoldable pub after_settings : Machine → Result ⊤ Clause
after_settings m =
    cond (not (status_legal m)) (Err clause.Status)
    (cond (not (enables_legal m)) (Err clause.Enables)
    (cond (not (gpe_legal m false && gpe_legal m true)) (Err clause.GeneralEvents)
    (cond (not (arb_dis_legal m)) (Err clause.ArbDis)
    (cond (not (state_legal m)) (Err clause.State)
    (cond (not (counter_legal m)) (Err clause.Counter)
    (cond (not (hold_legal m)) (Err clause.Hold)
    (cond (not (button_legal m)) (Err clause.Button)
    (cond (not (wake_pin_legal m)) (Err clause.WakePin)
    (cond (not (command_legal m)) (Err clause.Command)
    (cond (not (armed_legal m)) (Err clause.Armed)
    (cond (not (slp_typ_b_legal m)) (Err clause.SlpTypB)
    (cond (not (one_value m)) (Err clause.OneValue)
    (cond (not (gpe_pending_legal m)) (Err clause.GpePending)
    (Ok tt))))))))))))))

-- "settings pass rules 5 to 12": the first that refuses; then the other clauses
unfoldable pub legality_of : Machine → Result ⊤ Clause
legality_of m = if_done (first_failing (settings_rules m.settings)) (after_settings m) (λ r. Err (clause.Settings r))

-- no clause is broken
abbrev pub is_legal : Result ⊤ Clause → Bool
is_legal (Ok _) = true
is_legal (Err c) = false

-- one thing where it is legal, and another, by the clause, where it is not
abbrev pub if_legal : {A : Type 0} → Result ⊤ Clause → A → (Clause → A) → A
if_legal (Ok _) done broken = done
if_legal (Err c) done broken = broken c
