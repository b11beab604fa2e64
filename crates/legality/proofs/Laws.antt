-- A machine breaks no clause exactly if it passes the list. Each clause that holds hands on to the next, and the tests of the two are the same, joined in another order.
-- Assumes nothing.
use mathlib.Core.Bool.{Bool, true, false, not, cond, ◌&&◌, ◌||◌, and-true, and-false, and_assoc}
use mathlib.Core.List.{List, [], ◌∷◌}
use mathlib.Core.Path.{◌≡◌, refl, sym, ◌∙◌}
use Rattle.std.specs.Prelude.{⊤}
use Rattle.std.proofs.Common.{Result, Err}
use Rattle.lists.specs.Any.{any}
use Rattle.platform.specs.Answer.{Rule, if_done, first_failing}
use Rattle.platform.specs.Legal.{stray_length, legal_settings}
use Rattle.platform.specs.Rules.{settings_rules}
use Rattle.platform.specs.declared.rules.SetUpRefusal.{SetUpRefusal}
use Rattle.machine.specs.declared.Machine.{Machine}
use Rattle.model.specs.Legal.{status_legal, enables_legal, gpe_legal, arb_dis_legal, state_legal, counter_legal, hold_legal, button_legal, wake_pin_legal, command_legal, armed_legal, slp_typ_b_legal, command_byte_legal, slp_typs_legal, gpe_pending_legal, listed}
use Rattle.legality.specs.Legality.{one_value, after_settings, legality_of, is_legal}
use Rattle.legality.specs.declared.Clause.{Clause}
use Rattle.legality.specs.declared.Clause.TheVariants as clause

-- it is legal where the clause holds and no later one is broken
legal-if : (t : Bool) (c : Clause) (y : Result ⊤ Clause) → is_legal (cond (not t) (Err c) y) ≡ (t && is_legal y)
legal-if true c y = refl
legal-if false c y = refl

-- a rule of setting up that refuses
abbrev settings_clause : SetUpRefusal → Result ⊤ Clause
settings_clause r = Err (clause.Settings r)

legal-settings : (rs : List Rule) (y : Result ⊤ Clause) → is_legal (if_done (first_failing rs) y settings_clause) ≡ (not (any (λ r. r.refused) rs) && is_legal y)
unfolding first_failing any
legal-settings [] y = refl
legal-settings (r ∷ rs) y = go r.refused (legal-settings rs y)
  where
    go : (t : Bool) → is_legal (if_done (first_failing rs) y settings_clause) ≡ (not (any (λ r. r.refused) rs) && is_legal y)
        → is_legal (if_done (cond t (Err r.line) (first_failing rs)) y settings_clause) ≡ (not (t || any (λ r. r.refused) rs) && is_legal y)
    go true h = refl
    go false h = h

-- the tests joined as the list has them, and as `legality_of` looks at them
same_tests : (rules evt-b cnt-b status enables gpe0 gpe1 arb-dis state counter hold button pin command armed slp-typ-b command-byte slp-typs pending : Bool)
    → (not (rules || evt-b || cnt-b) && status && enables && gpe0 && gpe1 && arb-dis && state && counter && hold && button && pin && command && armed && slp-typ-b && command-byte && slp-typs && pending)
    ≡ (not rules && (status && (enables && (gpe0 && gpe1 && (arb-dis && (state && (counter && (hold && (button && (pin && (command && (armed && (slp-typ-b && (not evt-b && not cnt-b && command-byte && slp-typs && (pending && true)))))))))))))))
same_tests true evt-b cnt-b status enables gpe0 gpe1 arb-dis state counter hold button pin command armed slp-typ-b command-byte slp-typs pending = refl
same_tests false true cnt-b status enables gpe0 gpe1 arb-dis state counter hold button pin command armed slp-typ-b command-byte slp-typs pending = simp and-false
same_tests false false true status enables gpe0 gpe1 arb-dis state counter hold button pin command armed slp-typ-b command-byte slp-typs pending = simp and-false
same_tests false false false status enables gpe0 gpe1 arb-dis state counter hold button pin command armed slp-typ-b command-byte slp-typs pending = simp (and_assoc, and-true)

pub listed-exactly : (m : Machine) → listed m ≡ is_legal (legality_of m)
unfolding listed legal_settings one_value after_settings legality_of
listed-exactly m =
    same_tests (any (λ r. r.refused) (settings_rules m.settings)) (stray_length m.settings.pm1b_evt) (stray_length m.settings.pm1b_cnt)
    (status_legal m) (enables_legal m) (gpe_legal m false) (gpe_legal m true) (arb_dis_legal m) (state_legal m) (counter_legal m) (hold_legal m)
    (button_legal m) (wake_pin_legal m) (command_legal m) (armed_legal m) (slp_typ_b_legal m) (command_byte_legal m) (slp_typs_legal m) (gpe_pending_legal m) ∙
    sym (legal-settings (settings_rules m.settings) (after_settings m) ∙
    rw (
      legal-if (status_legal m),
      legal-if (enables_legal m),
      legal-if (gpe_legal m false && gpe_legal m true),
      legal-if (arb_dis_legal m),
      legal-if (state_legal m),
      legal-if (counter_legal m),
      legal-if (hold_legal m),
      legal-if (button_legal m),
      legal-if (wake_pin_legal m),
      legal-if (command_legal m),
      legal-if (armed_legal m),
      legal-if (slp_typ_b_legal m),
      legal-if (one_value m),
      legal-if (gpe_pending_legal m),
    )
    refl)
