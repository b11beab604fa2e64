-- Setting up, whole.
use Rattle.std.specs.Prelude.{⊤, Bool, List, ℕ, Result}
use Rattle.platform.specs.Answer.{if_done, first_failing}
use Rattle.platform.specs.declared.rules.SetUpRefusal.{SetUpRefusal}
use Rattle.platform.specs.declared.settings.Settings.{Settings}
use Rattle.fadt.specs.Fields.{settings_of}
use Rattle.fadt.specs.Table.{set_up_rules}
use Rattle.machine.specs.PowerOn.{power_on, all_zero}
use Rattle.machine.specs.declared.Machine.{Machine}
use Rattle.machine.specs.declared.SetUp.{SetUp}

-- "0 is success with a machine, any refusal to make one gives it all zero"
abbrev pub machine_for : Result ⊤ SetUpRefusal → Settings → Machine
machine_for answer s = if_done answer (power_on s) (λ line. all_zero)

-- "The first failing line of this table is the answer": of the bytes lent, and of the settings
abbrev pub set_up_from : List ℕ → Settings → SetUp
set_up_from t s =
    record {
      answer = first_failing (set_up_rules t s);
      machine = machine_for (first_failing (set_up_rules t s)) s;
    }

-- setting up, whole: the settings are those that the bytes and the host give
abbrev pub set_up_of : List ℕ → ℕ → ℕ → Bool → List (List ℕ) → SetUp
set_up_of t event_homes control_homes power-override pairs = set_up_from t (settings_of t event_homes control_homes power-override pairs)
