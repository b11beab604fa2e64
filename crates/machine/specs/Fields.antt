-- The machine with some fields changed. Fields that change together are a group; `made` holds the only literal of a machine, and
-- everything else goes through these.
use Rattle.std.specs.Prelude.{Bool, false, List, ℕ}
use Rattle.platform.specs.declared.settings.Settings.{Settings}
use Rattle.machine.specs.declared.Machine.{Machine}

-- ---- the groups

-- PM1 status and enables
abbrev pub pm1_cells : Machine → ℕ × ℕ
pm1_cells m = (m.pm1_sts, m.pm1_en)

-- status and enables of GPE0, then of GPE1, and whether a status bit is set together with its enable
abbrev pub gpe_cells : Machine → List ℕ × List ℕ × List ℕ × List ℕ × Bool
gpe_cells m = (m.gpe0_sts, m.gpe0_en, m.gpe1_sts, m.gpe1_en, m.gpe_pending)

-- the counter, hold, and whether the power button is down
abbrev pub time_and_button : Machine → ℕ × ℕ × Bool
time_and_button m = (m.counter, m.hold, m.button)

-- whether a command waits, and its byte
abbrev pub command_latch : Machine → Bool × ℕ
command_latch m = (m.command_waits, m.command)

-- SCI_EN, BM_RLD, the release flag, SLP_TYP of A and of B, ARB_DIS
abbrev pub control_cells : Machine → Bool × Bool × Bool × ℕ × ℕ × Bool
control_cells m = (m.sci_en, m.bm_rld, m.gbl_rls, m.slp_typ_a, m.slp_typ_b, m.arb_dis)

-- armed, and the sleep state
abbrev pub mode : Machine → Bool × ℕ
mode m = (m.armed, m.state)

-- the last is the wake pin
abbrev pub made : Settings → ℕ × ℕ → List ℕ × List ℕ × List ℕ × List ℕ × Bool → ℕ × ℕ × Bool → Bool × ℕ → Bool × Bool × Bool × ℕ × ℕ × Bool → Bool × ℕ → Bool → Machine
made s (pm1-sts, pm1-en) (gpe0_sts, gpe0_en, gpe1_sts, gpe1_en, gpe-pending) (counter, hold, button) (command-waits, command) (sci-en, bm-rld, gbl-rls, slp-typ-a, slp-typ-b, arb-dis) (armed, state) wake-pin =
    record {
      settings = s;
      pm1_sts = pm1-sts;
      pm1_en = pm1-en;
      gpe0_sts = gpe0_sts;
      gpe0_en = gpe0_en;
      gpe1_sts = gpe1_sts;
      gpe1_en = gpe1_en;
      counter = counter;
      hold = hold;
      button = button;
      command_waits = command-waits;
      command = command;
      gbl_rls = gbl-rls;
      armed = armed;
      slp_typ_a = slp-typ-a;
      slp_typ_b = slp-typ-b;
      sci_en = sci-en;
      bm_rld = bm-rld;
      arb_dis = arb-dis;
      state = state;
      gpe_pending = gpe-pending;
      wake_pin = wake-pin;
    }

-- ---- the setters

abbrev pub with_settings : Machine → Settings → Machine
with_settings m s = made s (pm1_cells m) (gpe_cells m) (time_and_button m) (command_latch m) (control_cells m) (mode m) m.wake_pin

-- the PM1 event cells
abbrev pub with_event : Machine → ℕ → ℕ → Machine
with_event m pm1-sts pm1-en = made m.settings (pm1-sts, pm1-en) (gpe_cells m) (time_and_button m) (command_latch m) (control_cells m) (mode m) m.wake_pin

-- the general event cells, and whether one is pending
abbrev pub with_gpe : Machine → List ℕ → List ℕ → List ℕ → List ℕ → Bool → Machine
with_gpe m gpe0_sts gpe0_en gpe1_sts gpe1_en gpe-pending =
    made m.settings (pm1_cells m) (gpe0_sts, gpe0_en, gpe1_sts, gpe1_en, gpe-pending) (time_and_button m) (command_latch m) (control_cells m) (mode m) m.wake_pin

-- whether one is pending
abbrev pub with_gpe_pending : Machine → Bool → Machine
with_gpe_pending m gpe-pending = with_gpe m m.gpe0_sts m.gpe0_en m.gpe1_sts m.gpe1_en gpe-pending

-- the PM1 control cells that a guest writes, the release flag and arming
abbrev pub with_control : Machine → Bool → Bool → ℕ → ℕ → Bool → Machine
with_control m bm-rld gbl-rls slp-typ-a slp-typ-b armed =
    made m.settings (pm1_cells m) (gpe_cells m) (time_and_button m) (command_latch m)
    (m.sci_en, bm-rld, gbl-rls, slp-typ-a, slp-typ-b, m.arb_dis) (armed, m.state) m.wake_pin

-- the command latch
abbrev pub with_command : Machine → Bool → ℕ → Machine
with_command m command-waits command =
    made m.settings (pm1_cells m) (gpe_cells m) (time_and_button m) (command-waits, command) (control_cells m) (mode m) m.wake_pin

-- the power button and its hold
abbrev pub with_button : Machine → Bool → ℕ → Machine
with_button m button hold = made m.settings (pm1_cells m) (gpe_cells m) (m.counter, hold, button) (command_latch m) (control_cells m) (mode m) m.wake_pin

-- PM2
abbrev pub with_arb_dis : Machine → Bool → Machine
with_arb_dis m arb-dis =
    made m.settings (pm1_cells m) (gpe_cells m) (time_and_button m) (command_latch m)
    (m.sci_en, m.bm_rld, m.gbl_rls, m.slp_typ_a, m.slp_typ_b, arb-dis) (mode m) m.wake_pin

-- SCI_EN
abbrev pub with_sci_en : Machine → Bool → Machine
with_sci_en m sci-en =
    made m.settings (pm1_cells m) (gpe_cells m) (time_and_button m) (command_latch m)
    (sci-en, m.bm_rld, m.gbl_rls, m.slp_typ_a, m.slp_typ_b, m.arb_dis) (mode m) m.wake_pin

-- the counter and hold
abbrev pub with_time : Machine → ℕ → ℕ → Machine
with_time m counter hold = made m.settings (pm1_cells m) (gpe_cells m) (counter, hold, m.button) (command_latch m) (control_cells m) (mode m) m.wake_pin

-- another state: "Completing, wake and override all disarm"
abbrev pub enter : Machine → ℕ → Machine
enter m state = made m.settings (pm1_cells m) (gpe_cells m) (time_and_button m) (command_latch m) (control_cells m) (false, state) m.wake_pin

-- the wake pin's level
abbrev pub with_wake_pin : Machine → Bool → Machine
with_wake_pin m active = made m.settings (pm1_cells m) (gpe_cells m) (time_and_button m) (command_latch m) (control_cells m) (mode m) active
