-- The machine's numbers and flags, apart from its settings and the general event bytes.
use Rattle.std.specs.Prelude.{false}
use Rattle.platform.specs.declared.settings.Settings.{Settings}
use Rattle.machine.specs.declared.Machine.{Machine}
use Rattle.machine.specs.declared.scalars.Scalars.{Scalars}
use Rattle.machine.specs.Fields.{made}
use Rattle.machine.specs.PowerOn.{zeroed}

abbrev pub scalars_of : Machine → Scalars
scalars_of m =
    record {
      counter = m.counter;
      armed = m.armed;
      state = m.state;
      pm1_sts = m.pm1_sts;
      hold = m.hold;
      command_waits = m.command_waits;
      gpe_pending = m.gpe_pending;
      pm1_en = m.pm1_en;
      button = m.button;
      slp_typ_a = m.slp_typ_a;
      slp_typ_b = m.slp_typ_b;
      bm_rld = m.bm_rld;
      sci_en = m.sci_en;
      arb_dis = m.arb_dis;
      command = m.command;
      gbl_rls = m.gbl_rls;
      wake_pin = m.wake_pin;
    }

-- the machine with these; settings and bytes are kept
abbrev pub with_scalars : Machine → Scalars → Machine
with_scalars m x =
    made m.settings (x.pm1_sts, x.pm1_en) (m.gpe0_sts, m.gpe0_en, m.gpe1_sts, m.gpe1_en, x.gpe_pending)
    (x.counter, x.hold, x.button) (x.command_waits, x.command)
    (x.sci_en, x.bm_rld, x.gbl_rls, x.slp_typ_a, x.slp_typ_b, x.arb_dis) (x.armed, x.state) x.wake_pin

-- a machine of these settings and scalars, its general event bytes zero: what looks at no such byte is said of it
abbrev pub bare : Settings → Scalars → Machine
bare s x = with_scalars (zeroed s false) x
