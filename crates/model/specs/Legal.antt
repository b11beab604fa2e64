-- When a machine is legal: the list of request W2, document 02, which the comments quote, one test a clause in the list's order, W3's among them, then request W7's
-- clause, and the types of the fields. That setting up gives legal machines and every step keeps them legal is `set-up-legal` and `legal-kept` of `proofs/Legal.antt`.
-- A clause marked "one value for each meaning" picks one of the machines that one text could stand for.
use Rattle.std.specs.Prelude.{Bool, true, false, not, ◌&&◌, ◌||◌, List, [], ◌∷◌, ℕ, ◌^◌, eqb, ltb, leb, length, get_or, drop}
use Rattle.std.specs.Bool.{beq}
use Rattle.lists.specs.Any.{any}
use Rattle.bits.specs.Writes.{within}
use Rattle.clock.specs.Clock.{counter_bits, hold_limit}
use Rattle.sleep.specs.Pairs.{absent}
use Rattle.platform.specs.Blocks.{present}
use Rattle.platform.specs.Fitted.{status_cells, enable_cells, wide_timer}
use Rattle.platform.specs.Legal.{legal_settings}
use Rattle.platform.specs.declared.settings.Settings.{Settings}
use Rattle.machine.specs.Status.{pwrbtn_bit, pciexp_wake_bit}
use Rattle.registers.specs.Registers.{has_pm1b_cnt, gpe_half, gpe_sts, gpe_en}
use Rattle.machine.specs.Lines.{awake, gpe_event}
use Rattle.machine.specs.PowerOn.{gpe_bytes}
use Rattle.machine.specs.declared.Machine.{Machine}
use Rattle.model.specs.Events.{fits, in_s5}

-- the first only where the second
abbrev pub only_if : Bool → Bool → Bool
only_if a b = not a || b

-- "no unfitted or reserved bit", of the PM1 status; one register holds the bits of both blocks, so none can stand outside its home
unfoldable pub status_legal : Machine → Bool
status_legal m = within (status_cells m.settings) m.pm1_sts

-- "no unfitted or reserved bit" of the PM1 enables
unfoldable pub enables_legal : Machine → Bool
enables_legal m = within (enable_cells m.settings) m.pm1_en

-- "no unfitted .. bit" of general event bytes: as many as the machine has, each a byte, and zero past the block's own
unfoldable pub bytes_legal : ℕ → List ℕ → Bool
bytes_legal own bytes = eqb (length bytes) gpe_bytes && not (any (leb 256) bytes) && not (any (ltb 0) (drop own bytes))

-- the bytes of GPE0, or with b of GPE1, are legal: status bytes, and as many enable bytes
unfoldable pub gpe_legal : Machine → Bool → Bool
gpe_legal m b = bytes_legal (gpe_half m.settings b) (gpe_sts m b) && bytes_legal (gpe_half m.settings b) (gpe_en m b)

-- "or ARB_DIS without PM2"
unfoldable pub arb_dis_legal : Machine → Bool
arb_dis_legal m = only_if m.arb_dis (present m.settings.pm2_cnt)

-- an absent state's pair; also what a state past the table reads
abbrev pub absent_pair : List ℕ
absent_pair = 255 ∷ 255 ∷ []

-- "S0, S5 or a present state"
unfoldable pub state_allowed : Settings → ℕ → Bool
state_allowed s state = eqb state 0 || eqb state 5 || not (absent (get_or s.sleep.pairs state absent_pair))

abbrev pub state_legal : Machine → Bool
state_legal m = state_allowed m.settings m.state

-- "counter below its size"
unfoldable pub counter_legal : Machine → Bool
counter_legal m = ltb m.counter (2 ^ counter_bits (wide_timer m.settings))

-- "hold at most 14,318,180, and below it outside S5 with the override fitted"
unfoldable pub hold_legal : Machine → Bool
hold_legal m = leb m.hold hold_limit && only_if (m.settings.power_override && not (in_s5 m)) (ltb m.hold hold_limit)

-- "button down only where fitted"
unfoldable pub button_legal : Machine → Bool
button_legal m = only_if m.button (fits m.settings pwrbtn_bit)

-- request W3: "active only where fitted"
unfoldable pub wake_pin_legal : Machine → Bool
wake_pin_legal m = only_if m.wake_pin (fits m.settings pciexp_wake_bit)

-- "no command, and SCI_EN set, without SMI_CMD"
unfoldable pub command_legal : Machine → Bool
command_legal m = only_if (eqb m.settings.smi_cmd 0) (not m.command_waits && m.sci_en)

-- "armed only in S0 with B control"
unfoldable pub armed_legal : Machine → Bool
armed_legal m = only_if m.armed (awake m && has_pm1b_cnt m.settings)

-- "B's SLP_TYP zero without B"
unfoldable pub slp_typ_b_legal : Machine → Bool
slp_typ_b_legal m = only_if (not (has_pm1b_cnt m.settings)) (eqb m.slp_typ_b 0)

-- one value for each meaning: the command is zero where none waits, and a byte; no text can break it
unfoldable pub command_byte_legal : Machine → Bool
command_byte_legal m = ltb m.command 256 && only_if (not m.command_waits) (eqb m.command 0)

-- one value for each meaning: each SLP_TYP has three bits; no text can break it
unfoldable pub slp_typs_legal : Machine → Bool
slp_typs_legal m = ltb m.slp_typ_a 8 && ltb m.slp_typ_b 8

-- request W7: "A legal machine has it right": what is stored is the walk's answer; no text can break it
unfoldable pub gpe_pending_legal : Machine → Bool
gpe_pending_legal m = beq m.gpe_pending (gpe_event m)

-- W2's list: "settings pass rules 5 to 12", and the clauses above; the wake pin's is W3's, the last W7's
unfoldable pub listed : Machine → Bool
listed m =
    legal_settings m.settings &&
    status_legal m &&
    enables_legal m &&
    gpe_legal m false &&
    gpe_legal m true &&
    arb_dis_legal m &&
    state_legal m &&
    counter_legal m &&
    hold_legal m &&
    button_legal m &&
    wake_pin_legal m &&
    command_legal m &&
    armed_legal m &&
    slp_typ_b_legal m &&
    command_byte_legal m &&
    slp_typs_legal m &&
    gpe_pending_legal m

-- ---- the types

-- a pair has an a and a b
unfoldable pub not_two : List ℕ → Bool
not_two p = not (eqb (length p) 2)

-- Each field fits its type; of the fields that are not here the list says as much. No text and no code can break it; the definitions need it, their
-- numbers being unbounded, and their lists of any length.
unfoldable pub settings_fit : Settings → Bool
settings_fit s =
    ltb s.acpi_enable (2 ^ 8) &&
    ltb s.acpi_disable (2 ^ 8) &&
    ltb s.gpe1_base (2 ^ 8) &&
    ltb s.flags (2 ^ 32) &&
    eqb (length s.sleep.pairs) 6 &&
    not (any not_two s.sleep.pairs)

abbrev pub fits_types : Machine → Bool
fits_types m = settings_fit m.settings

-- ---- all of it

unfoldable pub legal : Machine → Bool
legal m = listed m && fits_types m
