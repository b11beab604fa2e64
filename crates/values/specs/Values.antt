-- The machine as the values of the saved text's number records, in their order (document 02, request W2), and back. It knows no text.
-- The general event bytes are records of their own, and stand beside the values.
use Rattle.std.specs.Prelude.{Bool, true, false, not, cond, ◌||◌, List, [], ◌∷◌, ◌++◌, ℕ, ◌+◌, ◌*◌, ◌/◌, ◌%◌, ◌^◌, eqb, length, get_or}
use Rattle.std.specs.Int.Bits.{bit_or}
use Rattle.text.specs.Parts.{same_text}
use Rattle.acpi.specs.Bits.{SCI_EN, BM_RLD, SLP_TYPx, ARB_DIS}
use Rattle.sleep.specs.Pairs.{sleep_table, a_of, b_of}
use Rattle.platform.specs.Blocks.{block}
use Rattle.platform.specs.declared.block.Block.{Block}
use Rattle.platform.specs.declared.settings.Settings.{Settings}
use Rattle.machine.specs.Fields.{made}
use Rattle.machine.specs.Lines.{walked}
use Rattle.machine.specs.declared.Machine.{Machine}
use Rattle.registers.specs.Registers.{status_register, enable_register, control_register, bit_when}

-- ---- the values of a machine

-- a flag is "0 or 1"
abbrev pub flag_value : Bool → ℕ
flag_value b = cond b 1 0

-- "a's byte, then b's"
abbrev pub pair_value : List ℕ → ℕ
pair_value p = a_of p * 2 ^ 8 + b_of p

-- the pair of S0 to S5
abbrev pub pair_of : Settings → ℕ → List ℕ
pair_of s state = get_or s.sleep.pairs state []

-- the records SMI_CMD to S5, by their FADT names; "lengths; PM1's serve A and B"
abbrev pub settings_values : Settings → List ℕ
settings_values s =
    s.smi_cmd ∷
    s.acpi_enable ∷
    s.acpi_disable ∷
    s.pm1a_evt.address ∷
    s.pm1b_evt.address ∷
    s.pm1a_cnt.address ∷
    s.pm1b_cnt.address ∷
    s.pm2_cnt.address ∷
    s.pm_tmr.address ∷
    s.gpe0.address ∷
    s.gpe1.address ∷
    s.pm1a_evt.length ∷
    s.pm1a_cnt.length ∷
    s.pm2_cnt.length ∷
    s.pm_tmr.length ∷
    s.gpe0.length ∷
    s.gpe1.length ∷
    s.gpe1_base ∷
    s.flags ∷
    s.event_homes ∷
    s.control_homes ∷
    flag_value s.power_override ∷
    pair_value (pair_of s 0) ∷
    pair_value (pair_of s 1) ∷
    pair_value (pair_of s 2) ∷
    pair_value (pair_of s 3) ∷
    pair_value (pair_of s 4) ∷
    pair_value (pair_of s 5) ∷
    []

-- "000, or 1 and the byte"
abbrev pub command_value : Bool → ℕ → ℕ
command_value waits command = cond waits (2 ^ 8 + command) 0

-- the records PM1a_STS to WAKE_PIN: the registers of blocks A and B as the guest reads them, and what else the machine holds
abbrev pub machine_values : Machine → List ℕ
machine_values m =
    status_register m false ∷
    status_register m true ∷
    enable_register m false ∷
    enable_register m true ∷
    control_register m false ∷
    control_register m true ∷
    bit_when m.arb_dis ARB_DIS ∷
    m.counter ∷
    m.hold ∷
    flag_value m.button ∷
    command_value m.command_waits m.command ∷
    flag_value m.gbl_rls ∷
    flag_value m.armed ∷
    m.state ∷
    flag_value m.wake_pin ∷
    []

-- all 43, in the order of the records
abbrev pub values_of : Machine → List ℕ
values_of m = settings_values m.settings ++ machine_values m

-- ---- the machine of the values

-- Records are named by their places in `values_of`, from 0 on. That each field is read at its own place is part of `machine-back`
-- (`proofs/RoundTrip.antt`): every legal machine comes back.

-- record i's value, in as many bits as the record has
abbrev pub byte_in : List ℕ → ℕ → ℕ
byte_in vs i = get_or vs i 0 % 2 ^ 8

abbrev pub word_in : List ℕ → ℕ → ℕ
word_in vs i = get_or vs i 0 % 2 ^ 16

abbrev pub dword_in : List ℕ → ℕ → ℕ
dword_in vs i = get_or vs i 0 % 2 ^ 32

-- bit n of record i's value; a flag is bit 0
abbrev pub bit_in : List ℕ → ℕ → ℕ → Bool
bit_in vs i n = eqb (get_or vs i 0 / 2 ^ n % 2) 1

abbrev pub flag_in : List ℕ → ℕ → Bool
flag_in vs i = eqb (get_or vs i 0 % 2) 1

-- a block by the places of its address and of its length
abbrev pub block_in : List ℕ → ℕ → ℕ → Block
block_in vs address length = block (get_or vs address 0) (byte_in vs length)

-- "PM1's serve A and B": an absent PM1 block has no length of its own
abbrev pub pm1_block_in : List ℕ → ℕ → ℕ → Block
pm1_block_in vs address length = block (get_or vs address 0) (cond (not (eqb (get_or vs address 0) 0)) (byte_in vs length) 0)

-- "a's byte, then b's"
abbrev pub pair_in : List ℕ → ℕ → List ℕ
pair_in vs i = get_or vs i 0 / 2 ^ 8 % 2 ^ 8 ∷ byte_in vs i ∷ []

abbrev pub pairs_in : List ℕ → List (List ℕ)
pairs_in vs = pair_in vs 22 ∷ pair_in vs 23 ∷ pair_in vs 24 ∷ pair_in vs 25 ∷ pair_in vs 26 ∷ pair_in vs 27 ∷ []

abbrev pub settings_from : List ℕ → Settings
settings_from vs =
    record {
      smi_cmd = get_or vs 0 0;
      acpi_enable = byte_in vs 1;
      acpi_disable = byte_in vs 2;
      pm1a_evt = pm1_block_in vs 3 11;
      pm1b_evt = pm1_block_in vs 4 11;
      pm1a_cnt = pm1_block_in vs 5 12;
      pm1b_cnt = pm1_block_in vs 6 12;
      pm2_cnt = block_in vs 7 13;
      pm_tmr = block_in vs 8 14;
      gpe0 = block_in vs 9 15;
      gpe1 = block_in vs 10 16;
      gpe1_base = byte_in vs 17;
      flags = dword_in vs 18;
      event_homes = word_in vs 19;
      control_homes = word_in vs 20;
      power_override = flag_in vs 21;
      sleep = sleep_table (pairs_in vs);
    }

-- a control bit has one home, so it is set where either register has it
abbrev pub control_bit_in : List ℕ → ℕ → Bool
control_bit_in vs n = bit_in vs 32 n || bit_in vs 33 n

-- SLP_TYP of the control register at record i
abbrev pub slp_typ_in : List ℕ → ℕ → ℕ
slp_typ_in vs i = get_or vs i 0 / 2 ^ SLP_TYPx % 8

-- the machine, with its general event bytes: GPE0_STS, GPE0_EN, GPE1_STS, GPE1_EN. Whether an enabled bit is set among them: "The saved text does not
-- carry it; the reader works it out." (request W7)
abbrev pub machine_from : List ℕ → List ℕ → List ℕ → List ℕ → List ℕ → Machine
machine_from vs gpe0_sts gpe0_en gpe1_sts gpe1_en =
    walked
    (made (settings_from vs)
    (bit_or (word_in vs 28) (word_in vs 29), bit_or (word_in vs 30) (word_in vs 31))
    (gpe0_sts, gpe0_en, gpe1_sts, gpe1_en, false)
    (dword_in vs 35, dword_in vs 36, flag_in vs 37)
    (bit_in vs 38 8, byte_in vs 38)
    (control_bit_in vs SCI_EN, control_bit_in vs BM_RLD, flag_in vs 39, slp_typ_in vs 32, slp_typ_in vs 33, bit_in vs 34 ARB_DIS)
    (flag_in vs 40, byte_in vs 41)
    (flag_in vs 42))

-- ---- what a reader asks

-- the machine of the values has these values: no unfitted or reserved bit, and none outside its home. (The general event bytes are in no value.)
unfoldable pub values_agree : List ℕ → Bool
values_agree vs = same_text (values_of (machine_from vs [] [] [] [])) vs
