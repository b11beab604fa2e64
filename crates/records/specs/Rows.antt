-- The table of the records (docs/SAVED.md, "The saved text"), in their order, but for the four of general event bytes, which stand last.
use Rattle.std.specs.Prelude.{List, [], ◌∷◌, ℕ, cond, eqb, get_or}
use Prim.Native.String.{String}
use Rattle.records.specs.declared.table.Form.{Form}
use Rattle.records.specs.declared.table.Form.TheVariants.{Hex, Flag, Command}
use Rattle.records.specs.Ascii.{ascii}

-- the forms of a value: hex digits; a flag, 0 or 1; a command, 000, or 1 and the byte
abbrev pub hex : Form
hex = Hex

abbrev pub flag : Form
flag = Flag

abbrev pub command : Form
command = Command

-- a form by its number; every further number is hex digits too
unfoldable pub form_numbered : ℕ → Form
form_numbered n = cond (eqb n 1) flag (cond (eqb n 2) command hex)

-- a record: its name, its value's form and number of hex digits, the edition since which it is there, and its power-on setting, with which an older
-- text reads
pub record Row : Type 0 where
  pub name : List ℕ
  pub form : Form
  pub width : ℕ
  pub since : ℕ
  pub initial : ℕ

-- a record that an edition added
abbrev pub added : String → Form → ℕ → ℕ → ℕ → Row
added name form width since initial =
    record { name = ascii name; form = form; width = width; since = since; initial = initial }

-- a record of the first edition
abbrev pub row : String → Form → ℕ → Row
row name form width = added name form width 1 0

-- how many rows there are
abbrev pub row_count : ℕ
row_count = 43

unfoldable pub rows : List Row
rows =
    row "SMI_CMD" hex 16 ∷
    row "ACPI_ENABLE" hex 2 ∷
    row "ACPI_DISABLE" hex 2 ∷
    row "PM1a_EVT_BLK" hex 16 ∷
    row "PM1b_EVT_BLK" hex 16 ∷
    row "PM1a_CNT_BLK" hex 16 ∷
    row "PM1b_CNT_BLK" hex 16 ∷
    row "PM2_CNT_BLK" hex 16 ∷
    row "PM_TMR_BLK" hex 16 ∷
    row "GPE0_BLK" hex 16 ∷
    row "GPE1_BLK" hex 16 ∷
    row "PM1_EVT_LEN" hex 2 ∷
    row "PM1_CNT_LEN" hex 2 ∷
    row "PM2_CNT_LEN" hex 2 ∷
    row "PM_TMR_LEN" hex 2 ∷
    row "GPE0_BLK_LEN" hex 2 ∷
    row "GPE1_BLK_LEN" hex 2 ∷
    row "GPE1_BASE" hex 2 ∷
    row "FLAGS" hex 8 ∷
    row "EVENT_HOMES" hex 4 ∷
    row "CONTROL_HOMES" hex 4 ∷
    row "OVERRIDE" flag 1 ∷
    row "S0" hex 4 ∷
    row "S1" hex 4 ∷
    row "S2" hex 4 ∷
    row "S3" hex 4 ∷
    row "S4" hex 4 ∷
    row "S5" hex 4 ∷
    row "PM1a_STS" hex 4 ∷
    row "PM1b_STS" hex 4 ∷
    row "PM1a_EN" hex 4 ∷
    row "PM1b_EN" hex 4 ∷
    row "PM1a_CNT" hex 4 ∷
    row "PM1b_CNT" hex 4 ∷
    row "PM2_CNT" hex 2 ∷
    row "PM_TMR" hex 8 ∷
    row "HOLD" hex 8 ∷
    row "BUTTON" flag 1 ∷
    row "COMMAND" command 3 ∷
    row "RELEASE" flag 1 ∷
    row "ARMED" flag 1 ∷
    row "STATE" hex 1 ∷
    added "WAKE_PIN" flag 1 2 0 ∷
    []

-- what an index past the table reads
abbrev pub no_row : Row
no_row = record { name = []; form = hex; width = 0; since = 0; initial = 0 }

-- a record's name, by its place in the table
abbrev pub record_name : ℕ → List ℕ
record_name i = (get_or rows i no_row).name
