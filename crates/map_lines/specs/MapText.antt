-- The port map as a text (docs/GUIDE.md, "Its ports"): the present blocks in the walk's order, one a line, with the FADT's name, the first port and the last.
use Rattle.std.specs.Prelude.{ℕ, ◌+◌, ◌-◌, cond, List, [], ◌∷◌, ◌++◌}
use Prim.Native.String.{String}
use Rattle.platform.specs.Blocks.{present}
use Rattle.platform.specs.FadtBlocks.{block_of, fadt_order}
use Rattle.platform.specs.declared.block.Block.{Block}
use Rattle.platform.specs.declared.block.FadtBlock.{FadtBlock}
use Rattle.platform.specs.declared.block.FadtBlock.TheVariants as fadt
use Rattle.platform.specs.declared.settings.Settings.{Settings}
use Rattle.records.specs.Ascii.{ascii}
use Rattle.text.specs.Numbers.{digits}
use Rattle.text.specs.Parts.{tab, lf}

-- the FADT's names of the address fields
abbrev pub fadt_name : FadtBlock → String
fadt_name fadt.SmiCmd = "SMI_CMD"
fadt_name fadt.Pm1aEvtBlk = "PM1a_EVT_BLK"
fadt_name fadt.Pm1bEvtBlk = "PM1b_EVT_BLK"
fadt_name fadt.Pm1aCntBlk = "PM1a_CNT_BLK"
fadt_name fadt.Pm1bCntBlk = "PM1b_CNT_BLK"
fadt_name fadt.Pm2CntBlk = "PM2_CNT_BLK"
fadt_name fadt.PmTmrBlk = "PM_TMR_BLK"
fadt_name fadt.Gpe0Blk = "GPE0_BLK"
fadt_name fadt.Gpe1Blk = "GPE1_BLK"

-- the places of the address records among those of the saved text, in the FADT's order
abbrev pub address_records : List ℕ
address_records = 0 ∷ 3 ∷ 4 ∷ 5 ∷ 6 ∷ 7 ∷ 8 ∷ 9 ∷ 10 ∷ []

abbrev pub last_port : Block → ℕ
last_port b = b.address + (b.length - 1)

-- a tab and 16 hex digits
abbrev pub port_field : ℕ → List ℕ
port_field port = tab ∷ digits 16 16 port

-- a line: the name, the first and the last port
unfoldable pub line_of : List ℕ → Block → List ℕ
line_of name b = name ++ (port_field b.address ++ (port_field (last_port b) ++ (lf ∷ [])))

-- the line of a block of this name; of an absent one there is none
abbrev pub block_text : FadtBlock → Block → List ℕ
block_text name b = cond (present b) (line_of (ascii (fadt_name name)) b) []

-- these blocks' lines, one after another
unfoldable pub text_over : Settings → List FadtBlock → List ℕ
text_over s [] = []
text_over s (b ∷ bs) = block_text b (block_of s b) ++ text_over s bs

abbrev pub map_text : Settings → List ℕ
map_text s = text_over s fadt_order
