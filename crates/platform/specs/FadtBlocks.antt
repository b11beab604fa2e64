-- The blocks by the names of their FADT address fields.
use Rattle.std.specs.Prelude.{List, [], ◌∷◌, map, ℕ}
use Rattle.acpi.specs.Fadt.{SMI_CMD, PM1a_EVT_BLK, PM1b_EVT_BLK, PM1a_CNT_BLK, PM1b_CNT_BLK, PM2_CNT_BLK, PM_TMR_BLK, GPE0_BLK, GPE1_BLK}
use Rattle.platform.specs.Blocks.{block}
use Rattle.platform.specs.declared.block.Block.{Block}
use Rattle.platform.specs.declared.block.FadtBlock.{FadtBlock}
use Rattle.platform.specs.declared.block.FadtBlock.TheVariants as fadt
use Rattle.platform.specs.declared.settings.Settings.{Settings}

-- the byte offset of the address field in the FADT: 48, then 56 to 84
abbrev pub address_field : FadtBlock → ℕ
address_field fadt.SmiCmd = SMI_CMD
address_field fadt.Pm1aEvtBlk = PM1a_EVT_BLK
address_field fadt.Pm1bEvtBlk = PM1b_EVT_BLK
address_field fadt.Pm1aCntBlk = PM1a_CNT_BLK
address_field fadt.Pm1bCntBlk = PM1b_CNT_BLK
address_field fadt.Pm2CntBlk = PM2_CNT_BLK
address_field fadt.PmTmrBlk = PM_TMR_BLK
address_field fadt.Gpe0Blk = GPE0_BLK
address_field fadt.Gpe1Blk = GPE1_BLK

-- "SMI_CMD, if nonzero, is a one-byte block"
abbrev pub smi_block : Settings → Block
smi_block s = block s.smi_cmd 1

-- the block that this field gives the address of
abbrev pub block_of : Settings → FadtBlock → Block
block_of s fadt.SmiCmd = smi_block s
block_of s fadt.Pm1aEvtBlk = s.pm1a_evt
block_of s fadt.Pm1bEvtBlk = s.pm1b_evt
block_of s fadt.Pm1aCntBlk = s.pm1a_cnt
block_of s fadt.Pm1bCntBlk = s.pm1b_cnt
block_of s fadt.Pm2CntBlk = s.pm2_cnt
block_of s fadt.PmTmrBlk = s.pm_tmr
block_of s fadt.Gpe0Blk = s.gpe0
block_of s fadt.Gpe1Blk = s.gpe1

abbrev pub block_count : ℕ
block_count = 9

-- "in the order of their FADT address fields, SMI_CMD first"
abbrev pub fadt_order : List FadtBlock
fadt_order =
    fadt.SmiCmd ∷
    fadt.Pm1aEvtBlk ∷
    fadt.Pm1bEvtBlk ∷
    fadt.Pm1aCntBlk ∷
    fadt.Pm1bCntBlk ∷
    fadt.Pm2CntBlk ∷
    fadt.PmTmrBlk ∷
    fadt.Gpe0Blk ∷
    fadt.Gpe1Blk ∷
    []

-- the blocks in that order
abbrev pub blocks_of : Settings → List Block
blocks_of s = map (block_of s) fadt_order
