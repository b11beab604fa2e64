-- Each block's address is what the table has at the block's own field. By computation. Assumes nothing.
use Rattle.std.proofs.Common.{◌≡◌, ℕ, Bool, List, refl}
use Rattle.platform.specs.FadtBlocks.{address_field, block_of}
use Rattle.platform.specs.declared.block.FadtBlock.{FadtBlock}
use Rattle.platform.specs.declared.block.FadtBlock.TheVariants as fadt
use Rattle.fadt.specs.Fields.{dword, settings_of}

pub address_read : (t : List ℕ) (event_homes control_homes : ℕ) (power-override : Bool) (pairs : List (List ℕ)) (b : FadtBlock)
    → (block_of (settings_of t event_homes control_homes power-override pairs) b).address ≡ dword t (address_field b)
address_read t event_homes control_homes power-override pairs fadt.SmiCmd = refl
address_read t event_homes control_homes power-override pairs fadt.Pm1aEvtBlk = refl
address_read t event_homes control_homes power-override pairs fadt.Pm1bEvtBlk = refl
address_read t event_homes control_homes power-override pairs fadt.Pm1aCntBlk = refl
address_read t event_homes control_homes power-override pairs fadt.Pm1bCntBlk = refl
address_read t event_homes control_homes power-override pairs fadt.Pm2CntBlk = refl
address_read t event_homes control_homes power-override pairs fadt.PmTmrBlk = refl
address_read t event_homes control_homes power-override pairs fadt.Gpe0Blk = refl
address_read t event_homes control_homes power-override pairs fadt.Gpe1Blk = refl
