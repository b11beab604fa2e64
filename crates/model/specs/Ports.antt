-- Where a port leads: what the walk over the blocks gives, as a register and an offset in its block.
use Rattle.std.specs.Prelude.{true, false, Option, Some, None, ℕ}
use Rattle.platform.specs.declared.block.FadtBlock.{FadtBlock}
use Rattle.platform.specs.declared.block.FadtBlock.TheVariants as fadt
use Rattle.platform.specs.declared.settings.Settings.{Settings}
use Rattle.ports.specs.Walk.{walk}
use Rattle.ports.specs.declared.Place.{Place}
use Rattle.model.specs.declared.Register.{Register}
use Rattle.model.specs.declared.Register.TheVariants as register

abbrev pub block_register : FadtBlock → Register
block_register fadt.SmiCmd = register.SmiCmd
block_register fadt.Pm1aEvtBlk = register.Pm1Evt false
block_register fadt.Pm1bEvtBlk = register.Pm1Evt true
block_register fadt.Pm1aCntBlk = register.Pm1Cnt false
block_register fadt.Pm1bCntBlk = register.Pm1Cnt true
block_register fadt.Pm2CntBlk = register.Pm2Cnt
block_register fadt.PmTmrBlk = register.PmTmr
block_register fadt.Gpe0Blk = register.Gpe false
block_register fadt.Gpe1Blk = register.Gpe true

abbrev pub register_in : Option Place → Register
register_in (Some p) = block_register p.block
register_in None = register.Nowhere

-- nowhere it is 0: no rule looks at it, since 23 is given first
abbrev pub offset_in : Option Place → ℕ
offset_in (Some p) = p.offset
offset_in None = 0

unfoldable pub register_at : Settings → ℕ → Register
register_at s port = register_in (walk s port)

unfoldable pub offset_at : Settings → ℕ → ℕ
offset_at s port = offset_in (walk s port)
