-- Blocks of I/O ports.
use Rattle.std.specs.Prelude.{Bool, not, ◌&&◌, ◌||◌, ℕ, ◌+◌, ◌-◌, eqb, ltb, leb}
use Rattle.platform.specs.declared.block.Block.{Block}

-- a block by its address and its length; every block is made here
abbrev pub block : ℕ → ℕ → Block
block address length = record { address = address; length = length }

-- "A PM1b block with address zero is absent"; "PM2, timer and GPE blocks are absent when address and length are both zero", and rule 6 refuses just one of them
unfoldable pub present : Block → Bool
present b = not (eqb b.address 0)

-- the block is present, and the port is one of its own
unfoldable pub holds : Block → ℕ → Bool
holds b port = present b && (leb b.address port && ltb (port - b.address) b.length)

-- "two present blocks overlap": the first port of one is the other's too
unfoldable pub overlap : Block → Block → Bool
overlap a b = present a && (present b && (holds a b.address || holds b a.address))

-- the ports are 0 to 65,535
abbrev pub port_limit : ℕ
port_limit = 65536

-- "a block or SMI_CMD passes port 65,535"
unfoldable pub passes_ports : Block → Bool
passes_ports b = ltb port_limit (b.address + b.length)

-- an absent block; also what an index past a list of blocks reads
abbrev pub no_block : Block
no_block = block 0 0
