-- What a line of the port map says of a port.
use Rattle.std.specs.Prelude.{◌≡◌, ℕ, ◌+◌, ◌≤◌, true, List, length, take, drop}
use Rattle.platform.specs.Blocks.{present}
use Rattle.platform.specs.FadtBlocks.{block_of}
use Rattle.platform.specs.declared.block.FadtBlock.{FadtBlock}
use Rattle.platform.specs.declared.settings.Settings.{Settings}
use Rattle.records.specs.Ascii.{ascii}
use Rattle.text.specs.Numbers.{number_of}
use Rattle.map_lines.specs.MapText.{fadt_name, line_of}

-- the number that 16 digits of the line say, so many bytes past the name
abbrev pub number_in : FadtBlock → ℕ → List ℕ → ℕ
number_in name past line = number_of 16 16 (take 16 (drop (length (ascii (fadt_name name)) + past) line))

-- the block's line, as it is printed
abbrev pub printed : Settings → FadtBlock → List ℕ
printed s b = line_of (ascii (fadt_name b)) (block_of s b)

-- the block has a line, and the port is one from the first number in it to the second
abbrev pub InLine : Settings → FadtBlock → ℕ → Type 0
InLine s b port = (present (block_of s b) ≡ true) × (number_in b 1 (printed s b) ≤ port) × (port ≤ number_in b 18 (printed s b))
