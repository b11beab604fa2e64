-- `map_lines::write_map` meets its contract. The loop's invariant: the lines that are left, written into the buffer as it is, give what all of them
-- give from the start; the place and what is left come to the whole length; and no line is longer than 51 bytes. Assumes nothing.
use Rattle.std.proofs.Common.{◌≡◌, ◌+◌, ◌*◌, ◌≤◌, length, drop}
use lib.Seq.{sets}
use Rattle.platform.specs.FadtBlocks.{fadt_order, blocks_of}
use Rattle.platform.specs.declared.settings.Settings.{Settings}
use Rattle.map_lines.specs.MapText.{text_over, map_text}
use Rattle.map_lines.proofs.write_map.Given as goal

-- of the settings whose blocks these are
abbrev pub invariant-loop-i : goal.invariant-loop-i
invariant-loop-i l =
    ((s : Settings) → l.blocks ≡ blocks_of s
    → (sets l.buf l.at (text_over s (drop l.i fadt_order)) ≡ sets l.initial.buf 0 (map_text s)) × (l.at + length (text_over s (drop l.i fadt_order)) ≡ length (map_text s)))
    × (l.at ≤ 51 * l.i)
    × (length l.buf ≡ length l.initial.buf)
