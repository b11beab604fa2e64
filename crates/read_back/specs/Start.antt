-- Where the claims start besides setting up: at a machine read back.
use Rattle.std.specs.Prelude.{List, ◌≡◌, ℕ, Ok}
use Rattle.machine.specs.declared.Machine.{Machine}
use Rattle.saved.specs.Reading.{read_of}

-- P of every machine of an accepted text
abbrev pub FromRead : (Machine → Type 0) → Type 0
FromRead P = (text : List ℕ) → (read_of text).answer ≡ Ok tt → P (read_of text).machine
