-- Every step keeps the number of general status bytes. Stores keep a list's length, and the restart from S5 has as many zeros.
-- Assumes nothing.
use mathlib.Core.Bool.{Bool, true, false, cond}
use mathlib.Core.List.{List}
use mathlib.Core.Path.{◌≡◌, ◌∙◌}
use Prim.Native.Nat.{ℕ}
use lib.ListN.{length, length-set}
use Rattle.registers.specs.Registers.{gpe_sts, in_gpe_status, gpe_sts_after}
use Rattle.machine.specs.PowerOn.{gpe_bytes}
use Rattle.machine.specs.declared.Machine.{Machine}
use Rattle.model.specs.Events.{in_gpe0, general_raised}
use Rattle.model.specs.Step.{after}
use Rattle.model.specs.declared.Step.{Step}
use Rattle.model.proofs.Kept.{KeptWritingGpe0, KeptWritingGpe1, Keeps, kept-by-steps}

-- each block has its status bytes
abbrev pub Sized : Machine → Type 0
Sized m = (length m.gpe0_sts ≡ gpe_bytes) × (length m.gpe1_sts ≡ gpe_bytes)

pub sized-at : (m : Machine) → Sized m → (b : Bool) → length (gpe_sts m b) ≡ gpe_bytes
sized-at m s true = s.1
sized-at m s false = s.0

cond-length : (n : ℕ) (t : Bool) (xs ys : List ℕ) → length xs ≡ n → length ys ≡ n → length (cond t xs ys) ≡ n
cond-length n true xs ys p q = p
cond-length n false xs ys p q = q

write-length : (m : Machine) (b : Bool) (offset written : ℕ) → Sized m → length (gpe_sts_after m b offset written) ≡ gpe_bytes
unfolding gpe_sts_after
write-length m b offset written s =
    cond-length gpe_bytes (in_gpe_status m.settings b offset) _ (gpe_sts m b) (length-set (gpe_sts m b) offset _ ∙ sized-at m s b) (sized-at m s b)

general-length : (m : Machine) (k : ℕ) → Sized m → Sized (general_raised m k)
unfolding general_raised
general-length m k s =
    let first = in_gpe0 m.settings k in (
      cond-length gpe_bytes first _ _ (length-set m.gpe0_sts _ _ ∙ s.0) s.0,
      cond-length gpe_bytes first _ _ s.1 (length-set m.gpe1_sts _ _ ∙ s.1),
    )

sizes-keep : Keeps Sized
sizes-keep =
    let bytes0 : KeptWritingGpe0 Sized = λ m offset written o p. (write-length m false offset written p, p.1) in
    let bytes1 : KeptWritingGpe1 Sized = λ m offset written o p. (p.0, write-length m true offset written p) in
    search general-length

pub sized-kept : (m : Machine) (x : Step) → Sized m → Sized (after m x)
sized-kept m x s = kept-by-steps Sized sizes-keep m x s
