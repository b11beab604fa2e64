-- Laws for the two loops: one turn, and the end, where i of n turns are done; and writing keeps the buffer's length. Assumes nothing.
use Rattle.std.proofs.Common.{◌≡◌, ℕ, suc, ◌+◌, ◌-◌, ◌<◌, ◌≤◌, Bool, true, false, cond, leb, List, length, refl, arith}
use lib.Seq.{sets, length-sets}
use Rattle.machine.specs.declared.Machine.{Machine}
use Rattle.saved.specs.Text.{saved_text, written_buffer}
use Rattle.speed_saved.specs.Texts.{read_turn, reads_of, counting, write_turn, writes_of, buffer_after}

module _ (text : List ℕ) (n i sum : ℕ) where
  pub reads_turn : i < n → reads_of text (n - i) sum ≡ reads_of text (n - (i + 1)) (read_turn text sum)
  unfolding reads_of
  reads_turn h = let e : n - i ≡ suc (n - (i + 1)) = omega arith in rw e refl

  pub reads_end : n ≤ i → reads_of text (n - i) sum ≡ sum
  unfolding reads_of
  reads_end h = let e : n - i ≡ 0 = omega arith in rw e refl

module _ (m : Machine) where
  module _ (n i : ℕ) where
    pub writes_turn : (room sum : ℕ) → i < n → writes_of m room (n - i) sum ≡ writes_of m room (n - (i + 1)) (write_turn m room sum)
    unfolding writes_of
    writes_turn room sum h = let e : n - i ≡ suc (n - (i + 1)) = omega arith in rw e refl

    pub writes_end : (room sum : ℕ) → n ≤ i → writes_of m room (n - i) sum ≡ sum
    unfolding writes_of
    writes_end room sum h = let e : n - i ≡ 0 = omega arith in rw e refl

    pub buffer_turn : (buffer : List ℕ) (sum : ℕ) → i < n
        → buffer_after m (n - i) buffer sum ≡ buffer_after m (n - (i + 1)) (written_buffer (counting m sum) buffer) (write_turn m (length buffer) sum)
    unfolding buffer_after
    buffer_turn buffer sum h = let e : n - i ≡ suc (n - (i + 1)) = omega arith in rw e refl

    pub buffer_end : (buffer : List ℕ) (sum : ℕ) → n ≤ i → buffer_after m (n - i) buffer sum ≡ buffer
    unfolding buffer_after
    buffer_end buffer sum h = let e : n - i ≡ 0 = omega arith in rw e refl

  -- writing keeps the buffer's length
  pub written_length : (buffer : List ℕ) → length (written_buffer m buffer) ≡ length buffer
  written_length buffer = go (leb (length (saved_text m)) (length buffer))
    where
      go : (a : Bool) → length (cond a (sets buffer 0 (saved_text m)) buffer) ≡ length buffer
      go true = length-sets buffer 0 (saved_text m)
      go false = refl
