-- Laws for the loop over sessions: one turn, and the end, where i of n sessions are done; and a session keeps the buffer's length. Assumes nothing.
use Rattle.std.specs.Prelude.{⊤, Option, Some, None}
use Rattle.std.proofs.Common.{◌≡◌, ℕ, suc, ◌+◌, ◌-◌, ◌<◌, ◌≤◌, Bool, true, false, cond, List, length, refl, Result, Ok, Err, arith}
use Rattle.platform.specs.Answer.{if_done}
use Rattle.platform.specs.declared.rules.SetUpRefusal.{SetUpRefusal}
use Rattle.listing.specs.Entry.{put_at}
use Rattle.session.specs.Session.{listing_of, text_for, step_lines, unread, if_all_read, run_buffer, after_platform_line, platform_line_reads, set_up_by, buffer_after}
use Rattle.session.proofs.Laws.{put-length}
use Rattle.speed_session.specs.Sessions.{session_turn, sum_after, buffers_after}

module _ (table script : List ℕ) where
  module _ (n i : ℕ) (buffer : List ℕ) where
    pub sum_turn : (sum : ℕ) → i < n
        → sum_after table script (n - i) buffer sum
        ≡ sum_after table script (n - (i + 1)) (buffer_after table script buffer) (session_turn table script (length buffer) sum)
    unfolding sum_after
    sum_turn sum h = let e : n - i ≡ suc (n - (i + 1)) = omega arith in rw e refl

    pub sum_end : (sum : ℕ) → n ≤ i → sum_after table script (n - i) buffer sum ≡ sum
    unfolding sum_after
    sum_end sum h = let e : n - i ≡ 0 = omega arith in rw e refl

    pub buffers_turn : i < n → buffers_after table script (n - i) buffer ≡ buffers_after table script (n - (i + 1)) (buffer_after table script buffer)
    unfolding buffers_after
    buffers_turn h = let e : n - i ≡ suc (n - (i + 1)) = omega arith in rw e refl

    pub buffers_end : n ≤ i → buffers_after table script (n - i) buffer ≡ buffer
    unfolding buffers_after
    buffers_end h = let e : n - i ≡ 0 = omega arith in rw e refl

  -- a session keeps the buffer's length
  pub buffer_length : (buffer : List ℕ) → length (buffer_after table script buffer) ≡ length buffer
  unfolding buffer_after run_buffer text_for
  buffer_length buffer = go (platform_line_reads script) (set_up_by table script).answer (unread script (after_platform_line script) 2)
    where
      text : List ℕ
      text = listing_of (set_up_by table script).machine (step_lines script (after_platform_line script))

      go : (a : Bool) (b : Result ⊤ SetUpRefusal) (u : Option ℕ) → length (cond a (if_done b (if_all_read u (put_at buffer 0 text) (λ line. buffer)) (λ line. buffer)) buffer) ≡ length buffer
      go true (Ok _) None = put-length buffer 0 text
      go true (Ok _) (Some line) = refl
      go true (Err r) u = refl
      go false b u = refl
