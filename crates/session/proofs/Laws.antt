-- Laws for the loops over a script's lines: one turn, and the end. Assumes nothing.
use mathlib.Core.Bool.{Bool, true, false, cond, ◌&&◌}
use mathlib.Core.List.{List, [], ◌∷◌, ◌++◌}
use mathlib.Core.Path.{◌≡◌, refl, sym, ◌∙◌, ap}
use mathlib.Core.Logic.{◌⊎◌, inl, inr}
use Prim.Native.Nat.{ℕ, suc, ◌+◌, ◌-◌, ◌*◌, ◌/◌, ◌≤◌, ◌<◌}
use native.Mathlib.Nat.{zero-add, suc-mul, le_trans, lt_of_le_of_lt, le-div_iff_mul-le}
use native.Mathlib.Numerals.{add-one}
use native.Mathlib.Omega.{arith}
use borrow.Author.Tests.{ltb-true, ltb-false, leb-true, leb-false, le-leb, lt-leb}
use lib.Dec.{ltb, leb}
use Rattle.std.specs.Prelude.{⊤, Option, Some, None, Result, Ok, Err}
use lib.ListN.{length, drop, length-append}
use lib.Seq.{sets, length-sets, length-take-le}
use Rattle.lists.proofs.Tests.{and_right}
use Rattle.text.specs.Numbers.{digit_count}
use Rattle.text.specs.Parts.{lf, stop_at, front, lines_of, end_of, next_line}
use Rattle.text.proofs.Fewest.{digits-suffice, digits-fewest, digit-count-some}
use Rattle.text.proofs.Cuts.{stop-within}
use Rattle.text.proofs.Stores.{sets_then}
use Rattle.text.proofs.Lines.{line-turn, line-end}
use Rattle.platform.specs.Answer.{if_done}
use Rattle.platform.specs.declared.rules.SetUpRefusal.{SetUpRefusal}
use Rattle.machine.specs.declared.Machine.{Machine}
use Rattle.machine.specs.declared.SetUp.{SetUp}
use Rattle.model.specs.Answer.{step_number}
use Rattle.model.specs.Step.{step_of}
use Rattle.model.specs.declared.Answer.{Answer}
use Rattle.model.specs.declared.Answer.TheVariants as reply
use Rattle.model.specs.declared.Step.{Step}
use Rattle.model.specs.declared.Stepped.{Stepped}
use Rattle.listing.specs.Entry.{header, entry, entry_length, put_at}
use Rattle.listing.proofs.Laws.{entry_length_lem}
use Rattle.script.specs.StepLine.{line_of}
use Rattle.session.specs.Session.{limit, line_end, is_step, step_reads, first_unread, step_in, entries, ended, listing_of, answer_for, text_for, no_end, step_lines, unread, run_answer, run_buffer, run_end, after_platform_line, platform_line_reads, set_up_by, once_set_up, answer_of, buffer_after, session_end}
use Rattle.session.specs.declared.EndRefusal.{EndRefusal}
use Rattle.session.specs.declared.EndRefusal.TheVariants as end
use Rattle.session.specs.declared.SessionRefusal.TheVariants as refusal

module _ (xs : List ℕ) (i : ℕ) where
  -- the line from a place on
  abbrev pub line_at : List ℕ
  line_at = front lf (drop i xs)

  -- the next line begins where this one ends, its LF with it
  pub next-is-end : next_line xs i ≡ line_end (length xs) i line_at
  unfolding next_line
  next-is-end = go (ltb (end_of lf xs i) (length xs)) refl
    where
      long : length line_at ≡ stop_at lf (drop i xs)
      long = length-take-le (stop_at lf (drop i xs)) (drop i xs) (stop-within lf (drop i xs))

      go : (t : Bool) → ltb (end_of lf xs i) (length xs) ≡ t → cond t (end_of lf xs i + 1) (length xs) ≡ line_end (length xs) i line_at
      go true e = omega (arith, long, ltb-true (end_of lf xs i) (length xs) e)
      go false e = omega (arith, long, ltb-false (end_of lf xs i) (length xs) e)

-- a first line that reads, and one that does not; where it ends is given
module _ (size k at end : ℕ) (l : List ℕ) (ls : List (List ℕ)) (e : end ≡ line_end size at l) where
  pub unread-turn : (is_step (line_of l) && leb end limit) ≡ true → first_unread size (k + 1) end ls ≡ first_unread size k at (l ∷ ls)
  unfolding first_unread step_reads
  unread-turn r = rw (add-one, ← e, r) refl

  pub unread-here : (is_step (line_of l) && leb end limit) ≡ false → Some k ≡ first_unread size k at (l ∷ ls)
  unfolding first_unread step_reads
  unread-here r = rw (← e, r) refl

-- a write keeps the buffer's length
pub put-length : (buf : List ℕ) (o : ℕ) (text : List ℕ) → length (put_at buf o text) ≡ length buf
put-length buf o text = go (leb (o + length text) (length buf))
  where
    go : (t : Bool) → length (cond t (sets buf o text) buf) ≡ length buf
    go true = length-sets buf o text
    go false = refl

-- ---- the listing's lines

module _ (k : ℕ) (m : Machine) (l : List ℕ) (ls : List (List ℕ)) where
  -- what the step of the first line gives
  abbrev pub done : Stepped
  done = step_of m (step_in (line_of l))

  -- the lines after it
  abbrev pub more : List ℕ
  more = entries (suc k) done.machine ls

  pub entries-length : length (entries k m (l ∷ ls)) ≡ entry_length k done.answer + length more
  unfolding entries
  entries-length =
      length-append (entry k done.answer done.machine) more
      ∙ ap (λ (n : ℕ). n + length more) (entry_length_lem k done.answer done.machine)

  module _ (left n : ℕ) (e : n ≡ entry_length k done.answer) where
    pub fit-turn : n ≤ left → leb (length more) (left - n) ≡ leb (length (entries k m (l ∷ ls))) left
    fit-turn p = go (leb (length more) (left - n)) refl
      where
        go : (t : Bool) → leb (length more) (left - n) ≡ t → t ≡ leb (length (entries k m (l ∷ ls))) left
        go true q = sym (le-leb (length (entries k m (l ∷ ls))) left (omega (arith, entries-length, e, p, leb-true (length more) (left - n) q)))
        go false q = sym (lt-leb (length (entries k m (l ∷ ls))) left (omega (arith, entries-length, e, p, leb-false (length more) (left - n) q)))

    pub fit-not : left < n → leb (length (entries k m (l ∷ ls))) left ≡ false
    fit-not p = lt-leb (length (entries k m (l ∷ ls))) left (omega (arith, entries-length, e, p))

  -- the first line written where all fit, then the rest
  pub write-turn : (buf : List ℕ) (o : ℕ) → o + length (entries k m (l ∷ ls)) ≤ length buf
      → sets (put_at buf o (entry k done.answer done.machine)) (o + entry_length k done.answer) more ≡ sets buf o (entries k m (l ∷ ls))
  unfolding entries
  write-turn buf o p =
      let long = entry_length_lem k done.answer done.machine in
      let fit : o + length (entry k done.answer done.machine) ≤ length buf = omega (arith, entries-length, p, long) in
      rw (le-leb _ _ fit)
      (sym (sets_then buf o (o + entry_length k done.answer) (entry k done.answer done.machine) more (ap (λ (n : ℕ). o + n) long)))

-- ---- the listing, where it fits and where not

module _ (m : Machine) (ls : List (List ℕ)) (l : List ℕ) where
  -- its lines
  abbrev pub body : List ℕ
  body = entries 1 m ls

  listing-length : length (listing_of m ls) ≡ 32 + length body
  listing-length = length-append header body

  -- room for the listing is room for its lines after the header
  pub room_for : (first : List ℕ) → 32 ≤ length l → leb (length body) (length l - 32) ≡ true → first ≡ sets l 0 header → 32 + length body ≤ length first
  room_for first p q e = omega (arith, p, leb-true (length body) (length l - 32) q, ap length e ∙ length-sets l 0 header)

  pub listing-written : (end : ℕ) (first second : List ℕ) → 32 ≤ length l → leb (length body) (length l - 32) ≡ true
      → first ≡ sets l 0 header → end ≡ 32 + length body → second ≡ sets first 32 body
      → (Ok end ≡ answer_for (length (listing_of m ls)) (length l)) × (second ≡ text_for (listing_of m ls) l)
  unfolding answer_for text_for
  listing-written end first second p q e w f =
      let fit : leb (length (listing_of m ls)) (length l) ≡ true =
      le-leb (length (listing_of m ls)) (length l) (omega (arith, listing-length, p, leb-true (length body) (length l - 32) q)) in
      (rw (fit, w, listing-length) refl, rw (zero-add, fit) (f ∙ ap (λ (b : List ℕ). sets b 32 body) e ∙ sym (sets_then l 0 32 header body refl)))

  pub no_room : (length l < 32) ⊎ (leb (length body) (length l - 32) ≡ false)
      → (Err refusal.NoRoom ≡ answer_for (length (listing_of m ls)) (length l)) × (l ≡ text_for (listing_of m ls) l)
  unfolding answer_for text_for
  no_room why =
      let short : leb (length (listing_of m ls)) (length l) ≡ false =
      lt-leb (length (listing_of m ls)) (length l) (go why) in
      (rw short refl, rw (zero-add, short) refl)
    where
      go : (length l < 32) ⊎ (leb (length body) (length l - 32) ≡ false) → length l < length (listing_of m ls)
      go (inl p) = omega (arith, p, listing-length)
      go (inr q) = omega (arith, listing-length, leb-false (length body) (length l - 32) q)

-- ---- the session: what its tests say, in their order

-- what is done with the machine that it begins with, or with the refusal
module _ {A : Type 0} (table script : List ℕ) (done : Machine → A) (refused : EndRefusal → A) where
  pub started : (m : Machine) → Ok m ≡ once_set_up table script Ok Err → done m ≡ once_set_up table script done refused
  started m = go (platform_line_reads script) (set_up_by table script).answer
    where
      go : (t : Bool) (a : Result ⊤ SetUpRefusal) → Ok m ≡ cond t (if_done a (Ok (set_up_by table script).machine) (λ line. Err (end.SetUp line))) (Err end.PlatformLine)
          → done m ≡ cond t (if_done a (done (set_up_by table script).machine) (λ line. refused (end.SetUp line))) (refused end.PlatformLine)
      go true (Ok _) e = cc
      go true (Err r) e = cc
      go false a e = cc

  pub not-started : (why : EndRefusal) → Err why ≡ once_set_up table script Ok Err → refused why ≡ once_set_up table script done refused
  not-started why = go (platform_line_reads script) (set_up_by table script).answer
    where
      go : (t : Bool) (a : Result ⊤ SetUpRefusal) → Err why ≡ cond t (if_done a (Ok (set_up_by table script).machine) (λ line. Err (end.SetUp line))) (Err end.PlatformLine)
          → refused why ≡ cond t (if_done a (done (set_up_by table script).machine) (λ line. refused (end.SetUp line))) (refused end.PlatformLine)
      go true (Ok _) e = cc
      go true (Err r) e = cc
      go false a e = cc

-- ---- room for any answers

-- no answer's number has more than two digits
number_short : (a : Answer) → step_number a < 100
number_short (reply.Done v) = omega arith
number_short reply.Asleep = omega arith
number_short reply.WrongWidth = omega arith
number_short reply.DataTooWide = omega arith
number_short reply.NoBlock = omega arith
number_short reply.NotAllowed = omega arith
number_short reply.TimerWritten = omega arith
number_short reply.CommandWaits = omega arith
number_short reply.NoSleepState = omega arith
number_short reply.NotFitted = omega arith
number_short reply.NoSuchEvent = omega arith
number_short reply.AlreadySo = omega arith
number_short reply.NoCommand = omega arith

-- a larger number has no fewer digits
count-grows : (k n : ℕ) → k ≤ n → digit_count 10 k ≤ digit_count 10 n
count-grows k n h = digits-fewest 10 (omega arith) k (digit_count 10 n) (digit-count-some 10 (omega arith) n) (lt_of_le_of_lt h (digits-suffice 10 (omega arith) n))

entry-most : (k n : ℕ) (a : Answer) → k ≤ n → entry_length k a ≤ 20 + digit_count 10 n
entry-most k n a h =
    let short = digits-fewest 10 (omega arith) (step_number a) 2 (omega arith) (number_short a) in
    let grows = count-grows k n h in
    omega arith

entries-most : (n k : ℕ) (m : Machine) (ls : List (List ℕ)) → k + length ls ≤ suc n → length (entries k m ls) ≤ length ls * (20 + digit_count 10 n)
unfolding entries
entries-most n k m [] h = omega arith
entries-most n k m (l ∷ ls) h =
    let done = step_of m (step_in (line_of l)) in
    let first = entry k done.answer done.machine in
    let own = entry-most k n done.answer (omega arith) in
    let rest = entries-most n (suc k) done.machine ls (omega arith) in
    rw (length-append, entry_length_lem, suc-mul) (omega arith)

-- the lines of so many steps fit where any would
pub any_fit : (m : Machine) (ls : List (List ℕ)) (room : ℕ) → leb (length ls) (room / (20 + digit_count 10 (length ls))) ≡ true → leb (length (entries 1 m ls)) room ≡ true
any_fit m ls room e =
    let most = entries-most (length ls) 1 m ls (omega arith) in
    let wide : 0 < 20 + digit_count 10 (length ls) = omega arith in
    let fits : length ls * (20 + digit_count 10 (length ls)) ≤ room = (le-div_iff_mul-le wide).0 (leb-true _ _ e) in
    le-leb _ _ (le_trans most fits)
