-- A script cut after an LF: where the whole session ends, the first part's does, and the rest, resumed from there, ends in the same machine.
-- The lines of the whole are those of the parts, and a line that reads still reads in a script that begins later or ends sooner. Assumes nothing.
use mathlib.Core.Bool.{Bool, true, false, cond}
use mathlib.Core.List.{List, [], ◌∷◌, ◌++◌}
use mathlib.Core.Path.{◌≡◌, refl, sym, ◌∙◌, ap}
use Prim.Native.Nat.{ℕ, suc, ◌≤◌}
use native.Mathlib.Omega.{arith}
use borrow.Author.Tests.{leb-true, le-leb}
use lib.Dec.{eqb}
use Rattle.std.specs.Prelude.{⊤, Option, Some, None, Result, Ok, Err}
use lib.ListN.{length, length-append}
use Rattle.lists.proofs.Tests.{and_left, and_right}
use Rattle.text.specs.Parts.{lf, cut, on_first, lines_of}
use Rattle.text.proofs.Lines.{line-turn}
use Rattle.platform.specs.Answer.{if_done}
use Rattle.platform.specs.declared.rules.SetUpRefusal.{SetUpRefusal}
use Rattle.machine.specs.SetUp.{set_up_of}
use Rattle.machine.specs.declared.Machine.{Machine}
use Rattle.machine.specs.declared.SetUp.{SetUp}
use Rattle.script.specs.PlatformLine.{platform_reads, homes_at, override_in, pairs_in}
use Rattle.script.specs.StepLine.{line_of}
use Rattle.session.specs.Session.{limit, line_end, is_step, step_reads, first_unread, ended, no_end, step_lines, unread, run_end, platform_line, after_platform_line, platform_line_reads, set_up_by, if_all_read, session_end, resumed_end}
use Rattle.session.specs.declared.EndRefusal.{EndRefusal}
use Rattle.session.specs.declared.EndRefusal.TheVariants as end
use Rattle.session.specs.declared.Ended.{Ended}
use Rattle.session.proofs.Cut.{ended-append, answers, answers-append}
use Rattle.session.proofs.Laws.{next-is-end}

-- ---- what reads in the whole reads in each part

module _ (size size' at at' : ℕ) (l : List ℕ) (h : size' ≤ size) (p : at' ≤ at) where
  end-sooner : line_end size' at' l ≤ line_end size at l
  end-sooner = omega arith

  reads-sooner : step_reads size at l ≡ true → step_reads size' at' l ≡ true
  unfolding step_reads
  reads-sooner e =
      let within : line_end size at l ≤ limit = leb-true _ _ (and_right (is_step (line_of l)) _ e) in
      rw (and_left (is_step (line_of l)) _ e) (le-leb (line_end size' at' l) limit (omega (arith, end-sooner, within)))

-- all read: the first does, and those after it
unread-none : (size k at : ℕ) (l : List ℕ) (ls : List (List ℕ)) → first_unread size k at (l ∷ ls) ≡ None
    → (step_reads size at l ≡ true) × (first_unread size (suc k) (line_end size at l) ls ≡ None)
unfolding first_unread
unread-none size k at l ls e = go (step_reads size at l) e
  where
    go : (t : Bool) → cond t (first_unread size (suc k) (line_end size at l) ls) (Some k) ≡ None → (t ≡ true) × (first_unread size (suc k) (line_end size at l) ls ≡ None)
    go true e = (refl, e)
    go false e = (cc, cc)

unread-sooner : (ls : List (List ℕ)) (size size' k k' at at' : ℕ) → size' ≤ size → at' ≤ at → first_unread size k at ls ≡ None → first_unread size' k' at' ls ≡ None
unfolding first_unread
unread-sooner [] size size' k k' at at' h p e = refl
unread-sooner (l ∷ ls) size size' k k' at at' h p e =
    let reads = unread-none size k at l ls e in
    rw (reads-sooner size size' at at' l h p reads.0)
    (unread-sooner ls size size' (suc k) (suc k') (line_end size at l) (line_end size' at' l) h (end-sooner size size' at at' l h p) reads.1)

unread-first : (ls rest : List (List ℕ)) (size k at : ℕ) → first_unread size k at (ls ++ rest) ≡ None → first_unread size k at ls ≡ None
unfolding first_unread
unread-first [] rest size k at e = refl
unread-first (l ∷ ls) rest size k at e =
    let reads = unread-none size k at l (ls ++ rest) e in
    rw reads.0 (unread-first ls rest size (suc k) (line_end size at l) reads.1)

unread-second : (ls rest : List (List ℕ)) (size size' k at : ℕ) → size' ≤ size → first_unread size k at (ls ++ rest) ≡ None → first_unread size' 1 0 rest ≡ None
unread-second [] rest size size' k at h e = unread-sooner rest size size' k 1 at 0 h (omega arith) e
unread-second (l ∷ ls) rest size size' k at h e =
    unread-second ls rest size size' (suc k) (line_end size at l) h (unread-none size k at l (ls ++ rest) e).1

-- ---- the lines of the whole

first-of-first : (x : ℕ) (ps qs : List (List ℕ)) → 1 ≤ length ps → on_first x (ps ++ qs) ≡ on_first x ps ++ qs
unfolding on_first
first-of-first x [] qs h = absurd (omega arith)
first-of-first x (p ∷ ps) qs h = refl

abbrev pub later_lines : List ℕ → List (List ℕ)
later_lines script = step_lines script (after_platform_line script)

-- the script, and its first part, which ends in an LF
abbrev pub whole : List ℕ → List ℕ → List ℕ
whole xs rest = xs ++ (lf ∷ rest)

abbrev pub part : List ℕ → List ℕ
part xs = whole xs []

turned : (xs rest : List ℕ) → lines_of (whole xs rest) ≡ platform_line (whole xs rest) ∷ later_lines (whole xs rest)
turned xs rest = line-turn (whole xs rest) 0 (omega (arith, length-append xs (lf ∷ rest)))

lines_cut : (xs rest : List ℕ) → lines_of (whole xs rest) ≡ lines_of (part xs) ++ lines_of rest
unfolding cut
lines_cut [] rest = refl
lines_cut (x ∷ xs) rest = go (eqb x lf) (lines_cut xs rest)
  where
    go : (t : Bool) → lines_of (whole xs rest) ≡ lines_of (part xs) ++ lines_of rest
        → cond t ([] ∷ lines_of (whole xs rest)) (on_first x (lines_of (whole xs rest))) ≡ cond t ([] ∷ lines_of (part xs)) (on_first x (lines_of (part xs))) ++ lines_of rest
    go true e = ap (λ (ls : List (List ℕ)). [] ∷ ls) e
    go false e = rw e (first-of-first x (lines_of (part xs)) (lines_of rest) (omega (arith, ap length (turned xs []))))

module _ (xs rest : List ℕ) where
  joined : platform_line (whole xs rest) ∷ later_lines (whole xs rest)
      ≡ platform_line (part xs) ∷ (later_lines (part xs) ++ step_lines rest 0)
  joined = sym (turned xs rest) ∙ lines_cut xs rest ∙ ap (λ (ls : List (List ℕ)). ls ++ lines_of rest) (turned xs [])

  pub same-platform-line : platform_line (whole xs rest) ≡ platform_line (part xs)
  same-platform-line = let e = joined in cc

  -- its steps are the first part's and then the rest
  pub steps-cut : later_lines (whole xs rest) ≡ later_lines (part xs) ++ step_lines rest 0
  steps-cut = let e = joined in cc

  -- its listing is, step numbers aside, the first part's lines and then those of the rest
  pub answers-cut : (m : Machine) → answers m (later_lines (whole xs rest)) ≡ answers m (later_lines (part xs)) ++ answers (ended m (later_lines (part xs))) (step_lines rest 0)
  answers-cut m = ap (answers m) steps-cut ∙ answers-append m (later_lines (part xs)) (step_lines rest 0)

-- ---- the ends

module _ (table script : List ℕ) where
  -- a session ends exactly so: the platform line reads, setting up is done, and every later line reads
  abbrev Reads : Type 0
  Reads = (platform_line_reads script ≡ true) × ((set_up_by table script).answer ≡ Ok tt) × (unread script (after_platform_line script) 2 ≡ None)

  done-reads : (session_end table script).answer ≡ Ok tt → Reads
  unfolding session_end run_end
  done-reads e = go (platform_line_reads script) (set_up_by table script).answer (unread script (after_platform_line script) 2) refl refl refl e
    where
      after : Machine
      after = ended (set_up_by table script).machine (later_lines script)

      go : (a : Bool) (b : Result ⊤ SetUpRefusal) (u : Option ℕ) → platform_line_reads script ≡ a → (set_up_by table script).answer ≡ b → unread script (after_platform_line script) 2 ≡ u
          → (cond a (if_done b (if_all_read u (record { answer = Ok tt; machine = after }) (λ line. no_end (end.Line line))) (λ line. no_end (end.SetUp line))) (no_end end.PlatformLine)).answer ≡ Ok tt
          → Reads
      go true (Ok _) None p q u e = (p, q, u)
      go true (Ok _) (Some line) p q u e = (cc, cc, cc)
      go true (Err r) t p q u e = (cc, cc, cc)
      go false b t p q u e = (cc, cc, cc)

  reads-done : Reads → session_end table script ≡ record { answer = Ok tt; machine = ended (set_up_by table script).machine (later_lines script) }
  unfolding session_end run_end
  reads-done w = rw (w.0, w.1, w.2) refl

module _ (table xs rest : List ℕ) where
  same-set-up : set_up_by table (whole xs rest) ≡ set_up_by table (part xs)
  same-set-up = ap (λ (line : List ℕ). set_up_of table (homes_at line 1) (homes_at line 2) (override_in line) (pairs_in line)) (same-platform-line xs rest)

  module _ (w : Reads table (whole xs rest)) where
    all_read : first_unread (length (whole xs rest)) 2 (after_platform_line (whole xs rest)) (later_lines (part xs) ++ step_lines rest 0) ≡ None
    all_read = ap (λ (ls : List (List ℕ)). first_unread (length (whole xs rest)) 2 (after_platform_line (whole xs rest)) ls) (sym (steps-cut xs rest)) ∙ w.2

    part-shorter : length (part xs) ≤ length (whole xs rest)
    part-shorter = omega (arith, length-append xs (lf ∷ rest), length-append xs (lf ∷ []))

    part-sooner : after_platform_line (part xs) ≤ after_platform_line (whole xs rest)
    part-sooner = omega (arith, part-shorter, next-is-end (part xs) 0, next-is-end (whole xs rest) 0, ap length (same-platform-line xs rest))

    part-read : Reads table (part xs)
    unfolding platform_line_reads
    part-read =
        let within : after_platform_line (whole xs rest) ≤ limit = leb-true _ _ (and_right (platform_reads (platform_line (whole xs rest))) _ w.0) in (
          rw (← same-platform-line xs rest, and_left (platform_reads (platform_line (whole xs rest))) _ w.0) (le-leb (after_platform_line (part xs)) limit (omega (arith, part-sooner, within))),
          ap (λ (made : SetUp). made.answer) (sym same-set-up) ∙ w.1,
          unread-sooner (later_lines (part xs)) (length (whole xs rest)) (length (part xs)) 2 2 (after_platform_line (whole xs rest)) (after_platform_line (part xs)) part-shorter part-sooner
              (unread-first (later_lines (part xs)) (step_lines rest 0) (length (whole xs rest)) 2 (after_platform_line (whole xs rest)) all_read),
        )

    rest_read : unread rest 0 1 ≡ None
    rest_read =
        unread-second (later_lines (part xs)) (step_lines rest 0) (length (whole xs rest)) (length rest) 2 (after_platform_line (whole xs rest))
        (omega (arith, length-append xs (lf ∷ rest))) all_read

    same-machine : ended (session_end table (part xs)).machine (step_lines rest 0) ≡ (session_end table (whole xs rest)).machine
    same-machine =
        ap (λ (x : Ended). ended x.machine (step_lines rest 0)) (reads-done table (part xs) part-read)
        ∙ sym (ended-append (set_up_by table (part xs)).machine (later_lines (part xs)) (step_lines rest 0))
        ∙ ap (λ (made : SetUp). ended made.machine (later_lines (part xs) ++ step_lines rest 0)) (sym same-set-up)
        ∙ ap (λ (ls : List (List ℕ)). ended (set_up_by table (whole xs rest)).machine ls) (sym (steps-cut xs rest))
        ∙ ap (λ (x : Ended). x.machine) (sym (reads-done table (whole xs rest) w))

  -- the rest, resumed from the machine at the end of the first part, ends as the whole does
  pub session-cut : (session_end table (whole xs rest)).answer ≡ Ok tt
      → ((session_end table (part xs)).answer ≡ Ok tt) × (resumed_end (session_end table (part xs)).machine rest ≡ session_end table (whole xs rest))
  unfolding run_end
  session-cut e =
      let w = done-reads table (whole xs rest) e in (
        ap (λ (x : Ended). x.answer) (reads-done table (part xs) (part-read w)),
        rw (rest_read w, same-machine w) (ap (λ (a : Result ⊤ EndRefusal). record { answer = a; machine = (session_end table (whole xs rest)).machine }) (sym e)),
      )
