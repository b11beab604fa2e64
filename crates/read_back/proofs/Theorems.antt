-- The promises of the saved text, under the customer's names. Assumes nothing.
use mathlib.Core.Bool.{Bool, true, false, not, cond, ◌&&◌, and-true, false≢true}
use mathlib.Core.List.{List}
use mathlib.Core.Path.{◌≡◌, refl, sym, ◌∙◌, ap}
use Prim.Native.Nat.{ℕ, ◌+◌, ◌%◌}
use lib.Dec.{eqb, lit<}
use lib.ListN.{drop}
use Rattle.std.specs.Prelude.{⊤}
use Rattle.std.proofs.Common.{Result, Ok, Err}
use Rattle.lists.specs.Any.{first_at}
use Rattle.lists.proofs.Tests.{and_left, and_right}
use Rattle.text.specs.Numbers.{digits, digit_count, count_within, glyph}
use Rattle.text.specs.Parts.{same_text}
use Rattle.text.proofs.Equal.{same-equal, same_self}
use Rattle.runs.specs.Items.{after as after_all, Throughout}
use Rattle.records.specs.Ascii.{ascii}
use Rattle.records.specs.Rows.{rows, no_row}
use Rattle.records.proofs.ReadBack.{added-reads}
use Rattle.machine.specs.PowerOn.{all_zero}
use Rattle.machine.specs.declared.Machine.{Machine}
use Rattle.model.specs.Legal.{listed, fits_types, legal}
use Rattle.model.specs.Step.{after, step_of}
use Rattle.model.specs.declared.Step.{Step}
use Rattle.legality.specs.Legality.{legality_of, is_legal, if_legal}
use Rattle.legality.specs.declared.Clause.{Clause}
use Rattle.legality.proofs.Laws.{listed-exactly}
use Rattle.values.specs.Agree.{agreeing}
use Rattle.values.specs.Values.{values_of, values_agree}
use Rattle.values.proofs.Fits.{read_fits}
use Rattle.values.proofs.RoundTrip.{machine-back}
use Rattle.split_access.specs.ByWalk.{ByWalkFrom}
use Rattle.split_access.specs.Claims.{MovesFrom}
use Rattle.split_access.specs.WakesAtOnce.{WakesAtOnceFrom}
use Rattle.split_access.specs.WriteBack.{WritesBackFrom}
use Rattle.split_access.proofs.ByWalk.{by-walk-from-legal}
use Rattle.split_access.proofs.WakesAtOnce.{wakes-at-once-from-legal}
use Rattle.split_access.proofs.Legal.{legal-after, all-legal, demand-3-from-legal, write-back-from-legal}
use Rattle.saved.specs.declared.parts.Parts.{Parts}
use Rattle.saved.specs.Text.{newest, parts, text_of, records_at, parts_of, saved_text}
use Rattle.saved.specs.Reading.{edition_up_to, edition_of, parts_in, machine_of, machine_in, well_formed, legal_text, malformed_line, text_answer, legal_answer, is_done, first_refusal, read_as, read_parts, read_in, read_of}
use Rattle.saved.specs.declared.ReadBack.{ReadBack}
use Rattle.saved.specs.declared.ReadRefusal.TheVariants as refusal
use Rattle.std.specs.Prelude.{Ok, Err}
use Rattle.read_back.specs.Start.{FromRead}
use Rattle.read_back.proofs.Parts.{parts-back}

-- ---- accepted exactly if well formed and legal

-- the machine of a text is legal exactly if it breaks no clause: its fields fit their types
legal-exactly : (p : Parts) → legal (machine_of p) ≡ is_legal (legality_of (machine_of p))
unfolding legal
legal-exactly p =
    rw (read_fits p.values p.gpe0_sts p.gpe0_en p.gpe1_sts p.gpe1_en, and-true) (listed-exactly (machine_of p))

-- the judgement of a machine, and of its values
done-legal : (m : Machine) (vs : List ℕ) → is_done (legal_answer m vs) ≡ (is_legal (legality_of m) && same_text (values_of m) vs)
done-legal m vs = go (legality_of m) (same_text (values_of m) vs) (agreeing (values_of m) vs + 2)
  where
    go : (x : Result ⊤ Clause) (t : Bool) (line : ℕ) → is_done (if_legal x (cond t (Ok tt) (Err (refusal.Stray line))) (λ clause. Err (refusal.Illegal clause))) ≡ (is_legal x && t)
    go (Ok _) true line = refl
    go (Ok _) false line = refl
    go (Err c) t line = refl

module _ (edition : ℕ) (text : List ℕ) where
  done-parts : is_done (read_parts edition text (parts_in edition text)).answer ≡ (well_formed edition text && legal_text edition text)
  unfolding well_formed legal_text values_agree
  done-parts = go (same_text text (text_of edition (parts_in edition text)))
    where
      p : Parts
      p = parts_in edition text

      go : (t : Bool)
          → is_done (first_refusal (cond t (Ok tt) (Err (refusal.Malformed (malformed_line text (text_of edition p))))) (legal_answer (machine_of p) p.values))
          ≡ (t && (legal (machine_of p) && same_text (values_of (machine_of p)) p.values))
      go true = rw (legal-exactly p) (done-legal (machine_of p) p.values)
      go false = refl

  pub done-exactly : is_done (read_in edition text).answer ≡ (not (eqb edition 0) && (well_formed edition text && legal_text edition text))
  unfolding read_in
  done-exactly = go (eqb edition 0)
    where
      go : (t : Bool) → is_done (cond t (read_as (Err refusal.NoEdition) all_zero) (read_parts edition text (parts_in edition text))).answer
          ≡ (not t && (well_formed edition text && legal_text edition text))
      go true = refl
      go false = done-parts

  -- an accepted text gives the machine that it says
  pub done-machine : is_done (read_in edition text).answer ≡ true → (read_in edition text).machine ≡ machine_in edition text
  unfolding read_in
  done-machine = go (eqb edition 0)
    where
      go : (t : Bool) → is_done (cond t (read_as (Err refusal.NoEdition) all_zero) (read_parts edition text (parts_in edition text))).answer ≡ true
          → (cond t (read_as (Err refusal.NoEdition) all_zero) (read_parts edition text (parts_in edition text))).machine ≡ machine_in edition text
      go true e = absurd (false≢true e)
      go false e = rw e refl

-- "A text is accepted exactly if it is well formed and legal", and its edition is known
pub accepted-exactly : (text : List ℕ)
    → is_done (read_of text).answer
    ≡ (not (eqb (edition_of newest text) 0) && (well_formed (edition_of newest text) text && legal_text (edition_of newest text) text))
accepted-exactly text = done-exactly (edition_of newest text) text

-- an accepted text is well formed, and legal
module _ (text : List ℕ) (e : (read_of text).answer ≡ Ok tt) where
  abbrev edition : ℕ
  edition = edition_of newest text

  done : is_done (read_of text).answer ≡ true
  done = ap is_done e

  both : (well_formed edition text && legal_text edition text) ≡ true
  both = and_right (not (eqb edition 0)) (well_formed edition text && legal_text edition text) (sym (accepted-exactly text) ∙ done)

  pub accepted-machine : (read_of text).machine ≡ machine_in edition text
  accepted-machine = done-machine edition text done

  pub accepted-text : text ≡ text_of edition (parts_in edition text)
  unfolding well_formed
  accepted-text = same-equal text (text_of edition (parts_in edition text)) (and_left (well_formed edition text) (legal_text edition text) both)

  lawful : legal_text edition text ≡ true
  lawful = and_right (well_formed edition text) (legal_text edition text) both

  pub accepted-legal : legal (read_of text).machine ≡ true
  unfolding legal_text
  accepted-legal = rw accepted-machine (and_left (legal (machine_in edition text)) (values_agree (parts_in edition text).values) lawful)

  pub accepted-values : values_of (read_of text).machine ≡ (parts_in edition text).values
  unfolding legal_text values_agree
  accepted-values =
      rw accepted-machine
      (same-equal (values_of (machine_in edition text)) (parts_in edition text).values
      (and_right (legal (machine_in edition text)) (same_text (values_of (machine_in edition text)) (parts_in edition text).values) lawful))

-- ---- the round trips

-- an accepted text of any edition is what its machine prints in that edition: each record that the text has reads as it stands
pub reads-as-it-stands : (text : List ℕ) → (read_of text).answer ≡ Ok tt → text_of (edition_of newest text) (parts_of (read_of text).machine) ≡ text
reads-as-it-stands text e =
    let k = edition_of newest text in
    let p = parts_in k text in
    ap (λ (m : Machine). text_of k (parts (values_of (read_of text).machine) m.gpe0_sts m.gpe0_en m.gpe1_sts m.gpe1_en)) (accepted-machine text e)
    ∙ ap (λ (vs : List ℕ). text_of k (parts vs p.gpe0_sts p.gpe0_en p.gpe1_sts p.gpe1_en)) (accepted-values text e)
    ∙ sym (accepted-text text e)

-- "reading and writing back any accepted text of the newest edition gives the same text"
pub read-then-write : (text : List ℕ) → (read_of text).answer ≡ Ok tt → edition_of newest text ≡ newest → saved_text (read_of text).machine ≡ text
unfolding saved_text
read-then-write text e n = ap (λ (k : ℕ). text_of k (parts_of (read_of text).machine)) (sym n) ∙ reads-as-it-stands text e

-- the first line that is written names the newest edition
pub newest-named : (m : Machine) → edition_of newest (saved_text m) ≡ newest
unfolding saved_text ascii digits digit_count count_within glyph edition_up_to same_text first_at
newest-named m = refl

newest-read : (text : List ℕ) → read_in newest text ≡ read_parts newest text (parts_in newest text)
unfolding read_in
newest-read text = refl

legal-judged : (m : Machine) → legal m ≡ true → legality_of m ≡ Ok tt
unfolding legal
legal-judged m e = go (legality_of m) (sym (listed-exactly m) ∙ and_left (listed m) (fits_types m) e)
  where
    go : (x : Result ⊤ Clause) → is_legal x ≡ true → x ≡ Ok tt
    go (Ok _) h = refl
    go (Err c) h = absurd (false≢true h)

written_same : (m : Machine) → same_text (saved_text m) (text_of newest (parts_of m)) ≡ true
unfolding saved_text
written_same m = same_self (text_of newest (parts_of m))

-- a text that is as it was printed, of a legal machine with its own values
all-well : (text printed vs : List ℕ) (m n : Machine) → same_text text printed ≡ true → n ≡ m → legality_of m ≡ Ok tt → same_text (values_of m) vs ≡ true
    → read_as (first_refusal (text_answer text printed) (legal_answer n vs)) n ≡ record { answer = Ok tt; machine = m }
all-well text printed vs m n same e lawful own = rw (e, same, lawful, own) refl

-- "Writing and reading back gives the same machine for every legal one"
pub write-then-read : (m : Machine) → legal m ≡ true → read_of (saved_text m) ≡ record { answer = Ok tt; machine = m }
write-then-read m e =
    ap (λ (k : ℕ). read_in k (saved_text m)) (newest-named m)
    ∙ newest-read (saved_text m)
    ∙ ap (read_parts newest (saved_text m)) (parts-back m e)
    ∙ all-well (saved_text m) (text_of newest (parts_of m)) (values_of m) m (machine_of (parts_of m)) (written_same m) (machine-back m e) (legal-judged m e) (same_self (values_of m))

-- "an older text reads with the added record at its power-on setting": one of the first edition, with the wake pin inactive
first-edition-inactive : (text : List ℕ) → (machine_in 1 text).wake_pin ≡ false
unfolding rows
first-edition-inactive text = ap (λ (v : ℕ). eqb (v % 2) 1) (added-reads 1 42 (drop (records_at 1) text) no_row (lit< tt) refl)

pub older-reads-inactive : (text : List ℕ) → (read_of text).answer ≡ Ok tt → edition_of newest text ≡ 1 → (read_of text).machine.wake_pin ≡ false
older-reads-inactive text e n =
    ap (λ (m : Machine). m.wake_pin) (accepted-machine text e ∙ ap (λ (k : ℕ). machine_in k text) n) ∙ first-edition-inactive text

-- "written again it is a text of the newest edition", and of the same machine
pub written-again : FromRead (λ m. (edition_of newest (saved_text m) ≡ newest) × (read_of (saved_text m) ≡ record { answer = Ok tt; machine = m }))
written-again text e = (newest-named (read_of text).machine, write-then-read (read_of text).machine (accepted-legal text e))

-- no two legal machines have one text
pub one-text-each : (m n : Machine) → legal m ≡ true → legal n ≡ true → saved_text m ≡ saved_text n → m ≡ n
one-text-each m n e f same =
    sym (ap (λ (r : ReadBack). r.machine) (write-then-read m e))
    ∙ ap (λ (text : List ℕ). (read_of text).machine) same
    ∙ ap (λ (r : ReadBack). r.machine) (write-then-read n f)

-- ---- from a machine read back

-- "all that accepted .. reading and any steps then give are legal", and every machine on the way
pub read-legal-after : FromRead (λ m. (steps : List Step) → legal (after_all after m steps) ≡ true)
read-legal-after text e steps = legal-after (read_of text).machine steps (accepted-legal text e)

pub read-all-legal : FromRead (λ m. (steps : List Step) → Throughout after (λ k. legal k ≡ true) m steps)
read-all-legal text e steps = all-legal (read_of text).machine steps (accepted-legal text e)

-- "Demand 3 holds from a machine read back too"
pub demand-3-read-back : FromRead (MovesFrom step_of)
demand-3-read-back text e = demand-3-from-legal (read_of text).machine (accepted-legal text e)

-- and the write-back after any steps from it
pub write-back-read-back : FromRead (λ m. (steps : List Step) → WritesBackFrom step_of (after_all after m steps))
write-back-read-back text e steps = write-back-from-legal (read_of text).machine (accepted-legal text e) steps

-- no sleep with a bit pending, and all answers and lines the walk's, after any steps from it
pub wakes-at-once-read-back : FromRead (λ m. (steps : List Step) → WakesAtOnceFrom step_of (after_all after m steps))
wakes-at-once-read-back text e steps = wakes-at-once-from-legal (read_of text).machine (accepted-legal text e) steps

pub by-walk-read-back : FromRead (λ m. (steps : List Step) → ByWalkFrom step_of (after_all after m steps))
by-walk-read-back text e steps = by-walk-from-legal (read_of text).machine (accepted-legal text e) steps
