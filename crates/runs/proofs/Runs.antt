-- The layouts and runs of two lists joined, what lists of steps keep, and a run with two steps exchanged. By recursion on the first list.
-- Assumes nothing.
use mathlib.Core.Path.{◌≡◌, refl, ap}
use mathlib.Core.Bool.{Bool}
use mathlib.Core.List.{List, [], ◌∷◌, ◌++◌, map, append_assoc}
use Rattle.runs.specs.Items.{Item, one, control, event, original, moved, step_in, after, Run}

pub original-append : {Y : Type 0} (l k : List (Item Y)) → original (l ++ k) ≡ original l ++ original k
unfolding original
original-append [] k = refl
original-append (one x ∷ l) k = ap (λ r. x ∷ r) (original-append l k)
original-append (control h gap h' ∷ l) k = simp (original-append l k, append_assoc)
original-append (event h gap h' ∷ l) k = simp (original-append l k, append_assoc)

pub moved-append : {Y : Type 0} (home_b : Y → Bool) (l k : List (Item Y)) → moved home_b (l ++ k) ≡ moved home_b l ++ moved home_b k
unfolding moved
moved-append home_b [] k = refl
moved-append home_b (one x ∷ l) k = ap (λ r. x ∷ r) (moved-append home_b l k)
moved-append home_b (control h gap h' ∷ l) k = simp (moved-append home_b l k, append_assoc)
moved-append home_b (event h gap h' ∷ l) k = simp (moved-append home_b l k, append_assoc)

-- what each step keeps, a list of steps keeps
pub kept-after : {S X : Type 0} (next : S → X → S) (P : S → Type 0) → ((s : S) (x : X) → P s → P (next s x)) → (s : S) (l : List X) → P s → P (after next s l)
unfolding after
kept-after next P keeps s [] p = p
kept-after next P keeps s (x ∷ l) p = kept-after next P keeps (next s x) l (keeps s x p)

-- x then y, or y then x: the same answers and the same end
abbrev pub Commute : {S X A : Type 0} → (S → X → A) → (S → X → S) → S → X → X → Type 0
Commute ans next s x y = (ans s x ≡ ans (next s y) x) × (ans (next s x) y ≡ ans s y) × (next (next s x) y ≡ next (next s y) x)

module _ {S X A : Type 0} (ans : S → X → A) (next : S → X → S) where
  -- a run of l and then r is one of l, to the state after l, and one of r
  pub run-split : (s : S) (l r : List (X × A)) (t : S)
      → Run ans next s (l ++ r) t
      → Run ans next s l (after next s (map step_in l)) × Run ans next (after next s (map step_in l)) r t
  unfolding Run after
  run-split s [] r t run = (refl, run)
  run-split s (x ∷ l) r t run =
      let both = run-split (next s (step_in x)) l r t run.1 in
      ((run.0, both.0), both.1)

  pub run_join : (s : S) (l r : List (X × A)) (u t : S) → Run ans next s l u → Run ans next u r t → Run ans next s (l ++ r) t
  unfolding Run
  run_join s [] r u t e run = rw e run
  run_join s (x ∷ l) r u t h run = (h.0, run_join (next s (step_in x)) l r u t h.1 run)

  pub run-exchange : (s : S) (x y : X × A) (l : List (X × A)) (t : S)
      → Commute ans next s (step_in x) (step_in y)
      → Run ans next s (x ∷ y ∷ l) t
      → Run ans next s (y ∷ x ∷ l) t
  unfolding Run
  run-exchange s x y l t c run =
      let e = run.0 in
      let f = run.1.0 in
      (cc, (cc, rw c.2 at run.1.1))

  -- what follows l and x is changed for what runs as well from there
  pub run-change-rest : (s : S) (l : List (X × A)) (x : X × A) (r k : List (X × A)) (t : S)
      → (Run ans next (next (after next s (map step_in l)) (step_in x)) r t → Run ans next (next (after next s (map step_in l)) (step_in x)) k t)
      → Run ans next s (l ++ (x ∷ r)) t
      → Run ans next s (l ++ (x ∷ k)) t
  unfolding Run
  run-change-rest s l x r k t f run =
      let both = run-split s l (x ∷ r) t run in
      run_join s l (x ∷ k) (after next s (map step_in l)) t both.0 (both.1.0, f both.1.1)
