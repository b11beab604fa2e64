-- A list of steps and split accesses, fit and awake, runs to the same end with the same answers when the halves are moved together.
-- A step passes the next one by the swap law, hence a list; so each gap is sorted and leaves its halves side by side.
-- Assumes nothing.
use mathlib.Core.Path.{◌≡◌, refl, sym, subst}
use mathlib.Core.Bool.{Bool, true, false, not}
use mathlib.Core.List.{List, [], ◌∷◌, ◌++◌, map, append-nil}
use Rattle.runs.specs.Items.{Item, one, control, event, keep_if, passing, failing, original, moved, step_in, steps_of, Every, Run, after, Throughout, Awake}
use Rattle.runs.proofs.Runs.{Commute, run-exchange, run-change-rest}
use Rattle.runs.proofs.Fit.{Sortable, Fit, every-passing, every-failing}

module _ {S X A : Type 0} (ans : S → X → A) (next : S → X → S) (Ok : S → Type 0) (before : X → Bool) where
  -- the steps that go before, and those that stay
  abbrev moved_before : List (X × A) → List (X × A)
  moved_before l = passing (λ p. before (step_in p)) l

  abbrev moved-after : List (X × A) → List (X × A)
  moved-after l = failing (λ p. before (step_in p)) l

  -- l and then the rest run from s to t, awake until the rest begins
  abbrev AwakeRun : List (X × A) → S → S → List (X × A) → Type 0
  AwakeRun rest t s l = Throughout next Ok s (map step_in l) × Run ans next s (l ++ rest) t

  awake-at-start : (s : S) (l : List X) → Throughout next Ok s l → Ok s
  unfolding Throughout
  awake-at-start s [] o = o
  awake-at-start s (x ∷ l) o = o.0

  module _
      (Free FreeLast : X → X → Type 0)
      (swap : (s : S) (x y : X) → Free x y → Ok s → Ok (next s x) → Ok (next (next s x) y) → Commute ans next s x y × Ok (next s y))
      (swap-last : (s : S) (x y : X) → FreeLast x y → Ok s → Ok (next s x) → Commute ans next s x y)
    where
      module _ (rest : List (X × A)) (t : S) where
        under-a-step : (x : X × A) (l k : List (X × A))
            → ((s : S) → AwakeRun rest t s l → AwakeRun rest t s k)
            → (s : S)
            → AwakeRun rest t s (x ∷ l)
            → AwakeRun rest t s (x ∷ k)
        unfolding Throughout Run
        under-a-step x l k f s r =
            let r' = f (next s (step_in x)) (r.0.1, r.1.1) in
            ((r.0.0, r'.0), (r.1.0, r'.1))

        step-passes-step : (x y : X × A) (l : List (X × A))
            → Free (step_in x) (step_in y)
            → (s : S)
            → AwakeRun rest t s (x ∷ y ∷ l)
            → AwakeRun rest t s (y ∷ x ∷ l)
        unfolding Throughout Run
        step-passes-step x y l free s r =
            let o = r.0.1.1 in
            let c = swap s (step_in x) (step_in y) free r.0.0 r.0.1.0 (awake-at-start (next (next s (step_in x)) (step_in y)) (map step_in l) o) in
            ((r.0.0, (c.1, rw c.0.2 at o)), run-exchange ans next s x y (l ++ rest) t c.0 r.1)

        step-passes-list : (x : X × A) (l k : List (X × A))
            → Every (Free (step_in x)) (map step_in l)
            → (s : S)
            → AwakeRun rest t s (x ∷ (l ++ k))
            → AwakeRun rest t s (l ++ (x ∷ k))
        unfolding Every
        step-passes-list x [] k f s r = r
        step-passes-list x (y ∷ l) k f s r =
            under-a-step y (x ∷ (l ++ k)) (l ++ (x ∷ k)) (step-passes-list x l k f.1) s (step-passes-step x y (l ++ k) f.0 s r)

        -- a step in front of a sorted list goes to its side
        step-placed : (b : Bool) (g : X × A) (l k : List (X × A))
            → (b ≡ false → Every (Free (step_in g)) (map step_in l))
            → (s : S)
            → AwakeRun rest t s (g ∷ (l ++ k))
            → AwakeRun rest t s (keep_if b g l ++ keep_if (not b) g k)
        step-placed true g l k f s r = r
        step-placed false g l k f s r = step-passes-list g l k (f refl) s r

        gap-sorted : (l : List (X × A)) → Sortable before Free (map step_in l) → (s : S) → AwakeRun rest t s l → AwakeRun rest t s (moved_before l ++ moved-after l)
        unfolding Sortable passing failing
        gap-sorted [] f s r = r
        gap-sorted (g ∷ l) f s r =
            let r' = under-a-step g l (moved_before l ++ moved-after l) (gap-sorted l f.1) s r in
            step-placed (before (step_in g)) g (moved_before l) (moved-after l) (λ e. every-passing before (Free (step_in g)) l (f.0 e)) s r'

      module _ (h h' : X × A) (rest : List (X × A)) (t : S) where
        second-half-passes : (l : List (X × A))
            → Every (λ g. FreeLast g (step_in h')) (map step_in l)
            → (s : S)
            → AwakeRun (h' ∷ rest) t s l
            → Run ans next s (h' ∷ (l ++ rest)) t
        unfolding Every Throughout Run
        second-half-passes [] f s r = r.1
        second-half-passes (g ∷ l) f s r =
            let u = next s (step_in g) in
            let c = swap-last s (step_in g) (step_in h') f.0 r.0.0 (awake-at-start u (map step_in l) r.0.1) in
            run-exchange ans next s g h' (l ++ rest) t c (r.1.0, second-half-passes l f.1 u (r.0.1, r.1.1))

        halves-meet : (b a : List (X × A))
            → Every (λ g. FreeLast g (step_in h')) (map step_in a)
            → (s : S)
            → AwakeRun (h' ∷ rest) t s (b ++ (h ∷ a))
            → Run ans next s (b ++ (h ∷ h' ∷ (a ++ rest))) t
        unfolding Throughout Run
        halves-meet [] a f s r = (r.1.0, second-half-passes a f (next s (step_in h)) (r.0.1, r.1.1))
        halves-meet (x ∷ b) a f s r = (r.1.0, halves-meet b a f (next s (step_in x)) (r.0.1, r.1.1))

        control-moved : (gap : List (X × A))
            → Fit before Free FreeLast (control (step_in h) (map step_in gap) (step_in h'))
            → (s : S)
            → AwakeRun (h' ∷ rest) t s (h ∷ gap)
            → Run ans next s (gap ++ (h ∷ h' ∷ rest)) t
        unfolding Fit Every
        control-moved gap f s r =
            let r' = subst (λ g. AwakeRun (h' ∷ rest) t s (h ∷ g)) (sym (append-nil gap)) r in
            halves-meet gap [] tt s (step-passes-list (h' ∷ rest) t h gap [] f s r')

        event-moved : (gap : List (X × A))
            → Fit before Free FreeLast (event (step_in h) (map step_in gap) (step_in h'))
            → (s : S)
            → AwakeRun (h' ∷ rest) t s (h ∷ gap)
            → Run ans next s (moved_before gap ++ (h ∷ h' ∷ (moved-after gap ++ rest))) t
        unfolding Fit
        event-moved gap f s r =
            let r' = under-a-step (h' ∷ rest) t h gap (moved_before gap ++ moved-after gap) (gap-sorted (h' ∷ rest) t gap f.2) s r in
            let pass = every-passing before (Free (step_in h)) gap f.0 in
            let last = every-failing before (λ g. FreeLast g (step_in h')) gap f.1 in
            halves-meet (moved_before gap) (moved-after gap) last s (step-passes-list (h' ∷ rest) t h (moved_before gap) (moved-after gap) pass s r')

      pub moved-runs : (items : List (Item (X × A))) (s t : S)
          → Every (Fit before Free FreeLast) (steps_of items)
          → Awake next Ok s (steps_of items)
          → Run ans next s (original items) t
          → Run ans next s (moved (λ p. before (step_in p)) items) t
      unfolding Every steps_of original moved Awake Run after
      moved-runs [] s t f o run = run
      moved-runs (one x ∷ l) s t f o run = (run.0, moved-runs l (next s (step_in x)) t f.1 o run.1)
      moved-runs (control h gap h' ∷ l) s t f o run =
          let l' = moved (λ p. before (step_in p)) l in
          let ih = moved-runs l (next (after next s (step_in h ∷ map step_in gap)) (step_in h')) t f.1 o.1 in
          control-moved h h' l' t gap f.0 s (o.0, run-change-rest ans next s (h ∷ gap) h' (original l) l' t ih run)
      moved-runs (event h gap h' ∷ l) s t f o run =
          let l' = moved (λ p. before (step_in p)) l in
          let ih = moved-runs l (next (after next s (step_in h ∷ map step_in gap)) (step_in h')) t f.1 o.1 in
          event-moved h h' l' t gap f.0 s (o.0, run-change-rest ans next s (h ∷ gap) h' (original l) l' t ih run)
