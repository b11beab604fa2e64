-- Items whose steps may pass each other wherever `moved` has them do so, and how that follows from what is known of each gap step.
-- By recursion on the gap.
-- Assumes nothing.
use mathlib.Core.Path.{◌≡◌, refl}
use mathlib.Core.Bool.{Bool, true, false, not}
use mathlib.Core.List.{List, [], ◌∷◌, map}
use Rattle.runs.specs.Items.{Item, one, control, event, keep_if, passing, failing, step_in, Every}

-- a step that stays may be passed by each later one that goes before
unfoldable pub Sortable : {X : Type 0} → (X → Bool) → (X → X → Type 0) → List X → Type 0
Sortable before Free [] = Unit {0}
Sortable before Free (g ∷ l) = (before g ≡ false → Every (λ b. before b ≡ true → Free g b) l) × Sortable before Free l

-- the first half may be passed by each step that goes before, and the second half may pass each that stays
unfoldable pub Fit : {X : Type 0} → (X → Bool) → (X → X → Type 0) → (X → X → Type 0) → Item X → Type 0
Fit before Free FreeLast (one x) = Unit {0}
Fit before Free FreeLast (control h gap h') = Every (Free h) gap
Fit before Free FreeLast (event h gap h') =
    Every (λ g. before g ≡ true → Free h g) gap × Every (λ g. before g ≡ false → FreeLast g h') gap × Sortable before Free gap

pub every-imp : {Y : Type 0} (P Q : Y → Type 0) → ((x : Y) → P x → Q x) → (l : List Y) → Every P l → Every Q l
unfolding Every
every-imp P Q f [] e = tt
every-imp P Q f (x ∷ l) e = (f x e.0, every-imp P Q f l e.1)

-- a gap is sortable if what is known of each of its steps lets any that stays be passed by any that goes before
pub sortable-by : {X : Type 0} (before : X → Bool) (Free : X → X → Type 0) (P : X → Type 0)
    → ((g b : X) → P g → P b → before g ≡ false → before b ≡ true → Free g b)
    → (l : List X)
    → Every P l
    → Sortable before Free l
unfolding Every Sortable
sortable-by before Free P f [] e = tt
sortable-by before Free P f (g ∷ l) e =
    (λ h. every-imp P (λ b. before b ≡ true → Free g b) (λ b p k. f g b e.0 p h k) l e.1, sortable-by before Free P f l e.1)

not-true : (b : Bool) → not b ≡ true → b ≡ false
not-true true e = cc
not-true false e = refl

module _ {X A : Type 0} (before : X → Bool) (P : X → Type 0) where
  every-kept : (b : Bool) (x : X × A) (l : List (X × A)) → (b ≡ true → P (step_in x)) → Every P (map step_in l) → Every P (map step_in (keep_if b x l))
  unfolding Every
  every-kept true x l f e = (f refl, e)
  every-kept false x l f e = e

  pub every-passing : (l : List (X × A))
      → Every (λ x. before x ≡ true → P x) (map step_in l)
      → Every P (map step_in (passing (λ p. before (step_in p)) l))
  unfolding Every passing
  every-passing [] e = tt
  every-passing (x ∷ l) e = every-kept (before (step_in x)) x (passing (λ p. before (step_in p)) l) e.0 (every-passing l e.1)

  pub every-failing : (l : List (X × A))
      → Every (λ x. before x ≡ false → P x) (map step_in l)
      → Every P (map step_in (failing (λ p. before (step_in p)) l))
  unfolding Every failing
  every-failing [] e = tt
  every-failing (x ∷ l) e =
      every-kept (not (before (step_in x))) x (failing (λ p. before (step_in p)) l) (λ n. e.0 (not-true _ n)) (every-failing l e.1)
