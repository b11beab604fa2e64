-- A small machine, two sums that can be read, on which a list and its moved list run alike, and one that is not awake where they do not.
-- While the machine is on, what is done to one sum commutes with what is done to the other.
-- Assumes nothing.
use mathlib.Core.Path.{◌≡◌, refl, ap}
use mathlib.Core.Bool.{Bool, true, false, true≢false, false≢true}
use mathlib.Core.List.{List, [], ◌∷◌, map}
use Prim.Native.Nat.{ℕ, ◌+◌}
use native.Mathlib.Omega.{arith}
use Rattle.runs.specs.Items.{Item, one, control, event, passing, failing, original, moved, step_in, steps_of, Every, Run, after, Throughout, Awake}
use Rattle.runs.proofs.Runs.{Commute}
use Rattle.runs.proofs.Fit.{Fit, every-imp, sortable-by}
use Rattle.runs.proofs.Moved.{moved-runs}

data Sums : Type 0 where
  on : ℕ → ℕ → Sums
  off : Sums

data Move : Type 0 where
  add_left add_right : ℕ → Move
  read_left read_right stop : Move

abbrev ans : Sums → Move → ℕ
ans (on a b) (add_left n) = 0
ans (on a b) (add_right n) = 0
ans (on a b) read_left = a
ans (on a b) read_right = b
ans (on a b) stop = 0
ans off x = 0

-- adding on the right turns the machine on
abbrev next : Sums → Move → Sums
next (on a b) (add_left n) = on (a + n) b
next (on a b) (add_right n) = on a (b + n)
next (on a b) read_left = on a b
next (on a b) read_right = on a b
next (on a b) stop = off
next off (add_left n) = off
next off (add_right n) = on 0 n
next off read_left = off
next off read_right = off
next off stop = off

abbrev On : Sums → Type 0
On (on a b) = Unit {0}
On off = ⊥

abbrev on_right : Move → Bool
on_right (add_left n) = false
on_right (add_right n) = true
on_right read_left = false
on_right read_right = false
on_right stop = false

-- the first is done on the left, the second on the right
data Apart : Move → Move → Type 0 where
  read-add : {n : ℕ} → Apart read_left (add_right n)
  add-add : {m n : ℕ} → Apart (add_left m) (add_right n)
  add_read : {m : ℕ} → Apart (add_left m) read_right

apart-commute : (s : Sums) (x y : Move) → Apart x y → On s → Commute ans next s x y × On (next s y)
apart-commute (on a b) x y read-add o = ((refl, refl, refl), tt)
apart-commute (on a b) x y add-add o = ((refl, refl, refl), tt)
apart-commute (on a b) x y add_read o = ((refl, refl, refl), tt)
apart-commute off x y f o = absurd o

data Adds : Move → Type 0 where
  left : {n : ℕ} → Adds (add_left n)
  right : {n : ℕ} → Adds (add_right n)

right-passes-read : (g : Move) → Adds g → on_right g ≡ true → Apart read_left g
right-passes-read g left e = absurd (false≢true e)
right-passes-read g right e = read-add

read-passes-left : (g : Move) → Adds g → on_right g ≡ false → Apart g read_right
read-passes-left g left e = add_read
read-passes-left g right e = absurd (true≢false e)

right-passes-left : (g b : Move) → Adds g → Adds b → on_right g ≡ false → on_right b ≡ true → Apart g b
right-passes-left g b left left e f = absurd (false≢true f)
right-passes-left g b left right e f = add-add
right-passes-left g b right k e f = absurd (true≢false e)

reads_fit : (gap : List Move) → Every Adds gap → Fit on_right Apart Apart (event read_left gap read_right)
unfolding Fit
reads_fit gap k = (
  every-imp Adds (λ g. on_right g ≡ true → Apart read_left g) right-passes-read gap k,
  every-imp Adds (λ g. on_right g ≡ false → Apart g read_right) read-passes-left gap k,
  sortable-by on_right Apart Adds right-passes-left gap k,
)

abbrev items : List (Item (Move × ℕ))
items =
    one (add_left 1, 0)
    ∷ event (read_left, 1) ((add_left 5, 0) ∷ (add_right 7, 0) ∷ (add_left 2, 0) ∷ []) (read_right, 7)
    ∷ control (read_left, 8) ((add_right 3, 0) ∷ []) (read_right, 10)
    ∷ one (stop, 0)
    ∷ one (read_left, 0)
    ∷ []

items-fit : Every (Fit on_right Apart Apart) (steps_of items)
unfolding Every steps_of Fit
items-fit = (tt, (reads_fit (add_left 5 ∷ add_right 7 ∷ add_left 2 ∷ []) (left, (right, (left, tt))), ((read-add, tt), (tt, (tt, tt)))))

items-awake : Awake next On (on 0 0) (steps_of items)
unfolding Awake Throughout after steps_of
items-awake = ((tt, (tt, (tt, (tt, tt)))), ((tt, (tt, tt)), tt))

items-run : Run ans next (on 0 0) (original items) off
unfolding Run original
items-run = (refl, (refl, (refl, (refl, (refl, (refl, (refl, (refl, (refl, (refl, (refl, refl)))))))))))

-- the same steps and answers in another order
abbrev other_order : List (Move × ℕ)
other_order =
    (add_left 1, 0)
    ∷ (add_right 7, 0)
    ∷ (read_left, 1)
    ∷ (read_right, 7)
    ∷ (add_left 5, 0)
    ∷ (add_left 2, 0)
    ∷ (add_right 3, 0)
    ∷ (read_left, 8)
    ∷ (read_right, 10)
    ∷ (stop, 0)
    ∷ (read_left, 0)
    ∷ []

order-differs : original items ≡ other_order → ⊥
unfolding original
order-differs e =
    let f = ap (map step_in) e in
    let z : ◌≡◌ {A = ℕ} 0 1 = cc in
    omega arith

other-order-runs : Run ans next (on 0 0) other_order off
unfolding moved passing failing
other-order-runs =
    let runs = moved-runs ans next On on_right Apart Apart (λ s x y f o p q. apart-commute s x y f o) (λ s x y f o p. (apart-commute s x y f o).0) in
    runs items (on 0 0) off items-fit items-awake items-run

-- off at the first half: the moved list ends elsewhere
abbrev asleep : List (Item (Move × ℕ))
asleep = event (read_left, 0) ((add_left 5, 0) ∷ (add_right 7, 0) ∷ []) (read_right, 7) ∷ []

asleep-runs : Run ans next off (original asleep) (on 0 7)
unfolding Run original
asleep-runs = (refl, (refl, (refl, (refl, refl))))

moved-asleep-ends-elsewhere : Run ans next off (moved (λ p. on_right (step_in p)) asleep) (on 0 7) → ⊥
unfolding Run moved passing failing
moved-asleep-ends-elsewhere r =
    let e = r.1.1.1.1 in
    let z : ◌≡◌ {A = ℕ} 5 0 = cc in
    omega arith
