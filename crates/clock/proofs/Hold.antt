-- Hold and the override: hold grows by one a tick up to its limit, and the override comes in the tick that takes it there.
-- Assumes nothing.
use Prim.Native.Nat.{ℕ, ◌+◌, ◌-◌, ◌≤◌, ◌<◌, min}
use mathlib.Core.Path.{◌≡◌, refl}
use mathlib.Core.Bool.{Bool, true, false, cond, ◌&&◌, and-eq-true_iff, false≢true}
use native.Mathlib.Nat.{add_assoc}
use native.Mathlib.Omega.{arith}
use borrow.Author.Tests.{ltb-true, ltb-false, leb-true, leb-false, lt-ltb, le-leb, lt-leb, eq-eqb, ne_eqb}
use lib.Dec.{eqb, ltb, leb}
use Rattle.clock.specs.Clock.{hold_limit, grow, overrides}
use Rattle.clock.specs.AtOnce.{off_within, ran_of, hold_after}

-- ---- hold

hold-test-none : (down : Bool) (h : ℕ) (b : Bool) → ltb h hold_limit ≡ b → cond (down && b) (min hold_limit (h + 0)) h ≡ h
hold-test-none true h true e = omega (arith, ltb-true h hold_limit e)
hold-test-none true h false e = refl
hold-test-none false h b e = refl

pub hold-none : (down : Bool) (h : ℕ) → hold_after down h 0 ≡ h
unfolding hold_after
hold-none down h = hold-test-none down h (ltb h hold_limit) refl

grow-min : (x : ℕ) (b : Bool) → ltb (min hold_limit x) hold_limit ≡ b → cond b (min hold_limit x + 1) (min hold_limit x) ≡ min hold_limit (x + 1)
grow-min x true e = omega (arith, ltb-true (min hold_limit x) hold_limit e)
grow-min x false e = omega (arith, ltb-false (min hold_limit x) hold_limit e)

grow-next : (h n : ℕ) (b : Bool) → ltb h hold_limit ≡ b → grow (cond b (min hold_limit (h + n)) h) ≡ cond b (min hold_limit (h + (n + 1))) h
unfolding grow
grow-next h n true e = rw (← add_assoc) (grow-min (h + n) _ refl)
grow-next h n false e = rw e

pub hold-next : (down : Bool) (h n : ℕ) → cond down (grow (hold_after down h n)) (hold_after down h n) ≡ hold_after down h (n + 1)
unfolding hold_after
hold-next true h n = grow-next h n (ltb h hold_limit) refl
hold-next false h n = refl

-- ---- the override

-- where it comes, hold is below its limit and the ticks take it there
pub overridden-reaches : (down fitted : Bool) (h n : ℕ) → off_within down fitted h n ≡ true → (h < hold_limit) × (hold_limit ≤ h + n)
unfolding off_within
overridden-reaches true true h n e =
    let p : (ltb h hold_limit ≡ true) × (leb hold_limit (h + n) ≡ true) = (and-eq-true_iff (ltb h hold_limit) (leb hold_limit (h + n))).0 e in
    (ltb-true h hold_limit p.0, leb-true hold_limit (h + n) p.1)
overridden-reaches true false h n e = absurd (false≢true e)
overridden-reaches false fitted h n e = absurd (false≢true e)

overridden-test-none : (down fitted : Bool) (h : ℕ) (b : Bool) → ltb h hold_limit ≡ b → (down && fitted && b && leb hold_limit (h + 0)) ≡ false
overridden-test-none true true h true e = lt-leb hold_limit (h + 0) (omega (arith, ltb-true h hold_limit e))
overridden-test-none true true h false e = refl
overridden-test-none true false h b e = refl
overridden-test-none false fitted h b e = refl

pub overridden-none : (down fitted : Bool) (h : ℕ) → off_within down fitted h 0 ≡ false
unfolding off_within
overridden-none down fitted h = overridden-test-none down fitted h (ltb h hold_limit) refl

-- what has come stays
pub overridden-next : (down fitted : Bool) (h n : ℕ) → off_within down fitted h n ≡ true → off_within down fitted h (n + 1) ≡ true
unfolding off_within
overridden-next true true h n e =
    let p : (h < hold_limit) × (hold_limit ≤ h + n) = overridden-reaches true true h n e in
    rw (lt-ltb h hold_limit p.0) (le-leb hold_limit (h + (n + 1)) (omega arith))
overridden-next true false h n e = e
overridden-next false fitted h n e = e

overrides-test-next : (h n : ℕ) (b d : Bool) → ltb h hold_limit ≡ b → leb hold_limit (h + (n + 1)) ≡ d → (b && leb hold_limit (h + n)) ≡ false
    → eqb (cond b (min hold_limit (h + n)) h + 1) hold_limit ≡ (b && d)
overrides-test-next h n true true e f o =
    eq-eqb (min hold_limit (h + n) + 1) hold_limit (omega (arith, leb-false hold_limit (h + n) o, leb-true hold_limit (h + (n + 1)) f))
overrides-test-next h n true false e f o =
    ne_eqb (min hold_limit (h + n) + 1) hold_limit (λ z. omega (arith, leb-false hold_limit (h + (n + 1)) f))
overrides-test-next h n false d e f o = ne_eqb (h + 1) hold_limit (λ z. omega (arith, ltb-false h hold_limit e))

-- where it has not come, the next tick brings it exactly if hold is one below its limit
pub overrides-next : (down fitted : Bool) (h n : ℕ) → off_within down fitted h n ≡ false
    → overrides down fitted (hold_after down h n) ≡ off_within down fitted h (n + 1)
unfolding off_within overrides hold_after
overrides-next true true h n o = overrides-test-next h n (ltb h hold_limit) (leb hold_limit (h + (n + 1))) refl refl o
overrides-next true false h n o = refl
overrides-next false fitted h n o = refl

-- ---- the ticks that run

pub ran-none : (down fitted : Bool) (h : ℕ) → ran_of down fitted h 0 ≡ 0
unfolding ran_of
ran-none down fitted h = rw (overridden-none down fitted h)

ran-test-at-most : (down fitted : Bool) (h n : ℕ) (b : Bool) → off_within down fitted h n ≡ b → cond b (hold_limit - h) n ≤ n
ran-test-at-most down fitted h n true e = omega (arith, overridden-reaches down fitted h n e)
ran-test-at-most down fitted h n false e = omega arith

pub ran-at-most : (down fitted : Bool) (h n : ℕ) → ran_of down fitted h n ≤ n
unfolding ran_of
ran-at-most down fitted h n = ran-test-at-most down fitted h n _ refl

-- the tick that brings the override is the last that runs
reached-next : (down fitted : Bool) (h n : ℕ) → off_within down fitted h n ≡ false → off_within down fitted h (n + 1) ≡ true → hold_limit - h ≡ n + 1
unfolding off_within
reached-next true true h n o e =
    let p : (h < hold_limit) × (hold_limit ≤ h + (n + 1)) = overridden-reaches true true h (n + 1) e in
    omega (arith, leb-false hold_limit (h + n) (rw (lt-ltb h hold_limit p.0) at o))
reached-next true false h n o e = cc
reached-next false fitted h n o e = cc

pub ran-next : (down fitted : Bool) (h n : ℕ) (d : Bool) → off_within down fitted h n ≡ false → off_within down fitted h (n + 1) ≡ d
    → cond d (hold_limit - h) (n + 1) ≡ n + 1
ran-next down fitted h n true o e = reached-next down fitted h n o e
ran-next down fitted h n false o e = refl
