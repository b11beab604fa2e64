-- The write-back, from every machine with legal settings whose cells have their widths.
-- A step's status is what it does not clear and what it raises; gap steps of a machine that stays awake clear nothing, and a half writes back
-- ones only where the value read shows them. So a bit that is raised stays set. Assumes nothing.
use mathlib.Core.Bool.{Bool, true, false, cond, and-false}
use mathlib.Core.List.{List, [], ◌∷◌, ◌++◌}
use mathlib.Core.Logic.{◌⊎◌, inl, inr, ⊎_elim}
use mathlib.Core.Path.{◌≡◌, refl, ◌∙◌}
use Prim.Native.Nat.{ℕ, ◌*◌, ◌^◌, ◌≤◌, ◌<◌, max}
use native.Mathlib.Omega.{arith}
use lib.Dec.{lit<}
use lib.ListN.{length, get_or}
use Rattle.bits.specs.Digit.{digit}
use Rattle.bits.proofs.Writes.{digit-kept}
use Rattle.bits.proofs.Digits.{digit_and, digit_or, digit-le, digit-zero}
use Rattle.runs.proofs.Runs.{kept-after}
use Rattle.runs.specs.Items.{Every, Throughout, after as after_all}
use Rattle.platform.specs.Blocks.{present}
use Rattle.platform.specs.Legal.{Guaranteed, HasGpeLength, HasNone}
use Rattle.platform.specs.Rules.{event_count}
use Rattle.platform.specs.declared.block.Block.{Block}
use Rattle.platform.specs.declared.settings.Settings.{Settings}
use Rattle.registers.specs.Registers.{placed, status_in, ones_in, in_status, gpe_sts}
use Rattle.machine.specs.Lines.{awake}
use Rattle.machine.specs.PowerOn.{gpe_bytes, power_on}
use Rattle.machine.specs.SetUp.{set_up_of}
use Rattle.machine.specs.declared.Machine.{Machine}
use Rattle.machine.proofs.Accepted.{accepted-guaranteed, accepted-machine}
use Rattle.fadt.specs.Fields.{settings_of}
use Rattle.model.specs.Events.{StatusBit, pm1, event_bit, in_s5}
use Rattle.model.specs.EventKinds.{EventKind, event_kind}
use Rattle.model.specs.EventKinds as kind
use Rattle.model.specs.Raises.{Change, unchanged, bits_if, press_change, signal_change, pin_change, ticks_change, change_by, event_change, rule_change, write_change, raises, clears, gpe_event_change, gpe_ones, gpe_rule_change, gpe_raises, gpe_clears}
use Rattle.model.specs.Step.{answer_to, after, accepted, step_of, register_of, offset_of}
use Rattle.model.specs.declared.Access.{Access}
use Rattle.model.specs.declared.Event.{Event}
use Rattle.model.specs.declared.Register.TheVariants as register
use Rattle.model.specs.declared.Step.{Step}
use Rattle.model.specs.declared.Step.TheVariants as step
use Rattle.model.proofs.Raises.{status-law, clears-lt, status-stays-below, gpe-status-law-everywhere, gpe-status-stays-below, gpe-clears-lt, gpe_block, no_byte}
use Rattle.model.proofs.Sized.{Sized, sized-at, sized-kept}
use Rattle.model.proofs.Settings.{settings-kept}
use Rattle.split_access.specs.Start.{InS0}
use Rattle.split_access.specs.Gap.{lives_in_b}
use Rattle.split_access.specs.Claims.{access_at, GapStep, gap_step}
use Rattle.split_access.proofs.Effects.{effect_of, OnBy, On, event-on}
use Rattle.split_access.proofs.Homes.{home-digit}
use Rattle.split_access.proofs.Leads.{event-a, event-b, offset-a, offset-b}
use Rattle.split_access.proofs.Moves.{all-kept}
use Rattle.split_access.specs.WriteBack.{RaisedIn, Round, RoundOn, read_a, value_a, value_b, rest_of, Unshown, NothingLost, WritesBackFrom, WriteBack}

-- ---- machines with their widths

pub record Wide (m : Machine) : Type 0 where
  pub status : m.pm1_sts < 2 ^ 16
  pub bytes : (b : Bool) (i : ℕ) → get_or (gpe_sts m b) i 0 < 2 ^ 8
  pub sized : Sized m
  pub legal : Guaranteed m.settings

pub wide-kept : (m : Machine) (x : Step) → Wide m → Wide (after m x)
wide-kept m x w =
    record {
      status = status-stays-below m x w.status;
      bytes = λ b i. gpe-status-stays-below m x b i (w.bytes b i);
      sized = sized-kept m x w.sized;
      legal = rw (settings-kept m x) w.legal;
    }

pub wide-all : (m : Machine) (l : List Step) → Wide m → Wide (after_all after m l)
wide-all m l w = kept-after after Wide wide-kept m l w

-- ---- awake throughout two lists

throughout-left : (m : Machine) (l r : List Step) → Throughout after InS0 m (l ++ r) → Throughout after InS0 m l
unfolding Throughout
throughout-left m [] [] a = a
throughout-left m [] (x ∷ r) a = a.0
throughout-left m (x ∷ l) r a = (a.0, throughout-left (after m x) l r a.1)

throughout-right : (m : Machine) (l r : List Step) → Throughout after InS0 m (l ++ r) → Throughout after InS0 (after_all after m l) r
unfolding Throughout after_all
throughout-right m [] r a = a
throughout-right m (x ∷ l) r a = throughout-right (after m x) l r a.1

-- ---- a bit that is raised and not cleared

-- some digit of something: of the status, or of a general status byte
module _ (field : Machine → ℕ) (up : Machine → Step → ℕ) (down : Machine → Step → ℕ) (i : ℕ)
    (law : (m : Machine) (x : Step) → Wide m → digit i (down m x) ≡ 0 → digit i (field (after m x)) ≡ max (digit i (field m)) (digit i (up m x))) where
  -- no step of the list clears it
  Keeps : Machine → List Step → Type 0
  Keeps m [] = Unit {0}
  Keeps m (x ∷ l) = (digit i (down m x) ≡ 0) × Keeps (after m x) l

  set-stays : (m : Machine) (l : List Step) → Wide m → Keeps m l → digit i (field m) ≡ 1 → digit i (field (after_all after m l)) ≡ 1
  unfolding Keeps after_all
  set-stays m [] w k e = e
  set-stays m (x ∷ l) w k e = set-stays (after m x) l (wide-kept m x w) k.1 (omega (arith, law m x w k.0, digit-le i (up m x)))

  raised-stays : (m : Machine) (l : List Step) → Wide m → Keeps m l → RaisedIn after up i m l → digit i (field (after_all after m l)) ≡ 1
  unfolding Keeps after_all RaisedIn
  raised-stays m [] w k r = absurd r
  raised-stays m (x ∷ l) w k r =
      ⊎_elim (λ e. set-stays (after m x) l (wide-kept m x w) k.1 (omega (arith, law m x w k.0, digit-le i (field m))))
      (λ e. raised-stays (after m x) l (wide-kept m x w) k.1 e) r

  keeps-append : (m : Machine) (l r : List Step) → Keeps m l → Keeps (after_all after m l) r → Keeps m (l ++ r)
  unfolding Keeps after_all
  keeps-append m [] r k h = h
  keeps-append m (x ∷ l) r k h = (k.0, keeps-append (after m x) l r k.1 h)

  -- a gap, a half, and what follows, on machines with the same settings
  module _ (s : Settings) (gaps : (k : Machine) (l : List Step) → Every GapStep l → Throughout after InS0 k l → Keeps k l) where
    keeps_on : (k : Machine) (gap : List Step) (x : Step) (rest : List Step) → k.settings ≡ s → Every GapStep gap
        → Throughout after InS0 k (gap ++ (x ∷ rest))
        → ((n : Machine) → n.settings ≡ s → digit i (down n x) ≡ 0)
        → ((n : Machine) → n.settings ≡ s → Throughout after InS0 n rest → Keeps n rest)
        → Keeps k (gap ++ (x ∷ rest))
    unfolding Keeps Throughout
    keeps_on k gap x rest e steps awake half then =
        let m = after_all after k gap in
        let same : m.settings ≡ s = all-kept s k gap e in
        let later = throughout-right k gap (x ∷ rest) awake in
        keeps-append k gap (x ∷ rest) (gaps k gap steps (throughout-left k gap (x ∷ rest) awake))
        (half m same, then (after m x) (settings-kept m x ∙ same) later.1)

    -- the whole of a round after its first half
    keeps-round : (k : Machine) (g₁ g₂ g₃ g₄ : List Step) (x y z : Step) → k.settings ≡ s
        → Every GapStep g₁ → Every GapStep g₂ → Every GapStep g₃ → Every GapStep g₄
        → ((n : Machine) → n.settings ≡ s → digit i (down n x) ≡ 0)
        → ((n : Machine) → n.settings ≡ s → digit i (down n y) ≡ 0)
        → ((n : Machine) → n.settings ≡ s → digit i (down n z) ≡ 0)
        → Throughout after InS0 k (g₁ ++ (x ∷ (g₂ ++ (y ∷ (g₃ ++ (z ∷ g₄))))))
        → Keeps k (g₁ ++ (x ∷ (g₂ ++ (y ∷ (g₃ ++ (z ∷ g₄))))))
    keeps-round k g₁ g₂ g₃ g₄ x y z e s₁ s₂ s₃ s₄ hx hy hz awake =
        keeps_on k g₁ x (g₂ ++ (y ∷ (g₃ ++ (z ∷ g₄)))) e s₁ awake hx
        (λ n e₂ a₂. keeps_on n g₂ y (g₃ ++ (z ∷ g₄)) e₂ s₂ a₂ hy
        (λ p e₃ a₃. keeps_on p g₃ z g₄ e₃ s₃ a₃ hz (λ q e₄ a₄. gaps q g₄ s₄ a₄)))

-- ---- what the steps of a round clear

-- a change that clears nothing, if it is made at all
none-cleared : (t : Bool) (c : Change) → c.cleared ≡ 0 → (cond t c unchanged).cleared ≡ 0
none-cleared true c e = e
none-cleared false c e = refl

digit-none : (i x : ℕ) → x ≡ 0 → digit i x ≡ 0
digit-none i x e = rw (e, digit-zero)

not-in-s5 : (m : Machine) → m.state ≡ 0 → in_s5 m ≡ false
unfolding in_s5
not-in-s5 m z = rw z refl

-- a gap step of a machine that stays awake clears no PM1 bit
kind-change-none : (m : Machine) (bit : StatusBit) (k : EventKind) → m.state ≡ 0 → OnBy m bit k → (change_by m bit k).cleared ≡ 0
unfolding press_change signal_change pin_change ticks_change
kind-change-none m bit kind.press z on = rw (not-in-s5 m z) refl
kind-change-none m bit kind.release z on = refl
kind-change-none m bit kind.signal z on = refl
kind-change-none m bit (kind.pin active) z on = refl
kind-change-none m bit kind.notice z on = refl
kind-change-none m bit (kind.general k) z on = refl
kind-change-none m bit (kind.ticks n) z on = rw (on, and-false (awake m)) refl

event-change-none : (m : Machine) (e : Event) → m.state ≡ 0 → On m e → (event_change m e).cleared ≡ 0
unfolding effect_of event_change
event-change-none m e z on = kind-change-none m (event_bit e) (event_kind e) z on

-- a gap step of a machine that is awake clears no general bit
gpe-change-none : (m : Machine) (e : Event) (b : Bool) (i : ℕ) → m.state ≡ 0 → (gpe_event_change m e b i).cleared ≡ 0
unfolding gpe_event_change
gpe-change-none m e b i z = rw (not-in-s5 m z) refl

event-clears-none : (m : Machine) (e : Event) → m.state ≡ 0 → On m e → clears m (step.Event e) ≡ 0
unfolding clears rule_change
event-clears-none m e z on = none-cleared (accepted (answer_to m (step.Event e))) (event_change m e) (event-change-none m e z on)

gpe-event-clears-none : (m : Machine) (e : Event) (b : Bool) (i : ℕ) → m.state ≡ 0 → gpe_clears m (step.Event e) b i ≡ 0
unfolding gpe_clears gpe_rule_change
gpe-event-clears-none m e b i z = none-cleared (accepted (answer_to m (step.Event e))) (gpe_event_change m e b i) (gpe-change-none m e b i z)

read-clears-none : (m : Machine) (a : Access) → clears m (step.Read a) ≡ 0
unfolding clears rule_change
read-clears-none m a = none-cleared (accepted (answer_to m (step.Read a))) unchanged refl

gpe-read-clears-none : (m : Machine) (a : Access) (b : Bool) (i : ℕ) → gpe_clears m (step.Read a) b i ≡ 0
unfolding gpe_clears gpe_rule_change
gpe-read-clears-none m a b i = none-cleared (accepted (answer_to m (step.Read a))) unchanged refl

-- a write to an event register clears no general bit
gpe-write-clears-none : (m : Machine) (a : Access) (written : ℕ) (c b : Bool) (i : ℕ) → register_of m a ≡ register.Pm1Evt c → gpe_clears m (step.Write a written) b i ≡ 0
unfolding gpe_clears gpe_rule_change gpe_ones
gpe-write-clears-none m a written c b i r = none-cleared (accepted (answer_to m (step.Write a written))) _ (rw r refl)

-- a write to an event register clears no PM1 bit that is not both written and the block's
write-clears-none : (m : Machine) (a : Access) (written : ℕ) (c : Bool) (i : ℕ) → register_of m a ≡ register.Pm1Evt c
    → (digit i (placed (offset_of m a) written) ≡ 0) ⊎ (digit i (status_in m.settings c) ≡ 0) → digit i (clears m (step.Write a written)) ≡ 0
unfolding clears rule_change write_change
write-clears-none m a written c i r h = go (accepted (answer_to m (step.Write a written))) (in_status (offset_of m a))
  where
    ones : digit i (ones_in m c a.width (offset_of m a) written) ≡ 0
    ones =
        ⊎_elim (λ e. simp digit_and (omega (arith, e)))
        (λ e. simp digit_and (omega (arith, simp digit_and at e))) h

    status : (u : Bool) → digit i (bits_if u (ones_in m c a.width (offset_of m a) written)) ≡ 0
    status true = ones
    status false = digit-zero i

    go : (t u : Bool) → digit i (cond t (write_change m (register_of m a) a.width (offset_of m a) written) unchanged).cleared ≡ 0
    go true u = rw r (status (in_status (offset_of m a)))
    go false u = digit-zero i

-- ---- the laws of one bit

pm1-law : (i : ℕ) → i < 16 → (m : Machine) (x : Step) → Wide m → digit i (clears m x) ≡ 0
    → digit i (after m x).pm1_sts ≡ max (digit i m.pm1_sts) (digit i (raises m x))
pm1-law i h m x w e =
    let k = digit-kept 16 i m.pm1_sts (clears m x) (clears-lt m x) h in
    rw (status-law m x w.status, digit_or) (omega (arith, digit-le i m.pm1_sts))

gpe-room : (m : Machine) → Wide m → (b : Bool) → event_count (gpe_block m.settings b) ≤ 8 * length (gpe_sts m b)
gpe-room m w b = rw (sized-at m w.sized b) (go b)
  where
    short : (k : Block) → HasGpeLength k → HasNone k → (t : Bool) → present k ≡ t → event_count k ≤ 8 * gpe_bytes
    short k has none true p = let l = (has p).2 in omega arith
    short k has none false p = let l = none p in omega arith

    go : (b : Bool) → event_count (gpe_block m.settings b) ≤ 8 * gpe_bytes
    go true = short m.settings.gpe1 w.legal.gpe1_length w.legal.gpe1_none (present m.settings.gpe1) refl
    go false = short m.settings.gpe0 w.legal.gpe0_length w.legal.gpe0_none (present m.settings.gpe0) refl

gpe-law : (b : Bool) (i j : ℕ) → j < 8 → (m : Machine) (x : Step) → Wide m → digit j (gpe_clears m x b i) ≡ 0
    → digit j (get_or (gpe_sts (after m x) b) i 0) ≡ max (digit j (get_or (gpe_sts m b) i 0)) (digit j (gpe_raises m x b i))
gpe-law b i j h m x w e =
    let k = digit-kept 8 j (get_or (gpe_sts m b) i 0) (gpe_clears m x b i) (gpe-clears-lt m x b i) h in
    rw (gpe-status-law-everywhere m x b i (gpe-room m w b) (w.bytes b i), digit_or) (omega (arith, digit-le j (get_or (gpe_sts m b) i 0)))

-- ---- gaps

gap-keeps : (field : Machine → ℕ) (up down : Machine → Step → ℕ) (i : ℕ)
    (law : (m : Machine) (x : Step) → Wide m → digit i (down m x) ≡ 0 → digit i (field (after m x)) ≡ max (digit i (field m)) (digit i (up m x)))
    → ((m : Machine) (e : Event) → m.state ≡ 0 → On m e → digit i (down m (step.Event e)) ≡ 0)
    → (k : Machine) (l : List Step) → Every GapStep l → Throughout after InS0 k l → Keeps field up down i law k l
unfolding Keeps Throughout Every
gap-keeps field up down i law f k [] steps awake = tt
gap-keeps field up down i law f k (x ∷ l) steps awake = (one x steps.0 awake.0 (first (after k x) l awake.1), gap-keeps field up down i law f (after k x) l steps.1 awake.1)
  where
    first : (n : Machine) (r : List Step) → Throughout after InS0 n r → n.state ≡ 0
    first n [] a = a
    first n (y ∷ r) a = a.0

    one : (x : Step) → GapStep x → k.state ≡ 0 → (after k x).state ≡ 0 → digit i (down k x) ≡ 0
    one y (gap_step e) z w = f k e z (event-on k e z w)

-- ---- the claim

module _ (m : Machine) (w : Wide m) (r : Round) (on : RoundOn m.settings r) where
  within : r.offset < m.settings.pm1a_evt.length
  within = let l = w.legal.evt_a_length w.legal.evt_a_present in let o = on.in_status in omega arith

  -- a half that writes back, on a machine with the same settings
  write-a : (n : Machine) (v i : ℕ) → n.settings ≡ m.settings
      → (digit i (placed r.offset v) ≡ 0) ⊎ (digit i (status_in m.settings false) ≡ 0)
      → digit i (clears n (step.Write (access_at m.settings.pm1a_evt r.offset r.width) v)) ≡ 0
  write-a n v i e h =
      write-clears-none n _ v false i (rw e (event-a m.settings w.legal r.offset within))
      (rw (e, offset-a m.settings w.legal r.offset within) h)

  write-b : (n : Machine) (v i : ℕ) → n.settings ≡ m.settings
      → (digit i (placed r.offset v) ≡ 0) ⊎ (digit i (status_in m.settings true) ≡ 0)
      → digit i (clears n (step.Write (access_at m.settings.pm1b_evt r.offset r.width) v)) ≡ 0
  write-b n v i e h =
      write-clears-none n _ v true i (rw e (event-b m.settings w.legal r.offset on.b_present within))
      (rw (e, offset-b m.settings w.legal r.offset on.b_present within) h)

  -- the value of the bit's home does not show it: the half of its home does not write it, and the other half is not its home
  spared : (i : ℕ) → i < 16 → (va vb : ℕ) (t : Bool) → lives_in_b m.settings (pm1 i) ≡ t → digit i (placed r.offset (cond t vb va)) ≡ 0
      → ((digit i (placed r.offset va) ≡ 0) ⊎ (digit i (status_in m.settings false) ≡ 0))
      × ((digit i (placed r.offset vb) ≡ 0) ⊎ (digit i (status_in m.settings true) ≡ 0))
  spared i h va vb true p e = (inr (home-digit m.settings false i h p), inl e)
  spared i h va vb false p e = (inl e, inr (home-digit m.settings true i h p))

  first : Machine
  first = after m (read_a m.settings r)

  pub nothing-lost : Throughout after InS0 m (read_a m.settings r ∷ rest_of step_of m r) → NothingLost step_of m r (Unshown step_of m r)
  unfolding Throughout first
  nothing-lost awake =
      let s = m.settings in
      let same : first.settings ≡ s = settings-kept m (read_a s r) in
      let va = value_a step_of m r in
      let vb = value_b step_of m r in
      record {
        pm1 = λ i h raised unshown.
            let free = spared i h va vb (lives_in_b s (pm1 i)) refl unshown in
            let law = pm1-law i h in
            let gaps = gap-keeps (λ k. k.pm1_sts) raises clears i law (λ k e z o. digit-none i _ (event-clears-none k e z o)) in
            raised-stays (λ k. k.pm1_sts) raises clears i law first (rest_of step_of m r) (wide-kept m (read_a s r) w)
            (keeps-round (λ k. k.pm1_sts) raises clears i law s gaps first r.gap₁ r.gap₂ r.gap₃ r.gap₄ _ _ _ same
            on.steps₁ on.steps₂ on.steps₃ on.steps₄
            (λ n e. digit-none i _ (read-clears-none n _)) (λ n e. write-a n va i e free.0) (λ n e. write-b n vb i e free.1) awake.1)
            raised;
        gpe = λ b i j h raised.
            let law = gpe-law b i j h in
            let gaps = gap-keeps (λ k. get_or (gpe_sts k b) i 0) (λ k x. gpe_raises k x b i) (λ k x. gpe_clears k x b i) j law
            (λ k e z o. digit-none j _ (gpe-event-clears-none k e b i z)) in
            raised-stays (λ k. get_or (gpe_sts k b) i 0) (λ k x. gpe_raises k x b i) (λ k x. gpe_clears k x b i) j law first (rest_of step_of m r) (wide-kept m (read_a s r) w)
            (keeps-round (λ k. get_or (gpe_sts k b) i 0) (λ k x. gpe_raises k x b i) (λ k x. gpe_clears k x b i) j law s gaps first
            r.gap₁ r.gap₂ r.gap₃ r.gap₄ _ _ _ same on.steps₁ on.steps₂ on.steps₃ on.steps₄
            (λ n e. digit-none j _ (gpe-read-clears-none n _ b i))
            (λ n e. digit-none j _ (gpe-write-clears-none n _ va false b i (rw e (event-a s w.legal r.offset within))))
            (λ n e. digit-none j _ (gpe-write-clears-none n _ vb true b i (rw e (event-b s w.legal r.offset on.b_present within))))
            awake.1)
            raised;
      }

-- from every machine with its widths and legal settings
pub writes-back-from : (m : Machine) → Wide m → WritesBackFrom step_of m
writes-back-from m w r on awake = nothing-lost m w r on awake

-- ---- from setting up

power-on-wide : (s : Settings) → Guaranteed s → Wide (power_on s)
power-on-wide s legal =
    record {
      status = lit< tt;
      bytes = none;
      sized = (refl, refl);
      legal = legal;
    }
  where
    none : (b : Bool) (i : ℕ) → get_or (gpe_sts (power_on s) b) i 0 < 2 ^ 8
    none true i = rw (no_byte gpe_bytes i) (lit< tt)
    none false i = rw (no_byte gpe_bytes i) (lit< tt)

-- "after any steps from setting up"
pub write-back : WriteBack set_up_of step_of
write-back t event_homes control_homes power-override pairs e steps =
    let s = settings_of t event_homes control_homes power-override pairs in
    let m = (set_up_of t event_homes control_homes power-override pairs).machine in
    let legal = accepted-guaranteed t event_homes control_homes power-override pairs e in
    let start : Wide m = rw (accepted-machine t s e) (power-on-wide s (rw (accepted-machine t s e) at legal)) in
    writes-back-from (after_all after m steps) (wide-all m steps start)
