-- Settings that pass lines 5 to 12 are as `Guaranteed` says.
-- Each line is an or of tests: none refuses, so each test is false, and a false test says the opposite of what it looks for.
-- Assumes nothing.
use mathlib.Core.Bool.{Bool, true, false, not, ◌&&◌, ◌||◌, or-true}
use mathlib.Core.List.{[]}
use mathlib.Core.Path.{◌≡◌, refl, ap}
use Prim.Native.Nat.{ℕ, ◌+◌, ◌-◌, ◌%◌, ◌≤◌, ◌<◌}
use native.Mathlib.Omega.{arith}
use borrow.Author.Tests.{ltb-true, ltb-false, leb-true, eqb-true, eqb-false, lt-ltb, le-leb, ne_eqb, not-true, not-false}
use lib.Dec.{eqb, ltb, leb, lit<}
use lib.ListN.{get_or}
use Rattle.std.proofs.Common.{Ok}
use Rattle.lists.specs.Any.{any}
use Rattle.lists.proofs.Search.{any_none, any-two-none, any-of-none}
use Rattle.lists.proofs.Tests.{or_left, or_right, and_left, and_right, and-other}
use Rattle.bits.proofs.Writes.{within-masked}
use Rattle.bits.proofs.Digits.{below-or-beyond}
use Rattle.cells.specs.Cells.{flag_of}
use Rattle.sleep.specs.Pairs.{out_of_range, shared, sleep_refused}
use Rattle.platform.specs.Answer.{Rule, ◌when◌, first_failing}
use Rattle.platform.specs.Blocks.{present, holds, overlap, port_limit, passes_ports, no_block}
use Rattle.platform.specs.FadtBlocks.{block_of, block_count, blocks_of}
use Rattle.platform.specs.Rules.{gpe_longest, event_count, hardware_reduced, wrong_block_length, wrong_gpe_length, just_one_zero, length_tests, length_refused, misaligned, place_tests, place_refused, overlap_refused, gpe_refused, commands_refused, homes_without_block, home_tests, homes_refused, sleep_pairs_refused, settings_rules}
use Rattle.platform.specs.Legal.{stray_length, legal_tests, legal_settings, HasLength, HasGpeLength, HasNone, OneBlock, Guaranteed}
use Rattle.platform.specs.declared.block.Block.{Block}
use Rattle.platform.specs.declared.block.FadtBlock.{FadtBlock}
use Rattle.platform.specs.declared.settings.Settings.{Settings}
use Rattle.platform.specs.declared.rules.SetUpRefusal.TheVariants as refusal
use Rattle.platform.proofs.Answers.{done-passes}
use Rattle.platform.proofs.FadtOrder.{name_at, each, block_at}

-- ---- the test

-- an absent block with no length
pub none-stray : (b : Block) → HasNone b → stray_length b ≡ false
unfolding stray_length
none-stray b h = go (present b) refl
  where
    go : (t : Bool) → present b ≡ t → stray_length b ≡ false
    go true p = rw p refl
    go false p = rw (p, h p) refl

pub settings-legal : (s : Settings) → any (λ r. r.refused) (settings_rules s) ≡ false → HasNone s.pm1b_evt → HasNone s.pm1b_cnt → legal_settings s ≡ true
unfolding legal_settings
settings-legal s e evt cnt = rw (e, none-stray s.pm1b_evt evt, none-stray s.pm1b_cnt cnt) refl

-- ---- what a test that failed tells

length-is : (n : ℕ) (b : Block) → wrong_block_length n b ≡ false → HasLength n b
unfolding wrong_block_length
length-is n b e h = eqb-true b.length n (not-false (eqb b.length n) (and-other (present b) (not (eqb b.length n)) e h))

gpe-length-is : (b : Block) → wrong_gpe_length b ≡ false → HasGpeLength b
unfolding wrong_gpe_length
gpe-length-is b e h =
    let even = eqb (b.length % 2) 0 in
    let low = leb 2 b.length in
    let high = leb b.length gpe_longest in
    let all : (even && (low && high)) ≡ true = not-false (even && (low && high)) (and-other (present b) (not (even && (low && high))) e h) in
    let two : (low && high) ≡ true = and_right even (low && high) all in
    (eqb-true _ _ (and_left even (low && high) all), leb-true _ _ (and_left low high two), leb-true _ _ (and_right low high two))

stray-none : (b : Block) → stray_length b ≡ false → HasNone b
unfolding stray_length
stray-none b e h = eqb-true b.length 0 (not-false (eqb b.length 0) (and-other (not (present b)) (not (eqb b.length 0)) e (ap not h)))

none_is : (b : Block) → just_one_zero b ≡ false → HasNone b
unfolding just_one_zero present
none_is b e h =
    let one = not (eqb b.length 0) in
    let no_address = eqb b.address 0 in
    eqb-true b.length 0 (not-false (eqb b.length 0) (and-other no_address one (or_left (no_address && one) (not no_address && eqb b.length 0) e) (not-false no_address h)))

aligned : (n : ℕ) (b : Block) → misaligned n b ≡ false → b.address % n ≡ 0
unfolding misaligned
aligned n b e = eqb-true (b.address % n) 0 (not-false (eqb (b.address % n) 0) e)

within-port-space : (b : Block) → passes_ports b ≡ false → b.address + b.length ≤ port_limit
unfolding passes_ports
within-port-space b e = ltb-false port_limit (b.address + b.length) e

home-is : (b : Block) (homes : ℕ) → homes_without_block b homes ≡ false → present b ≡ false → homes ≡ 0
unfolding homes_without_block
home-is b homes e h = eqb-true homes 0 (not-false (eqb homes 0) (and-other (not (present b)) (not (eqb homes 0)) e (ap not h)))

-- the block's ports
pub holds-from : (b : Block) (port : ℕ) → holds b port ≡ true → (present b ≡ true) × (b.address ≤ port) × (port < b.address + b.length)
unfolding holds
holds-from b port e =
    let at_least_lem = leb b.address port in
    let inside = ltb (port - b.address) b.length in
    let two : (at_least_lem && inside) ≡ true = and_right (present b) (at_least_lem && inside) e in
    let low : b.address ≤ port = leb-true _ _ (and_left at_least_lem inside two) in
    let high : port - b.address < b.length = ltb-true _ _ (and_right at_least_lem inside two) in
    (and_left (present b) (at_least_lem && inside) e, low, omega arith)

pub holds_of : (b : Block) (port : ℕ) → present b ≡ true → b.address ≤ port → port < b.address + b.length → holds b port ≡ true
unfolding holds
holds_of b port p low high =
    let inside : port - b.address < b.length = omega arith in
    rw (p, le-leb _ _ low, lt-ltb _ _ inside) refl

-- ---- one block to a port

zero_one : ◌≡◌ {A = ℕ} 0 1 → ⊥
zero_one e = omega arith

overlap-by : (a b : Block) → present a ≡ true → present b ≡ true → (holds a b.address || holds b a.address) ≡ true → overlap a b ≡ true
unfolding overlap
overlap-by a b p q e = rw (p, q) e

pub shared-port-overlaps : (a b : Block) (port : ℕ) → holds a port ≡ true → holds b port ≡ true → overlap a b ≡ true
shared-port-overlaps a b port ha hb =
    let (pa, la, ua) = holds-from a port ha in
    let (pb, lb, ub) = holds-from b port hb in
    overlap-by a b pa pb
    (below-or-beyond b.address a.address
    (λ h. rw (holds_of b a.address pb (omega arith) (omega arith)) (or-true (holds a b.address)))
    (λ h. rw (holds_of a b.address pa h (omega arith)) refl))

-- where blocks overlap there is a port of both
pub overlap-shares-port : (a b : Block) → 0 < a.length → 0 < b.length → overlap a b ≡ true → (port : ℕ) × (holds a port ≡ true) × (holds b port ≡ true)
unfolding overlap
overlap-shares-port a b la lb e =
    let first = holds a b.address in
    let second = holds b a.address in
    let pa : present a ≡ true = and_left (present a) (present b && (first || second)) e in
    let both : (present b && (first || second)) ≡ true = and_right (present a) (present b && (first || second)) e in
    let pb : present b ≡ true = and_left (present b) (first || second) both in
    go pa pb first second refl refl (and_right (present b) (first || second) both)
  where
    go : present a ≡ true → present b ≡ true → (t u : Bool) → holds a b.address ≡ t → holds b a.address ≡ u → (t || u) ≡ true
        → (port : ℕ) × (holds a port ≡ true) × (holds b port ≡ true)
    go pa pb true u p q z = (b.address, p, holds_of b b.address pb (omega arith) (omega arith))
    go pa pb false true p q z = (a.address, holds_of a a.address pa (omega arith) (omega arith), q)
    go pa pb false false p q z = let no : ◌≡◌ {A = ℕ} 0 1 = cc in absurd (zero_one no)

module _ (s : Settings) (e : overlap_refused s ≡ false) (port : ℕ) where
  apart : (i j : ℕ) → i < j → j < block_count → holds (block_of s (name_at i)) port ≡ true → holds (block_of s (name_at j)) port ≡ true → ⊥
  unfolding overlap_refused
  apart i j h k hi hj =
      let no : overlap (get_or (blocks_of s) i no_block) (get_or (blocks_of s) j no_block) ≡ false = any-two-none no_block overlap (blocks_of s) e i j h k in
      let i< : i < block_count = omega arith in
      let named : overlap (block_of s (name_at i)) (block_of s (name_at j)) ≡ false = rw (block_at s i i<, block_at s j k) at no in
      let yes : overlap (block_of s (name_at i)) (block_of s (name_at j)) ≡ true = shared-port-overlaps (block_of s (name_at i)) (block_of s (name_at j)) port hi hj in
      let z : ◌≡◌ {A = ℕ} 0 1 = cc in
      omega arith

  same_place : (i j : ℕ) → i < block_count → j < block_count → holds (block_of s (name_at i)) port ≡ true → holds (block_of s (name_at j)) port ≡ true → i ≡ j
  same_place i j i< j< hi hj =
      below-or-beyond i j (λ h. absurd (apart i j h j< hi hj))
      (λ h. below-or-beyond j i (λ k. absurd (apart j i k i< hj hi)) (λ k. omega arith))

pub same_block : (s : Settings) → overlap_refused s ≡ false → OneBlock s
same_block s e port =
    each (λ b. (c : FadtBlock) → holds (block_of s b) port ≡ true → holds (block_of s c) port ≡ true → b ≡ c)
    (λ i i<. each (λ c. holds (block_of s (name_at i)) port ≡ true → holds (block_of s c) port ≡ true → name_at i ≡ c)
    (λ j j< hi hj. ap name_at (same_place s e port i j i< j< hi hj)))

-- ---- all of it

-- what an index past the table would read
abbrev passed : Rule
passed = refusal.TableShort when false

module _ (s : Settings) (e : any (λ r. r.refused) (settings_rules s) ≡ false) where
  -- line k + 5 of the table
  line : (k : ℕ) → k < 8 → (get_or (settings_rules s) k passed).refused ≡ false
  line k h = any_none passed (λ r. r.refused) (settings_rules s) e k h

  length-test : (i : ℕ) → i < 12 → get_or (length_tests s) i true ≡ false
  unfolding length_refused
  length-test = any-of-none (length_tests s) (line 1 (lit< tt))

  place-test : (i : ℕ) → i < 8 → get_or (place_tests s) i true ≡ false
  unfolding place_refused
  place-test = any-of-none (place_tests s) (line 2 (lit< tt))

  home-test : (i : ℕ) → i < 4 → get_or (home_tests s) i true ≡ false
  unfolding homes_refused
  home-test = any-of-none (home_tests s) (line 6 (lit< tt))

  numbers : present s.gpe1 ≡ true → (event_count s.gpe0 ≤ s.gpe1_base) × (s.gpe1_base + event_count s.gpe1 ≤ 256)
  unfolding gpe_refused
  numbers h =
      let low = ltb s.gpe1_base (event_count s.gpe0) in
      let high = ltb 256 (s.gpe1_base + event_count s.gpe1) in
      let both : (low || high) ≡ false = and-other (present s.gpe1) (low || high) (line 4 (lit< tt)) h in
      (ltb-false _ _ (or_left low high both), ltb-false _ _ (or_right low high both))

  commands : (s.smi_cmd ≡ 0 → ⊥) → s.acpi_enable ≡ s.acpi_disable → ⊥
  unfolding commands_refused
  commands n q =
      eqb-false s.acpi_enable s.acpi_disable
      (and-other (not (eqb s.smi_cmd 0)) (eqb s.acpi_enable s.acpi_disable) (line 5 (lit< tt)) (ap not (ne_eqb _ _ n))) q

  pairs : sleep_refused (present s.pm1b_cnt) s.sleep.pairs ≡ false
  unfolding sleep_pairs_refused
  pairs = line 7 (lit< tt)

  reduced : flag_of s.flags 20 ≡ false
  unfolding hardware_reduced
  reduced = line 0 (lit< tt)

  within-each : (b : FadtBlock) → (block_of s b).address + (block_of s b).length ≤ port_limit
  within-each =
      each (λ b. (block_of s b).address + (block_of s b).length ≤ port_limit)
      (λ i h. within-port-space (block_of s (name_at i)) (rw (block_at s i h) at (any_none no_block passes_ports (blocks_of s) (place-test 7 (lit< tt)) i h)))

  guaranteed : stray_length s.pm1b_evt ≡ false → stray_length s.pm1b_cnt ≡ false → Guaranteed s
  guaranteed evt cnt =
      record {
        full_hardware = reduced;
        evt_a_length = length-is 4 _ (length-test 0 (lit< tt));
        evt_b_length = length-is 4 _ (length-test 1 (lit< tt));
        cnt_a_length = length-is 2 _ (length-test 2 (lit< tt));
        cnt_b_length = length-is 2 _ (length-test 3 (lit< tt));
        pm2_length = length-is 1 _ (length-test 4 (lit< tt));
        tmr_length = length-is 4 _ (length-test 5 (lit< tt));
        gpe0_length = gpe-length-is _ (length-test 6 (lit< tt));
        gpe1_length = gpe-length-is _ (length-test 7 (lit< tt));
        evt_b_none = stray-none _ evt;
        cnt_b_none = stray-none _ cnt;
        pm2_none = none_is _ (length-test 8 (lit< tt));
        tmr_none = none_is _ (length-test 9 (lit< tt));
        gpe0_none = none_is _ (length-test 10 (lit< tt));
        gpe1_none = none_is _ (length-test 11 (lit< tt));
        evt_a_present = not-false _ (place-test 0 (lit< tt));
        cnt_a_present = not-false _ (place-test 1 (lit< tt));
        evt_a_aligned = aligned 4 _ (place-test 2 (lit< tt));
        evt_b_aligned = aligned 4 _ (place-test 3 (lit< tt));
        tmr_aligned = aligned 4 _ (place-test 4 (lit< tt));
        cnt_a_aligned = aligned 2 _ (place-test 5 (lit< tt));
        cnt_b_aligned = aligned 2 _ (place-test 6 (lit< tt));
        within_ports = within-each;
        one_block = same_block s (line 3 (lit< tt));
        gpe1_above_gpe0 = λ h. (numbers h).0;
        gpe1_numbers = λ h. (numbers h).1;
        commands_differ = commands;
        event_homes = within-masked 0xC731 _ (not-false _ (home-test 0 (lit< tt)));
        control_homes = within-masked 0x0007 _ (not-false _ (home-test 1 (lit< tt)));
        event_homes_in_b = home-is _ _ (home-test 2 (lit< tt));
        control_homes_in_b = home-is _ _ (home-test 3 (lit< tt));
        pair_range = any_none [] out_of_range s.sleep.pairs (or_left _ _ pairs);
        pairs_differ = any-two-none [] (shared (present s.pm1b_cnt)) s.sleep.pairs (or_right (any out_of_range s.sleep.pairs) _ pairs);
      }

-- the test's meaning
pub legal-guaranteed : (s : Settings) → legal_settings s ≡ true → Guaranteed s
unfolding legal_settings
legal-guaranteed s e =
    let each : (i : ℕ) → i < 3 → get_or (legal_tests s) i true ≡ false = any-of-none (legal_tests s) (not-true _ e) in
    guaranteed s (each 0 (lit< tt)) (each 1 (lit< tt)) (each 2 (lit< tt))

-- no two blocks share a port where lines 5 to 12 accept
pub accepted-one-block : (s : Settings) → first_failing (settings_rules s) ≡ Ok tt → OneBlock s
accepted-one-block s e = same_block s (line s (done-passes (settings_rules s) e) 3 (lit< tt))
