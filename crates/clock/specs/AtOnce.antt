-- The same n ticks at once: what the code computes. That it is `ticks_of` is `ticks-at-once` of `proofs/ClosedForm.antt`.
use Rattle.std.specs.Prelude.{ℕ, ◌+◌, ◌-◌, ◌/◌, ◌%◌, ◌^◌, min, Bool, cond, ◌&&◌, eqb, ltb, leb}
use Rattle.clock.specs.Clock.{counter_bits, hold_limit}
use Rattle.clock.specs.declared.Clock.{Clock}

-- one of the n ticks takes hold to its limit, with the button down and the override fitted
unfoldable pub off_within : Bool → Bool → ℕ → ℕ → Bool
off_within down fitted hold n = down && fitted && ltb hold hold_limit && leb hold_limit (hold + n)

-- the ticks that run: those up to the override, or all
unfoldable pub ran_of : Bool → Bool → ℕ → ℕ → ℕ
ran_of down fitted hold n = cond (off_within down fitted hold n) (hold_limit - hold) n

-- zero ticks leave the counter alone, also one past its size
unfoldable pub counter_after : ℕ → ℕ → ℕ → ℕ
counter_after k counter n = cond (eqb n 0) counter ((counter + n) % 2 ^ k)

-- the top bit changes wherever the count passes a multiple of half the counter's size
unfoldable pub turns_in : ℕ → ℕ → ℕ → ℕ
turns_in k counter n = (counter + n) / 2 ^ (k - 1) - counter / 2 ^ (k - 1)

-- a hold below its limit grows up to it; one at or above it stays
unfoldable pub hold_after : Bool → ℕ → ℕ → ℕ
hold_after down hold n = cond (down && ltb hold hold_limit) (min hold_limit (hold + n)) hold

-- a clock that is not off, after n ticks
abbrev pub after_of : Bool → Bool → Bool → ℕ → Clock → Clock
after_of wide down fitted n t =
    record {
      counter = counter_after (counter_bits wide) t.counter (ran_of down fitted t.hold n);
      turns = t.turns + turns_in (counter_bits wide) t.counter (ran_of down fitted t.hold n);
      hold = hold_after down t.hold (ran_of down fitted t.hold n);
      off = off_within down fitted t.hold n;
    }
