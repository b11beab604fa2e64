-- Document 01's "Tick, n times", in S0: one tick, and n of them.
use Rattle.std.specs.Prelude.{ℕ, zero, suc, ◌+◌, ◌-◌, ◌/◌, ◌%◌, ◌^◌, Bool, false, cond, ◌&&◌, ◌||◌, eqb, ltb}
use Rattle.clock.specs.declared.Clock.{Clock}

-- "the counter (32 bits if flag 8 is set, else 24)"
abbrev pub counter_bits : Bool → ℕ
counter_bits wide = cond wide 32 24

-- "advances modulo its size"
abbrev pub advance : ℕ → ℕ → ℕ
advance k c = (c + 1) % 2 ^ k

-- "its top bit"
abbrev pub top_bit : ℕ → ℕ → ℕ
top_bit k c = c / 2 ^ (k - 1) % 2

-- "when its top bit changes": 1 for a tick that changes it, else 0
unfoldable pub turned : ℕ → ℕ → ℕ
turned k c = cond (eqb (top_bit k (advance k c)) (top_bit k c)) 0 1

-- "14,318,180 (4 seconds at 3,579,545 Hz)"
abbrev pub hold_limit : ℕ
hold_limit = 14318180

-- "hold grows, stopping at 14,318,180"
unfoldable pub grow : ℕ → ℕ
grow h = cond (ltb h hold_limit) (h + 1) h

-- "The tick that reaches this, with the override fitted, .. enters S5": from 14,318,179, with the button down
unfoldable pub overrides : Bool → Bool → ℕ → Bool
overrides down fitted h = down && fitted && eqb (h + 1) hold_limit

-- One tick. "Outside S0 ticks change nothing"
unfoldable pub tick_of : Bool → Bool → Bool → Clock → Clock
tick_of wide down fitted t =
    record {
      counter = cond t.off t.counter (advance (counter_bits wide) t.counter);
      turns = cond t.off t.turns (t.turns + turned (counter_bits wide) t.counter);
      hold = cond t.off t.hold (cond down (grow t.hold) t.hold);
      off = t.off || overrides down fitted t.hold;
    }

-- "Tick, n times": the first, then the others
unfoldable pub ticks_of : Bool → Bool → Bool → ℕ → Clock → Clock
ticks_of wide down fitted zero t = t
ticks_of wide down fitted (suc n) t = ticks_of wide down fitted n (tick_of wide down fitted t)

-- A step's first tick finds the machine in S0, and no turn counted yet.
abbrev pub start_of : ℕ → ℕ → Clock
start_of counter hold = record { counter = counter; turns = 0; hold = hold; off = false }
