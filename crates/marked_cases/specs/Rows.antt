-- The marked cases of document 01, "Values on each side", and the cases of requests W1 and W3: one list of rows, and what a row claims.
-- That each row's claim holds is `marked-cases` of `proofs/Table.antt`.
use Rattle.std.specs.Prelude.{true, false, List, [], ◌∷◌, ◌≡◌, ℕ}
use Rattle.machine.specs.declared.Machine.{Machine}
use Rattle.machine.specs.Fields.{with_event, with_button, with_sci_en, with_time, with_wake_pin, enter}
use Rattle.machine.specs.PowerOn.{power_on}
use Rattle.model.specs.Answer.{step_number, step_value}
use Rattle.model.specs.Step.{ticks, step_of}
use Rattle.model.specs.declared.Event.TheVariants as event
use Rattle.model.specs.declared.Step.{Step}
use Rattle.model.specs.declared.Step.TheVariants as step
use Rattle.marked_cases.specs.Platform.{platform}

-- ---- a row

-- a step, and the number and value that it is to give
pub record Expected : Type 0 where
  pub step : Step
  pub number : ℕ
  pub value : ℕ

-- the registers that a row looks at
pub record Registers : Type 0 where
  pub status : ℕ
  pub enable : ℕ
  pub counter : ℕ
  pub hold : ℕ
  pub state : ℕ

-- the machine, the steps in their order, and the registers after them
pub record Row : Type 0 where
  pub machine : Machine
  pub steps : List Expected
  pub registers : Registers

abbrev pub registers_of : Machine → Registers
registers_of m =
    record { status = m.pm1_sts; enable = m.pm1_en; counter = m.counter; hold = m.hold; state = m.state }

-- from the machine each step gives its number and its value, and the last one leaves these registers
unfoldable pub Gives : Machine → List Expected → Registers → Type 0
Gives m [] end = registers_of m ≡ end
Gives m (x ∷ xs) end =
    (step_number (step_of m x.step).answer ≡ x.number)
    × (step_value (step_of m x.step).answer ≡ x.value)
    × Gives (step_of m x.step).machine xs end

-- what a row claims
abbrev pub Holds : Row → Type 0
Holds r = Gives r.machine r.steps r.registers

-- ---- how the rows are written

abbrev row : Machine → List Expected → Registers → Row
row m steps end = record { machine = m; steps = steps; registers = end }

-- by their order: status, enable, counter, hold and state
abbrev left : ℕ → ℕ → ℕ → ℕ → ℕ → Registers
left status enable counter hold state =
    record { status = status; enable = enable; counter = counter; hold = hold; state = state }

-- accepted, with the value
infixl 70 ◌gives◌
abbrev ◌gives◌ : Step → ℕ → Expected
s gives value = record { step = s; number = 0; value = value }

-- refused, with the number
infixl 70 ◌refused◌
abbrev ◌refused◌ : Step → ℕ → Expected
s refused number = record { step = s; number = number; value = 0 }

-- a port and a width, and the value written
abbrev read : ℕ → ℕ → Step
read port width = step.Read (record { port = port; width = width })

abbrev write : ℕ → ℕ → ℕ → Step
write port width written = step.Write (record { port = port; width = width }) written

-- the wake pin becomes active, and inactive
abbrev active : Step
active = step.Event event.PinActive

abbrev inactive : Step
inactive = step.Event event.PinInactive

-- the power-on machine, with a timer of 24 bits
abbrev narrow : Machine
narrow = power_on (platform false)

-- a machine with a timer of 32 bits
abbrev wide : Machine
wide = power_on (platform true)

-- every status bit is set
abbrev all_set : Machine
all_set = with_event narrow 0xC731 0

-- the counter stands so
abbrev counting : Machine → ℕ → Machine
counting m counter = with_time m counter 0

-- the button is down, and every status bit is set
abbrev held : ℕ → Machine
held hold = with_button all_set true hold

-- the same, and the counter stands so
abbrev held_at : ℕ → ℕ → Machine
held_at counter hold = with_time (held hold) counter hold

-- ---- the rows

abbrev pub rows : List Row
rows =
    -- "Status C731: write FFFF gives 0000"
    row all_set (write 0x400 2 0xFFFF gives 0 ∷ read 0x400 2 gives 0x0000 ∷ []) (left 0x0000 0 0 0 0) ∷
    -- "0100 gives C631"
    row all_set (write 0x400 2 0x0100 gives 0 ∷ read 0x400 2 gives 0xC631 ∷ []) (left 0xC631 0 0 0 0) ∷
    -- "0000 keeps it"
    row all_set (write 0x400 2 0x0000 gives 0 ∷ read 0x400 2 gives 0xC731 ∷ []) (left 0xC731 0 0 0 0) ∷
    -- "high byte FF gives 0031"
    row all_set (write 0x401 1 0xFF gives 0 ∷ read 0x400 2 gives 0x0031 ∷ []) (left 0x0031 0 0 0 0) ∷
    -- "Enable write FFFF reads 4721"
    row all_set (write 0x402 2 0xFFFF gives 0 ∷ read 0x402 2 gives 0x4721 ∷ []) (left 0xC731 0x4721 0 0 0) ∷
    -- "Control A write FFFF, SCI_EN set, B present, reads 1C03"
    row (with_sci_en narrow true) (write 0x404 2 0xFFFF gives 0 ∷ read 0x404 2 gives 0x1C03 ∷ []) (left 0 0 0 0 0) ∷
    -- "24-bit counter 8,388,607, one tick: TMR set"
    row (counting narrow 8388607) (ticks 1 gives 1 ∷ read 0x400 2 gives 0x0001 ∷ []) (left 0x0001 0 8388608 0 0) ∷
    -- "16,777,215 to 0: set"
    row (counting narrow 16777215) (ticks 1 gives 1 ∷ read 0x400 2 gives 0x0001 ∷ []) (left 0x0001 0 0 0 0) ∷
    -- "0 by 8,388,607: not"
    row (counting narrow 0) (ticks 8388607 gives 0 ∷ read 0x400 2 gives 0x0000 ∷ []) (left 0x0000 0 8388607 0 0) ∷
    -- "zero ticks: nothing"
    row (counting narrow 8388607) (ticks 0 gives 0 ∷ read 0x400 2 gives 0x0000 ∷ []) (left 0x0000 0 8388607 0 0) ∷
    -- "32-bit 8,388,607 by one: not"
    row (counting wide 8388607) (ticks 1 gives 0 ∷ read 0x400 2 gives 0x0000 ∷ []) (left 0x0000 0 8388608 0 0) ∷
    -- "Hold 14,318,179 stays S0": the tick that reaches it
    row (held 14318178) (ticks 1 gives 0 ∷ []) (left 0xC731 0 1 14318179 0) ∷
    -- the same by all the ticks from a press on, which turn the counter's top bit too
    row narrow (step.Event event.Press gives 0 ∷ ticks 14318179 gives 1 ∷ []) (left 0x0101 0 14318179 14318179 0) ∷
    -- "one more is S5", with PWRBTN cleared
    row (held 14318179) (ticks 1 gives 0 ∷ []) (left 0xC631 0 1 14318180 5) ∷
    -- the same from a press on
    row narrow (step.Event event.Press gives 0 ∷ ticks 14318179 gives 1 ∷ ticks 1 gives 0 ∷ [])
    (left 0x0001 0 14318180 14318180 5) ∷
    -- "Port 65,536: 23"
    row all_set (read 0x10000 2 refused 23 ∷ write 0x10000 1 0xFF refused 23 ∷ []) (left 0xC731 0 0 0 0) ∷
    -- W1: "at most 512 with 24 bits": reached from 1, and not from 0
    row (counting narrow 1) (ticks 4294967295 gives 512 ∷ []) (left 0x0001 0 0 0 0) ∷
    row (counting narrow 0) (ticks 4294967295 gives 511 ∷ []) (left 0x0001 0 16777215 0 0) ∷
    -- "at most 2 with 32 bits": likewise
    row (counting wide 1) (ticks 4294967295 gives 2 ∷ []) (left 0x0001 0 0 0 0) ∷
    row (counting wide 0) (ticks 4294967295 gives 1 ∷ []) (left 0x0001 0 4294967295 0 0) ∷
    -- two turns in one step: the top bit is as it was
    row (counting narrow 8388607) (ticks 8388609 gives 2 ∷ []) (left 0x0001 0 0 0 0) ∷
    -- "stopping where an override puts the machine into S5": by its second tick; by its first, which turns the bit; and in S5
    row (held_at 8388607 14318178) (ticks 4294967295 gives 1 ∷ []) (left 0xC631 0 8388609 14318180 5) ∷
    row (held_at 8388607 14318179) (ticks 4294967295 gives 1 ∷ ticks 4294967295 gives 0 ∷ []) (left 0xC631 0 8388608 14318180 5) ∷
    -- none in S3
    row (enter (counting narrow 8388607) 3) (ticks 1 gives 0 ∷ []) (left 0x0000 0 8388607 0 3) ∷
    -- W3: "Clearing works only with the pin inactive; making the pin inactive clears nothing."
    row (with_wake_pin all_set true)
    (write 0x400 2 0xFFFF gives 0 ∷ read 0x400 2 gives 0x4000 ∷ inactive gives 0 ∷ read 0x400 2 gives 0x4000 ∷ write 0x401 1 0xFF gives 0 ∷ [])
    (left 0x0000 0 0 0 0) ∷
    -- "Pin active while asleep and not disabled wakes and sets the bit."; "30 when the pin is already at that level"
    row (enter narrow 3) (active gives 0 ∷ active refused 30 ∷ []) (left 0xC000 0 0 0 0) ∷
    -- disabled: it sleeps on
    row (enter (with_event narrow 0 0x4000) 3) (active gives 0 ∷ active refused 30 ∷ []) (left 0x0000 0x4000 0 0 3) ∷
    -- "In S0 and S5 a pin step changes the level only"
    row narrow (inactive refused 30 ∷ active gives 0 ∷ active refused 30 ∷ []) (left 0x0000 0 0 0 0) ∷
    -- "After a wake from S5 the pin keeps its level while the bit is zero."
    row (enter (with_event narrow 0x4000 0) 5) (active gives 0 ∷ step.Event event.Press gives 0 ∷ active refused 30 ∷ []) (left 0x0100 0 0 0 0) ∷
    -- "Entering sleep with the pin already active does not wake."
    row (with_wake_pin (with_event narrow 0x4000 0) true) (write 0x404 2 0x3400 gives 0 ∷ write 0x444 2 0x2800 gives 0 ∷ read 0x400 2 refused 20 ∷ []) (left 0x4000 0 0 0 3) ∷
    []
