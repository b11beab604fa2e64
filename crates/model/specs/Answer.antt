-- The answers of a step: document 01's number and value for each.
use Rattle.std.specs.Prelude.{Bool, cond, List, [], ◌∷◌, ℕ}
use Rattle.model.specs.declared.Answer.{Answer}
use Rattle.model.specs.declared.Answer.TheVariants as answer

-- "otherwise 0"; each refusal has its number
abbrev pub step_number : Answer → ℕ
step_number (answer.Done v) = 0
step_number answer.Asleep = 20
step_number answer.WrongWidth = 21
step_number answer.DataTooWide = 22
step_number answer.NoBlock = 23
step_number answer.NotAllowed = 24
step_number answer.TimerWritten = 25
step_number answer.CommandWaits = 26
step_number answer.NoSleepState = 27
step_number answer.NotFitted = 28
step_number answer.NoSuchEvent = 29
step_number answer.AlreadySo = 30
step_number answer.NoCommand = 31

-- "Value is the reading or the command taken, else zero"; of ticks (request W1), how often the counter's top bit turned
abbrev pub step_value : Answer → ℕ
step_value (answer.Done v) = v
step_value answer.Asleep = 0
step_value answer.WrongWidth = 0
step_value answer.DataTooWide = 0
step_value answer.NoBlock = 0
step_value answer.NotAllowed = 0
step_value answer.TimerWritten = 0
step_value answer.CommandWaits = 0
step_value answer.NoSleepState = 0
step_value answer.NotFitted = 0
step_value answer.NoSuchEvent = 0
step_value answer.AlreadySo = 0
step_value answer.NoCommand = 0

-- a line of the table: its answer, and whether it applies
pub record Refusal : Type 0 where
  pub answer : Answer
  pub applies : Bool

infixl 70 ◌if◌
abbrev pub ◌if◌ : Answer → Bool → Refusal
a if test = record { answer = a; applies = test }

-- "The lowest number that applies is given": the first of the lines that applies, else the last answer
unfoldable pub first_applying : List Refusal → Answer → Answer
first_applying [] last = last
first_applying (l ∷ ls) last = cond l.applies l.answer (first_applying ls last)
