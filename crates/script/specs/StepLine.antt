-- A line as a step. Quotations are from docs/SCRIPT.md.
use Rattle.std.specs.Prelude.{Bool, Option, Some, None, cond, ◌&&◌, List, ℕ, ◌^◌, eqb, length}
use Rattle.text.specs.Parts.{fields_of, same_text}
use Rattle.model.specs.declared.Access.{Access}
use Rattle.model.specs.declared.Event.TheVariants as event
use Rattle.model.specs.declared.Step.{Step}
use Rattle.model.specs.declared.Step.TheVariants as step
use Rattle.text.specs.Numbers.{is_number}
use Rattle.script.specs.Fields.{field_at, is_hex_at, hex_at, is_below, hex_below}
use Rattle.script.specs.Words.{r_word, w_word, press_word, release_word, sleep_word, alarm_word, pin_word, master_word, unlock_word, event_word, tick_word, take_word, drop_word, zero_word, one_word}

-- a line of one field
unfoldable pub lone_line : List ℕ → Option Step
lone_line word =
    cond (same_text word press_word) (Some (step.Event event.Press))
    (cond (same_text word release_word) (Some (step.Event event.Release))
    (cond (same_text word sleep_word) (Some (step.Event event.SleepPress))
    (cond (same_text word alarm_word) (Some (step.Event event.Alarm))
    (cond (same_text word master_word) (Some (step.Event event.BusMaster))
    (cond (same_text word unlock_word) (Some (step.Event event.Unlock))
    (cond (same_text word take_word) (Some step.Take)
    (cond (same_text word drop_word) (Some step.Drop)
    None)))))))

-- "pin 1", "pin 0": exactly one digit
unfoldable pub pin_line : List ℕ → Option Step
pin_line digit =
    cond (same_text digit one_word) (Some (step.Event event.PinActive))
    (cond (same_text digit zero_word) (Some (step.Event event.PinInactive))
    None)

-- "event N", "tick N": N below 2^32
unfoldable pub count_line : List ℕ → Option Step
count_line l =
    cond (hex_below (2 ^ 32) l 1)
    (cond (same_text (field_at l 0) event_word) (Some (step.Event (event.General (hex_at l 1))))
    (cond (same_text (field_at l 0) tick_word) (Some (step.Event (event.Ticks (hex_at l 1))))
    None))
    None

abbrev pub access_in : List ℕ → Access
access_in l = record { port = hex_at l 1; width = hex_at l 2 }

-- "PORT below 2^64, WIDTH below 2^32"
unfoldable pub access_reads : List ℕ → List ℕ → Bool
access_reads port width = is_number 16 16 port && is_below (2 ^ 32) width

-- the access, where both read
unfoldable pub access_at : List ℕ → Option Access
access_at l = cond (access_reads (field_at l 1) (field_at l 2)) (Some (access_in l)) None

-- "r PORT WIDTH"
unfoldable pub read_line : List ℕ → Option Step
read_line l = cond (same_text (field_at l 0) r_word && access_reads (field_at l 1) (field_at l 2)) (Some (step.Read (access_in l))) None

-- "w PORT WIDTH DATA", "DATA below 2^64"
unfoldable pub write_line : List ℕ → Option Step
write_line l = cond (same_text (field_at l 0) w_word && (access_reads (field_at l 1) (field_at l 2) && is_hex_at l 3)) (Some (step.Write (access_in l) (hex_at l 3))) None

-- "Each later line is one step"; "A line that is none of these, or a number that does not fit, does not read."
unfoldable pub line_of : List ℕ → Option Step
line_of l =
    cond (eqb (length (fields_of l)) 1) (lone_line (field_at l 0))
    (cond (eqb (length (fields_of l)) 2) (cond (same_text (field_at l 0) pin_word) (pin_line (field_at l 1)) (count_line l))
    (cond (eqb (length (fields_of l)) 3) (read_line l)
    (cond (eqb (length (fields_of l)) 4) (write_line l)
    None)))
