-- The platform line: "platform EVENT_HOMES CONTROL_HOMES OVERRIDE S0 S1 S2 S3 S4 S5". Quotations are from docs/SCRIPT.md.
use Rattle.std.specs.Prelude.{Bool, cond, ◌&&◌, ◌||◌, List, [], ◌∷◌, ℕ, ◌^◌, eqb, length, get_or}
use Rattle.text.specs.Numbers.{digit_of, all_digits}
use Rattle.text.specs.Parts.{fields_of, same_text}
use Rattle.platform.specs.declared.settings.Host.{Host}
use Rattle.script.specs.Fields.{field_at, hex_at, hex_below}
use Rattle.script.specs.Words.{platform_word, absent_word, zero_word, one_word}

-- "OVERRIDE is exactly `0` or `1`"
unfoldable pub override_reads : List ℕ → Bool
override_reads field = same_text field zero_word || same_text field one_word

-- "each state is `-` (absent) or exactly two hex digits, a then b"
unfoldable pub state_reads : List ℕ → Bool
state_reads field = same_text field absent_word || (eqb (length field) 2 && all_digits 16 field)

-- the six of them
unfoldable pub states_read : List ℕ → Bool
states_read l =
    state_reads (field_at l 4) &&
    state_reads (field_at l 5) &&
    state_reads (field_at l 6) &&
    state_reads (field_at l 7) &&
    state_reads (field_at l 8) &&
    state_reads (field_at l 9)

-- "The homes are numbers below 65,536"
unfoldable pub platform_reads : List ℕ → Bool
platform_reads l =
    eqb (length (fields_of l)) 10 &&
    same_text (field_at l 0) platform_word &&
    hex_below (2 ^ 16) l 1 &&
    hex_below (2 ^ 16) l 2 &&
    override_reads (field_at l 3) &&
    states_read l

-- what it says; homes that do not read are 0
unfoldable pub homes_at : List ℕ → ℕ → ℕ
homes_at l n = cond (hex_below (2 ^ 16) l n) (hex_at l n) 0

abbrev pub override_in : List ℕ → Bool
override_in l = same_text (field_at l 3) one_word

-- an absent state's pair is (255, 255)
unfoldable pub pair_of : List ℕ → List ℕ
pair_of field = cond (same_text field absent_word) (255 ∷ 255 ∷ []) (digit_of (get_or field 0 0) ∷ digit_of (get_or field 1 0) ∷ [])

abbrev pub pairs_in : List ℕ → List (List ℕ)
pairs_in l =
    pair_of (field_at l 4) ∷
    pair_of (field_at l 5) ∷
    pair_of (field_at l 6) ∷
    pair_of (field_at l 7) ∷
    pair_of (field_at l 8) ∷
    pair_of (field_at l 9) ∷
    []

abbrev pub host_in : List ℕ → Host
host_in l = record { event_homes = homes_at l 1; control_homes = homes_at l 2; power_override = override_in l; pairs = pairs_in l }
