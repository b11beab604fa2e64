-- The words of a script, as bytes.
use Rattle.std.specs.Prelude.{List, [], ◌∷◌, ℕ}

abbrev pub r_word : List ℕ
r_word = 114 ∷ []

abbrev pub w_word : List ℕ
w_word = 119 ∷ []

abbrev pub press_word : List ℕ
press_word = 112 ∷ 114 ∷ 101 ∷ 115 ∷ 115 ∷ []

abbrev pub release_word : List ℕ
release_word = 114 ∷ 101 ∷ 108 ∷ 101 ∷ 97 ∷ 115 ∷ 101 ∷ []

abbrev pub sleep_word : List ℕ
sleep_word = 115 ∷ 108 ∷ 101 ∷ 101 ∷ 112 ∷ []

abbrev pub alarm_word : List ℕ
alarm_word = 97 ∷ 108 ∷ 97 ∷ 114 ∷ 109 ∷ []

abbrev pub pin_word : List ℕ
pin_word = 112 ∷ 105 ∷ 110 ∷ []

abbrev pub master_word : List ℕ
master_word = 109 ∷ 97 ∷ 115 ∷ 116 ∷ 101 ∷ 114 ∷ []

abbrev pub unlock_word : List ℕ
unlock_word = 117 ∷ 110 ∷ 108 ∷ 111 ∷ 99 ∷ 107 ∷ []

abbrev pub event_word : List ℕ
event_word = 101 ∷ 118 ∷ 101 ∷ 110 ∷ 116 ∷ []

abbrev pub tick_word : List ℕ
tick_word = 116 ∷ 105 ∷ 99 ∷ 107 ∷ []

abbrev pub take_word : List ℕ
take_word = 116 ∷ 97 ∷ 107 ∷ 101 ∷ []

abbrev pub drop_word : List ℕ
drop_word = 100 ∷ 114 ∷ 111 ∷ 112 ∷ []

abbrev pub platform_word : List ℕ
platform_word = 112 ∷ 108 ∷ 97 ∷ 116 ∷ 102 ∷ 111 ∷ 114 ∷ 109 ∷ []

-- an absent state
abbrev pub absent_word : List ℕ
absent_word = 45 ∷ []

-- the override, not fitted and fitted; the wake pin, inactive and active
abbrev pub zero_word : List ℕ
zero_word = 48 ∷ []

abbrev pub one_word : List ℕ
one_word = 49 ∷ []
