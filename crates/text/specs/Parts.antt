-- Texts cut at stop bytes: fields parted by tabs, lines ended by LF.
use Rattle.std.specs.Prelude.{Bool, true, false, cond, ◌&&◌, List, [], ◌∷◌, ◌++◌, ℕ, zero, suc, ◌+◌, eqb, ltb, length, take, drop}
use Rattle.lists.specs.Any.{any, first_at}

abbrev pub tab : ℕ
tab = 9

abbrev pub lf : ℕ
lf = 10

-- the place of the first stop; the length where there is none
abbrev pub stop_at : ℕ → List ℕ → ℕ
stop_at stop xs = first_at (λ x. eqb x stop) xs

-- some byte is the stop
abbrev pub has_stop : ℕ → List ℕ → Bool
has_stop stop xs = any (λ x. eqb x stop) xs

-- what stands before the first stop
abbrev pub front : ℕ → List ℕ → List ℕ
front stop xs = take (stop_at stop xs) xs

-- a byte put before the first part; a part of its own where there is none
unfoldable pub on_first : ℕ → List (List ℕ) → List (List ℕ)
on_first x [] = (x ∷ []) ∷ []
on_first x (p ∷ ps) = (x ∷ p) ∷ ps

-- a text cut at each stop, where nothing left gives `none`
unfoldable pub cut : List (List ℕ) → ℕ → List ℕ → List (List ℕ)
cut none stop [] = none
cut none stop (x ∷ xs) = cond (eqb x stop) ([] ∷ cut none stop xs) (on_first x (cut none stop xs))

-- the parts of a text: n stops give n + 1 parts
abbrev pub parts : ℕ → List ℕ → List (List ℕ)
parts stop xs = cut ([] ∷ []) stop xs

-- the fields of a line, parted by tabs
abbrev pub fields_of : List ℕ → List (List ℕ)
fields_of xs = parts tab xs

-- the lines of a text, each without its LF: a final LF starts no further line, and the empty text has none
abbrev pub lines_of : List ℕ → List (List ℕ)
lines_of xs = cut [] lf xs

-- the place past n stops; the length where there are fewer
unfoldable pub past_stops : ℕ → ℕ → List ℕ → ℕ
past_stops stop zero xs = 0
past_stops stop (suc n) [] = 0
past_stops stop (suc n) (x ∷ xs) = suc (cond (eqb x stop) (past_stops stop n xs) (past_stops stop (suc n) xs))

-- the end of the part that begins at a place: its stop, or the text's end; past that, the place itself
abbrev pub end_of : ℕ → List ℕ → ℕ → ℕ
end_of stop xs start = start + stop_at stop (drop start xs)

-- where the next line begins: past the line's LF, or at the text's end
unfoldable pub next_line : List ℕ → ℕ → ℕ
next_line xs start = cond (ltb (end_of lf xs start) (length xs)) (end_of lf xs start + 1) (length xs)

-- two texts are the same
unfoldable pub same_text : List ℕ → List ℕ → Bool
same_text [] [] = true
same_text [] (y ∷ ys) = false
same_text (x ∷ xs) [] = false
same_text (x ∷ xs) (y ∷ ys) = eqb x y && same_text xs ys

-- parts joined by a stop
unfoldable pub join_by : ℕ → List (List ℕ) → List ℕ
join_by stop [] = []
join_by stop (p ∷ []) = p
join_by stop (p ∷ (q ∷ ps)) = p ++ (stop ∷ join_by stop (q ∷ ps))

-- lines, each ended by LF
unfoldable pub join_lines : List (List ℕ) → List ℕ
join_lines [] = []
join_lines (l ∷ ls) = l ++ (lf ∷ join_lines ls)
