-- Numbers as texts: digits in a base of 2 to 16, the highest first.
use Rattle.std.specs.Prelude.{Bool, true, cond, ◌&&◌, Option, Some, None, List, [], ◌∷◌, ◌++◌, ℕ, zero, suc, ◌+◌, ◌-◌, ◌*◌, ◌/◌, ◌%◌, eqb, ltb, leb, length}

-- the digit that a byte shows: `0` to `9` (48 on), `A` to `F` (65 on) or `a` to `f` (97 on); 16 where it shows none
unfoldable pub digit_of : ℕ → ℕ
digit_of x =
    cond (ltb x 48) 16
    (cond (ltb x 58) (x - 48)
    (cond (ltb x 65) 16
    (cond (ltb x 71) (x - 55)
    (cond (ltb x 97) 16
    (cond (ltb x 103) (x - 87) 16)))))

-- the digit that a byte shows, where it shows one
unfoldable pub digit_in : ℕ → Option ℕ
digit_in x = cond (ltb (digit_of x) 16) (Some (digit_of x)) None

-- the byte of a digit, upper case
unfoldable pub glyph : ℕ → ℕ
glyph d = cond (ltb d 10) (48 + d) (55 + d)

-- digits read on from a number: each makes it base times as much, and the digit
unfoldable pub value_from : ℕ → ℕ → List ℕ → ℕ
value_from b n [] = n
value_from b n (x ∷ xs) = value_from b (n * b + digit_of x) xs

-- the number that a text's digits show
abbrev pub value_of : ℕ → List ℕ → ℕ
value_of b xs = value_from b 0 xs

-- each byte shows a digit below the base
unfoldable pub all_digits : ℕ → List ℕ → Bool
all_digits b [] = true
all_digits b (x ∷ xs) = ltb (digit_of x) b && all_digits b xs

-- a text is a number: 1 to `most` bytes, each a digit of the base
unfoldable pub is_number : ℕ → ℕ → List ℕ → Bool
is_number b most xs = ltb 0 (length xs) && (leb (length xs) most && all_digits b xs)

-- the number that a text is, where it is one
unfoldable pub number_in : ℕ → ℕ → List ℕ → Option ℕ
number_in b most xs = cond (is_number b most xs) (Some (value_of b xs)) None

-- the number that a text is; 0 where it is none
unfoldable pub number_of : ℕ → ℕ → List ℕ → ℕ
number_of b most xs = cond (is_number b most xs) (value_of b xs) 0

-- a number written: its last `width` digits
unfoldable pub digits : ℕ → ℕ → ℕ → List ℕ
digits b zero n = []
digits b (suc width) n = digits b width (n / b) ++ (glyph (n % b) ∷ [])

-- the digits that a number takes, found in at most so many steps
unfoldable pub count_within : ℕ → ℕ → ℕ → ℕ
count_within zero b n = 1
count_within (suc steps) b n = cond (ltb n b) 1 (suc (count_within steps b (n / b)))

-- the fewest digits that show a number, at least 1
unfoldable pub digit_count : ℕ → ℕ → ℕ
digit_count b n = count_within n b n

-- each byte is as a digit below the base is written
unfoldable pub as_written : ℕ → List ℕ → Bool
as_written b [] = true
as_written b (x ∷ xs) = (ltb (digit_of x) b && eqb (glyph (digit_of x)) x) && as_written b xs
