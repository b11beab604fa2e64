use Rattle.std.proofs.Common.{◌≡◌, ℕ, ◌+◌, ◌<◌, List, [], ◌∷◌, ◌++◌, length, get_or, take, add-one, arith, take-suc}
use Rattle.test_tables.specs.Tables.{sum}
use Rattle.test_tables.proofs.tables.sum_all.Goals as goal

sum-append : (xs ys : List ℕ) → sum (xs ++ ys) ≡ sum xs + sum ys
sum-append [] ys = omega arith
sum-append (x ∷ xs) ys = let e = sum-append xs ys in omega arith

-- one byte more
sum_more : (xs : List ℕ) (i : ℕ) → i < length xs → sum (take (i + 1) xs) ≡ sum (take i xs) + get_or xs i 0
sum_more xs i h = rw (add-one, take-suc xs i 0 h, sum-append) (omega arith)

pub loop-byte-preserved : goal.loop-byte-preserved
loop-byte-preserved c =
    let more = sum_more c.args.bytes.now c.loop-byte.byte-index (omega arith) in
    omega (arith, more, c.loop-byte.invariant)
