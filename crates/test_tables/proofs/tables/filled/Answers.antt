use Rattle.std.proofs.Common.{◌≡◌, ℕ, ◌+◌, ◌<◌, ◌≤◌, List, [], length, get_or, drop, sym, ap, ◌∙◌, add-one, arith, drop_of_length-le, drop-cons}
use Rattle.test_tables.specs.Tables.{field_set, filled_of}
use Rattle.test_tables.proofs.tables.filled.Goals as goal

filled-turn : (t : List ℕ) (fs : List (List ℕ)) (i : ℕ) → i < length fs
    → filled_of t (drop i fs) ≡ filled_of (field_set t (get_or (get_or fs i []) 0 0) (get_or (get_or fs i []) 1 0)) (drop (i + 1) fs)
unfolding filled_of
filled-turn t fs i h = rw (drop-cons fs i [] h, add-one)

filled-end : (t : List ℕ) (fs : List (List ℕ)) (i : ℕ) → length fs ≤ i → filled_of t (drop i fs) ≡ t
unfolding filled_of
filled-end t fs i h = rw (drop_of_length-le fs h)

pub loop-field-preserved : goal.loop-field-preserved
loop-field-preserved c =
    let fs : List (List ℕ) = c.args.fields.now in
    let i = c.loop-field.field-index in
    ap (λ (t : List ℕ). filled_of t (drop (i + 1) fs)) c.put-next.ensures ∙
    sym (filled-turn c.loop-field.t fs i (omega arith)) ∙
    c.loop-field.invariant

pub returns : goal.returns
returns c =
    sym (filled-end c.loop-field.t c.args.fields.now c.loop-field.field-index (omega arith)) ∙ c.loop-field.invariant
