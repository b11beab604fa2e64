use mathlib.Core.Path.{◌≡◌, refl, sym, ap, ◌∙◌}
use Rattle.std.proofs.Common.{Some}
use Prim.Native.Nat.{ℕ, ◌+◌, ◌^◌, ◌≤◌, ◌<◌}
use native.Mathlib.Omega.{arith}
use borrow.Author.Tests.{lt-ltb}
use lib.ListN.{length, get_or}
use Rattle.text.specs.Numbers.{digit_of}
use Rattle.text.proofs.Digits.{digit_shown, no_digit, number-in-digits, number-in-none}
use Rattle.text.proofs.Turns.{all-digits-turn, all-digits-end, value-turn, value-end, value_room, digit_room}
use Rattle.text.proofs.numbers.hex_value.Goals as goal

pub returns-in_err-digit : goal.returns-in_err-digit
returns-in_err-digit c =
    let text : _ = c.args.text.now in
    let h : c.loop-x.x-index < length text = omega arith in
    let turn = rw (no_digit (get_or text c.loop-x.x-index 0) (sym (c.in_err-digit.ensures))) at (all-digits-turn 16 text c.loop-x.x-index h) in
    c.from_residual.ensures ∙ sym (number-in-none 16 16 text (sym c.loop-x.invariant.digits ∙ turn))

pub overflow_mul-n : goal.overflow_mul-n
overflow_mul-n c =
    let digit = digit_shown _ c.in_ok-digit.digit (sym (c.in_ok-digit.ensures)) in
    let room = digit_room 16 c.loop-x.n c.in_ok-digit.digit c.loop-x.x-index 16 (omega arith) c.loop-x.invariant.room digit.1 (omega arith) in
    omega arith

pub overflow_add-n : goal.overflow_add-n
overflow_add-n c =
    let digit = digit_shown _ c.in_ok-digit.digit (sym (c.in_ok-digit.ensures)) in
    let room = digit_room 16 c.loop-x.n c.in_ok-digit.digit c.loop-x.x-index 16 (omega arith) c.loop-x.invariant.room digit.1 (omega arith) in
    omega arith

pub loop-x-preserved : goal.loop-x-preserved
loop-x-preserved c =
    let text : _ = c.args.text.now in
    let h : c.loop-x.x-index < length text = omega arith in
    let digit = digit_shown (get_or text c.loop-x.x-index 0) c.in_ok-digit.digit (sym (c.in_ok-digit.ensures)) in
    let shown : digit_of (get_or text c.loop-x.x-index 0) ≡ c.from.result = digit.0 ∙ sym c.from.ensures in
    let room = value_room 16 c.loop-x.n c.in_ok-digit.digit c.loop-x.x-index c.loop-x.invariant.room digit.1 in
    record {
      digits = rw (← c.loop-x.invariant.digits, all-digits-turn 16 text c.loop-x.x-index h, digit.0, lt-ltb c.in_ok-digit.digit 16 digit.1) refl;
      value = rw (← c.loop-x.invariant.value, value-turn 16 c.loop-x.n text c.loop-x.x-index h, shown) refl;
      room = rw c.from.ensures room;
    }

pub returns : goal.returns
returns c =
    let text : _ = c.args.text.now in
    let h : length text ≤ c.loop-x.x-index = omega arith in
    let all = sym c.loop-x.invariant.digits ∙ all-digits-end 16 text c.loop-x.x-index h in
    let value = sym (value-end 16 c.loop-x.n text c.loop-x.x-index h) ∙ c.loop-x.invariant.value in
    let some : 1 ≤ length text = grind arith in
    ap (λ (n : ℕ). Some n) value ∙ sym (number-in-digits 16 16 text some (omega arith) all)
