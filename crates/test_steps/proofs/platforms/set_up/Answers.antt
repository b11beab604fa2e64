-- The part that is lent is as long as asked.
use Rattle.std.proofs.Common.{sym, arith, length-take-le}
use Rattle.test_steps.proofs.platforms.set_up.Goals as goal

pub slice_bounds-set_up-end : goal.slice_bounds-set_up-end
slice_bounds-set_up-end c = sym (length-take-le 116 c.summing_to-t.result (omega arith))
