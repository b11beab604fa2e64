use mathlib.Core.Path.{◌∙◌, ap}
use lib.ListN.{length}
use Rattle.std.specs.Prelude.{ℕ, Err}
use Rattle.std.proofs.lemmas.Result.{err_from_is_err_and}
use Rattle.session.specs.declared.SessionRefusal.TheVariants as refusal
use Rattle.session.specs.Session.{after_platform_line, run_answer, run_buffer, answer_of, buffer_after}
use Rattle.session.proofs.Laws.{started, not-started}
use Rattle.session.proofs.session.Goals as goal

pub returns-in_err-m : goal.returns-in_err-m
unfolding answer_of buffer_after
returns-in_err-m c =
    let script : _ = c.args.source.now in
    let l : _ = c.args.buf.now in
    let p = err_from_is_err_and c.from_residual.result c.from_residual.ensures.1 in
    rw (p.1, p.2) (
      not-started c.args.table.now script (λ m. run_answer m script (after_platform_line script) 2 (length l)) (λ why. Err (refusal.NoEnd why)) _ c.in_err-m.ensures,
      not-started c.args.table.now script (λ m. run_buffer m script (after_platform_line script) 2 l) (λ why. l) _ c.in_err-m.ensures,
    )

pub returns : goal.returns
unfolding answer_of buffer_after
returns c =
    let script : _ = c.args.source.now in
    let l : _ = c.args.buf.now in (
      c.run.ensures.0
          ∙ ap (λ (o : ℕ). run_answer c.in_ok-m.m script o 2 (length l)) c.next_line.ensures
          ∙ started c.args.table.now script (λ m. run_answer m script (after_platform_line script) 2 (length l)) (λ why. Err (refusal.NoEnd why)) c.in_ok-m.m c.in_ok-m.ensures,
      c.run.ensures.1
          ∙ ap (λ (o : ℕ). run_buffer c.in_ok-m.m script o 2 l) c.next_line.ensures
          ∙ started c.args.table.now script (λ m. run_buffer m script (after_platform_line script) 2 l) (λ why. l) c.in_ok-m.m c.in_ok-m.ensures,
    )
