use Rattle.session.specs.Session.{no_end, after_platform_line, run_end, session_end}
use Rattle.session.proofs.Laws.{started, not-started}
use Rattle.session.proofs.end.Goals as goal

pub returns-in-Ok : goal.returns-in-Ok
unfolding session_end
returns-in-Ok c =
    let script : _ = c.args.source.now in
    rw (c.run_end.ensures, c.next_line.ensures)
    (started c.args.table.now script (λ m. run_end m script (after_platform_line script) 2) no_end c.in-Ok.m c.in-Ok.ensures)

pub returns-in-Err : goal.returns-in-Err
unfolding session_end
returns-in-Err c =
    let script : _ = c.args.source.now in
    rw c.no_end.ensures
    (not-started c.args.table.now script (λ m. run_end m script (after_platform_line script) 2) no_end c.in-Err.why c.in-Err.ensures)
