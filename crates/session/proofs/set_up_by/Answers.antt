use Rattle.session.proofs.set_up_by.Goals as goal

pub returns : goal.returns
returns c = simp (c.set_up.ensures, c.host.ensures, c.line_from-line.ensures)
