-- `bus::cell_rules::read_cells` meets its contract: each arm is the rule of its byte, and past a register's bytes nothing shows. Assumes nothing.
use Rattle.model.specs.Bus.{read_of}
use native.Mathlib.Omega.{arith}
use Rattle.registers.specs.Registers.{in_status, in_enable}
use Rattle.bus.proofs.Laws.{cell-in-status, cell-past-status, past-four, past_two, event-read-past, control-read-past}
use Rattle.bus.proofs.cell_rules.read_cells.Goals as goal

pub returns-in-SmiCmd : goal.returns-in-SmiCmd
unfolding read_of
returns-in-SmiCmd c = simp c.in-SmiCmd.is

pub returns-in-0 : goal.returns-in-0
unfolding read_of in_status in_enable
returns-in-0 c = simp (c.read_low.ensures, c.enable_register-en.ensures, c.status_register-sts.ensures, c.in-Pm1Evt.is, c.in-0.is)

pub returns-in-1 : goal.returns-in-1
unfolding read_of in_status in_enable
returns-in-1 c = simp (c.read_high.ensures, c.enable_register-en.ensures, c.status_register-sts.ensures, c.in-Pm1Evt.is, c.in-1.is)

pub returns-in-2 : goal.returns-in-2
unfolding read_of in_status in_enable
returns-in-2 c = simp (c.read_low-in-2.ensures, c.enable_register-en.ensures, c.status_register-sts.ensures, c.in-Pm1Evt.is, c.in-2.is)

pub returns-in-3 : goal.returns-in-3
unfolding read_of in_status in_enable
returns-in-3 c = simp (c.read_high-in-3.ensures, c.enable_register-en.ensures, c.status_register-sts.ensures, c.in-Pm1Evt.is, c.in-3.is)

pub returns-in_default : goal.returns-in_default
returns-in_default c = let q : _ = c.in_default.in_default-own.rest in event-read-past _ _ _ _ _ c.in-Pm1Evt.is (past-four _ q.0.0.0.1 q.0.0.1 q.0.1 q.1)

pub returns-in-0-offset : goal.returns-in-0-offset
unfolding read_of
returns-in-0-offset c = simp (c.read_low-in-0-offset.ensures, c.control_register-cnt.ensures, c.scalars.ensures, c.in-Pm1Cnt.is, c.in-0-offset.is)

pub returns-in-1-offset : goal.returns-in-1-offset
unfolding read_of
returns-in-1-offset c = simp (c.read_high-in-1-offset.ensures, c.control_register-cnt.ensures, c.scalars.ensures, c.in-Pm1Cnt.is, c.in-1-offset.is)

pub returns-in_default-offset : goal.returns-in_default-offset
returns-in_default-offset c = let q : _ = c.in_default-offset.in_default-offset-own.rest in control-read-past _ _ _ _ _ c.in-Pm1Cnt.is (past_two _ q.0.1 q.1)

pub returns-in-Pm2Cnt : goal.returns-in-Pm2Cnt
unfolding read_of
returns-in-Pm2Cnt c = simp (c.pick.ensures, c.in-Pm2Cnt.is)

pub returns-in-PmTmr : goal.returns-in-PmTmr
unfolding read_of
returns-in-PmTmr c = simp (c.timer_register.ensures, c.in-PmTmr.is)

pub returns-in-0-to-255 : goal.returns-in-0-to-255
unfolding read_of
returns-in-0-to-255 c = simp (c.gpe_byte.ensures, cell-in-status _ _ _ _ c.gpe_number-number.ensures (omega arith), c.in-Gpe.is)

pub returns-in_default-number : goal.returns-in_default-number
unfolding read_of
returns-in_default-number c = simp (c.gpe_byte-in_default-number.ensures, c.past_status.ensures, cell-past-status _ _ _ _ c.gpe_number-number.ensures (omega arith), c.in-Gpe.is)

pub returns-in-Nowhere : goal.returns-in-Nowhere
unfolding read_of
returns-in-Nowhere c = simp c.in-Nowhere.is
