-- `bus::cell_rules::write_cells` meets its contract: each arm is the rule of its register's byte. Assumes nothing.
use Rattle.bus.proofs.Laws.{machine-event, machine-control, cell-in-status, cell-past-status, at_register, smi-refuses, smi-takes, event-takes, control-takes, control-first, control-second, control-none, pm2-takes, timer-refuses, status-takes, enable-takes, nowhere-refuses}
use native.Mathlib.Omega.{arith}
use Rattle.bus.proofs.cell_rules.write_cells.Goals as goal
use Rattle.bus.proofs.cell_rules.write_cells.Goals.{in-0, in-1, in_default}

pub returns-then-m : goal.returns-then-m
returns-then-m c =
    at_register c.args.m c.args.width c.args.offset c.args.written _ _ _ c.in-SmiCmd.is c.requires
    (smi-refuses c.args.m c.args.width c.args.offset c.args.written _ c.if-m.true (simp (c.unmoved.ensures, c.scalars.ensures)))

pub returns-else-m : goal.returns-else-m
returns-else-m c =
    at_register c.args.m c.args.width c.args.offset c.args.written _ _ _ c.in-SmiCmd.is c.requires
    (smi-takes c.args.m c.args.width c.args.offset c.args.written _ c.if-m.false (simp (c.done.ensures, c.latch.ensures, c.scalars-in-SmiCmd.ensures)))

pub returns-in-Pm1Evt : goal.returns-in-Pm1Evt
returns-in-Pm1Evt c =
    at_register c.args.m c.args.width c.args.offset c.args.written _ _ _ c.in-Pm1Evt.is c.requires
    (event-takes c.args.m c.args.width c.args.offset c.args.written _ _ (simp (c.done-in-Pm1Evt.ensures, machine-event c.args.m _ _ _ _ _ c.scalars-in-Pm1Evt.ensures _ c.event_written.ensures)))

pub returns-after-offset : goal.returns-after-offset
returns-after-offset c =
    let wrote : _ = machine-control _ _ _ _ _ _ c.scalars-in-Pm1Cnt.ensures _ c.write.ensures in
    at_register c.args.m c.args.width c.args.offset c.args.written _ _ _ c.in-Pm1Cnt.is c.requires
    (control-takes c.args.m c.args.width c.args.offset c.args.written _ _
    (elim c.match-offset.branch [
      | in-0 w ↦ control-first _ _ _ _ _ _ _ wrote (omega arith) w.bytes-is
      | in-1 w ↦ control-second _ _ _ _ _ _ _ wrote (omega arith) w.bytes-is
      | in_default w ↦ control-none _ _ _ _ _ _ _ wrote (omega arith) w.bytes-is
    ]))

pub returns-in-Pm2Cnt : goal.returns-in-Pm2Cnt
returns-in-Pm2Cnt c =
    at_register c.args.m c.args.width c.args.offset c.args.written _ _ _ c.in-Pm2Cnt.is c.requires
    (pm2-takes c.args.m c.args.width c.args.offset c.args.written _ (simp (c.done-in-Pm2Cnt.ensures, c.with_arb_dis.ensures, c.scalars-in-Pm2Cnt.ensures)))

pub returns-in-PmTmr : goal.returns-in-PmTmr
returns-in-PmTmr c =
    at_register c.args.m c.args.width c.args.offset c.args.written _ _ _ c.in-PmTmr.is c.requires
    (timer-refuses c.args.m c.args.width c.args.offset c.args.written _ (simp (c.unmoved-in-PmTmr.ensures, c.scalars-in-PmTmr.ensures)))

pub returns-in-0-to-255 : goal.returns-in-0-to-255
returns-in-0-to-255 c =
    at_register c.args.m c.args.width c.args.offset c.args.written _ _ _ c.in-Gpe.is c.requires
    (status-takes c.args.m c.args.width c.args.offset c.args.written _ _ (cell-in-status _ _ _ _ c.gpe_number-number.ensures (omega arith)) (simp (c.stores.ensures, c.sts_byte.ensures, c.scalars-in-0-to-255.ensures, c.gpe_byte-sts.ensures)))

pub returns-in_default-number : goal.returns-in_default-number
returns-in_default-number c =
    at_register c.args.m c.args.width c.args.offset c.args.written _ _ _ c.in-Gpe.is c.requires
    (enable-takes c.args.m c.args.width c.args.offset c.args.written _ _ (cell-past-status _ _ _ _ c.gpe_number-number.ensures (omega arith)) (simp (c.stores-in_default-number.ensures, c.en_byte.ensures, c.scalars-in_default-number.ensures)))

pub returns-in-Nowhere : goal.returns-in-Nowhere
returns-in-Nowhere c =
    at_register c.args.m c.args.width c.args.offset c.args.written _ _ _ c.in-Nowhere.is c.requires
    (nowhere-refuses c.args.m c.args.width c.args.offset c.args.written _ (simp (c.unmoved-in-Nowhere.ensures, c.scalars-in-Nowhere.ensures)))
