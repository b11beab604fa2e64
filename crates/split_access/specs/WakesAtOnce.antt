-- Sleep: a machine does not go to sleep with a bit pending that would wake it; of a set-up and a step.
use Rattle.std.specs.Prelude.{true, false, ◌≡◌}
use Rattle.machine.specs.Lines.{walked}
use Rattle.machine.specs.Sleep.{is_sleeping, pending}
use Rattle.machine.specs.declared.Machine.{Machine}
use Rattle.model.specs.declared.Step.{Step}
use Rattle.split_access.specs.Start.{SettingUp, Stepping, next_by, InS0, AfterSteps}

-- "If on completing S1 to S4 one of the enabled bits 8, 9, 10 (bit 10 in S4 only with flag 7) or an enabled GPE is already set, the machine wakes in the
-- same step.": a step that takes the machine from S0 to one of S1 to S4, and leaves it there, found no such bit set;
-- for a GPE all general event bytes are looked at
abbrev pub WakesAtOnceFrom : Stepping → Machine → Type 0
WakesAtOnceFrom stepped m =
    (x : Step) → InS0 m
    → is_sleeping (next_by stepped m x).state ≡ true
    → pending (walked m) (next_by stepped m x).state ≡ false

-- whatever steps came before
abbrev pub WakesAtOnce : SettingUp → Stepping → Type 0
WakesAtOnce setting stepped = AfterSteps setting stepped (WakesAtOnceFrom stepped)
