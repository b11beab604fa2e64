use Rattle.events.specs.Kinds.{kind_of}
use Rattle.events.proofs.kind_of.Goals as goal

pub returns-in-Press : goal.returns-in-Press
unfolding kind_of
returns-in-Press c = simp c.in-Press.is

pub returns-in-Release : goal.returns-in-Release
unfolding kind_of
returns-in-Release c = simp c.in-Release.is

pub returns-in-SleepPress : goal.returns-in-SleepPress
unfolding kind_of
returns-in-SleepPress c = simp (c.status_bit.ensures, c.in-SleepPress.is)

pub returns-in-Alarm : goal.returns-in-Alarm
unfolding kind_of
returns-in-Alarm c = simp (c.status_bit-in-Alarm.ensures, c.in-Alarm.is)

pub returns-in-PinActive : goal.returns-in-PinActive
unfolding kind_of
returns-in-PinActive c = simp c.in-PinActive.is

pub returns-in-PinInactive : goal.returns-in-PinInactive
unfolding kind_of
returns-in-PinInactive c = simp c.in-PinInactive.is

pub returns-in-BusMaster : goal.returns-in-BusMaster
unfolding kind_of
returns-in-BusMaster c = simp (c.status_bit-in-BusMaster.ensures, c.in-BusMaster.is)

pub returns-in-Unlock : goal.returns-in-Unlock
unfolding kind_of
returns-in-Unlock c = simp (c.status_bit-in-Unlock.ensures, c.in-Unlock.is)

pub returns-in-General : goal.returns-in-General
unfolding kind_of
returns-in-General c = simp c.in-General.is

pub returns-in-Ticks : goal.returns-in-Ticks
unfolding kind_of
returns-in-Ticks c = simp c.in-Ticks.is
