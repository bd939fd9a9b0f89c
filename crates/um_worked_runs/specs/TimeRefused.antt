-- What the machine refuses of time, in the runs of a take that times out, of a timer, of an old deadline and of a deadline that is left behind.
use Rattle.std.specs.Prelude.{◌≡◌, ◌∷◌, [], true, false, None, take, refl}
use Rattle.um_base.specs.declared.act.Act.{Act}
use Rattle.um_base.specs.declared.names.Reply.TheVariants as Reply
use Rattle.um_machine.specs.declared.pending.Pending.TheVariants as Pending
use Rattle.um_machine.specs.State.{State}
use Rattle.um_machine.specs.Table.{act_of}
use Rattle.um_machine.specs.Run.{blank}
use Rattle.um_worked_runs.specs.Evaluate.{may_choose, offered, run_of, ticks}
use Rattle.um_worked_runs.specs.TakeTimesOut as take_row
use Rattle.um_worked_runs.specs.TimerRunsOut as timer_row
use Rattle.um_worked_runs.specs.TimerStartedAgain as again_row
use Rattle.um_worked_runs.specs.Words.{at, thread}

-- a thread begins its take, has armed its deadline, waits, and time has come there
abbrev pub armed : State
armed = (run_of take_row.image (take 3 take_row.choices)).last

abbrev pub waiting : State
waiting = (run_of take_row.image (take 4 take_row.choices)).last

abbrev pub late : State
late = (run_of take_row.image (take 5 take_row.choices)).last

-- the deadline is now and the number of ticks, no other one
pub arms_so : act_of (run_of take_row.image (take 2 take_row.choices)).last 0 0 (Pending.Arm 5) ≡ Act.Arm 5
unfolding blank
arms_so = refl

-- no timeout before the thread waits, or before its deadline
pub not_before_it_waits : may_choose armed 0 4 (Pending.TimeOut (thread 0)) ≡ false
unfolding blank
not_before_it_waits = refl

pub not_early : may_choose waiting 0 2 (Pending.TimeOut (thread 0)) ≡ false
unfolding blank
not_early = refl

pub in_time : may_choose late 0 2 (Pending.TimeOut (thread 0)) ≡ true
unfolding blank
in_time = refl

-- a timeout is of the cell in which the thread waits, and of a thread that waits
pub of_no_other_cell : may_choose late 0 128 (Pending.TimeOut (thread 0)) ≡ false
unfolding blank
of_no_other_cell = refl

pub of_no_other_thread : may_choose late 0 2 (Pending.TimeOut (thread 1)) ≡ false
unfolding blank
of_no_other_thread = refl

-- time goes on to the least deadline, and no further than the last one
pub goes_to : act_of waiting 0 0 Pending.Tick ≡ Act.Tick 5
unfolding blank
goes_to = refl

pub goes_no_further : may_choose late 0 0 Pending.Tick ≡ false
unfolding blank
goes_no_further = refl

-- a thread that waits doesn't resume before it is woken
pub not_yet_woken : may_choose waiting 0 0 Pending.Resume ≡ false
unfolding blank
not_yet_woken = refl

-- a thread that was never started tends to nothing
pub nobody_ticks : offered waiting 7 ticks ≡ None
unfolding blank
nobody_ticks = refl

-- a timer doesn't run out before its deadline, and says whom it wakes
abbrev pub syncing : State
syncing = (run_of timer_row.image (take 7 timer_row.choices)).last

pub runs_still : may_choose syncing 0 2 Pending.Expire ≡ false
unfolding blank
runs_still = refl

pub wakes_so : act_of (run_of timer_row.image (take 8 timer_row.choices)).last 0 2 Pending.Expire ≡ Act.Expire (at 0x40000080) ((thread 0, Reply.Num 1) ∷ [])
unfolding blank
wakes_so = refl

-- a timer that was started again doesn't run out at its first deadline, which time reaches
pub not_at_its_first : may_choose (run_of again_row.image (take 23 again_row.choices)).last 0 2 Pending.Expire ≡ false
unfolding blank
not_at_its_first = refl
