-- What the machine refuses of aborts, joins and suspensions.
use Rattle.std.specs.Prelude.{◌≡◌, [], true, false, Some, None, take, refl}
use Rattle.um_base.specs.declared.act.Act.{Act}
use Rattle.um_base.specs.declared.act.Answer.TheVariants as Answer
use Rattle.um_base.specs.declared.names.Errno.TheVariants as Errno
use Rattle.um_base.specs.declared.names.Reply.TheVariants as Reply
use Rattle.um_base.specs.declared.names.Timeout.TheVariants as Timeout
use Rattle.um_machine.specs.declared.pending.Pending.TheVariants as Pending
use Rattle.um_machine.specs.State.{State}
use Rattle.um_machine.specs.Table.{act_of}
use Rattle.um_machine.specs.Run.{blank}
use Rattle.um_worked_runs.specs.Evaluate.{may_choose, offered, run_of, begins, stops, goes, leaves}
use Rattle.um_worked_runs.specs.AbortAWaiter as waiter_row
use Rattle.um_worked_runs.specs.AbortAtRest as rest_row
use Rattle.um_worked_runs.specs.SuspendAndResume as suspend_row
use Rattle.um_worked_runs.specs.JoinTheEnd as join_row
use Rattle.um_worked_runs.specs.Words.{at, thread}

-- a thread waits, and is aborted, and is cut
abbrev pub waits : State
waits = (run_of waiter_row.image (take 3 waiter_row.choices)).last

abbrev pub aborted : State
aborted = (run_of waiter_row.image (take 6 waiter_row.choices)).last

abbrev pub cut : State
cut = (run_of waiter_row.image (take 7 waiter_row.choices)).last

-- who isn't aborted isn't cut
pub not_aborted : may_choose waits 0 4 (Pending.Cut (thread 1)) ≡ false
unfolding blank
not_aborted = refl

pub may_be_cut : may_choose aborted 0 4 (Pending.Cut (thread 1)) ≡ true
unfolding blank
may_be_cut = refl

-- a waiting thread isn't killed before it is cut, and doesn't resume after it
pub not_before_the_cut : offered aborted 1 stops ≡ None
unfolding blank
not_before_the_cut = refl

pub killed_behind : offered cut 1 goes ≡ Some (Pending.Killed, [])
unfolding blank
killed_behind = refl

-- it is cut once
pub cut_once : may_choose cut 0 4 (Pending.Cut (thread 1)) ≡ false
unfolding blank
cut_once = refl

-- an aborted thread at rest begins nothing, and neither does it exit
abbrev pub rests : State
rests = (run_of rest_row.image (take 4 rest_row.choices)).last

pub begins_nothing : offered rests 1 begins ≡ None
unfolding blank
begins_nothing = refl

pub ends_so : offered rests 1 stops ≡ Some (Pending.Killed, [])
unfolding blank
ends_so = refl

-- who isn't aborted isn't killed
pub not_killed : offered rests 0 stops ≡ None
unfolding blank
not_killed = refl

-- a suspended thread begins nothing
pub stays : offered (run_of suspend_row.image (take 4 suspend_row.choices)).last 1 begins ≡ None
unfolding blank
stays = refl

-- a join of a thread that lives doesn't say 0, and one with a deadline doesn't say EBUSY
abbrev pub joining : State
joining = (run_of join_row.image (take 2 join_row.choices)).last

pub not_over : may_choose joining 0 1 (Pending.Join (thread 1) Timeout.Forever) ≡ false
unfolding blank
not_over = refl

pub waits_for_it : act_of joining 0 0 (Pending.Join (thread 1) Timeout.Forever) ≡ Act.Join (thread 1) Answer.Wait
unfolding blank
waits_for_it = refl

pub busy : act_of joining 0 0 (Pending.Join (thread 1) Timeout.NoWait) ≡ Act.Join (thread 1) (Answer.Now (Reply.Fail Errno.EBUSY))
unfolding blank
busy = refl

-- a thread's end clears its object only after it told those who wait for it
abbrev pub ending : State
ending = (run_of join_row.image (take 7 join_row.choices)).last

pub not_yet : may_choose ending 1 0 (Pending.ClearInit (at 0x40000080)) ≡ false
unfolding blank
not_yet = refl

pub tells : may_choose ending 1 0 Pending.Left ≡ true
unfolding blank
tells = refl

-- who isn't in its end tells nobody
pub tells_nobody : offered ending 0 leaves ≡ None
unfolding blank
tells_nobody = refl
