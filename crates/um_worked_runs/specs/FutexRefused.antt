-- What the machine refuses of futexes.
use Rattle.std.specs.Prelude.{◌≡◌, ◌∷◌, [], true, false, take, refl}
use Rattle.um_base.specs.declared.act.Act.{Act}
use Rattle.um_base.specs.declared.act.Answer.TheVariants as Answer
use Rattle.um_base.specs.declared.names.Errno.TheVariants as Errno
use Rattle.um_base.specs.declared.names.Reply.TheVariants as Reply
use Rattle.um_base.specs.declared.names.Timeout.TheVariants as Timeout
use Rattle.um_machine.specs.declared.pending.Pending.TheVariants as Pending
use Rattle.um_machine.specs.State.{State}
use Rattle.um_machine.specs.Table.{act_of}
use Rattle.um_machine.specs.Run.{blank}
use Rattle.um_worked_runs.specs.Evaluate.{may_choose, run_of}
use Rattle.um_worked_runs.specs.FutexWakeOne as one_row
use Rattle.um_worked_runs.specs.FutexWakeAll as all_row
use Rattle.um_worked_runs.specs.Words.{at, thread}

-- a store has changed the number
abbrev pub stored : State
stored = (run_of one_row.image (take 4 one_row.choices)).last

-- no wait is for another number than that in memory
pub another_number : act_of stored 0 0 (Pending.FutexWait (at 0x20000000) 0 Timeout.Forever) ≡ Act.FutexWait (at 0x20000000) 0 (Answer.Now (Reply.Fail Errno.EAGAIN))
unfolding blank
another_number = refl

pub that_number : act_of stored 0 0 (Pending.FutexWait (at 0x20000000) 7 Timeout.Forever) ≡ Act.FutexWait (at 0x20000000) 7 Answer.Wait
unfolding blank
that_number = refl

-- the rights come first, then the address
pub no_right : act_of stored 0 0 (Pending.FutexWait (at 0x30000000) 0 Timeout.Forever) ≡ Act.FutexWait (at 0x30000000) 0 (Answer.Now (Reply.Fail Errno.EACCES))
unfolding blank
no_right = refl

pub no_futex : act_of stored 0 0 (Pending.FutexWake (at 0x20000004) true) ≡ Act.FutexWake (at 0x20000004) (Answer.Now (Reply.Fail Errno.EINVAL)) []
unfolding blank
no_futex = refl

-- a store wakes nobody, and who waits doesn't resume
pub sleeps_on : may_choose stored 1 0 Pending.Resume ≡ false
unfolding blank
sleeps_on = refl

-- one wake wakes the first by priority, and not who waits on another address
abbrev pub three : State
three = (run_of all_row.image (take 7 all_row.choices)).last

pub first_one : act_of three 3 0 (Pending.FutexWake (at 0x20000000) false) ≡ Act.FutexWake (at 0x20000000) (Answer.Now (Reply.Num 1)) ((thread 1, Reply.Num 0) ∷ [])
unfolding blank
first_one = refl

pub both_of_them : act_of three 3 0 (Pending.FutexWake (at 0x20000000) true) ≡ Act.FutexWake (at 0x20000000) (Answer.Now (Reply.Num 2)) ((thread 1, Reply.Num 0) ∷ (thread 0, Reply.Num 0) ∷ [])
unfolding blank
both_of_them = refl
