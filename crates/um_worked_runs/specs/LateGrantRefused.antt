-- What the machine refuses in the run of a late grant, between the drop of the last permission and the reply of the thread that dropped it.
use Rattle.std.specs.Prelude.{◌≡◌, true, false, Some, take, refl}
use Rattle.um_base.specs.declared.names.Errno.TheVariants as Errno
use Rattle.um_base.specs.declared.names.Kind.TheVariants as Kind
use Rattle.um_base.specs.declared.names.Want.TheVariants as Want
use Rattle.um_base.specs.declared.act.Act.{Act}
use Rattle.um_base.specs.declared.act.Given.TheVariants as Given
use Rattle.um_machine.specs.declared.pending.Pending.TheVariants as Pending
use Rattle.um_machine.specs.State.{State}
use Rattle.um_machine.specs.Objects.{verdict}
use Rattle.um_machine.specs.Table.{act_of}
use Rattle.um_machine.specs.Run.{blank}
use Rattle.um_worked_runs.specs.Evaluate.{may_choose, run_of}
use Rattle.um_worked_runs.specs.LateGrant.{image, choices}
use Rattle.um_worked_runs.specs.Words.{at, thread}

-- the last permission is dropped
abbrev pub dropped : State
dropped = (run_of image (take 11 choices)).last

-- the grant has answered, and the thread that dropped the permission hasn't
abbrev pub answered : State
answered = (run_of image (take 13 choices)).last

-- both have answered
abbrev pub let_go : State
let_go = (run_of image (take 14 choices)).last

pub grant_says : act_of dropped 0 0 (Pending.Grant (thread 1) (at 0x48000100)) ≡ Act.Grant (thread 1) (at 0x48000100) Given.Gone
unfolding blank
grant_says = refl

pub check_says : verdict dropped 1 0x48000100 (Some Kind.Sem) Want.Any ≡ Some Errno.EBADF
unfolding blank
check_says = refl

pub held : may_choose answered 2 100 Pending.Recycle ≡ false
unfolding blank
held = refl

pub free : may_choose let_go 2 100 Pending.Recycle ≡ true
unfolding blank
free = refl
