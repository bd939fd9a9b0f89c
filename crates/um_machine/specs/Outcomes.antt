-- What an act says of the outcome of its step.
use Rattle.std.specs.Prelude.{ℕ, Bool, true, false, List, [], Option, None}
use Rattle.um_base.specs.declared.act.Act.{Act}
use Rattle.um_base.specs.declared.act.Answer.{Answer}
use Rattle.um_base.specs.declared.act.Found.{Found}
use Rattle.um_base.specs.declared.act.Given.{Given}
use Rattle.um_base.specs.declared.act.Leftover.{Leftover}
use Rattle.um_base.specs.declared.act.SetSaid.{SetSaid}
use Rattle.um_base.specs.declared.names.Addr.{Addr}
use Rattle.um_base.specs.declared.names.Errno.{Errno}
use Rattle.um_base.specs.declared.names.Reply.{Reply}
use Rattle.um_base.specs.declared.names.ThreadIx.{ThreadIx}

abbrev pub verdict_in : Act → Option Errno
verdict_in (Act.Check addr kind want verdict) = verdict
verdict_in _ = None

abbrev pub value_in : Act → ℕ
value_in (Act.Load addr n value) = value
value_in _ = 0

abbrev pub is_fault : Act → Bool
is_fault (Act.Fault access addr n) = true
is_fault _ = false

abbrev pub fits_in : Act → Bool
fits_in (Act.Probe addr n fits) = fits
fits_in (Act.CopyIn addr n fits) = fits
fits_in (Act.CopyOut addr n fits) = fits
fits_in (Act.Buffer n fits) = fits
fits_in _ = false

abbrev pub found_in : Act → Found
found_in (Act.CopyStr addr found) = found
found_in _ = Found.Unreadable

abbrev pub answer_in : Act → Answer
answer_in (Act.Work addr answer woken) = answer
answer_in (Act.Join who answer) = answer
answer_in (Act.FutexWait addr value answer) = answer
answer_in (Act.FutexWake addr answer woken) = answer
answer_in _ = Answer.Wait

abbrev pub set_in : Act → SetSaid
set_in (Act.SetInit addr set) = set
set_in _ = SetSaid.Done

abbrev pub reserved_in : Act → Option Addr
reserved_in (Act.Reserve kind addr) = addr
reserved_in _ = None

abbrev pub domain_reply_in : Act → Reply
domain_reply_in (Act.DomInit d reply) = reply
domain_reply_in (Act.DomAdd d range attr reply) = reply
domain_reply_in (Act.DomRemove d range attr reply) = reply
domain_reply_in (Act.DomMove d who reply) = reply
domain_reply_in _ = Reply.Void

abbrev pub reply_in : Act → Reply
reply_in (Act.Answered reply) = reply
reply_in _ = Reply.Void

abbrev pub woken_in : Act → List (ThreadIx × Reply)
woken_in (Act.Work addr answer woken) = woken
woken_in (Act.Expire addr woken) = woken
woken_in (Act.Left who woken) = woken
woken_in (Act.FutexWake addr answer woken) = woken
woken_in _ = []

-- whether a thread that lives got or lost its flag
abbrev pub is_done_in : Act → Bool
is_done_in (Act.Abort who done) = done
is_done_in (Act.Suspend who done) = done
is_done_in (Act.Continue who done) = done
is_done_in _ = false

abbrev pub deadline_in : Act → ℕ
deadline_in (Act.Arm deadline) = deadline
deadline_in _ = 0

abbrev pub now_in : Act → ℕ
now_in (Act.Tick now) = now
now_in _ = 0

abbrev pub given_in : Act → Given
given_in (Act.Grant who addr given) = given
given_in (Act.Own who given) = given
given_in (Act.Publish addr given) = given
given_in _ = Given.Done

abbrev pub leftover_in : Act → Leftover
leftover_in (Act.DropPair who addr left) = left
leftover_in _ = Leftover.NoPair
