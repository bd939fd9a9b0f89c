-- The words that traces and dumps have besides those of the vocabulary.
use Rattle.std.specs.Prelude.{ℕ, Bool, true, false, List, codes, Option, Some, None}
use Rattle.um_base.specs.declared.act.Cause.{Cause}
use Rattle.um_base.specs.declared.act.Given.{Given}
use Rattle.um_base.specs.declared.act.Leftover.{Leftover}
use Rattle.um_base.specs.declared.act.SetSaid.{SetSaid}
use Rattle.um_base.specs.declared.names.Errno.{Errno}
use Rattle.um_base.specs.declared.names.Kind.{Kind}
use Rattle.um_vocabulary.specs.Words.{errno_word, kind_word}

-- what a check says
unfoldable pub verdict_word : Option Errno → List ℕ
verdict_word None = codes "ok"
verdict_word (Some e) = errno_word e

-- a kind of object, or any, which no description and no line has
unfoldable pub any_kind_word : Option Kind → List ℕ
any_kind_word None = codes "any"
any_kind_word (Some kind) = kind_word kind

-- whether a thread may do what it tries with memory
unfoldable pub reach_word : Bool → List ℕ
reach_word true = codes "ok"
reach_word false = errno_word Errno.EFAULT

-- whether a pool has the bytes
unfoldable pub pool_word : Bool → List ℕ
pool_word true = codes "ok"
pool_word false = errno_word Errno.ENOMEM

unfoldable pub given_word : Given → List ℕ
given_word Given.Done = codes "ok"
given_word Given.Gone = codes "gone"

-- whether a thread lived that is aborted, suspended or resumed
unfoldable pub done_word : Bool → List ℕ
done_word true = codes "ok"
done_word false = codes "none"

unfoldable pub leftover_word : Leftover → List ℕ
leftover_word Leftover.Kept = codes "kept"
leftover_word Leftover.Gone = codes "gone"
leftover_word Leftover.NoPair = codes "none"

unfoldable pub set_word : SetSaid → List ℕ
set_word SetSaid.Done = codes "ok"
set_word SetSaid.Gone = codes "gone"
set_word (SetSaid.Fail e) = errno_word e

unfoldable pub cause_word : Cause → List ℕ
cause_word (Cause.Refused e) = errno_word e
cause_word Cause.Size = codes "size"
cause_word Cause.NoUser = codes "no_user"
cause_word Cause.Essential = codes "essential"
cause_word Cause.Priority = codes "priority"
cause_word Cause.PriorityHigher = codes "priority_higher"
cause_word Cause.Access = codes "access"
cause_word Cause.Privileged = codes "privileged"
cause_word Cause.KOops = codes "k_oops"
cause_word Cause.KPanic = codes "k_panic"
