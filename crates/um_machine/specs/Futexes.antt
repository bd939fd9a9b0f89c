-- Futexes: words in memory on which threads wait.
use Rattle.std.specs.Prelude.{ℕ, Bool, false, ◌==◌, not, if◌then◌else◌, List, [], map, filter, take, Option, Some, None}
use Rattle.std.specs.List.{list_any}
use Rattle.um_base.specs.declared.act.Answer.{Answer}
use Rattle.um_base.specs.declared.ask.Ask.{Ask}
use Rattle.um_base.specs.declared.ask.Told.{Told}
use Rattle.um_base.specs.declared.ask.Waiter.{Waiter}
use Rattle.um_base.specs.declared.image.Futex.{Futex}
use Rattle.um_base.specs.declared.image.Image.{Image}
use Rattle.um_base.specs.declared.names.Access.TheVariants as Access
use Rattle.um_base.specs.declared.names.Errno.{Errno}
use Rattle.um_base.specs.declared.names.Reply.{Reply}
use Rattle.um_base.specs.declared.names.ThreadIx.{ThreadIx}
use Rattle.um_base.specs.declared.names.Timeout.{Timeout}
use Rattle.um_base.specs.Lawful.{futex_addr}
use Rattle.um_machine.specs.Memory.{allowed, bytes_at, le_value}
use Rattle.um_machine.specs.Services.{in_order, told}
use Rattle.um_machine.specs.State.{State}

abbrev pub is_futex : Image → ℕ → Bool
is_futex image a = list_any (λ (f : Futex). futex_addr image f == a) image.futexes

-- why a call on a futex is refused, if it is
abbrev pub futex_refusal : State → ℕ → ℕ → Option Errno
futex_refusal s t a =
    if not (allowed s t Access.Read a 4) then Some Errno.EACCES else if not (is_futex s.image a) then Some Errno.EINVAL else None

abbrev pub may_wait : Timeout → Answer
may_wait Timeout.NoWait = Answer.Now (Reply.Fail Errno.ETIMEDOUT)
may_wait _ = Answer.Wait

-- what a wait says
abbrev pub futex_wait : ℕ → ℕ → Timeout → Option Errno → Answer
futex_wait value found timeout (Some e) = Answer.Now (Reply.Fail e)
futex_wait value found timeout None = if found == value then may_wait timeout else Answer.Now (Reply.Fail Errno.EAGAIN)

abbrev pub futex_answer : State → ℕ → ℕ → ℕ → Timeout → Answer
futex_answer s t a value timeout = futex_wait value (le_value (bytes_at s a 4)) timeout (futex_refusal s t a)

-- whether a waiter waits on the futex at this address
abbrev pub is_on : ℕ → Waiter → Bool
is_on a w = elim w.ask as (λ _. Bool) [ Ask.FutexWait there ↦ there.0 == a | _ ↦ false ]

-- those whom a wake serves: all who wait on the address, or the first of them
abbrev pub some_of : Bool → List Waiter → List Waiter
some_of all ws = if all then ws else take 1 ws

abbrev pub roused : State → ℕ → Bool → Option Errno → List Waiter
roused s a all (Some e) = []
roused s a all None = some_of all (in_order (filter (is_on a) s.futexes))

-- what they are told
abbrev pub futex_woken : State → ℕ → ℕ → Bool → List (ThreadIx × Told)
futex_woken s t a all = map (λ (w : Waiter). told w (Reply.Num 0) []) (roused s a all (futex_refusal s t a))

-- what a wake says: how many it woke
abbrev pub wake_answer : Option Errno → ℕ → Answer
wake_answer (Some e) n = Answer.Now (Reply.Fail e)
wake_answer None n = Answer.Now (Reply.Num n)
