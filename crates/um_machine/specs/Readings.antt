-- What a step reads of the state: the row of an address, the work that an act does, and what it says of objects, pools and domains.
use Rattle.std.specs.Prelude.{ℕ, Bool, false, ◌&&◌, not, nat_le, if◌then◌else◌, List, [], ◌∷◌, ◌++◌, length, map, Option, Some, None, is_some, unwrap_or, slice_index, slice_index_or}
use Rattle.um_base.specs.declared.names.Addr.{Addr}
use Rattle.um_base.specs.declared.names.Errno.{Errno}
use Rattle.um_base.specs.declared.names.Reply.{Reply}
use Rattle.um_base.specs.declared.names.ThreadIx.{ThreadIx}
use Rattle.um_base.specs.declared.ask.Ask.{Ask}
use Rattle.um_base.specs.declared.act.Given.{Given}
use Rattle.um_base.specs.declared.act.Leftover.{Leftover}
use Rattle.um_base.specs.declared.act.SetSaid.{SetSaid}
use Rattle.um_base.specs.declared.ask.Told.{Told}
use Rattle.um_base.specs.declared.ask.Waiter.{Waiter}
use Rattle.um_base.specs.declared.image.Image.{Image}
use Rattle.um_machine.specs.declared.pending.Amount.{Amount}
use Rattle.um_machine.specs.declared.contents.Contents.{Contents}
use Rattle.um_machine.specs.declared.object.Object.{Object}
use Rattle.um_machine.specs.declared.thread.Thread.{Thread}
use Rattle.um_machine.specs.State.{State, thread_at, object_at, waiters_in, pair_at, with_pair}
use Rattle.um_base.specs.declared.limits.TheConstants.{STATIC_ROWS}
use Rattle.um_base.specs.Places.{row_at}
use Rattle.um_base.specs.Regions.{Partitions}
use Rattle.um_machine.specs.Objects.{is_gone, has_no_pair}
use Rattle.um_machine.specs.Services.{Acted, acted, without}
use Rattle.um_machine.specs.Order.{to_thread}

-- the row at an address that was checked
abbrev pub row_of : State → Addr → ℕ
row_of s a = unwrap_or (row_at s.image a.0) 0

-- the bytes of a message of the queue at an address
abbrev pub message_size : Contents → ℕ
message_size (Contents.Msgq q) = q.size
message_size _ = 0

abbrev pub amount_of : State → Amount → ℕ
amount_of s (Amount.Bytes n) = n
amount_of s (Amount.MessageOf a) = message_size (object_at s (row_of s a)).contents

-- the bytes that a call gives of its buffer
abbrev pub bytes_given : List ℕ → Ask → List ℕ
bytes_given buffer (Ask.MsgqPut timeout) = buffer
bytes_given buffer (Ask.PipeWrite length timeout) = buffer
bytes_given buffer ask = []

-- what the work of a call does with the object
abbrev pub work_of : State → ℕ → Addr → Ask → Acted
work_of s t a ask =
    let me = thread_at s t in
    let o = object_at s (row_of s a) in
    acted o.contents o.waiters (record { thread = to_thread t; priority = me.priority; ask = ask; bytes = bytes_given me.buffer ask; until = me.until })

-- those who wait in a cell, with a thread behind all others
abbrev pub queued : State → ℕ → ℕ → Ask → List Waiter
queued s t c ask =
    let me = thread_at s t in
    let w : Waiter = record { thread = to_thread t; priority = me.priority; ask = ask; bytes = []; until = me.until } in without t (waiters_in s c) ++ w ∷ []

-- the replies of the woken
abbrev pub replies_of : List (ThreadIx × Told) → List (ThreadIx × Reply)
replies_of woken = map (λ (p : ThreadIx × Told). (p.0, p.1.reply)) woken

-- whether an object that was checked still stands
abbrev pub given : State → ℕ → Given
given s x = if is_gone (object_at s x).status then Given.Gone else Given.Done

-- what dropping a pair says
abbrev pub dropped : State → ℕ → ℕ → Leftover
dropped s t x =
    if not (pair_at s t x) then Leftover.NoPair
    else if nat_le STATIC_ROWS x && has_no_pair (with_pair s t x false) x then Leftover.Gone
    else Leftover.Kept

-- what marking an object as initialised says
abbrev pub set_said : Object → Bool → SetSaid
set_said o strict =
    if is_gone o.status then (if strict then SetSaid.Fail Errno.EBADF else SetSaid.Gone)
    else if strict && o.init then SetSaid.Fail Errno.EADDRINUSE
    else SetSaid.Done

-- what is left in a thread's pool: nothing where it has none
abbrev pub left_in : State → Option ℕ → ℕ
left_in s None = 0
left_in s (Some pool) = slice_index s.pools pool

-- whether a thread's pool pays for this
abbrev pub pays : State → Option ℕ → ℕ → Bool
pays s pool size = is_some pool && nat_le size (left_in s pool)

-- what a domain's call makes of it
abbrev pub domain_at : State → ℕ → Option Partitions
domain_at s d = slice_index_or s.domains d None

abbrev pub move_reply : Option Partitions → Reply
move_reply None = Reply.Fail Errno.EINVAL
move_reply (Some parts) = Reply.Num 0

-- the reply of a call: the one that its steps name, or the one that was worked out
abbrev pub reply_of : Thread → Option Reply → Reply
reply_of me None = me.reply
reply_of me (Some reply) = reply

abbrev pub row_by : Image → Addr → ℕ
row_by image a = unwrap_or (row_at image a.0) 0
