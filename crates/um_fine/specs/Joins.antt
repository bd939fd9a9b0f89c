-- The cell of joins: who waits for the end of a thread, which threads nobody joins any more, and which suspended ones sleep.
use Rattle.std.specs.Prelude.{ℕ, Bool, true, false, ◌==◌, ◌&&◌, ◌||◌, not, if◌then◌else◌, List, [], ◌∷◌, ◌++◌, map, filter, Option, Some, None, is_some, slice_index_or, slice_set}
use Rattle.std.specs.List.{list_any}
use Rattle.um_base.specs.declared.act.Act.{Act}
use Rattle.um_base.specs.declared.act.Answer.{Answer}
use Rattle.um_base.specs.declared.ask.Told.{Told}
use Rattle.um_base.specs.declared.ask.Waiter.{Waiter}
use Rattle.um_base.specs.declared.names.Errno.{Errno}
use Rattle.um_base.specs.declared.names.Reply.TheVariants as Reply
use Rattle.um_base.specs.declared.names.ThreadIx.{ThreadIx}
use Rattle.um_base.specs.declared.names.Timeout.{Timeout}
use Rattle.um_machine.specs.Joins.{joins}
use Rattle.um_machine.specs.Services.{in_order, told, without}
use Rattle.um_machine.specs.Table.{replies_of}
use Rattle.um_words.specs.declared.fine.FineAct.{FineAct}
use Rattle.um_words.specs.declared.fine.More.{More}
use Rattle.um_words.specs.declared.fine.Unseen.{Unseen}
use Rattle.um_words.specs.Extra.{timeout_in}
use Rattle.um_fine.specs.Context.{Context}
use Rattle.um_fine.specs.Steps.{Exchange}
use Rattle.um_fine.specs.Answers.{caller_in, context_in, noted_in}
use Rattle.um_fine.specs.Seeking.{finds, looked_for}

pub record Joins : Type 0 where
  pub waiters : List Waiter
  pub noted : List ℕ  -- by thread index: the number of its note when it began to wait here
  pub shut : List Bool  -- by thread index: nobody joins it
  pub asleep : List (Option Context)  -- by thread index

abbrev pub is_shut : Joins → ℕ → Bool
is_shut j t = slice_index_or j.shut t true

abbrev pub asleep_at : Joins → ℕ → Option Context
asleep_at j t = slice_index_or j.asleep t None

abbrev pub is_joined : Joins → ℕ → Bool
is_joined j who = list_any (joins who) j.waiters

abbrev pub deadlocks : Joins → ℕ → ℕ → Bool
deadlocks j t who = who == t || list_any (λ (w : Waiter). w.thread.0 == who && joins t w) j.waiters

abbrev pub open_says : Joins → ℕ → ℕ → Timeout → Answer
open_says j t who Timeout.NoWait = Answer.Now (Reply.Fail Errno.EBUSY)
open_says j t who _ = if deadlocks j t who then Answer.Now (Reply.Fail Errno.EDEADLK) else Answer.Wait

abbrev pub join_answer : Joins → ℕ → ℕ → Timeout → Answer
join_answer j t who timeout = if is_shut j who then Answer.Now (Reply.Num 0) else open_says j t who timeout

-- those who wait for the end of a thread, in the order of service, with what they are told
abbrev pub all_joined : Joins → ℕ → List (ThreadIx × Told)
all_joined j who = map (λ (w : Waiter). told w (Reply.Num 0) []) (in_order (filter (joins who) j.waiters))

-- What it answers. Where nobody waits for the end of a thread, that end is no event.

abbrev pub left_or_shut : Joins → ThreadIx → FineAct
left_or_shut j who =
    if is_joined j who.0
    then FineAct.Shown (record { thread = who; act = Act.Left who (replies_of (all_joined j who.0)) }) More.Nothing
    else FineAct.Unseen (Unseen.Shut who)

abbrev pub sleeps : Joins → ℕ → Bool
sleeps j t = is_some (asleep_at j t)

-- whether who is looked for is here: one who sleeps, where the look has no number, or else one who waits
abbrev pub join_finds : Joins → Exchange → Bool
join_finds j (Exchange.sought who None) = sleeps j who.0
join_finds j moved = finds j.waiters j.noted moved

abbrev pub join_says_act : Joins → Exchange → More → ThreadIx → Act → FineAct
join_says_act j moved more t (Act.Join who answer) =
    FineAct.Shown (record { thread = t; act = Act.Join who (join_answer j t.0 who.0 (timeout_in more)) }) more
join_says_act j moved more t (Act.Left who woken) = left_or_shut j who
join_says_act j moved more t act = looked_for (join_finds j moved) (FineAct.Shown (record { thread = t; act = act }) more)

abbrev pub join_says_unseen : Joins → Exchange → Unseen → FineAct
join_says_unseen j moved (Unseen.Shut who) = left_or_shut j who
join_says_unseen j moved (Unseen.Rouse who) = if sleeps j who.0 then FineAct.Unseen (Unseen.Rouse who) else FineAct.Unseen Unseen.Void
join_says_unseen j moved Unseen.Void = looked_for (join_finds j moved) (FineAct.Unseen Unseen.Void)
join_says_unseen j moved unseen = FineAct.Unseen unseen

abbrev pub join_says : Joins → Exchange → FineAct → FineAct
join_says j moved (FineAct.Shown event more) = join_says_act j moved more event.thread event.act
join_says j moved (FineAct.Unseen unseen) = join_says_unseen j moved unseen

-- the sleeper, or that there is none
abbrev pub roused : ThreadIx → Option Context → Exchange
roused who None = Exchange.sought who None
roused who (Some c) = Exchange.thread c None

abbrev pub join_moves : Joins → FineAct → Exchange → Exchange
join_moves j (FineAct.Unseen (Unseen.Rouse who)) moved = roused who (asleep_at j who.0)
join_moves j act moved = moved

-- What it leaves.

abbrev pub begins_waiting : Joins → Exchange → Answer → Joins
begins_waiting j moved Answer.Wait =
    let w = caller_in moved in
    record j { waiters = without w.thread.0 j.waiters ++ w ∷ []; noted = slice_set j.noted w.thread.0 (noted_in moved) }
begins_waiting j moved answer = j

abbrev pub shut_down : Joins → ℕ → Joins
shut_down j who = record j { waiters = filter (λ w. not (joins who w)) j.waiters; shut = slice_set j.shut who true }

abbrev pub join_after_act : Joins → Exchange → Act → Joins
join_after_act j moved (Act.Join who answer) = begins_waiting j moved answer
join_after_act j moved (Act.Left who woken) = shut_down j who.0
join_after_act j moved (Act.TimedOut who) = record j { waiters = without who.0 j.waiters }
join_after_act j moved (Act.Cut who) = record j { waiters = without who.0 j.waiters }
join_after_act j moved act = j

abbrev pub join_after_unseen : Joins → Exchange → Unseen → Joins
join_after_unseen j moved (Unseen.Shut who) = shut_down j who.0
join_after_unseen j moved (Unseen.Unshut who) = record j { shut = slice_set j.shut who.0 false }
join_after_unseen j moved Unseen.Sleep = let c = context_in moved in record j { asleep = slice_set j.asleep c.thread (Some c) }
join_after_unseen j moved (Unseen.Rouse who) = record j { asleep = slice_set j.asleep who.0 None }
join_after_unseen j moved unseen = j

abbrev pub join_after : Joins → FineAct → Exchange → Joins
join_after j (FineAct.Shown event more) moved = join_after_act j moved event.act
join_after j (FineAct.Unseen unseen) moved = join_after_unseen j moved unseen
