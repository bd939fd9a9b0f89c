-- How much a run did: counts of its events, and of the threads that the dump of its last state shows.
use Rattle.std.specs.Prelude.{ℕ, Bool, true, false, List, ◌++◌, length, codes, count_by, decimal, Option, Some, None}
use Rattle.um_base.specs.declared.act.Act.{Act}
use Rattle.um_base.specs.declared.act.Answer.{Answer}
use Rattle.um_base.specs.declared.act.Event.{Event}
use Rattle.um_base.specs.declared.image.Image.{Image}
use Rattle.um_base.specs.declared.limits.TheConstants.{ROWS}
use Rattle.um_machine.specs.State.{State, thread_at}
use Rattle.um_trace.specs.declared.dump.standing.Standing.{Standing}
use Rattle.um_trace.specs.declared.summary.events.Counted.{Counted}
use Rattle.um_trace.specs.declared.summary.threads.Shown.{Shown}
use Rattle.um_trace.specs.Dump.{numbers, standing_of, shown_thread}

-- Events.

abbrev pub is_begin : Act → Bool
is_begin (Act.Begin script line) = true
is_begin _ = false

abbrev pub is_check : Act → Bool
is_check (Act.Check addr kind want verdict) = true
is_check _ = false

-- a check that isn't ok
abbrev pub is_refused : Act → Bool
is_refused (Act.Check addr kind want (Some e)) = true
is_refused _ = false

abbrev pub is_fatal : Act → Bool
is_fatal (Act.Fatal reason cause) = true
is_fatal _ = false

-- work on an object that waits
abbrev pub is_wait : Act → Bool
is_wait (Act.Work addr Answer.Wait woken) = true
is_wait _ = false

abbrev pub is_recycle : Act → Bool
is_recycle (Act.Recycle addr) = true
is_recycle _ = false

-- what is counted of events
unfoldable pub counts : Counted → Act → Bool
counts Counted.Begins act = is_begin act
counts Counted.Checks act = is_check act
counts Counted.Refused act = is_refused act
counts Counted.Fatals act = is_fatal act
counts Counted.Waits act = is_wait act
counts Counted.Recycles act = is_recycle act

abbrev pub events_that : Counted → List Event → ℕ
events_that counted events = count_by (λ (event : Event). counts counted event.act) events

-- Threads.

-- what is counted of the threads that are shown
abbrev pub is_so : Shown → Standing → Bool
is_so Shown.Ended Standing.Ended = true
is_so Shown.Waiting (Standing.Waits row) = true
is_so Shown.Waiting (Standing.Joins who) = true
is_so Shown.Waiting (Standing.Watches a) = true
is_so shown standing = false

abbrev pub stands_so : Shown → State → Option ℕ → Bool
stands_so shown s (Some t) = is_so shown (standing_of s t (thread_at s t))
stands_so shown s None = false

-- how many of the threads that are shown are so
abbrev pub threads_that : Shown → Image → State → ℕ
threads_that shown image s = count_by (λ (x : ℕ). stands_so shown s (shown_thread image s x)) (numbers ROWS)

-- The summary: nine lines, a word and a count.

unfoldable pub count_line : List ℕ → ℕ → List ℕ
count_line word n = word ++ codes " " ++ decimal n ++ codes "\n"

unfoldable pub summary_text : Image → List Event → State → List ℕ
summary_text image events last =
    count_line (codes "events") (length events) ++ count_line (codes "begins") (events_that Counted.Begins events)
    ++ count_line (codes "checks") (events_that Counted.Checks events) ++ count_line (codes "refused") (events_that Counted.Refused events)
    ++ count_line (codes "fatals") (events_that Counted.Fatals events) ++ count_line (codes "waits") (events_that Counted.Waits events)
    ++ count_line (codes "recycles") (events_that Counted.Recycles events) ++ count_line (codes "ended") (threads_that Shown.Ended image last)
    ++ count_line (codes "waiting") (threads_that Shown.Waiting image last)
