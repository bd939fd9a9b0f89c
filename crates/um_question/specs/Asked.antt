-- What each question asks of a run: of its last event, and of the state behind that. Nothing here knows of a search.
use Rattle.std.specs.Prelude.{ℕ, Bool, true, false, ◌==◌, ◌&&◌, ◌||◌, List, Option, Some, None}
use Rattle.um_base.specs.declared.act.Act.{Act}
use Rattle.um_base.specs.declared.act.Event.{Event}
use Rattle.um_base.specs.declared.image.Image.{Image}
use Rattle.um_base.specs.declared.names.Access.{Access}
use Rattle.um_base.specs.declared.names.Range.{Range}
use Rattle.um_base.specs.Places.{thread_of_row}
use Rattle.um_machine.specs.Joins.{is_joining}
use Rattle.um_machine.specs.Objects.{is_gone}
use Rattle.um_machine.specs.Run.{stands_in}
use Rattle.um_machine.specs.State.{State, object_at, pair_at}
use Rattle.um_trace.specs.Acts.{event_line}
use Rattle.um_question.specs.Accesses.{touches}
use Rattle.um_question.specs.Forms.{fits}
use Rattle.um_question.specs.declared.question.Question.{Question}

-- Of the last event. The opening has none.

-- its line is of a form
abbrev pub has_line : Image → List ℕ → Option Event → Bool
has_line image form None = false
has_line image form (Some event) = fits form (event_line image event)

-- it is a thread's, and touches a range
abbrev pub has_accessed : ℕ → Access → Range → Option Event → Bool
has_accessed t access range None = false
has_accessed t access range (Some event) = event.thread.0 == t && touches access range event.act

abbrev pub is_fatal : Act → Bool
is_fatal (Act.Fatal reason cause) = true
is_fatal _ = false

-- it is a thread's fatal error
abbrev pub has_failed : ℕ → Option Event → Bool
has_failed t None = false
has_failed t (Some event) = event.thread.0 == t && is_fatal event.act

-- Of the state.

-- a thread has the permission on an object: a pair of its own, or the object is public
abbrev pub holds : ℕ → ℕ → State → Bool
holds t x s = pair_at s t x || (object_at s x).public

-- a thread waits for the end of another
abbrev pub waits_for_end : ℕ → Option ℕ → State → Bool
waits_for_end t None s = false
waits_for_end t (Some who) s = is_joining s t who

-- a thread waits on an object, or, where it is a thread's own, for the end of that thread
abbrev pub waits : Image → ℕ → ℕ → State → Bool
waits image t x s = stands_in t (object_at s x).waiters || waits_for_end t (thread_of_row image x) s

-- a run with this last event, which leads to this state, has come to what is asked
abbrev pub is_met : Image → Question → Option Event → State → Bool
is_met image (Question.Form form) latest s = has_line image form.items latest
is_met image (Question.Accesses thread access range) latest s = has_accessed thread.0 access range latest
is_met image (Question.Holds thread row) latest s = holds thread.0 row.0 s
is_met image (Question.Waits thread row) latest s = waits image thread.0 row.0 s
is_met image (Question.Fails thread) latest s = has_failed thread.0 latest
is_met image (Question.Gone row) latest s = is_gone (object_at s row.0).status
is_met image Question.Nothing latest s = false
