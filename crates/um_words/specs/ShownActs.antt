-- Events of threads, as steps show them.
use Rattle.std.specs.Prelude.{Option, Some, None}
use Rattle.um_base.specs.declared.act.Act.{Act}
use Rattle.um_base.specs.declared.act.Event.{Event}
use Rattle.um_base.specs.declared.names.ThreadIx.{ThreadIx}
use Rattle.um_words.specs.declared.fine.FineAct.{FineAct}
use Rattle.um_words.specs.declared.fine.More.{More}

-- an event of a thread
abbrev pub by_thread : ThreadIx → Act → Event
by_thread t act = record { thread = t; act = act }

-- the event that a step shows, if it shows one
abbrev pub event_of : FineAct → Option Event
event_of (FineAct.Shown event more) = Some event
event_of (FineAct.Unseen unseen) = None

-- an event of a thread, with what the site needs beside it
abbrev pub shown : ThreadIx → Act → More → FineAct
shown t act more = FineAct.Shown (by_thread t act) more
