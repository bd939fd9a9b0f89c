-- Which steps the cells take whose words count nothing.
use Rattle.std.specs.Prelude.{Bool, true, false}
use Rattle.um_base.specs.declared.act.Act.{Act}
use Rattle.um_words.specs.declared.fine.FineAct.{FineAct}
use Rattle.um_words.specs.declared.fine.Unseen.{Unseen}

-- a thread that waits in a cell is taken out: its deadline has come, or it was aborted
abbrev pub stops_waiting : Act → Bool
stops_waiting (Act.TimedOut who) = true
stops_waiting (Act.Cut who) = true
stops_waiting act = false

abbrev pub object_takes_act : Act → Bool
object_takes_act (Act.Work a answer woken) = true
object_takes_act (Act.Named who) = true
object_takes_act (Act.Expire a woken) = true
object_takes_act act = stops_waiting act

abbrev pub object_takes : FineAct → Bool
object_takes (FineAct.Shown event more) = object_takes_act event.act
object_takes (FineAct.Unseen Unseen.SizeLook) = true
object_takes (FineAct.Unseen Unseen.Wipe) = true
object_takes (FineAct.Unseen Unseen.Void) = true
object_takes (FineAct.Unseen unseen) = false

abbrev pub parts_takes : FineAct → Bool
parts_takes (FineAct.Unseen Unseen.RegionLoad) = true
parts_takes (FineAct.Unseen Unseen.Edit) = true
parts_takes act = false

-- of a cell that takes only steps that are shown
abbrev pub takes_shown : (Act → Bool) → FineAct → Bool
takes_shown takes (FineAct.Shown event more) = takes event.act
takes_shown takes (FineAct.Unseen unseen) = false

abbrev pub memory_takes_act : Act → Bool
memory_takes_act (Act.Load a n value) = true
memory_takes_act (Act.Store a n value) = true
memory_takes_act (Act.Fetch a) = true
memory_takes_act (Act.Fault access a n) = true
memory_takes_act (Act.Probe a n fits) = true
memory_takes_act (Act.CopyIn a n fits) = true
memory_takes_act (Act.CopyOut a n fits) = true
memory_takes_act (Act.CopyStr a found) = true
memory_takes_act (Act.Erase stack) = true
memory_takes_act (Act.FutexWait a value answer) = true
memory_takes_act (Act.FutexWake a answer woken) = true
memory_takes_act act = stops_waiting act

abbrev pub memory_takes : FineAct → Bool
memory_takes (FineAct.Shown event more) = memory_takes_act event.act
memory_takes (FineAct.Unseen Unseen.Void) = true
memory_takes (FineAct.Unseen unseen) = false

-- the clock: deadlines are armed, and time goes on; marks are settled and given
abbrev pub clock_takes_act : Act → Bool
clock_takes_act (Act.Arm deadline) = true
clock_takes_act (Act.Tick now) = true
clock_takes_act act = false

abbrev pub clock_takes : FineAct → Bool
clock_takes (FineAct.Shown event more) = clock_takes_act event.act
clock_takes (FineAct.Unseen Unseen.Settle) = true
clock_takes (FineAct.Unseen Unseen.Due) = true
clock_takes (FineAct.Unseen unseen) = false

-- the joins: threads wait there for the end of others, are shut, and sleep
abbrev pub join_takes_act : Act → Bool
join_takes_act (Act.Join who answer) = true
join_takes_act (Act.Left who woken) = true
join_takes_act act = stops_waiting act

abbrev pub join_takes_unseen : Unseen → Bool
join_takes_unseen Unseen.Void = true
join_takes_unseen (Unseen.Shut who) = true
join_takes_unseen (Unseen.Unshut who) = true
join_takes_unseen Unseen.Sleep = true
join_takes_unseen (Unseen.Rouse who) = true
join_takes_unseen unseen = false

abbrev pub join_takes : FineAct → Bool
join_takes (FineAct.Shown event more) = join_takes_act event.act
join_takes (FineAct.Unseen unseen) = join_takes_unseen unseen

abbrev pub heap_takes_act : Act → Bool
heap_takes_act (Act.Reserve kind addr) = true
heap_takes_act (Act.Buffer n fits) = true
heap_takes_act (Act.Unbuffer n) = true
heap_takes_act (Act.Recycle a) = true
heap_takes_act act = false

abbrev pub heap_takes : FineAct → Bool
heap_takes act = takes_shown heap_takes_act act

-- a thread that was woken is taken
abbrev pub is_resume : Act → Bool
is_resume Act.Resume = true
is_resume act = false
