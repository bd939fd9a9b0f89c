-- What is printed of acts: one table, in parts by what the acts are about.
use Rattle.std.specs.Prelude.{ℕ, List, [], ◌++◌, codes, decimal, Option, Some, None}
use Rattle.std.specs.List.{flat_map}
use Rattle.um_base.specs.declared.act.Act.{Act}
use Rattle.um_base.specs.declared.act.Answer.{Answer}
use Rattle.um_base.specs.declared.act.Event.{Event}
use Rattle.um_base.specs.declared.act.Found.{Found}
use Rattle.um_base.specs.declared.image.Image.{Image}
use Rattle.um_base.specs.declared.names.Addr.{Addr}
use Rattle.um_base.specs.declared.names.Reply.{Reply}
use Rattle.um_base.specs.declared.names.ThreadIx.{ThreadIx}
use Rattle.um_trace.specs.Digits.{address, value}
use Rattle.um_trace.specs.Words.{verdict_word, any_kind_word, reach_word, pool_word, given_word, done_word, leftover_word, set_word, cause_word}
use Rattle.um_vocabulary.specs.Words.{kind_word, want_word, access_word}
use Rattle.um_trace.specs.Names.{row_text, thread_text, object_text, domain_text, script_text, part_text, reply_text}

-- bytes of memory
unfoldable pub range_text : ℕ → ℕ → List ℕ
range_text a n = address a ++ codes " " ++ decimal n

-- what a string read found
unfoldable pub found_text : Found → List ℕ
found_text (Found.Length n) = decimal n
found_text Found.Unreadable = codes "unreadable"
found_text Found.TooLong = codes "toolong"

-- what an act on an object's contents answers, and each thread that it wakes with its reply
unfoldable pub answer_text : Image → Answer → List ℕ
answer_text image (Answer.Now reply) = reply_text image reply
answer_text image Answer.Wait = codes "wait"

unfoldable pub wake_text : Image → ThreadIx × Reply → List ℕ
wake_text image woken = codes " wake " ++ thread_text image woken.0.0 ++ codes " " ++ reply_text image woken.1

-- a new object's address, or none
unfoldable pub reserved_text : Image → Option Addr → List ℕ
reserved_text image (Some a) = object_text image a.0
reserved_text image None = codes "NULL"

-- acts that stop other threads, and of threads that are stopped or wait for an end
unfoldable pub stop_act_text : Image → Act → List ℕ
stop_act_text image (Act.Abort who done) = codes "abort " ++ thread_text image who.0 ++ codes " " ++ done_word done
stop_act_text image (Act.Suspend who done) = codes "suspend " ++ thread_text image who.0 ++ codes " " ++ done_word done
stop_act_text image (Act.Continue who done) = codes "continue " ++ thread_text image who.0 ++ codes " " ++ done_word done
stop_act_text image (Act.Cut who) = codes "cut " ++ thread_text image who.0
stop_act_text image Act.Killed = codes "killed"
stop_act_text image (Act.Join who answer) = codes "join " ++ thread_text image who.0 ++ codes " " ++ answer_text image answer
stop_act_text image act = []

-- acts of virtual time, and those
unfoldable pub time_act_text : Image → Act → List ℕ
time_act_text image (Act.Arm deadline) = codes "arm " ++ decimal deadline
time_act_text image (Act.Tick now) = codes "tick " ++ decimal now
time_act_text image (Act.TimedOut who) = codes "timeout " ++ thread_text image who.0
time_act_text image act = stop_act_text image act

-- acts of threads themselves, and those
unfoldable pub thread_act_text : Image → Act → List ℕ
thread_act_text image (Act.Begin script line) = codes "begin " ++ script_text image script ++ codes " " ++ decimal line
thread_act_text image Act.Resume = codes "resume"
thread_act_text image (Act.Answered reply) = codes "reply " ++ reply_text image reply
thread_act_text image (Act.Named who) = codes "name " ++ thread_text image who.0
thread_act_text image (Act.Start who) = codes "start " ++ thread_text image who.0
thread_act_text image Act.EnterUser = codes "user"
thread_act_text image (Act.Fatal reason cause) = codes "fatal " ++ decimal reason ++ codes " " ++ cause_word cause
thread_act_text image (Act.Doom who) = codes "doom " ++ decimal who.0
thread_act_text image Act.Exit = codes "exit"
thread_act_text image act = time_act_text image act

-- acts on domains, and the others
unfoldable pub domain_act_text : Image → Act → List ℕ
domain_act_text image (Act.DomInit domain reply) = codes "domain init " ++ domain_text image domain ++ codes " " ++ reply_text image reply
domain_act_text image (Act.DomAdd domain range attr reply) =
    codes "domain add " ++ domain_text image domain ++ codes " " ++ part_text range attr ++ codes " " ++ reply_text image reply
domain_act_text image (Act.DomRemove domain range attr reply) =
    codes "domain remove " ++ domain_text image domain ++ codes " " ++ part_text range attr ++ codes " " ++ reply_text image reply
domain_act_text image (Act.DomMove domain who reply) =
    codes "domain move " ++ domain_text image domain ++ codes " " ++ thread_text image who.0 ++ codes " " ++ reply_text image reply
domain_act_text image act = thread_act_text image act

-- acts on permissions, and the others
unfoldable pub pair_act_text : Image → Act → List ℕ
pair_act_text image (Act.Grant who addr given) =
    codes "grant " ++ thread_text image who.0 ++ codes " " ++ object_text image addr.0 ++ codes " " ++ given_word given
pair_act_text image (Act.Own who given) = codes "own " ++ thread_text image who.0 ++ codes " " ++ given_word given
pair_act_text image (Act.Inherit who addr) = codes "inherit " ++ thread_text image who.0 ++ codes " " ++ object_text image addr.0
pair_act_text image (Act.DropPair who addr left) =
    codes "drop " ++ thread_text image who.0 ++ codes " " ++ object_text image addr.0 ++ codes " " ++ leftover_word left
pair_act_text image act = domain_act_text image act

-- acts on the heap, and the others
unfoldable pub heap_act_text : Image → Act → List ℕ
heap_act_text image (Act.Reserve kind addr) = codes "reserve " ++ kind_word kind ++ codes " " ++ reserved_text image addr
heap_act_text image (Act.Born addr) = codes "born " ++ object_text image addr.0
heap_act_text image (Act.Buffer size fits) = codes "buffer " ++ decimal size ++ codes " " ++ pool_word fits
heap_act_text image (Act.Unbuffer size) = codes "unbuffer " ++ decimal size
heap_act_text image (Act.Recycle addr) = codes "recycle " ++ object_text image addr.0
heap_act_text image act = pair_act_text image act

-- acts on objects, and the others
unfoldable pub object_act_text : Image → Act → List ℕ
object_act_text image (Act.Check addr kind want verdict) =
    codes "check " ++ object_text image addr.0 ++ codes " " ++ any_kind_word kind ++ codes " " ++ want_word want ++ codes " " ++ verdict_word verdict
object_act_text image (Act.Work addr answer woken) =
    codes "act " ++ object_text image addr.0 ++ codes " " ++ answer_text image answer ++ flat_map (wake_text image) woken
object_act_text image (Act.Publish addr given) = codes "public " ++ object_text image addr.0 ++ codes " " ++ given_word given
object_act_text image (Act.SetInit addr said) = codes "setinit " ++ object_text image addr.0 ++ codes " " ++ set_word said
object_act_text image (Act.ClearInit addr) = codes "uninit " ++ object_text image addr.0
object_act_text image act = heap_act_text image act

-- acts that wake threads without a call on an object, calls on futexes, and the others
unfoldable pub wake_act_text : Image → Act → List ℕ
wake_act_text image (Act.Expire addr woken) = codes "expire " ++ object_text image addr.0 ++ flat_map (wake_text image) woken
wake_act_text image (Act.Left who woken) = codes "left " ++ thread_text image who.0 ++ flat_map (wake_text image) woken
wake_act_text image (Act.FutexWait addr number answer) =
    codes "futex wait " ++ address addr.0 ++ codes " " ++ value number ++ codes " " ++ answer_text image answer
wake_act_text image (Act.FutexWake addr answer woken) =
    codes "futex wake " ++ address addr.0 ++ codes " " ++ answer_text image answer ++ flat_map (wake_text image) woken
wake_act_text image act = object_act_text image act

-- acts on memory, and the others
unfoldable pub act_text : Image → Act → List ℕ
act_text image (Act.Load addr size number) = codes "load " ++ range_text addr.0 size ++ codes " " ++ value number
act_text image (Act.Store addr size number) = codes "store " ++ range_text addr.0 size ++ codes " " ++ value number
act_text image (Act.Fetch addr) = codes "exec " ++ address addr.0
act_text image (Act.Fault access addr size) = codes "fault " ++ access_word access ++ codes " " ++ range_text addr.0 size
act_text image (Act.Probe addr size fits) = codes "probe " ++ range_text addr.0 size ++ codes " " ++ reach_word fits
act_text image (Act.CopyIn addr size fits) = codes "copyin " ++ range_text addr.0 size ++ codes " " ++ reach_word fits
act_text image (Act.CopyOut addr size fits) = codes "copyout " ++ range_text addr.0 size ++ codes " " ++ reach_word fits
act_text image (Act.CopyStr addr found) = codes "copystr " ++ address addr.0 ++ codes " " ++ found_text found
act_text image (Act.Erase stack) = codes "erase " ++ row_text image stack.0
act_text image act = wake_act_text image act

-- the line of an event: the acting thread and what it does
unfoldable pub event_line : Image → Event → List ℕ
event_line image event = thread_text image event.thread.0 ++ codes " " ++ act_text image event.act ++ codes "\n"
