-- What is asked of the word of a thread index: the step that it stands for, and when the word takes it.
use Rattle.std.specs.Prelude.{Bool, false, ◌&&◌, nat_lt, if◌then◌else◌, Option, Some, None}
use Rattle.um_base.specs.declared.act.Act.{Act}
use Rattle.um_base.specs.declared.act.Event.{Event}
use Rattle.um_base.specs.declared.names.Errno.{Errno}
use Rattle.um_base.specs.declared.names.ThreadIx.{ThreadIx}
use Rattle.um_machine.specs.State.{is_living}
use Rattle.um_words.specs.declared.fine.FineAct.{FineAct}
use Rattle.um_words.specs.declared.fine.More.{More}
use Rattle.um_words.specs.declared.fine.Unseen.{Unseen}
use Rattle.um_words.specs.declared.thread_act.ThreadAct.{ThreadAct}
use Rattle.um_words.specs.declared.thread_word.ThreadWord.{ThreadWord}
use Rattle.um_words.specs.ShownActs.{by_thread, shown}
use Rattle.um_words.specs.Threads.{thread_says, thread_takes}

-- the act without the answer of the word
abbrev pub thread_act : ThreadAct → FineAct
thread_act (ThreadAct.Begin t script line) = shown t (Act.Begin script line) More.Nothing
thread_act (ThreadAct.Exit t) = shown t Act.Exit More.Nothing
thread_act (ThreadAct.Miss t a kind want mode) = shown t (Act.Check a kind want None) (More.By mode false)
thread_act (ThreadAct.Answered t reply) = shown t (Act.Answered reply) More.Nothing
thread_act (ThreadAct.Fatal t reason cause) = shown t (Act.Fatal reason cause) More.Nothing
thread_act (ThreadAct.Doom t who) = shown t (Act.Doom who) More.Nothing
thread_act (ThreadAct.DomMove t d who reply) = shown t (Act.DomMove d who reply) More.Nothing
thread_act (ThreadAct.Start t who mode d) = shown t (Act.Start who) (More.Starts mode d)
thread_act (ThreadAct.EnterUser t) = shown t Act.EnterUser More.Nothing
thread_act (ThreadAct.Abort t who) = shown t (Act.Abort who false) More.Nothing
thread_act (ThreadAct.Suspend t who) = shown t (Act.Suspend who false) More.Nothing
thread_act (ThreadAct.Continue t who) = shown t (Act.Continue who false) More.Nothing
thread_act (ThreadAct.Killed t) = shown t Act.Killed More.Nothing
thread_act (ThreadAct.Note site) = FineAct.Unseen (Unseen.Note site)
thread_act ThreadAct.Hold = FineAct.Unseen Unseen.Hold
thread_act ThreadAct.LetGo = FineAct.Unseen Unseen.LetGo
thread_act ThreadAct.ReadWord = FineAct.Unseen Unseen.WordRead

-- of a thread that would begin or end: an aborted one is killed, and of one that is doomed or suspended the word is read
abbrev pub unless_stopped : ThreadWord → ThreadIx → FineAct → FineAct
unless_stopped w t act =
    if w.doomed then FineAct.Unseen Unseen.WordRead
    else if w.aborted then shown t Act.Killed More.Nothing
    else if w.suspended then FineAct.Unseen Unseen.WordRead
    else act

-- the act that is made of it at a thread index with this word, with the word's answer
abbrev pub thread_act_at : ThreadWord → ThreadAct → FineAct
thread_act_at w (ThreadAct.Begin t script line) = unless_stopped w t (thread_act (ThreadAct.Begin t script line))
thread_act_at w (ThreadAct.Exit t) = unless_stopped w t (thread_act (ThreadAct.Exit t))
thread_act_at w act = thread_says w (thread_act act)

-- whether a thread index with this word takes the step, and has room for its number
abbrev pub thread_takes_at : ThreadWord → ThreadAct → Bool
thread_takes_at w act = nat_lt w.number 268435455 && thread_takes w (thread_act_at w act)

-- of a thread that would begin or end, the event, by the word that the step leaves
abbrev pub event_unless_stopped : ThreadWord → ThreadIx → Act → Option Event
event_unless_stopped next t act =
    if next.doomed then None
    else if next.aborted then Some (by_thread t Act.Killed)
    else if next.suspended then None
    else Some (by_thread t act)

-- the event of the step, by the word that it leaves, if a trace shows it
abbrev pub thread_event : ThreadAct → ThreadWord → Option Event
thread_event (ThreadAct.Begin t script line) next = event_unless_stopped next t (Act.Begin script line)
thread_event (ThreadAct.Exit t) next = event_unless_stopped next t Act.Exit
thread_event (ThreadAct.Miss t a kind want mode) next = Some (by_thread t (Act.Check a kind want (Some Errno.EBADF)))
thread_event (ThreadAct.Answered t reply) next = Some (by_thread t (Act.Answered reply))
thread_event (ThreadAct.Fatal t reason cause) next = Some (by_thread t (Act.Fatal reason cause))
thread_event (ThreadAct.Doom t who) next = Some (by_thread t (Act.Doom who))
thread_event (ThreadAct.DomMove t d who reply) next = Some (by_thread t (Act.DomMove d who reply))
thread_event (ThreadAct.Start t who mode d) next = Some (by_thread t (Act.Start who))
thread_event (ThreadAct.EnterUser t) next = Some (by_thread t Act.EnterUser)
thread_event (ThreadAct.Abort t who) next = Some (by_thread t (Act.Abort who (is_living next.life)))
thread_event (ThreadAct.Suspend t who) next = Some (by_thread t (Act.Suspend who (is_living next.life)))
thread_event (ThreadAct.Continue t who) next = Some (by_thread t (Act.Continue who (is_living next.life)))
thread_event (ThreadAct.Killed t) next = Some (by_thread t Act.Killed)
thread_event (ThreadAct.Note site) next = None
thread_event ThreadAct.Hold next = None
thread_event ThreadAct.LetGo next = None
thread_event ThreadAct.ReadWord next = None
