-- The word of a thread index: what it answers, which steps it takes, and the word that each leaves.
use Rattle.std.specs.Prelude.{◌+◌, Bool, true, false, ◌&&◌, ◌||◌, not, nat_lt, if◌then◌else◌, Some, None}
use Rattle.um_base.specs.declared.names.Errno.{Errno}
use Rattle.um_base.specs.declared.names.Mode.{Mode}
use Rattle.um_base.specs.declared.act.Act.{Act}
use Rattle.um_base.specs.declared.limits.TheConstants.{DOMAINS}
use Rattle.um_machine.specs.declared.thread.Life.{Life}
use Rattle.um_machine.specs.State.{is_living}
use Rattle.um_words.specs.declared.fine.FineAct.{FineAct}
use Rattle.um_words.specs.declared.fine.More.{More}
use Rattle.um_words.specs.declared.fine.Unseen.{Unseen}
use Rattle.um_words.specs.declared.kind.TheConstants.{SITES}
use Rattle.um_words.specs.declared.thread_word.ThreadWord.{ThreadWord}
use Rattle.um_words.specs.Answering.{Answering}
use Rattle.um_words.specs.Extra.{mode_in, starts_in}

-- whether a thread may begin a line, or end by itself
abbrev pub may_go : ThreadWord → Bool
may_go w = not (w.doomed || w.aborted || w.suspended)

-- whether a thread that lives doesn't sleep
abbrev pub is_awake : ThreadWord → Bool
is_awake w = w.aborted || not w.suspended

-- the act with the answer that the word gives: a check of an address where nothing stands is refused; who lives can be stopped
abbrev pub thread_says_act : ThreadWord → Act → Act
thread_says_act w (Act.Check a kind want verdict) = Act.Check a kind want (Some Errno.EBADF)
thread_says_act w (Act.Abort who done) = Act.Abort who (is_living w.life)
thread_says_act w (Act.Suspend who done) = Act.Suspend who (is_living w.life)
thread_says_act w (Act.Continue who done) = Act.Continue who (is_living w.life)
thread_says_act w act = act

abbrev pub thread_says : ThreadWord → FineAct → FineAct
thread_says w (FineAct.Shown event more) = FineAct.Shown (record event { act = thread_says_act w event.act }) more
thread_says w (FineAct.Unseen unseen) = FineAct.Unseen unseen

-- a doomed thread, one that is aborted and one that is suspended begin nothing, and don't end by themselves; one that is aborted is killed
abbrev pub thread_takes_act : ThreadWord → More → Act → Bool
thread_takes_act w more (Act.Begin script line) = is_living w.life && may_go w
thread_takes_act w more Act.Exit = is_living w.life && may_go w
thread_takes_act w more Act.Killed = is_living w.life && w.aborted
thread_takes_act w more (Act.Abort who done) = true
thread_takes_act w more (Act.Suspend who done) = true
thread_takes_act w more (Act.Continue who done) = true
thread_takes_act w more (Act.Check a kind want verdict) = true
thread_takes_act w more (Act.Answered reply) = true
thread_takes_act w more (Act.Fatal reason cause) = true
thread_takes_act w more (Act.Doom who) = true
thread_takes_act w more (Act.DomMove d who reply) = not w.held && nat_lt d DOMAINS
thread_takes_act w more (Act.Start who) = nat_lt (starts_in more) DOMAINS
thread_takes_act w more Act.EnterUser = true
thread_takes_act w more act = false

abbrev pub thread_takes_unseen : ThreadWord → Unseen → Bool
thread_takes_unseen w Unseen.Hold = not w.held
thread_takes_unseen w Unseen.LetGo = w.held
thread_takes_unseen w Unseen.WordRead = true
thread_takes_unseen w (Unseen.Note site) = nat_lt site SITES
thread_takes_unseen w unseen = false

abbrev pub thread_takes : ThreadWord → FineAct → Bool
thread_takes w (FineAct.Shown event more) = thread_takes_act w more event.act
thread_takes w (FineAct.Unseen unseen) = thread_takes_unseen w unseen

-- The word that is left, but for its step number.

-- a life ends, and with it the note of its call
abbrev pub ended_word : ThreadWord → ThreadWord
ended_word w = record w { life = Life.Ended; note = None }

-- only a thread that lives gets a flag
abbrev pub flagged : ThreadWord → ThreadWord → ThreadWord
flagged w z = if is_living w.life then z else w

abbrev pub thread_after_act : ThreadWord → More → Act → ThreadWord
thread_after_act w more Act.Exit = ended_word w
thread_after_act w more (Act.Fatal reason cause) = ended_word w
thread_after_act w more Act.Killed = ended_word w
thread_after_act w more (Act.Answered reply) = record w { note = None }
thread_after_act w more (Act.Abort who done) = flagged w (record w { aborted = true })
thread_after_act w more (Act.Suspend who done) = flagged w (record w { suspended = true })
thread_after_act w more (Act.Continue who done) = flagged w (record w { suspended = false })
thread_after_act w more (Act.Doom who) = record w { doomed = true }
thread_after_act w more (Act.DomMove d who reply) = record w { domain = d }
thread_after_act w more (Act.Start who) =
    record w { life = Life.Living; mode = mode_in more; domain = starts_in more; aborted = false; suspended = false; note = None }
thread_after_act w more Act.EnterUser = record w { mode = Mode.User }
thread_after_act w more act = w

abbrev pub thread_after_unseen : ThreadWord → Unseen → ThreadWord
thread_after_unseen w Unseen.Hold = record w { held = true }
thread_after_unseen w Unseen.LetGo = record w { held = false }
thread_after_unseen w (Unseen.Note site) = record w { note = Some site }
thread_after_unseen w unseen = w

abbrev pub thread_after : ThreadWord → FineAct → ThreadWord
thread_after w (FineAct.Shown event more) = thread_after_act w more event.act
thread_after w (FineAct.Unseen unseen) = thread_after_unseen w unseen

abbrev pub counted_thread : ThreadWord → ThreadWord
counted_thread w = record w { number = w.number + 1 }

-- the step is lawful at a thread index with this word, and leaves that one
abbrev pub ThreadMay : ThreadWord → FineAct → ThreadWord → Type 0
ThreadMay w act z = Answering w.number 268435455 (thread_takes w act) (thread_says w act) act (counted_thread (thread_after w act)) z
