-- The steps of calls on threads and on domains, what each asks of the word, and what forbids it.
use Rattle.std.specs.Prelude.{ℕ, Bool, true, false, ◌==◌, ◌&&◌, ◌||◌, not, nat_lt, Some, None}
use Rattle.um_base.specs.declared.names.Errno.{Errno}
use Rattle.um_base.specs.declared.names.Mode.{Mode}
use Rattle.um_base.specs.declared.names.Reply.{Reply}
use Rattle.um_base.specs.declared.names.ThreadIx.{ThreadIx}
use Rattle.um_base.specs.declared.act.Act.{Act}
use Rattle.um_base.specs.declared.limits.TheConstants.{DOMAINS}
use Rattle.um_machine.specs.State.{is_living}
use Rattle.um_words.specs.declared.fine.FineAct.{FineAct}
use Rattle.um_words.specs.declared.fine.More.{More}
use Rattle.um_words.specs.declared.fine.Unseen.{Unseen}
use Rattle.um_words.specs.declared.kind.TheConstants.{SITES}
use Rattle.um_words.specs.declared.domain_act.DomainAct.{DomainAct}
use Rattle.um_words.specs.declared.thread_act.ThreadAct.{ThreadAct}
use Rattle.um_words.specs.declared.thread_word.ThreadWord.{ThreadWord}
use Rattle.um_words.specs.declared.dom_word.DomWord.{DomWord}
use Rattle.um_words.specs.Domains.{writes}
use Rattle.um_site.specs.Calls.{shown}
use Rattle.um_thread.specs.declared.threads.ThreadCall.{ThreadCall}
use Rattle.um_thread.specs.declared.domains.DomainCall.{DomainCall}

-- Threads.

-- the step of each call on a word: who lives can be stopped, and goes on
abbrev pub thread_act : ThreadWord → ThreadIx → ThreadIx → ThreadCall → FineAct
thread_act w by who (ThreadCall.Start mode domain) = FineAct.Shown (record { thread = by; act = Act.Start who }) (More.Starts mode domain)
thread_act w by who (ThreadCall.Begin script line) = shown by (Act.Begin script line)
thread_act w by who (ThreadCall.Reply reply) = shown by (Act.Answered reply)
thread_act w by who (ThreadCall.Miss addr kind want) = shown by (Act.Check addr kind want (Some Errno.EBADF))
thread_act w by who (ThreadCall.Fatal reason cause) = shown by (Act.Fatal reason cause)
thread_act w by who ThreadCall.Exit = shown by Act.Exit
thread_act w by who ThreadCall.Doom = shown by (Act.Doom who)
thread_act w by who ThreadCall.Hold = FineAct.Unseen Unseen.Hold
thread_act w by who ThreadCall.LetGo = FineAct.Unseen Unseen.LetGo
thread_act w by who (ThreadCall.Move domain) = shown by (Act.DomMove domain who (Reply.Num 0))
thread_act w by who ThreadCall.EnterUser = shown by Act.EnterUser
thread_act w by who ThreadCall.Abort = shown by (Act.Abort who (is_living w.life))
thread_act w by who ThreadCall.Suspend = shown by (Act.Suspend who (is_living w.life))
thread_act w by who ThreadCall.Continue = shown by (Act.Continue who (is_living w.life))
thread_act w by who ThreadCall.Killed = shown by Act.Killed
thread_act w by who (ThreadCall.Note site) = FineAct.Unseen (Unseen.Note site)
thread_act w by who ThreadCall.ReadWord = FineAct.Unseen Unseen.WordRead

-- what each asks of the body that steps the word
abbrev pub asked_of_thread : ThreadIx → ThreadIx → ThreadCall → ThreadAct
asked_of_thread by who (ThreadCall.Start mode domain) = ThreadAct.Start by who mode domain
asked_of_thread by who (ThreadCall.Begin script line) = ThreadAct.Begin by script line
asked_of_thread by who (ThreadCall.Reply reply) = ThreadAct.Answered by reply
asked_of_thread by who (ThreadCall.Miss addr kind want) = ThreadAct.Miss by addr kind want Mode.User
asked_of_thread by who (ThreadCall.Fatal reason cause) = ThreadAct.Fatal by reason cause
asked_of_thread by who ThreadCall.Exit = ThreadAct.Exit by
asked_of_thread by who ThreadCall.Doom = ThreadAct.Doom by who
asked_of_thread by who ThreadCall.Hold = ThreadAct.Hold
asked_of_thread by who ThreadCall.LetGo = ThreadAct.LetGo
asked_of_thread by who (ThreadCall.Move domain) = ThreadAct.DomMove by domain who (Reply.Num 0)
asked_of_thread by who ThreadCall.EnterUser = ThreadAct.EnterUser by
asked_of_thread by who ThreadCall.Abort = ThreadAct.Abort by who
asked_of_thread by who ThreadCall.Suspend = ThreadAct.Suspend by who
asked_of_thread by who ThreadCall.Continue = ThreadAct.Continue by who
asked_of_thread by who ThreadCall.Killed = ThreadAct.Killed by
asked_of_thread by who (ThreadCall.Note site) = ThreadAct.Note site
asked_of_thread by who ThreadCall.ReadWord = ThreadAct.ReadWord

-- a thread that is doomed, aborted or suspended begins no line, and doesn't end by itself
abbrev pub is_stopped : ThreadWord → Bool
is_stopped w = w.doomed || w.aborted || w.suspended

-- one that is held keeps its domain
abbrev pub forbids_thread : ThreadCall → ThreadWord → Bool
forbids_thread (ThreadCall.Begin script line) w = is_stopped w
forbids_thread ThreadCall.Exit w = is_stopped w
forbids_thread (ThreadCall.Move domain) w = w.held
forbids_thread call w = false

-- what each call asks of the word
abbrev pub fits_thread : ThreadCall → ThreadWord → Bool
fits_thread (ThreadCall.Start mode domain) w = nat_lt domain DOMAINS
fits_thread (ThreadCall.Begin script line) w = is_stopped w || is_living w.life
fits_thread ThreadCall.Exit w = is_stopped w || is_living w.life
fits_thread ThreadCall.Killed w = is_living w.life && w.aborted
fits_thread (ThreadCall.Note site) w = nat_lt site SITES
fits_thread ThreadCall.Hold w = not w.held
fits_thread ThreadCall.LetGo w = w.held
fits_thread (ThreadCall.Move domain) w = nat_lt domain DOMAINS
fits_thread call w = true

-- Domains.

abbrev pub domain_act : ThreadIx → ℕ → DomainCall → FineAct
domain_act by domain DomainCall.ReadClaim = FineAct.Unseen Unseen.ReadClaim
domain_act by domain (DomainCall.ReadDone None) = FineAct.Unseen Unseen.ReadDone
domain_act by domain (DomainCall.ReadDone (Some who)) = shown by (Act.DomMove domain who (Reply.Fail Errno.EINVAL))
domain_act by domain DomainCall.WriteClaim = FineAct.Unseen Unseen.WriteClaim
domain_act by domain (DomainCall.WriteDone edit) = shown by edit

-- what each asks of the body that steps the word
abbrev pub asked_edit : ThreadIx → Act → DomainAct
asked_edit by (Act.DomInit d reply) = DomainAct.DomInit by d reply
asked_edit by (Act.DomAdd d range attr reply) = DomainAct.DomAdd by d range attr reply
asked_edit by (Act.DomRemove d range attr reply) = DomainAct.DomRemove by d range attr reply
asked_edit by act = DomainAct.WriteClaim

abbrev pub asked_of_domain : ThreadIx → ℕ → DomainCall → DomainAct
asked_of_domain by domain DomainCall.ReadClaim = DomainAct.ReadClaim
asked_of_domain by domain (DomainCall.ReadDone None) = DomainAct.ReadDone
asked_of_domain by domain (DomainCall.ReadDone (Some who)) = DomainAct.DomMove by domain who (Reply.Fail Errno.EINVAL)
asked_of_domain by domain DomainCall.WriteClaim = DomainAct.WriteClaim
asked_of_domain by domain (DomainCall.WriteDone edit) = asked_edit by edit

-- nobody reads while somebody writes, and nobody writes while somebody reads or writes
abbrev pub forbids_domain : DomainCall → DomWord → Bool
forbids_domain DomainCall.ReadClaim w = w.writer
forbids_domain DomainCall.WriteClaim w = w.writer || nat_lt 0 w.readers
forbids_domain call w = false

-- an edit of the domain's partitions
abbrev pub is_edit_of : ℕ → Act → Bool
is_edit_of domain (Act.DomInit d reply) = d == domain
is_edit_of domain (Act.DomAdd d range attr reply) = d == domain
is_edit_of domain (Act.DomRemove d range attr reply) = d == domain
is_edit_of domain act = false

abbrev pub fits_domain : ℕ → DomainCall → DomWord → Bool
fits_domain domain DomainCall.ReadClaim w = w.writer || nat_lt w.readers 127
fits_domain domain (DomainCall.ReadDone None) w = nat_lt 0 w.readers
fits_domain domain (DomainCall.ReadDone (Some who)) w = nat_lt 0 w.readers && not w.init
fits_domain domain DomainCall.WriteClaim w = true
fits_domain domain (DomainCall.WriteDone edit) w = writes w && is_edit_of domain edit
