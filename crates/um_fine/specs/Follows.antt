-- How a processor goes on after a step.
use Rattle.std.specs.Prelude.{ℕ, ◌+◌, Bool, true, false, ◌==◌, ◌&&◌, not, if◌then◌else◌, List, [], ◌∷◌, ◌++◌, Option, Some, None}
use Rattle.um_base.specs.declared.names.Errno.{Errno}
use Rattle.um_base.specs.declared.names.Reply.{Reply}
use Rattle.um_base.specs.declared.names.ThreadIx.{ThreadIx}
use Rattle.um_base.specs.declared.ask.Told.{Told}
use Rattle.um_base.specs.declared.image.Image.{Image}
use Rattle.um_base.specs.Places.{own_row}
use Rattle.um_machine.specs.declared.pending.Pending.{Pending}
use Rattle.um_base.specs.declared.act.Answer.{Answer}
use Rattle.um_base.specs.declared.limits.TheConstants.{FUTEX_CELL}
use Rattle.um_machine.specs.Domains.{reply_to}
use Rattle.um_machine.specs.Services.{is_empty}
use Rattle.um_machine.specs.Time.{told_late}
use Rattle.um_words.specs.declared.fine.FineAct.{FineAct}
use Rattle.um_words.specs.declared.fine.Mark.{Mark}
use Rattle.um_words.specs.declared.thread_word.ThreadWord.{ThreadWord}
use Rattle.um_words.specs.Threads.{is_awake}
use Rattle.um_machine.specs.Order.{Steps}
use Rattle.um_fine.specs.Context.{Context, no_context}
use Rattle.um_fine.specs.Steps.{Site, Exchange, FineStep}
use Rattle.um_fine.specs.Addresses.{row_named}
use Rattle.um_fine.specs.Answers.{act_in, answer_in, before_in, charge_in, context_in, domain_in, is_done_in, is_killed, is_visit, is_void, is_word_read, outcome_in, parts_in, size_in, thread_in, woken_in}
use Rattle.um_fine.specs.Continues.{continues, resumed}
use Rattle.um_fine.specs.Places.{Todo, Todos, but, clean_pairs, cleaning, drops, handling, next_steps, noted_cell, put_away, passes, turn, with_cleaning}
use Rattle.um_fine.specs.Processor.{Processor, edit_of, is_of, key_of}
use Rattle.um_fine.specs.Asks.{begins_cleaning}

abbrev pub row_number : Site → ℕ
row_number (Site.row x) = x
row_number _ = 0

-- the woken are told, and claims are ended
abbrev pub wakes : List (ThreadIx × Told) → Todos → Todos
wakes [] todo = todo
wakes (w ∷ ws) todo = Todo.wake w.0.0 w.1 ∷ wakes ws todo

-- what those are told whom no object wakes
abbrev pub told_all : List (ThreadIx × Reply) → List (ThreadIx × Told)
told_all [] = []
told_all (w ∷ ws) = (w.0, record { reply = w.1; taken = [] }) ∷ told_all ws

-- whom a mark wakes: its thread, by its cell, or the one whom a timer serves
abbrev pub told_marked : Mark → List (ThreadIx × Reply) → List (ThreadIx × Told)
told_marked (Mark.Thread who site) woken = told_late who (if site == 304 then FUTEX_CELL else site)
told_marked (Mark.Timer x) woken = told_all woken

abbrev pub end_calls : List ℕ → Todos → Todos
end_calls [] todo = todo
end_calls (x ∷ xs) todo = Todo.end_call x ∷ end_calls xs todo

-- after a claim: a table of this version isn't loaded again, and a domain that isn't initialised takes no thread
abbrev pub unless_loaded : Bool → Todos → Todos
unless_loaded true (Todo.region_load ∷ todo) = todo
unless_loaded loaded todo = todo

abbrev pub after_claim : Processor → ℕ → Bool → ℕ → Todos → Processor
after_claim p d true version todo = record p { reply = Reply.Num 0; todo = Todo.read_done (Some d) ∷ todo }
after_claim p d false version todo = record p { reply = Reply.Fail Errno.EINVAL; todo = todo }

module _ (image : Image) where
  -- what follows an event: the woken are told, the claims of a call end, and at its end that of a thread's life
  abbrev pub behind_step : Context → Pending → Exchange → Todos → Todos
  behind_step c (Pending.Work a ask) moved todo = wakes (outcome_in moved).woken todo
  behind_step c Pending.Exit moved todo = end_calls c.claims todo
  behind_step c Pending.Killed moved todo = end_calls c.claims todo
  behind_step c (Pending.Answer reply to) moved todo = end_calls c.claims todo
  behind_step c (Pending.Fatal reason cause) moved todo = end_calls c.claims todo
  behind_step c (Pending.ClearInit a) moved todo =
      let own = own_row image c.thread in if row_named image a == own then Todo.end_call own ∷ todo else todo
  behind_step c q moved todo = todo

  -- where no fine step is left, those of the next pending step
  abbrev pub filled_up : Context → Todos → Todos
  filled_up c [] = next_steps image c c.pending
  filled_up c (q ∷ todo) = q ∷ todo

  abbrev pub refilled_by : Processor → Todos → Processor
  refilled_by p todo = record p { todo = filled_up p.context todo }

  -- behind an event that stops, or goes on with, another thread: a look where it may wait, or where it may sleep
  abbrev pub looks_for : ℕ → ThreadWord → Todos → Todos
  looks_for who w todo = elim w.note as (λ _. Todos) [ Some site ↦ Todo.look who site w.number ∷ todo | None ↦ Todo.rouse who ∷ todo ]

  abbrev pub looks_behind : Context → Pending → FineStep → Todos → Todos
  looks_behind c (Pending.Abort who) e todo =
      if is_done_in (act_in e.act) && not (who.0 == c.thread) then looks_for who.0 (thread_in e.word) todo else todo
  looks_behind c (Pending.Continue who) e todo = if is_done_in (act_in e.act) then Todo.rouse who.0 ∷ todo else todo
  looks_behind c (Pending.FutexWake a all) e todo = wakes (told_all (woken_in (act_in e.act))) todo
  looks_behind c q e todo = todo

  -- behind an answer that is to wait: the own word is read once more
  abbrev pub rereads : Answer → Option ℕ → Todos → Todos
  rereads Answer.Wait (Some site) todo = todo ++ Todo.reread site ∷ []
  rereads answer site todo = todo

  abbrev pub waits_behind : Pending → FineStep → Todos → Todos
  waits_behind q e todo = rereads (answer_in (act_in e.act)) (noted_cell image (q ∷ [])) todo

  abbrev pub after_show : Processor → FineStep → Pending → Steps → Todos → Processor
  after_show p e q rest todo =
      let c = continues image p.context 0 q rest (act_in e.act) e.moved in
      record p { context = c; todo = looks_behind p.context q e (behind_step p.context q e.moved (filled_up c (waits_behind q e todo))) }

  -- at the begin of a turn an aborted thread is killed instead
  abbrev pub shown_step : Pending → FineAct → Pending
  shown_step q act = if is_killed act then Pending.Killed else q

  abbrev pub after_take : Processor → Exchange → Processor
  after_take p (Exchange.thread c None) =
      if is_empty c.pending then record p { context = c; todo = turn image c } else refilled_by (record p { context = c }) []
  after_take p (Exchange.mark deadline mark) = record p { todo = handling deadline mark }
  after_take p (Exchange.thread c (Some told)) = refilled_by (record p { context = resumed image c told }) []
  after_take p moved = p

  abbrev pub dropped_at : Context → ℕ → Bool → Context
  dropped_at c x true = c
  dropped_at c x false = record c { pending = Pending.Drops (x + 1) ∷ after_first c.pending }
    where
      after_first : Steps → Steps
      after_first [] = []
      after_first (q ∷ rest) = rest

  abbrev pub goes_on_by : Processor → FineStep → Todos → Processor
  goes_on_by p e [] = after_take p e.moved
  goes_on_by p e (Todo.show q rest ∷ todo) =
      if is_word_read e.act then record p { todo = put_away (thread_in e.word).doomed } else after_show p e (shown_step q e.act) rest todo
  goes_on_by p e (Todo.note site ∷ todo) =
      record p { context = record p.context { noted = Some (thread_in e.word).number }; todo = todo }
  goes_on_by p e (Todo.owe ∷ todo) = record p { todo = todo }
  goes_on_by p e (Todo.settle deadline mark ∷ todo) = refilled_by p todo
  goes_on_by p e (Todo.reread site ∷ todo) =
      let w = thread_in e.word in refilled_by p (if w.aborted then Todo.look p.context.thread site w.number ∷ todo else todo)
  goes_on_by p e (Todo.look who site before ∷ todo) = refilled_by p (if is_void e.act then todo else Todo.tell_cut who ∷ todo)
  goes_on_by p e (Todo.tell_cut who ∷ todo) = refilled_by p todo
  goes_on_by p e (Todo.rouse who ∷ todo) = refilled_by p (if is_void e.act then todo else Todo.add (context_in e.moved) ∷ todo)
  goes_on_by p e (Todo.sleep ∷ todo) = record p { context = record no_context { thread = p.context.thread; ended = true }; todo = todo }
  goes_on_by p e (Todo.reread_asleep ∷ todo) =
      record p { todo = if is_awake (thread_in e.word) then Todo.rouse p.context.thread ∷ todo else todo }
  goes_on_by p e (Todo.unshut who ∷ todo) = record p { todo = todo }
  goes_on_by p e (Todo.leave ∷ todo) = record p { todo = wakes (told_all (woken_in (act_in e.act))) todo }
  goes_on_by p e (Todo.handle deadline mark ∷ todo) =
      record p { todo = if is_void e.act then todo else wakes (told_marked mark (woken_in (act_in e.act))) todo }
  goes_on_by p e (Todo.paid ∷ todo) = record p { todo = [] }
  goes_on_by p e (Todo.hold ∷ todo) = record p { domain = (thread_in e.word).domain; todo = todo }
  goes_on_by p e (Todo.let_go ∷ todo) = refilled_by p todo
  goes_on_by p e (Todo.read_claim None ∷ todo) =
      let p2 = record p { version = (domain_in e.word).version } in record p2 { todo = unless_loaded (is_of (key_of p2) p2.table) todo }
  goes_on_by p e (Todo.read_claim (Some d) ∷ todo) = after_claim p d (domain_in e.word).init 0 todo
  goes_on_by p e (Todo.read_done d ∷ todo) = refilled_by p todo
  goes_on_by p e (Todo.region_load ∷ todo) =
      record p { table = Some (record { key = key_of p; parts = parts_in e.moved }); todo = todo }
  goes_on_by p e (Todo.write_claim d ∷ todo) = record p { todo = todo }
  goes_on_by p e (Todo.edit d q ∷ todo) = record p { reply = reply_to (edit_of image q (before_in e.moved)); todo = todo }
  goes_on_by p e (Todo.size_look x ∷ todo) = record p { size = size_in e.moved; todo = todo }
  goes_on_by p e (Todo.end_call x ∷ todo) = refilled_by p todo
  goes_on_by p e (Todo.wake who told ∷ todo) = refilled_by p todo
  goes_on_by p e (Todo.add c ∷ todo) = refilled_by p todo
  goes_on_by p e (Todo.pass who x ∷ todo) = refilled_by p (passes who (but (own_row image p.context.thread) (x + 1)) todo)
  goes_on_by p e (Todo.drop x ∷ todo) = refilled_by (record p { context = dropped_at p.context x (is_visit e.act) }) (drops (x + 1) todo)
  goes_on_by p e (Todo.clean_pair who x ∷ todo) = record p { todo = clean_pairs who (x + 1) todo }
  goes_on_by p e (Todo.wipe x ∷ todo) = record p { charge = charge_in e.moved; todo = todo }
  goes_on_by p e (Todo.vacate x ∷ todo) = record p { todo = todo }
  goes_on_by p e (Todo.recycle x ∷ todo) = refilled_by p todo
  goes_on_by p e (Todo.park ∷ todo) = record p { context = no_context; todo = [] }
  goes_on_by p e (Todo.done ∷ todo) = record p { context = no_context; todo = [] }

  abbrev pub with_cleaned : Processor → FineStep → Bool → Processor
  with_cleaned p e false = p
  with_cleaned p e true = record p { todo = with_cleaning (cleaning image (row_number e.site)) p.todo }

  -- the thread of its last event
  abbrev pub with_actor : Processor → FineAct → Processor
  with_actor p (FineAct.Shown event more) = record p { actor = Some event.thread.0 }
  with_actor p (FineAct.Unseen unseen) = p

  -- the processor after a step
  abbrev pub p_next : Processor → FineStep → Processor
  p_next p e = with_actor (with_cleaned (goes_on_by p e p.todo) e (begins_cleaning e)) e.act
