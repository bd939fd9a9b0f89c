-- The step that a processor makes next: where, what it says, and what goes with it.
use Rattle.std.specs.Prelude.{◌≡◌, ℕ, zero, suc, ◌+◌, ◌-◌, Bool, true, false, ◌&&◌, ◌||◌, not, nat_lt, nat_le, IsTrue, if◌then◌else◌, [], ◌∷◌, length, Option, Some, None, is_some, unwrap_or}
use Rattle.um_base.specs.declared.names.Access.{Access}
use Rattle.um_base.specs.declared.names.Addr.{Addr}
use Rattle.um_base.specs.declared.names.Kind.{Kind}
use Rattle.um_base.specs.declared.names.ThreadIx.{ThreadIx}
use Rattle.um_base.specs.declared.act.Act.{Act}
use Rattle.um_base.specs.declared.act.Leftover.{Leftover}
use Rattle.um_base.specs.declared.ask.Ask.{Ask}
use Rattle.um_base.specs.declared.ask.Waiter.{Waiter}
use Rattle.um_base.specs.declared.image.Image.{Image}
use Rattle.um_base.specs.declared.limits.TheConstants.{ROWS, STATIC_ROWS}
use Rattle.um_base.specs.Places.{row_at, own_row}
use Rattle.um_base.specs.Regions.{regions_allow}
use Rattle.um_machine.specs.declared.pending.Amount.{Amount}
use Rattle.um_machine.specs.declared.pending.Pending.{Pending}
use Rattle.um_machine.specs.State.{instruction_at}
use Rattle.um_machine.specs.Domains.{domain_after}
use Rattle.um_machine.specs.Objects.{has_kind}
use Rattle.um_machine.specs.Order.{Steps, to_thread}
use Rattle.um_machine.specs.Table.{bytes_given, cost_of}
use Rattle.um_words.specs.declared.fine.FineAct.{FineAct}
use Rattle.um_words.specs.declared.fine.Mark.{Mark}
use Rattle.um_words.specs.declared.fine.More.{More}
use Rattle.um_words.specs.declared.fine.Unseen.{Unseen}
use Rattle.um_words.specs.Rows.{has, is_cleaning}
use Rattle.um_fine.specs.Steps.{Site, Exchange, FineStep}
use Rattle.um_fine.specs.Addresses.{row_named, address_of}
use Rattle.um_fine.specs.Answers.{act_in, answer_in, before_in, bytes_in, charge_in, context_in, deadline_in, fits_in, found_in, given_in, is_done_in, is_due_act, is_killed, is_shut_act, is_tick, is_visit, is_void, is_word_read, leftover_in, no_outcome, now_in, outcome_in, parts_in, ready_in, reserved_in, row_in, set_in, size_in, thread_in, value_in, verdict_in, woken_in}
use Rattle.um_fine.specs.Scheduler.{takes_turn}
use Rattle.um_fine.specs.Continues.{reply_of}
use Rattle.um_fine.specs.Places.{Todo, Todos, cleanings, mark_for}
use Rattle.um_fine.specs.Sites.{site_numbered}
use Rattle.um_fine.specs.Processor.{Processor, actor_or, edit_of, fails, kind_of, loaded}

-- whether a visit is the one to make, by whether there is a permission to drop
abbrev pub is_dropped : Leftover → Bool
is_dropped Leftover.NoPair = false
is_dropped left = true

abbrev pub fits_visit : FineStep → Bool → Bool
fits_visit e there = if is_visit e.act then not there else is_dropped (leftover_in (act_in e.act))

-- whether a step moved its row to cleaning
abbrev pub begins_cleaning : FineStep → Bool
begins_cleaning e =
    elim e.act as (λ _. Bool) [
      | FineAct.Unseen Unseen.EndCall ↦ is_cleaning (row_in e.word).stage
      | FineAct.Unseen _ ↦ false
      | FineAct.Shown event more ↦ elim (leftover_in event.act) as (λ _. Bool) [ Leftover.Gone ↦ is_cleaning (row_in e.word).stage | _ ↦ false ]
    ]

module _ (image : Image) (p : Processor) where
  abbrev pub me : ThreadIx
  me = to_thread p.context.thread

  -- whether its region table allows this
  abbrev pub allows : Access → ℕ → ℕ → Bool
  allows access a n = regions_allow (loaded image p.table) access a n

  -- how many bytes from an address on it may read one by one, of n
  abbrev pub readable : ℕ → ℕ → ℕ
  readable a zero = 0
  readable a (suc n) = if allows Access.Read a 1 then readable (a + 1) n + 1 else 0

  abbrev pub amount : Amount → ℕ
  amount (Amount.Bytes n) = n
  amount (Amount.MessageOf a) = p.size

  abbrev pub claimed_domain : Option ℕ → ℕ
  claimed_domain None = p.domain
  claimed_domain (Some d) = d

  -- Where its next step is made.

  abbrev pub check_site : Option ℕ → Site
  check_site None = Site.thread p.context.thread
  check_site (Some x) = Site.row x

  abbrev pub at_addr : Addr → Site
  at_addr a = Site.row ((row_named image a))

  -- A resume, visits and cleaning have places of their own. Shown here they would be an exit at the cell of memory, which takes none.
  abbrev pub site_of_step : Pending → Site
  site_of_step Pending.Begin = Site.thread p.context.thread
  site_of_step Pending.Exit = Site.thread p.context.thread
  site_of_step (Pending.Check a kind want refusal) = check_site (row_at image a.0)
  site_of_step (Pending.Work a ask) = Site.object ((row_named image a))
  site_of_step (Pending.Answer reply to) = Site.thread p.context.thread
  site_of_step (Pending.Grant who a) = at_addr a
  site_of_step (Pending.Own who) = Site.row ((own_row image who.0))
  site_of_step (Pending.DropPair who a) = at_addr a
  site_of_step (Pending.Publish a) = at_addr a
  site_of_step (Pending.SetInit a strict undo) = at_addr a
  site_of_step (Pending.ClearInit a) = at_addr a
  site_of_step (Pending.Named who) = Site.object ((own_row image who.0))
  site_of_step (Pending.Reserve kind) = Site.heap
  site_of_step (Pending.Born a) = at_addr a
  site_of_step (Pending.Buffer size) = Site.heap
  site_of_step (Pending.Unbuffer size) = Site.heap
  site_of_step (Pending.DomInit d parts) = Site.domain d
  site_of_step (Pending.DomAdd d range attr) = Site.domain d
  site_of_step (Pending.DomRemove d range attr) = Site.domain d
  site_of_step (Pending.DomMove d who) = if fails p.reply then Site.domain d else Site.thread who.0
  site_of_step (Pending.Start who script stack priority mode) = Site.thread who.0
  site_of_step (Pending.EnterUser script) = Site.thread p.context.thread
  site_of_step (Pending.Fatal reason cause) = Site.thread p.context.thread
  site_of_step (Pending.Dooms from) = Site.thread from
  site_of_step (Pending.Arm ticks) = Site.clock
  site_of_step (Pending.ArmTimer ticks) = Site.clock
  site_of_step (Pending.Abort who) = Site.thread who.0
  site_of_step (Pending.Suspend who) = Site.thread who.0
  site_of_step (Pending.Continue who) = Site.thread who.0
  site_of_step Pending.Killed = Site.thread p.context.thread
  site_of_step (Pending.Join who timeout) = Site.joins
  site_of_step q = Site.memory

  abbrev pub mark_site : Mark → Site
  mark_site (Mark.Thread who site) = site_numbered site
  mark_site (Mark.Timer x) = Site.object x.0

  -- one that has no thread takes the first that is ready, or tends to the clock
  abbrev pub idle_site : FineAct → Site
  idle_site act = if is_due_act act || is_tick act then Site.clock else Site.scheduler

  abbrev pub site_at : Todos → Site
  site_at [] = Site.scheduler
  site_at (Todo.note site ∷ todo) = Site.thread p.context.thread
  site_at (Todo.owe ∷ todo) = Site.scheduler
  site_at (Todo.settle deadline mark ∷ todo) = Site.clock
  site_at (Todo.reread site ∷ todo) = Site.thread p.context.thread
  site_at (Todo.look who site before ∷ todo) = site_numbered site
  site_at (Todo.tell_cut who ∷ todo) = Site.scheduler
  site_at (Todo.rouse who ∷ todo) = Site.joins
  site_at (Todo.sleep ∷ todo) = Site.joins
  site_at (Todo.reread_asleep ∷ todo) = Site.thread p.context.thread
  site_at (Todo.unshut who ∷ todo) = Site.joins
  site_at (Todo.leave ∷ todo) = Site.joins
  site_at (Todo.handle deadline mark ∷ todo) = mark_site mark
  site_at (Todo.paid ∷ todo) = Site.scheduler
  site_at (Todo.show q rest ∷ todo) = site_of_step q
  site_at (Todo.hold ∷ todo) = Site.thread p.context.thread
  site_at (Todo.let_go ∷ todo) = Site.thread p.context.thread
  site_at (Todo.read_claim d ∷ todo) = Site.domain (claimed_domain d)
  site_at (Todo.read_done d ∷ todo) = Site.domain (claimed_domain d)
  site_at (Todo.region_load ∷ todo) = Site.parts p.domain
  site_at (Todo.write_claim d ∷ todo) = Site.domain d
  site_at (Todo.edit d q ∷ todo) = Site.parts d
  site_at (Todo.size_look x ∷ todo) = Site.object x
  site_at (Todo.end_call x ∷ todo) = Site.row x
  site_at (Todo.wake who told ∷ todo) = Site.scheduler
  site_at (Todo.add c ∷ todo) = Site.scheduler
  site_at (Todo.pass who x ∷ todo) = Site.row x
  site_at (Todo.drop x ∷ todo) = Site.row x
  site_at (Todo.clean_pair who x ∷ todo) = Site.row x
  site_at (Todo.wipe x ∷ todo) = Site.object x
  site_at (Todo.vacate x ∷ todo) = Site.row x
  site_at (Todo.recycle x ∷ todo) = Site.heap
  site_at (Todo.park ∷ todo) = Site.scheduler
  site_at (Todo.done ∷ todo) = Site.scheduler

  abbrev pub site_by : Todos → FineAct → Site
  site_by [] act = idle_site act
  site_by (q ∷ todo) act = site_at (q ∷ todo)

  abbrev pub next_site : FineAct → Site
  next_site act = site_by p.todo act

  -- What it says, with the answer that an act has from its site.

  abbrev pub says_step : Pending → Act → Act
  says_step Pending.Begin act = Act.Begin p.context.place.script (p.context.place.line + 1)
  says_step Pending.Exit act = Act.Exit
  says_step (Pending.Check a kind want refusal) act = Act.Check a kind want (verdict_in act)
  says_step (Pending.Load to a n) act = if allows Access.Read a.0 n then Act.Load a n (value_in act) else Act.Fault Access.Read a n
  says_step (Pending.Store a n value) act = if allows Access.Write a.0 n then Act.Store a n value else Act.Fault Access.Write a n
  says_step (Pending.Fetch a) act = if allows Access.Exec a.0 4 then Act.Fetch a else Act.Fault Access.Exec a 4
  says_step (Pending.Probe a m) act = Act.Probe a (amount m) (allows Access.Write a.0 (amount m))
  says_step (Pending.CopyIn a m) act = Act.CopyIn a (amount m) (allows Access.Read a.0 (amount m))
  says_step (Pending.CopyOut a) act = let n = length p.context.buffer in Act.CopyOut a n (allows Access.Write a.0 n)
  says_step (Pending.CopyStr a) act = Act.CopyStr a (found_in act)
  says_step (Pending.Erase stack) act = Act.Erase stack
  says_step (Pending.Work a ask) act = Act.Work a (answer_in act) (woken_in act)
  says_step (Pending.Answer reply to) act = Act.Answered (reply_of image p.context reply)
  says_step (Pending.Grant who a) act = Act.Grant who a (given_in act)
  says_step (Pending.Own who) act = Act.Own who (given_in act)
  says_step (Pending.DropPair who a) act = Act.DropPair who a (leftover_in act)
  says_step (Pending.Publish a) act = Act.Publish a (given_in act)
  says_step (Pending.SetInit a strict undo) act = Act.SetInit a (set_in act)
  says_step (Pending.ClearInit a) act = Act.ClearInit a
  says_step (Pending.Named who) act = Act.Named who
  says_step (Pending.Reserve kind) act = Act.Reserve kind (reserved_in act)
  says_step (Pending.Born a) act = Act.Born a
  says_step (Pending.Buffer size) act = Act.Buffer size (fits_in act)
  says_step (Pending.Unbuffer size) act = Act.Unbuffer size
  says_step (Pending.DomInit d parts) act = Act.DomInit d p.reply
  says_step (Pending.DomAdd d range attr) act = Act.DomAdd d range attr p.reply
  says_step (Pending.DomRemove d range attr) act = Act.DomRemove d range attr p.reply
  says_step (Pending.DomMove d who) act = Act.DomMove d who p.reply
  says_step (Pending.Start who script stack priority mode) act = Act.Start who
  says_step (Pending.EnterUser script) act = Act.EnterUser
  says_step (Pending.Fatal reason cause) act = Act.Fatal reason cause
  says_step (Pending.Dooms from) act = Act.Doom (to_thread from)
  says_step (Pending.Arm ticks) act = Act.Arm (deadline_in act)
  says_step (Pending.ArmTimer ticks) act = Act.Arm (deadline_in act)
  says_step (Pending.Abort who) act = Act.Abort who (is_done_in act)
  says_step (Pending.Suspend who) act = Act.Suspend who (is_done_in act)
  says_step (Pending.Continue who) act = Act.Continue who (is_done_in act)
  says_step Pending.Killed act = Act.Killed
  says_step (Pending.Join who timeout) act = Act.Join who (answer_in act)
  says_step (Pending.FutexWait a value timeout) act = Act.FutexWait a value (answer_in act)
  says_step (Pending.FutexWake a all) act = Act.FutexWake a (answer_in act) (woken_in act)
  says_step q act = Act.Exit

  -- what the site needs beside the event
  abbrev pub fits_kind : Option Kind → Option ℕ → Bool
  fits_kind kind None = false
  fits_kind kind (Some x) = has_kind kind (kind_of image x)

  abbrev pub more_of : Pending → More
  more_of (Pending.Check a kind want refusal) = More.By p.context.mode (fits_kind kind (row_at image a.0))
  more_of (Pending.SetInit a strict undo) = More.Strict strict
  more_of (Pending.Start who script stack priority mode) = More.Starts mode p.domain
  more_of (Pending.Join who timeout) = More.Waits true timeout
  more_of (Pending.FutexWait a value timeout) = More.Waits (allows Access.Read a.0 4) timeout
  more_of (Pending.FutexWake a all) = More.Wakes (allows Access.Read a.0 4) all
  more_of q = More.Nothing

  abbrev pub by_me : Act → FineAct
  by_me act = FineAct.Shown (record { thread = me; act = act }) More.Nothing

  -- a visit, or what is done there
  abbrev pub visits : FineAct → Act → FineAct
  visits e act = if is_visit e then FineAct.Unseen Unseen.Visit else by_me act

  abbrev pub shows : Pending → FineAct → FineAct
  shows q e = FineAct.Shown (record { thread = me; act = says_step q (act_in e) }) (more_of q)

  -- the event, unless the thread's word shows it doomed, aborted or suspended
  abbrev pub begins : Pending → FineAct → FineAct
  begins q e = if is_word_read e then FineAct.Unseen Unseen.WordRead else if is_killed e then by_me Act.Killed else shows q e

  -- an event of time, by the thread of the last event that this processor made
  abbrev pub by_actor : Act → FineAct
  by_actor act = FineAct.Shown (record { thread = to_thread (actor_or image p.actor); act = act }) More.Nothing

  -- what a look is for, or that it finds nothing
  abbrev pub or_void : FineAct → FineAct → FineAct
  or_void e act = if is_void e then FineAct.Unseen Unseen.Void else act

  abbrev pub marks_end : Mark → FineAct → Act
  marks_end (Mark.Thread who site) e = Act.TimedOut who
  marks_end (Mark.Timer x) e = Act.Expire (address_of image x.0) (woken_in (act_in e))

  abbrev pub says_show : Pending → FineAct → FineAct
  says_show Pending.Begin e = begins Pending.Begin e
  says_show Pending.Exit e = begins Pending.Exit e
  says_show q e = shows q e

  abbrev pub says_turn : Exchange → FineAct
  says_turn (Exchange.thread c told) = takes_turn c told
  says_turn moved = FineAct.Unseen (Unseen.Next me)

  abbrev pub says_idle : FineAct → Exchange → FineAct
  says_idle e moved =
      if is_due_act e then FineAct.Unseen Unseen.Due else if is_tick e then by_actor (Act.Tick (now_in (act_in e))) else says_turn moved

  abbrev pub says : Todos → FineAct → Exchange → FineAct
  says [] e moved = says_idle e moved
  says (Todo.note site ∷ todo) e moved = FineAct.Unseen (Unseen.Note site)
  says (Todo.owe ∷ todo) e moved = FineAct.Unseen Unseen.Owe
  says (Todo.settle deadline mark ∷ todo) e moved = FineAct.Unseen Unseen.Settle
  says (Todo.reread site ∷ todo) e moved = FineAct.Unseen Unseen.WordRead
  says (Todo.look who site before ∷ todo) e moved = or_void e (by_me (Act.Cut (to_thread who)))
  says (Todo.tell_cut who ∷ todo) e moved = FineAct.Unseen (Unseen.Cut (to_thread who) (ready_in e))
  says (Todo.rouse who ∷ todo) e moved = or_void e (FineAct.Unseen (Unseen.Rouse (to_thread who)))
  says (Todo.sleep ∷ todo) e moved = FineAct.Unseen Unseen.Sleep
  says (Todo.reread_asleep ∷ todo) e moved = FineAct.Unseen Unseen.WordRead
  says (Todo.unshut who ∷ todo) e moved = FineAct.Unseen (Unseen.Unshut (to_thread who))
  says (Todo.leave ∷ todo) e moved = if is_shut_act e then FineAct.Unseen (Unseen.Shut me) else by_me (Act.Left me (woken_in (act_in e)))
  says (Todo.handle deadline mark ∷ todo) e moved = or_void e (by_actor (marks_end mark e))
  says (Todo.paid ∷ todo) e moved = FineAct.Unseen Unseen.Paid
  says (Todo.show q rest ∷ todo) e moved = says_show q e
  says (Todo.hold ∷ todo) e moved = FineAct.Unseen Unseen.Hold
  says (Todo.let_go ∷ todo) e moved = FineAct.Unseen Unseen.LetGo
  says (Todo.read_claim d ∷ todo) e moved = FineAct.Unseen Unseen.ReadClaim
  says (Todo.read_done d ∷ todo) e moved = FineAct.Unseen Unseen.ReadDone
  says (Todo.region_load ∷ todo) e moved = FineAct.Unseen Unseen.RegionLoad
  says (Todo.write_claim d ∷ todo) e moved = FineAct.Unseen Unseen.WriteClaim
  says (Todo.edit d q ∷ todo) e moved = FineAct.Unseen Unseen.Edit
  says (Todo.size_look x ∷ todo) e moved = FineAct.Unseen Unseen.SizeLook
  says (Todo.end_call x ∷ todo) e moved = FineAct.Unseen Unseen.EndCall
  says (Todo.wake who told ∷ todo) e moved = FineAct.Unseen (Unseen.Wake (to_thread who) (ready_in e))
  says (Todo.add c ∷ todo) e moved = FineAct.Unseen (Unseen.Add (to_thread c.thread))
  says (Todo.pass who x ∷ todo) e moved = visits e (Act.Inherit (to_thread who) (address_of image x))
  says (Todo.drop x ∷ todo) e moved = visits e (Act.DropPair me (address_of image x) (leftover_in (act_in e)))
  says (Todo.clean_pair who x ∷ todo) e moved = visits e (Act.DropPair (to_thread who) (address_of image x) (leftover_in (act_in e)))
  says (Todo.wipe x ∷ todo) e moved = FineAct.Unseen Unseen.Wipe
  says (Todo.vacate x ∷ todo) e moved = FineAct.Unseen Unseen.Vacate
  says (Todo.recycle x ∷ todo) e moved = by_me (Act.Recycle (address_of image x))
  says (Todo.park ∷ todo) e moved = FineAct.Unseen (Unseen.Park me (ready_in e))
  says (Todo.done ∷ todo) e moved = FineAct.Unseen Unseen.Done

  -- What goes with it, with what the site gives.

  abbrev pub caller : Ask → Waiter
  caller ask =
      record { thread = me; priority = p.context.priority; ask = ask; bytes = bytes_given p.context.buffer ask; until = p.context.until }

  -- who asks no object
  abbrev pub seeker : Ask → Waiter
  seeker ask = record { thread = me; priority = p.context.priority; ask = ask; bytes = []; until = p.context.until }

  -- the number of its note
  abbrev pub note_number : ℕ
  note_number = unwrap_or p.context.noted 0

  abbrev pub moves_step : Pending → Exchange → Exchange
  moves_step (Pending.CopyIn a m) moved = if allows Access.Read a.0 (amount m) then Exchange.bytes (bytes_in moved) else Exchange.nothing
  moves_step (Pending.CopyOut a) moved = Exchange.bytes p.context.buffer
  moves_step (Pending.CopyStr a) moved = Exchange.text (readable a.0 32) (bytes_in moved)
  moves_step (Pending.Work a ask) moved = Exchange.asked (caller ask) note_number (outcome_in moved)
  moves_step (Pending.Join who timeout) moved = Exchange.asked (seeker (Ask.Join who)) note_number no_outcome
  moves_step (Pending.FutexWait a value timeout) moved = Exchange.asked (seeker (Ask.FutexWait a)) note_number no_outcome
  moves_step (Pending.Named who) moved = Exchange.bytes p.context.buffer
  moves_step (Pending.Reserve kind) moved = Exchange.charge (cost_of p.context.pool 64)
  moves_step (Pending.Buffer size) moved = Exchange.charge (cost_of p.context.pool size)
  moves_step (Pending.Unbuffer size) moved = Exchange.charge (cost_of p.context.pool size)
  moves_step q moved = Exchange.nothing

  -- what is armed: so many ticks, for what comes behind
  abbrev pub moves_show : Pending → Steps → Exchange → Exchange
  moves_show (Pending.Arm ticks) rest moved = Exchange.armed ticks (mark_for image p.context.thread rest)
  moves_show (Pending.ArmTimer ticks) rest moved = Exchange.armed ticks (mark_for image p.context.thread rest)
  moves_show q rest moved = moves_step q moved

  -- who sleeps is taken, or isn't there
  abbrev pub roused_by : ℕ → Bool → Exchange → Exchange
  roused_by who true moved = Exchange.sought (to_thread who) None
  roused_by who false moved = Exchange.thread (context_in moved) None

  -- an idle processor takes what it is given: but for a tick, with which nothing goes
  abbrev pub moves_idle : Bool → Exchange → Exchange
  moves_idle true moved = Exchange.nothing
  moves_idle false moved = moved

  abbrev pub moves : Todos → FineAct → Exchange → Exchange
  moves [] e moved = moves_idle (is_tick e) moved
  moves (Todo.show q rest ∷ todo) e moved = moves_show q rest moved
  moves (Todo.settle deadline mark ∷ todo) e moved = Exchange.mark deadline mark
  moves (Todo.look who site before ∷ todo) e moved = Exchange.sought (to_thread who) (Some before)
  moves (Todo.rouse who ∷ todo) e moved = roused_by who (is_void e) moved
  moves (Todo.sleep ∷ todo) e moved = Exchange.thread p.context None
  moves (Todo.handle deadline mark ∷ todo) e moved = Exchange.mark deadline mark
  moves (Todo.region_load ∷ todo) e moved = Exchange.parts (parts_in moved)
  moves (Todo.edit d q ∷ todo) e moved =
      Exchange.edited (before_in moved) (domain_after (before_in moved) (edit_of image q (before_in moved)))
  moves (Todo.size_look x ∷ todo) e moved = Exchange.size (size_in moved)
  moves (Todo.wake who told ∷ todo) e moved = Exchange.told told
  moves (Todo.add c ∷ todo) e moved = Exchange.thread c None
  moves (Todo.wipe x ∷ todo) e moved = Exchange.charge (charge_in moved)
  moves (Todo.recycle x ∷ todo) e moved = Exchange.charge p.charge
  moves (Todo.park ∷ todo) e moved = Exchange.thread p.context None
  moves (q ∷ todo) e moved = Exchange.nothing

  -- a step as this processor makes it where the site answers so
  abbrev pub made_by : FineStep → FineStep
  made_by e = record e { site = next_site e.act; act = says p.todo e.act e.moved; moved = moves p.todo e.act e.moved }

  -- what never bites: a call holds at most two objects, an access has at most four bytes, a line that begins stands
  abbrev pub has_room : Pending → Bool
  has_room (Pending.Check a kind want refusal) = nat_lt (length p.context.claims) 2
  has_room (Pending.Load to a n) = nat_le n 4
  has_room Pending.Begin = is_some (instruction_at image p.context.place)
  has_room q = true

  -- whether the word that is left shows that a step was the one to make
  abbrev pub stops_rightly : FineStep → Bool
  stops_rightly e =
      let w = thread_in e.word in
      if is_word_read e.act then w.doomed || (w.suspended && not w.aborted) else not (is_killed e.act) || not w.doomed

  -- an event that the order of an instruction has next needs no such test: one that was cut is killed, doomed or not
  abbrev pub fits_show : Pending → FineStep → Bool
  fits_show Pending.Begin e = stops_rightly e
  fits_show Pending.Exit e = stops_rightly e
  fits_show q e = true

  abbrev pub fits_step : Todos → FineStep → Bool
  fits_step (Todo.show q rest ∷ todo) e = fits_show q e && has_room q
  fits_step (Todo.pass who x ∷ todo) e = not (is_visit e.act) || not (has (row_in e.word) p.context.thread && not (has (row_in e.word) who))
  fits_step (Todo.drop x ∷ todo) e = fits_visit e (has (row_in e.word) p.context.thread)
  fits_step (Todo.clean_pair who x ∷ todo) e = fits_visit e (has (row_in e.word) who)
  fits_step todo e = true

  -- and where it begins the cleaning of an object, what also never bites: no more objects are to be cleaned than there are dynamic rows
  abbrev pub fits : Todos → FineStep → Bool
  fits todo e = fits_step todo e && (not (begins_cleaning e) || nat_lt (cleanings todo) (ROWS - STATIC_ROWS))

  -- it is the step that this processor makes next
  pub record CpuMay (e : FineStep) : Type 0 where
    pub makes : made_by e ≡ e
    pub fit : IsTrue (fits p.todo e)
