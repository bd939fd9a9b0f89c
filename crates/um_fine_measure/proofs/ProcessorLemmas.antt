-- What a lawful step does to its processor's measure: it falls by the cost of the step, but for what goes between processor and site.
use Rattle.std.proofs.Common.{◌≡◌, ◌≤◌, ℕ, ◌+◌, Bool, true, false, List, [], ◌∷◌, length, refl, sym, ap, subst, arith, eq-eqb, if◌then◌else◌, Option, Some, None}
use Rattle.std.specs.Prelude.{◌==◌}
use Rattle.std.specs.List.{list_all}
use Rattle.std.proofs.lemmas.Bool.{true≢false}
use Rattle.um_base.specs.declared.act.Act.{Act}
use Rattle.um_base.specs.declared.ask.Told.{Told}
use Rattle.um_base.specs.declared.names.Access.{Access}
use Rattle.um_base.specs.declared.names.ThreadIx.{ThreadIx}
use Rattle.um_base.specs.declared.image.Image.{Image}
use Rattle.um_base.specs.declared.instr.Instr.{Instr}
use Rattle.um_base.specs.declared.names.Reply.{Reply}
use Rattle.um_base.specs.Places.{own_row, thread_of_row}
use Rattle.um_machine.specs.declared.pending.Pending.{Pending}
use Rattle.um_machine.specs.Goes.{steps_by, told_way}
use Rattle.um_machine.specs.Order.{Steps, to_thread}
use Rattle.um_machine.specs.Services.{is_empty}
use Rattle.um_machine.specs.State.{instruction_at}
use Rattle.um_words.specs.Threads.{is_awake}
use Rattle.um_words.specs.declared.fine.FineAct.{FineAct}
use Rattle.um_words.specs.declared.fine.Mark.{Mark}
use Rattle.um_words.specs.declared.fine.Unseen.{Unseen}
use Rattle.um_fine.specs.Addresses.{address_of}
use Rattle.um_fine.specs.Answers.{act_in, context_in, domain_in, is_due_act, is_killed, is_shut_act, is_tick, is_visit, is_void, is_word_read, leftover_in, now_in, thread_in, value_in, woken_in}
use Rattle.um_fine.specs.Asks.{CpuMay, allows, begins_cleaning, by_actor, by_me, idle_site, marks_end, me, moves, moves_idle, moves_show, roused_by, says, says_show, says_step, says_turn, shows, site_by, site_of_step, visits}
use Rattle.um_fine.specs.Context.{Context}
use Rattle.um_fine.specs.Continues.{continues, resumed, resumed_at}
use Rattle.um_fine.specs.Follows.{after_claim, after_show, after_take, behind_step, dropped_at, filled_up, goes_on_by, looks_behind, p_next, refilled_by, row_number, shown_step, told_all, told_marked, waits_behind, wakes, with_actor, with_cleaned}
use Rattle.um_fine.specs.Places.{Todo, Todos, but, cleaning, drops, next_steps, passes, put_away, turn, turn_of, with_cleaning}
use Rattle.um_fine.specs.Processor.{Processor, is_of, key_of}
use Rattle.um_fine.specs.Steps.{Exchange, FineStep}
use Rattle.um_fine_measure.specs.Measure.{ahead_cost, cost_if_running, end_cost, list_cost, processor_cost, rest_cost, rouse_cost, running_cost, shown_cost, steps_cost, todos_cost}
use Rattle.um_measure.specs.Measure.{one_if}
use Rattle.um_fine_measure.specs.Ready.{HasDrops, IsTaken, IsTurn, MayShow, MayStep, is_round}
use Rattle.um_fine_measure.specs.Whole.{got_by, got_by_read, paid_by, paid_by_act}
use Rattle.um_fine_measure.proofs.Between.{begun_cost, given_by, given_by_act, taken_by, taken_by_act, taken_cost}
use Rattle.um_fine_measure.proofs.EventLemmas.{EventFalls, event-falls}
use Rattle.um_fine_measure.proofs.LeftLemmas.{goes-cost, left_cost, without-cost}
use Rattle.um_fine_measure.proofs.ListLemmas.{behind-cost, clean-cost, cleaning-cost, drops-cost, filled-cost, left_on, looks-cost, passes-cost, running-most, told-cost, unless-cost, waits-cost}
use Rattle.um_fine_measure.proofs.RowLemmas.{cost_if}

module _ (image : Image) (p : Processor) (e : FineStep) where
  -- the step as the processor has it whose list this is
  abbrev made_at : Todos → FineStep
  made_at todo = record e { site = site_by image p todo e.act; act = says image p todo e.act e.moved; moved = moves image p todo e.act e.moved }

  abbrev after : Todos → Processor
  after todo = goes_on_by image p (made_at todo) todo

  -- what is left on the list then, what the step gives its site and all together, and the step itself, are no more than was left and what the step takes there
  abbrev Pays : Todos → Processor → Type 0
  Pays todo q =
      running_cost image q.context q.todo + given_by image (made_at todo).act (made_at todo).moved + paid_by (made_at todo).act + 1
      ≤ cost_if_running image p.context todo + taken_by image (made_at todo).act (made_at todo).moved + got_by todo (made_at todo)

  -- A turn begins.

  turn-cost-of : (c : Context) (line : Option Instr) → list_cost image (ahead_cost image c) (rest_cost image c) (turn_of image line) ≡ ahead_cost image c
  turn-cost-of c None = omega arith
  turn-cost-of c (Some instr) = omega arith

  reply-cost : (reply : Reply) (rest : Steps) → steps_cost image (steps_by rest (told_way reply)) ≤ steps_cost image rest
  reply-cost (Reply.Fail e) rest = without-cost image rest
  reply-cost reply rest = omega arith

  resumed-cost : (c : Context) (told : Told) (steps : Steps) → c.pending ≡ steps → left_cost image (resumed_at image c told steps) ≤ left_cost image c
  resumed-cost c told (Pending.Resume ∷ rest) h =
      let goes = goes-cost image (record c { reply = told.reply; buffer = told.taken }) (steps_by rest (told_way told.reply)) in
      let less = reply-cost told.reply rest in
      let before : left_cost image (record c { pending = Pending.Resume ∷ rest }) ≡ left_cost image c = ap (λ (steps : Steps). left_cost image (record c { pending = steps })) (sym h) in
      omega (arith, goes, less, before)
  resumed-cost c told steps h = omega arith

  abbrev idle_act : (due tick : Bool) → Exchange → FineAct
  idle_act due tick moved =
      if due then FineAct.Unseen Unseen.Due else if tick then by_actor image p (Act.Tick (now_in (act_in e.act))) else says_turn image p moved

  abbrev TurnPays : FineAct → Exchange → Type 0
  TurnPays act moved =
      running_cost image (after_take image p moved).context (after_take image p moved).todo + given_by image act moved + paid_by act + 1 ≤ 0 + taken_by image act moved

  abbrev Taken : Context → Bool → Processor
  Taken c rests = if rests then record p { context = c; todo = turn image c } else refilled_by image (record p { context = c }) []

  abbrev TakenPays : Context → Bool → Type 0
  TakenPays c rests = running_cost image (Taken c rests).context (Taken c rests).todo + 0 + 0 + 1 ≤ 0 + taken_cost image (Exchange.thread c None)

  killed-turn : (c : Context) (steps : Steps) → c.pending ≡ steps → IsTaken steps → TakenPays c (is_empty c.pending)
  killed-turn c [] h may = subst (λ b. TakenPays c b) (sym (ap is_empty h)) (let cost = turn-cost-of c (instruction_at image c.place) in omega (arith, cost))
  killed-turn c (Pending.Killed ∷ []) h may =
      let cost : left_on image c (next_steps image c c.pending) ≡ left_on image c (Todo.show Pending.Killed [] ∷ []) = ap (λ (steps : Steps). left_on image c (next_steps image c steps)) h in
      subst (λ b. TakenPays c b) (sym (ap is_empty h)) (omega (arith, cost))
  killed-turn c steps h may = absurd may

  turn-pays : (due tick : Bool) (moved : Exchange) → IsTurn p.context due tick moved → tick ≡ false → TurnPays (idle_act due tick moved) (moves_idle image p tick moved)
  turn-pays true false (Exchange.mark deadline mark) may still = rw may (omega arith)
  turn-pays true tick moved may still = absurd may
  turn-pays false true moved may still = absurd (true≢false still)
  turn-pays false false (Exchange.thread c None) may still = killed-turn c c.pending refl may
  turn-pays false false (Exchange.thread c (Some told)) may still =
      let filled = filled-cost image (resumed image c told) [] in
      let less = resumed-cost c told c.pending refl in omega (arith, filled, less)
  turn-pays false false moved may still = absurd may

  -- An event is shown.

  abbrev Continued : Pending → Steps → FineStep → Context
  Continued q rest g = continues image p.context 0 q rest (act_in g.act) g.moved

  show-cost : (q : Pending) (rest : Steps) (todo : Todos) (g : FineStep) → list_all is_round todo ≡ true → EventFalls image p.context q rest (act_in g.act) g.moved
      → running_cost image (Continued q rest g) (looks_behind image p.context q g (behind_step image p.context q g.moved (filled_up image (Continued q rest g) (waits_behind image q g todo))))
      + given_by_act (act_in g.act) g.moved + paid_by_act (act_in g.act) + 1
      ≤ length p.context.claims + (ahead_cost image p.context + shown_cost image q rest + todos_cost image todo) + taken_by_act image (act_in g.act) g.moved
  show-cost q rest todo g h falls =
      let c = Continued q rest g in
      let filled = filled-cost image c (waits_behind image q g todo) in
      let behind = behind-cost image (ahead_cost image c) (rest_cost image c) p.context q g.moved (filled_up image c (waits_behind image q g todo)) in
      let looks = looks-cost image (ahead_cost image c) (rest_cost image c) p.context q g (behind_step image p.context q g.moved (filled_up image c (waits_behind image q g todo))) in
      let waits = waits-cost image (ahead_cost image c) (rest_cost image c) q g todo h in omega (arith, looks, behind, filled, waits, falls)

  abbrev shown_at : Pending → Steps → Todos → FineAct → FineStep
  shown_at q rest todo act = record e { site = site_of_step image p q; act = act; moved = moves_show image p q rest e.moved }

  abbrev ShownPays : Pending → Steps → Todos → FineAct → Type 0
  ShownPays q rest todo act =
      let g = shown_at q rest todo act in
      let next = if is_word_read act then record p { todo = put_away (thread_in e.word).doomed } else after_show image p g (shown_step image q act) rest todo in
      running_cost image next.context next.todo + given_by image act g.moved + paid_by act + 1
      ≤ length p.context.claims + (ahead_cost image p.context + shown_cost image q rest + todos_cost image todo) + taken_by image act g.moved
      + got_by_read (is_word_read act) (thread_in e.word).doomed

  -- the word is read instead: its thread is done with, or put to sleep
  read-pays : (todo : Todos) (doomed : Bool) → p.context.ended ≡ false → p.context.pending ≡ []
      → running_cost image p.context (put_away doomed) + 1 ≤ length p.context.claims + (ahead_cost image p.context + 0 + todos_cost image todo) + got_by_read true doomed
  read-pays todo true lives rests = let more : end_cost ≤ ahead_cost image p.context = rw lives (omega arith) in omega (arith, more)
  read-pays todo false lives rests = let none : steps_cost image p.context.pending ≡ 0 = ap (steps_cost image) rests in omega (arith, none)

  shown-same : (q : Pending) → shown_step image q (shows image p q e.act) ≡ q
  shown-same (Pending.Load to a n) = by (allows image p Access.Read a.0 n)
    where
      by : (b : Bool) → shown_step image (Pending.Load to a n) (by_me image p (if b then Act.Load a n (value_in (act_in e.act)) else Act.Fault Access.Read a n)) ≡ Pending.Load to a n
      by true = refl
      by false = refl
  shown-same (Pending.Store a n value) = by (allows image p Access.Write a.0 n)
    where
      by : (b : Bool) → shown_step image (Pending.Store a n value) (by_me image p (if b then Act.Store a n value else Act.Fault Access.Write a n)) ≡ Pending.Store a n value
      by true = refl
      by false = refl
  shown-same (Pending.Fetch a) = by (allows image p Access.Exec a.0 4)
    where
      by : (b : Bool) → shown_step image (Pending.Fetch a) (by_me image p (if b then Act.Fetch a else Act.Fault Access.Exec a 4)) ≡ Pending.Fetch a
      by true = refl
      by false = refl
  shown-same q = refl

  other-pays : (q : Pending) (rest : Steps) (todo : Todos) → list_all is_round todo ≡ true
      → EventFalls image p.context q rest (says_step image p q (act_in e.act)) (moves_show image p q rest e.moved) → ShownPays q rest todo (shows image p q e.act)
  other-pays q rest todo h falls =
      let g = shown_at q rest todo (shows image p q e.act) in
      let cost = show-cost q rest todo g h falls in
      subst
      (λ (r : Pending).
      let next = after_show image p g r rest todo in
      running_cost image next.context next.todo + given_by image g.act g.moved + paid_by g.act + 1
      ≤ length p.context.claims + (ahead_cost image p.context + shown_cost image q rest + todos_cost image todo) + taken_by image g.act g.moved + 0)
      (sym (shown-same q)) (omega (arith, cost))

  abbrev KilledFalls : Steps → Type 0
  KilledFalls rest = EventFalls image p.context Pending.Killed rest Act.Killed Exchange.nothing

  begin-pays : (rest : Steps) (todo : Todos) (read killed : Bool) → list_all is_round todo ≡ true → p.context.ended ≡ false → p.context.pending ≡ []
      → EventFalls image p.context Pending.Begin rest (says_step image p Pending.Begin (act_in e.act)) (moves_show image p Pending.Begin rest e.moved) → KilledFalls rest
      → ShownPays Pending.Begin rest todo (if read then FineAct.Unseen Unseen.WordRead else if killed then by_me image p Act.Killed else shows image p Pending.Begin e.act)
  begin-pays rest todo true killed h lives rests falls kills = let cost = read-pays todo (thread_in e.word).doomed lives rests in omega (arith, cost)
  begin-pays rest todo false true h lives rests falls kills = let cost = show-cost Pending.Killed rest todo (shown_at Pending.Begin rest todo (by_me image p Act.Killed)) h kills in omega (arith, cost)
  begin-pays rest todo false false h lives rests falls kills = other-pays Pending.Begin rest todo h falls

  exit-pays : (rest : Steps) (todo : Todos) (read killed : Bool) → list_all is_round todo ≡ true → p.context.ended ≡ false → p.context.pending ≡ []
      → EventFalls image p.context Pending.Exit rest (says_step image p Pending.Exit (act_in e.act)) (moves_show image p Pending.Exit rest e.moved) → KilledFalls rest
      → ShownPays Pending.Exit rest todo (if read then FineAct.Unseen Unseen.WordRead else if killed then by_me image p Act.Killed else shows image p Pending.Exit e.act)
  exit-pays rest todo true killed h lives rests falls kills = let cost = read-pays todo (thread_in e.word).doomed lives rests in omega (arith, cost)
  exit-pays rest todo false true h lives rests falls kills = let cost = show-cost Pending.Killed rest todo (shown_at Pending.Exit rest todo (by_me image p Act.Killed)) h kills in omega (arith, cost)
  exit-pays rest todo false false h lives rests falls kills = other-pays Pending.Exit rest todo h falls

  shown-pays : (q : Pending) (rest : Steps) (todo : Todos) → MayShow image p.context q → list_all is_round todo ≡ true
      → EventFalls image p.context q rest (says_step image p q (act_in e.act)) (moves_show image p q rest e.moved) → (p.context.ended ≡ false → KilledFalls rest) → ShownPays q rest todo (says_show image p q e.act)
  shown-pays Pending.Begin rest todo may h falls kills = begin-pays rest todo (is_word_read e.act) (is_killed e.act) h may.0 may.1 falls (kills may.0)
  shown-pays Pending.Exit rest todo may h falls kills = exit-pays rest todo (is_word_read e.act) (is_killed e.act) h may.0 may.1 falls (kills may.0)
  shown-pays q rest todo may h falls kills = other-pays q rest todo h falls

  -- Visits.

  visit-none : (b : Bool) (act : Act) → given_by_act act Exchange.nothing ≡ 0 → paid_by_act act ≡ 0
      → let said = if b then FineAct.Unseen Unseen.Visit else by_me image p act in given_by image said Exchange.nothing + paid_by said ≡ 0
  visit-none true act h k = refl
  visit-none false act h k = omega (arith, h, k)

  but-more : (own x : ℕ) → x ≤ but own x
  but-more own x = by (x == own)
    where
      by : (b : Bool) → x ≤ (if b then x + 1 else x)
      by true = omega arith
      by false = omega arith

  record IsSame (c d : Context) : Type 0 where
    claims : length d.claims ≡ length c.claims
    ahead : ahead_cost image d ≡ ahead_cost image c
    rest : rest_cost image d ≡ rest_cost image c

  dropped-same : (c : Context) (x : ℕ) (visit : Bool) (steps : Steps) → c.pending ≡ steps → HasDrops steps → IsSame c (dropped_at image c x visit)
  dropped-same c x true steps h drops = record { claims = refl; ahead = refl; rest = refl }
  dropped-same c x false (Pending.Drops from ∷ rest) h drops =
      subst (λ (d : Context). IsSame d (dropped_at image d x false)) (sym (λ i. record c { pending = h i })) (record { claims = refl; ahead = refl; rest = refl })
  dropped-same c x false steps h drops = absurd drops

  -- A claim of a domain.

  claim-pays : (d : ℕ) (init : Bool) (todo : Todos) → let q = after_claim p d init 0 todo in running_cost image q.context q.todo + 0 + 0 + 1 ≤ length p.context.claims + (2 + left_on image p.context todo) + 0 + 0
  claim-pays d true todo = omega arith
  claim-pays d false todo = omega arith

  -- Others are stopped, waked, told and roused.

  abbrev Others : Todos → ℕ → FineAct → Exchange → Todos → ℕ → Type 0
  Others todo before act moved next got =
      running_cost image p.context next + given_by image act moved + paid_by act + 1 ≤ length p.context.claims + (before + left_on image p.context todo) + taken_by image act moved + got

  reread-pays : (who site number : ℕ) (todo : Todos) (aborted : Bool)
      → Others todo 2 (FineAct.Unseen Unseen.WordRead) Exchange.nothing (filled_up image p.context (if aborted then Todo.look who site number ∷ todo else todo)) 0
  reread-pays who site number todo true = omega arith
  reread-pays who site number todo false = let filled = filled-cost image p.context todo in omega (arith, filled)

  look-pays : (who before : ℕ) (todo : Todos) (void : Bool)
      → let act = if void then FineAct.Unseen Unseen.Void else by_me image p (Act.Cut (to_thread who)) in
      Others todo 1 act (Exchange.sought (to_thread who) (Some before)) (filled_up image p.context (if is_void act then todo else Todo.tell_cut who ∷ todo)) 0
  look-pays who before todo true = let filled = filled-cost image p.context todo in omega (arith, filled)
  look-pays who before todo false = let same : one_if (who == who) ≡ 1 = rw (eq-eqb who who refl) refl in omega (arith, same)

  rouse-pays : (who : ℕ) (todo : Todos) (void : Bool)
      → let act = if void then FineAct.Unseen Unseen.Void else FineAct.Unseen (Unseen.Rouse (to_thread who)) in
      let moved = roused_by image p who void e.moved in
      Others todo rouse_cost act moved (filled_up image p.context (if is_void act then todo else Todo.add (context_in moved) ∷ todo)) 0
  rouse-pays who todo true = let filled = filled-cost image p.context todo in omega (arith, filled)
  rouse-pays who todo false = omega arith

  asleep-pays : (todo : Todos) (awake : Bool)
      → Others todo 1 (FineAct.Unseen Unseen.WordRead) Exchange.nothing (if awake then Todo.rouse p.context.thread ∷ todo else todo) (if awake then rouse_cost else 0)
  asleep-pays todo true = omega arith
  asleep-pays todo false = omega arith

  leave-pays : (todo : Todos) (woken : List (ThreadIx × Reply)) (shut : Bool)
      → let act = if shut then FineAct.Unseen (Unseen.Shut (me image p)) else by_me image p (Act.Left (me image p) woken) in
      Others todo 1 act Exchange.nothing (wakes (told_all (woken_in (act_in act))) todo) 0
  leave-pays todo woken true = omega arith
  leave-pays todo woken false = let told = told-cost image (ahead_cost image p.context) (rest_cost image p.context) woken todo in omega (arith, told)

  handle-pays : (deadline : ℕ) (mark : Mark) (todo : Todos) (void : Bool)
      → let act = if void then FineAct.Unseen Unseen.Void else by_actor image p (marks_end image p mark e.act) in
      Others todo 1 act (Exchange.mark deadline mark) (if is_void act then todo else wakes (told_marked mark (woken_in (act_in act))) todo) 0
  handle-pays deadline mark todo true = omega arith
  handle-pays deadline (Mark.Thread who site) todo false = let same : one_if (who.0 == who.0) ≡ 1 = rw (eq-eqb who.0 who.0 refl) refl in omega (arith, same)
  handle-pays deadline (Mark.Timer x) todo false =
      let told = told-cost image (ahead_cost image p.context) (rest_cost image p.context) (woken_in (act_in e.act)) todo in omega (arith, told)

  -- All steps on a list, but for the end of a turn or of a mark.

  abbrev ends_turn : Todos → Bool
  ends_turn (Todo.park ∷ todo) = true
  ends_turn (Todo.done ∷ todo) = true
  ends_turn (Todo.paid ∷ todo) = true
  ends_turn [] = true
  ends_turn todo = false

  abbrev Begins : Type 0
  Begins =
      (rest : Steps) → MayShow image p.context Pending.Begin
      → EventFalls image p.context Pending.Begin rest (says_step image p Pending.Begin (act_in e.act)) (moves_show image p Pending.Begin rest e.moved)

  pays : (todo : Todos) → MayStep image p e.act e.moved todo → Begins → ends_turn todo ≡ false → Pays todo (after todo)
  pays [] may begins h = absurd (true≢false h)
  pays (Todo.show q rest ∷ todo) may begins h =
      let falls = event-falls image p (act_in e.act) e.moved q rest may.0 (begins rest) in
      shown-pays q rest todo may.0 may.1 falls (λ lives. event-falls image p (act_in e.act) e.moved Pending.Killed rest lives (begins rest))
  pays (Todo.settle deadline mark ∷ todo) may begins h = let filled = filled-cost image p.context todo in omega (arith, filled)
  pays (Todo.reread site ∷ todo) may begins h = reread-pays p.context.thread site (thread_in e.word).number todo (thread_in e.word).aborted
  pays (Todo.look who site before ∷ todo) may begins h = look-pays who before todo (is_void e.act)
  pays (Todo.tell_cut who ∷ todo) may begins h = let filled = filled-cost image p.context todo in omega (arith, filled)
  pays (Todo.rouse who ∷ todo) may begins h = rouse-pays who todo (is_void e.act)
  pays (Todo.sleep ∷ todo) may begins h = rw may (omega arith)
  pays (Todo.reread_asleep ∷ todo) may begins h = asleep-pays todo (is_awake (thread_in e.word))
  pays (Todo.leave ∷ todo) may begins h = leave-pays todo (woken_in (act_in e.act)) (is_shut_act e.act)
  pays (Todo.handle deadline mark ∷ todo) may begins h = handle-pays deadline mark todo (is_void e.act)
  pays (Todo.let_go ∷ todo) may begins h = let filled = filled-cost image p.context todo in omega (arith, filled)
  pays (Todo.read_claim None ∷ todo) may begins h =
      let q = record p { version = (domain_in e.word).version } in
      let less = unless-cost image (ahead_cost image p.context) (rest_cost image p.context) (is_of (key_of q) q.table) todo in omega (arith, less)
  pays (Todo.read_claim (Some d) ∷ todo) may begins h = claim-pays d (domain_in e.word).init todo
  pays (Todo.read_done d ∷ todo) may begins h = let filled = filled-cost image p.context todo in omega (arith, filled)
  pays (Todo.end_call x ∷ todo) may begins h = let filled = filled-cost image p.context todo in omega (arith, filled)
  pays (Todo.wake who told ∷ todo) may begins h = let filled = filled-cost image p.context todo in omega (arith, filled)
  pays (Todo.add c ∷ todo) may begins h = let filled = filled-cost image p.context todo in omega (arith, filled)
  pays (Todo.pass who x ∷ todo) may begins h =
      let own = own_row image p.context.thread in
      let filled = filled-cost image p.context (passes who (but own (x + 1)) todo) in
      let visits = passes-cost image (ahead_cost image p.context) (rest_cost image p.context) who (but own (x + 1)) todo in
      let more = but-more own (x + 1) in
      let none = visit-none (is_visit e.act) (Act.Inherit (to_thread who) (address_of image x)) refl refl in omega (arith, filled, visits, more, none)
  pays (Todo.drop x ∷ todo) may begins h =
      let act = Act.DropPair (me image p) (address_of image x) (leftover_in (act_in e.act)) in
      let none = visit-none (is_visit e.act) act refl refl in
      let visit = is_visit (visits image p e.act act) in
      let c = dropped_at image p.context x visit in
      let same = dropped-same p.context x visit p.context.pending refl may in
      let filled = filled-cost image c (drops (x + 1) todo) in
      let visits = drops-cost image (ahead_cost image c) (rest_cost image c) (x + 1) todo in
      let claims = same.claims in
      let list : left_on image c todo ≡ left_on image p.context todo = ap (λ (z : ℕ × ℕ). list_cost image z.0 z.1 todo) (λ i. (same.ahead i, same.rest i)) in
      omega (arith, filled, visits, none, claims, list)
  pays (Todo.clean_pair who x ∷ todo) may begins h =
      let visits = clean-cost image (ahead_cost image p.context) (rest_cost image p.context) who (x + 1) todo in
      let none = visit-none (is_visit e.act) (Act.DropPair (to_thread who) (address_of image x) (leftover_in (act_in e.act))) refl refl in omega (arith, visits, none)
  pays (Todo.recycle x ∷ todo) may begins h = let filled = filled-cost image p.context todo in omega (arith, filled)
  pays (Todo.park ∷ todo) may begins h = absurd (true≢false h)
  pays (Todo.done ∷ todo) may begins h = absurd (true≢false h)
  pays (Todo.paid ∷ todo) may begins h = absurd (true≢false h)
  pays (q ∷ todo) may begins h = omega arith

  -- The processor after it, with the cleaning that it begins.

  cleaned-cost : (q : Processor) (g : FineStep) (begun : Bool) → processor_cost image (with_cleaned image q g begun) ≤ running_cost image q.context q.todo + cost_if begun
  cleaned-cost q g false = let less = running-most image q.context q.todo in omega (arith, less)
  cleaned-cost q g true =
      let less = running-most image q.context (with_cleaning (cleaning image (row_number g.site)) q.todo) in
      let more = cleaning-cost image (ahead_cost image q.context) (rest_cost image q.context) (row_number g.site) (thread_of_row image (row_number g.site)) q.todo in
      omega (arith, less, more)

  actor-cost : (q : Processor) (act : FineAct) → processor_cost image (with_actor image q act) ≡ processor_cost image q
  actor-cost q (FineAct.Shown event more) = refl
  actor-cost q (FineAct.Unseen unseen) = refl

  abbrev FallsAt : Todos → Type 0
  FallsAt todo =
      let g = made_at todo in
      processor_cost image (with_cleaned image (after todo) g (begins_cleaning g)) + given_by image g.act g.moved + paid_by g.act + 1
      ≤ cost_if_running image p.context todo + taken_by image g.act g.moved + begun_cost g + got_by todo g

  running-falls : (todo : Todos) → Pays todo (after todo) → FallsAt todo
  running-falls todo less = let cleaned = cleaned-cost (after todo) (made_at todo) (begins_cleaning (made_at todo)) in omega (arith, cleaned, less)

  -- a processor without a thread
  abbrev IdleFalls : (due tick : Bool) → Type 0
  IdleFalls due tick =
      let act = idle_act due tick e.moved in
      let g = record e { site = idle_site image p e.act; act = act; moved = moves_idle image p tick e.moved } in
      processor_cost image (with_cleaned image (after_take image p g.moved) g (begins_cleaning g)) + given_by image act g.moved + paid_by act + 1
      ≤ 0 + taken_by image act g.moved + begun_cost g + 0

  idle-falls : (due tick : Bool) → IsTurn p.context due tick e.moved → p.todo ≡ [] → IdleFalls due tick
  idle-falls true true may none = absurd may
  idle-falls false true may none = let idle : processor_cost image p ≡ 0 = ap (cost_if_running image p.context) none in omega (arith, idle)
  idle-falls due false may none =
      let g = record e { site = idle_site image p e.act; act = idle_act due false e.moved; moved = e.moved } in
      let turn = turn-pays due false e.moved may refl in
      let cleaned = cleaned-cost (after_take image p e.moved) g (begins_cleaning g) in omega (arith, turn, cleaned)

  falls-at : (todo : Todos) → p.todo ≡ todo → MayStep image p e.act e.moved todo → Begins → FallsAt todo
  falls-at (Todo.park ∷ todo) same may begins = omega arith
  falls-at (Todo.done ∷ todo) same may begins = omega arith
  falls-at (Todo.paid ∷ todo) same may begins = omega arith
  falls-at [] same may begins = idle-falls (is_due_act e.act) (is_tick e.act) may same
  falls-at (q ∷ todo) same may begins = running-falls (q ∷ todo) (pays (q ∷ todo) may begins refl)

  pub processor-falls : CpuMay image p e → MayStep image p e.act e.moved p.todo → Begins
      → processor_cost image (p_next image p e) + given_by image e.act e.moved + paid_by e.act + 1 ≤ processor_cost image p + taken_by image e.act e.moved + begun_cost e + got_by p.todo e
  processor-falls cpu may begins =
      subst
      (λ (g : FineStep).
      processor_cost image (p_next image p g) + given_by image g.act g.moved + paid_by g.act + 1
      ≤ processor_cost image p + taken_by image g.act g.moved + begun_cost g + got_by p.todo g)
      cpu.makes
      (let falls = falls-at p.todo refl may begins in
      let same = actor-cost (with_cleaned image (after p.todo) (made_at p.todo) (begins_cleaning (made_at p.todo))) (made_at p.todo).act in omega (arith, falls, same))
