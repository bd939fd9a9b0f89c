-- With each lawful step of the one processor its event follows, or the point stays.
use Rattle.std.proofs.Common.{◌≡◌, ◌⊎◌, inl, inr, ℕ, zero, suc, ◌<◌, Bool, true, false, [], ◌∷◌, Option, Some, None, refl, sym, ap, ◌∙◌, subst, arith}
use Rattle.std.specs.Prelude.{◌==◌, IsTrue, is_some}
use Rattle.std.specs.List.{list_all}
use Rattle.std.proofs.lemmas.Bool.{false≢true, true≢false}
use Rattle.um_base.specs.declared.act.Act.{Act}
use Rattle.um_base.specs.declared.limits.TheConstants.{THREADS}
use Rattle.um_base.specs.declared.names.ThreadIx.{ThreadIx}
use Rattle.um_base.specs.declared.names.Timeout.{Timeout}
use Rattle.um_base.specs.Lawful.{IsLawful}
use Rattle.um_machine.specs.declared.pending.Pending.{Pending}
use Rattle.um_machine.specs.Order.{Steps, to_thread}
use Rattle.um_machine.specs.Run.{MayChoose}
use Rattle.um_machine.specs.Time.{next_deadline}
use Rattle.um_machine.specs.State.{State, is_started, thread_at}
use Rattle.um_machine.specs.Table as T
use Rattle.um_invariants.specs.InOrder.{Point}
use Rattle.um_invariants.specs.NextSteps.{IsLeast}
use Rattle.um_invariants.proofs.ThreadWords.{AreKept}
use Rattle.um_words.specs.declared.fine.Mark.{Mark}
use Rattle.um_fine.specs.Answers.{act_in, is_tick, thread_in}
use Rattle.um_fine.specs.Asks.{by_me}
use Rattle.um_fine.specs.Clock.{deadlines}
use Rattle.um_fine.specs.Continues.{continues}
use Rattle.um_fine.specs.Places.{Todo, Todos}
use Rattle.um_fine.specs.Steps.{FineStep}
use Rattle.um_refinement.specs.Fine.{Fine, clock, joins, scheduler}
use Rattle.um_refinement.specs.Lists.{has_steps}
use Rattle.um_refinement.specs.Offers as O
use Rattle.um_refinement.specs.Offers.{Fits, IsOffered}
use Rattle.um_refinement.specs.Relation.{Rel}
use Rattle.um_refinement.specs.Timing.{IsPaying}
use Rattle.um_refinement.proofs.Bounds.{AreBounded}
use Rattle.um_refinement.proofs.CallsKnown.{RestsHoldNothing, calls-known}
use Rattle.um_refinement.proofs.CallsProper.{AreProper}
use Rattle.um_refinement.proofs.ChildrenKnown.{AllCreate}
use Rattle.um_refinement.proofs.CleanSteps.{OwnRows}
use Rattle.um_refinement.proofs.ContextsPart.{is_shown}
use Rattle.um_refinement.proofs.Erased.{around}
use Rattle.um_refinement.proofs.LawfulSteps.{Suits}
use Rattle.um_refinement.proofs.Leaves as L
use Rattle.um_refinement.proofs.Leaves.{Beside, HasStep, Lawful, Leaves, beside, cleans, cuts, drops, event, expires, nothing, passes, recycles, resumes, ticks, times_out}
use Rattle.um_refinement.proofs.MemoryPart.{InDomains}
use Rattle.um_refinement.proofs.Offered.{IsStep, Shows, by-made, runs-first, shows-runs}
use Rattle.um_refinement.proofs.Reachable.{sound-held}
use Rattle.um_refinement.proofs.StepReads.{shows_first}
use Rattle.um_refinement.proofs.ResumeSteps.{TellsWaiters}
use Rattle.um_refinement.proofs.VisitSteps.{visit-runs}
use Rattle.um_refinement.proofs.WordsKept.{IsShown}
use Rattle.um_order.proofs.AbortOrder.{aborts-itself, aborts-looks, aborts-rouses}
use Rattle.um_order.proofs.ArmOrder.{arms}
use Rattle.um_order.proofs.ArmingOrder.{held-some}
use Rattle.um_order.proofs.CleanOrder.{Cleaned, pair-follows, recycle-follows}
use Rattle.um_order.proofs.Follow.{Followed}
use Rattle.um_order.proofs.LookSteps.{cut-follows}
use Rattle.um_order.proofs.LeaveOrder.{leave-follows}
use Rattle.um_order.proofs.NextSteps.{ChoosesLeast}
use Rattle.um_order.proofs.NotedBusy.{abort-busy}
use Rattle.um_order.proofs.Reserves.{chooses-least}
use Rattle.um_order.proofs.ShowSteps.{shown-begun, shown-opens}
use Rattle.um_order.proofs.ShownLists.{stirs}
use Rattle.um_order.proofs.Standing.{Begun, Holds, Idles, IsAway, IsFull, Looks, Opens, Stands, away, begun, gives_up, goes, holds, idles, is_calm, is_show, looks, looks_again, opens, pays, puts_to_sleep, rouses}
use Rattle.um_order.proofs.StopOrder.{continue-follows, continues-itself}
use Rattle.um_order.proofs.TakeOrder.{resume-follows}
use Rattle.um_order.proofs.TimedOutOrder.{expire-follows, timed-out-follows}
use Rattle.um_order.proofs.TickOrder.{tick-follows}
use Rattle.um_order.proofs.VisitOrder.{drop-follows, fits-drop, fits-pass, pass-follows}
use Rattle.um_order.proofs.OneKnown.{Known, quiet-follows, settled-idle}

-- the steps by which none but a turn that has begun goes on
abbrev is_turn : Todo → Bool
is_turn (Todo.pass who x) = true
is_turn (Todo.drop x) = true
is_turn (Todo.clean_pair who x) = true
is_turn (Todo.recycle x) = true
is_turn Todo.leave = true
is_turn q = false

abbrev tail : Steps → Steps
tail [] = []
tail (q ∷ rest) = rest

abbrev from_of : Steps → ℕ
from_of (Pending.Drops from ∷ rest) = from
from_of steps = 0

abbrev looked_first : Todos → Option ℕ
looked_first (Todo.look who site before ∷ todo) = Some who
looked_first todo = None

abbrev handles_first : Todos → Bool
handles_first (Todo.handle deadline mark ∷ todo) = true
handles_first todo = false

abbrev is_join : Pending → Bool
is_join (Pending.Join who timeout) = true
is_join q = false

-- the first step on a list
abbrev is_turn_first : Todos → Bool
is_turn_first [] = false
is_turn_first (q ∷ todo) = is_turn q

module _ (f : Fine) (at : Point) (e : FineStep) (law : Lawful f at.state e) (one : f.cpus ≡ 1) (orderly : AllCreate at.state) (kept : AreKept at.state) (lawful : IsLawful at.state.image) (suits : Suits f at.state)
    (all : InDomains f at.state) (proper : AreProper at.state.image at.state) (bounds : AreBounded f) where
  open around f e use {later, processor as p, now}

  abbrev m : State
  m = at.state

  abbrev t : ℕ
  t = p.context.thread

  -- a step that only a turn that has begun has first
  pub has-begun : (q : Todo) (todo : Todos) → p.todo ≡ q ∷ todo → is_turn q ≡ true → Stands p (scheduler f) (joins f) (clock f).marks at → Begun p (scheduler f) (clock f).marks at
  has-begun q todo list turn st = by st
    where
      first : is_turn_first p.todo ≡ true
      first = ap is_turn_first list ∙ turn

      never : (todo : Todos) → p.todo ≡ todo → is_turn_first todo ≡ false → Begun p (scheduler f) (clock f).marks at
      never todo is off = absurd (true≢false (sym first ∙ (ap is_turn_first is ∙ off)))

      put-away : (todo : Todos) → IsAway todo → is_turn_first todo ≡ false
      put-away _ gives_up = refl
      put-away _ puts_to_sleep = refl
      put-away _ looks_again = refl

      paying : (todo : Todos) → IsPaying todo → is_turn_first todo ≡ false
      paying [] h = refl
      paying (Todo.wake who told ∷ todo) h = refl
      paying (Todo.paid ∷ todo) h = refl
      paying (q ∷ todo) h = absurd h

      showing : (q : Todo) → is_show q ≡ true → is_turn q ≡ false
      showing (Todo.show r rest) h = refl
      showing q h = absurd (false≢true h)

      by : Stands p (scheduler f) (joins f) (clock f).marks at → Begun p (scheduler f) (clock f).marks at
      by (idles was) = never [] was.list refl
      by (opens was) = never (was.first ∷ []) was.list (showing was.first was.is)
      by (away was) = never p.todo refl (put-away p.todo was.list)
      by (begun was) = was
      by (rouses was) = never (Todo.rouse was.who ∷ was.todo) was.list refl
      by (looks was) = never (Todo.look was.who was.site was.before ∷ was.todo) was.list refl
      by (holds was) = never (Todo.handle was.deadline was.mark ∷ Todo.paid ∷ []) was.list refl
      by (pays was) = never p.todo refl (paying p.todo was.list)

  -- the event of a pending step that neither stops nor continues a thread
  module _ (q : Pending) (rest : Steps) (todo : Todos) (x : ℕ) (h : Shows f at.state e.cpu e q rest todo) (shown : IsShown q) (is : IsStep f at.state e.cpu e x q) (calm : stirs q (act_in e.act) ≡ false)
      (least : (who : ThreadIx) (timeout : Timeout) → q ≡ Pending.Join who timeout → IsLeast at.state p.context.thread (Pending.Join who timeout) x) (related : Rel later (T.after at.state p.context.thread x q rest))
      (tells : TellsWaiters (T.after at.state p.context.thread x q rest)) (bounded : AreBounded later) (full : IsFull at.state p.context.thread p.context.pending) where
    chooses : ChoosesLeast m t x q
    chooses = chooses-least f m e q rest todo x law h shown is least

    pub event-begun : Begun p (scheduler f) (clock f).marks at → Followed f at e law one orderly (T.after at.state p.context.thread x q rest)
    event-begun was = shown-begun f at e law one orderly kept lawful suits all q rest todo x h shown is calm related tells bounded full chooses (arms f at e law one orderly kept lawful suits all q rest todo x h shown is calm) was

    pub event-opens : Opens p (scheduler f) (clock f).marks at → Followed f at e law one orderly (T.after at.state p.context.thread x q rest)
    event-opens was = shown-opens f at e law one orderly kept lawful suits all q rest todo x h shown is calm related tells bounded full chooses (arms f at e law one orderly kept lawful suits all q rest todo x h shown is calm) was

  -- an event that stops or continues a thread
  module _ (known : Known f at e law one orderly kept lawful suits all proper bounds) where
    stir-follows : (q : Pending) (rest : Steps) (todo : Todos) (x : ℕ) → Shows f at.state e.cpu e q rest todo → IsStep f at.state e.cpu e x q → stirs q (act_in e.act) ≡ true → Rel later (T.after at.state p.context.thread x q rest)
        → IsFull at.state p.context.thread p.context.pending → Begun p (scheduler f) (clock f).marks at → Followed f at e law one orderly (T.after at.state p.context.thread x q rest)
    stir-follows (Pending.Continue who) rest todo x h is done related full was =
        by (p.context.thread == who.0) refl
      where
        whom : (who.0 < THREADS) × ((thread_at (T.after at.state p.context.thread x (Pending.Continue who) rest) who.0).doomed ≡ false)
        whom = known.stir_who (Pending.Continue who) rest todo x who.0 h refl

        going : goes (continues f.image p.context 0 (Pending.Continue who) rest (act_in e.act) e.moved).pending ≡ true
        going = known.stir_goes (Pending.Continue who) rest todo h done

        by : (b : Bool) → (p.context.thread == who.0) ≡ b → Followed f at e law one orderly (T.after at.state p.context.thread x (Pending.Continue who) rest)
        by true mine = continues-itself f at e law one orderly suits all was who rest todo x h is done full going related mine
        by false other = continue-follows f at e law one orderly suits all was who rest todo x h is done full going related whom.0 whom.1 other
    stir-follows (Pending.Abort who) rest todo x h is done related full was = by (who.0 == p.context.thread) refl (thread_in e.word).note refl
      where
        whom : (who.0 < THREADS) × ((thread_at (T.after at.state p.context.thread x (Pending.Abort who) rest) who.0).doomed ≡ false)
        whom = known.stir_who (Pending.Abort who) rest todo x who.0 h refl

        going : goes (continues f.image p.context 0 (Pending.Abort who) rest (act_in e.act) e.moved).pending ≡ true
        going = known.stir_goes (Pending.Abort who) rest todo h done

        by : (b : Bool) → (who.0 == p.context.thread) ≡ b → (o : Option ℕ) → (thread_in e.word).note ≡ o → Followed f at e law one orderly (T.after at.state p.context.thread x (Pending.Abort who) rest)
        by true mine o note = aborts-itself f at e law one orderly suits all was who rest todo x h is done full going related whom.0 whom.1 mine
        by false other None note =
            aborts-rouses f at e law one orderly suits all was who rest todo x h is done full going related whom.0 whom.1 other note (known.abort_idle who rest todo x h related note)
        by false other (Some site) note =
            aborts-looks f at e law one orderly suits all was who rest todo x h is done full going related whom.0 whom.1 other site note (abort-busy f m e who rest todo _ site law h whom.0 related note)
    stir-follows q rest todo x h is done related full was = absurd (false≢true done)

    -- what is first on the list of a processor
    is-idle : p.todo ≡ [] → Stands p (scheduler f) (joins f) (clock f).marks at → Idles p (scheduler f) (clock f).marks at
    is-idle list st = by st
      where
        never : (todo : Todos) → p.todo ≡ todo → has_steps todo ≡ true → Idles p (scheduler f) (clock f).marks at
        never todo is some = absurd (false≢true (sym (ap has_steps list) ∙ (ap has_steps is ∙ some)))

        put-away : (todo : Todos) → IsAway todo → has_steps todo ≡ true
        put-away _ gives_up = refl
        put-away _ puts_to_sleep = refl
        put-away _ looks_again = refl

        paying : (todo : Todos) → IsPaying todo → has_steps todo ≡ true
        paying [] h = absurd h
        paying (q ∷ todo) h = refl

        by : Stands p (scheduler f) (joins f) (clock f).marks at → Idles p (scheduler f) (clock f).marks at
        by (idles was) = was
        by (opens was) = never (was.first ∷ []) was.list refl
        by (away was) = never p.todo refl (put-away p.todo was.list)
        by (begun was) = never p.todo refl was.0.runs
        by (rouses was) = never (Todo.rouse was.who ∷ was.todo) was.list refl
        by (looks was) = never (Todo.look was.who was.site was.before ∷ was.todo) was.list refl
        by (holds was) = never (Todo.handle was.deadline was.mark ∷ Todo.paid ∷ []) was.list refl
        by (pays was) = never p.todo refl (paying p.todo was.list)

    -- the phases in which an event of a pending step, a look and a mark in the hand are first
    showing : (q : Pending) (rest : Steps) (todo : Todos) → p.todo ≡ Todo.show q rest ∷ todo → Stands p (scheduler f) (joins f) (clock f).marks at → Begun p (scheduler f) (clock f).marks at ⊎ Opens p (scheduler f) (clock f).marks at
    showing q rest todo list st = by st
      where
        never : (todo : Todos) → p.todo ≡ todo → shows_first todo ≡ false → Begun p (scheduler f) (clock f).marks at ⊎ Opens p (scheduler f) (clock f).marks at
        never todo is off = absurd (true≢false (sym (ap shows_first list) ∙ (ap shows_first is ∙ off)))

        put-away : (todo : Todos) → IsAway todo → shows_first todo ≡ false
        put-away _ gives_up = refl
        put-away _ puts_to_sleep = refl
        put-away _ looks_again = refl

        paying : (todo : Todos) → IsPaying todo → shows_first todo ≡ false
        paying [] h = refl
        paying (Todo.wake who told ∷ todo) h = refl
        paying (Todo.paid ∷ todo) h = refl
        paying (q ∷ todo) h = absurd h

        by : Stands p (scheduler f) (joins f) (clock f).marks at → Begun p (scheduler f) (clock f).marks at ⊎ Opens p (scheduler f) (clock f).marks at
        by (idles was) = never [] was.list refl
        by (opens was) = inr was
        by (away was) = never p.todo refl (put-away p.todo was.list)
        by (begun was) = inl was
        by (rouses was) = never (Todo.rouse was.who ∷ was.todo) was.list refl
        by (looks was) = never (Todo.look was.who was.site was.before ∷ was.todo) was.list refl
        by (holds was) = never (Todo.handle was.deadline was.mark ∷ Todo.paid ∷ []) was.list refl
        by (pays was) = never p.todo refl (paying p.todo was.list)

    looking : (who site before : ℕ) (todo : Todos) → p.todo ≡ Todo.look who site before ∷ todo → Stands p (scheduler f) (joins f) (clock f).marks at → (was : Looks p (scheduler f) (clock f).marks at) × (was.who ≡ who)
    looking who site before todo list st = by st
      where
        never : (todo : Todos) → p.todo ≡ todo → looked_first todo ≡ None → (was : Looks p (scheduler f) (clock f).marks at) × (was.who ≡ who)
        never todo is off = absurd (false≢true (ap is_some (sym off ∙ (ap looked_first (sym is) ∙ ap looked_first list))))

        put-away : (todo : Todos) → IsAway todo → looked_first todo ≡ None
        put-away _ gives_up = refl
        put-away _ puts_to_sleep = refl
        put-away _ looks_again = refl

        paying : (todo : Todos) → IsPaying todo → looked_first todo ≡ None
        paying [] h = refl
        paying (Todo.wake who told ∷ todo) h = refl
        paying (Todo.paid ∷ todo) h = refl
        paying (q ∷ todo) h = absurd h

        calm-not : (todo : Todos) → list_all is_calm todo ≡ true → looked_first todo ≡ None
        calm-not [] h = refl
        calm-not (Todo.look who site before ∷ todo) h = absurd (false≢true h)
        calm-not (q ∷ todo) h = refl

        showing-not : (q : Todo) → is_show q ≡ true → looked_first (q ∷ []) ≡ None
        showing-not (Todo.show r rest) h = refl
        showing-not q h = absurd (false≢true h)

        same-some : (a b : ℕ) → Some a ≡ Some b → a ≡ b
        same-some a b h = cc

        by : Stands p (scheduler f) (joins f) (clock f).marks at → (was : Looks p (scheduler f) (clock f).marks at) × (was.who ≡ who)
        by (idles was) = never [] was.list refl
        by (opens was) = never (was.first ∷ []) was.list (showing-not was.first was.is)
        by (away was) = never p.todo refl (put-away p.todo was.list)
        by (begun was) = never p.todo refl (calm-not p.todo was.0.calm)
        by (rouses was) = never (Todo.rouse was.who ∷ was.todo) was.list refl
        by (looks was) = (was, same-some was.who who (ap looked_first (sym was.list ∙ list)))
        by (holds was) = never (Todo.handle was.deadline was.mark ∷ Todo.paid ∷ []) was.list refl
        by (pays was) = never p.todo refl (paying p.todo was.list)

    handling : (deadline : ℕ) (mark : Mark) (todo : Todos) → p.todo ≡ Todo.handle deadline mark ∷ todo → Stands p (scheduler f) (joins f) (clock f).marks at → Holds p (scheduler f) (clock f).marks at
    handling deadline mark todo list st = by st
      where
        never : (todo : Todos) → p.todo ≡ todo → handles_first todo ≡ false → Holds p (scheduler f) (clock f).marks at
        never todo is off = absurd (true≢false (sym (ap handles_first list) ∙ (ap handles_first is ∙ off)))

        put-away : (todo : Todos) → IsAway todo → handles_first todo ≡ false
        put-away _ gives_up = refl
        put-away _ puts_to_sleep = refl
        put-away _ looks_again = refl

        paying : (todo : Todos) → IsPaying todo → handles_first todo ≡ false
        paying [] h = refl
        paying (Todo.wake who told ∷ todo) h = refl
        paying (Todo.paid ∷ todo) h = refl
        paying (q ∷ todo) h = absurd h

        calm-not : (todo : Todos) → list_all is_calm todo ≡ true → handles_first todo ≡ false
        calm-not [] h = refl
        calm-not (Todo.handle deadline mark ∷ todo) h = absurd (false≢true h)
        calm-not (q ∷ todo) h = refl

        showing-not : (q : Todo) → is_show q ≡ true → handles_first (q ∷ []) ≡ false
        showing-not (Todo.show r rest) h = refl
        showing-not q h = absurd (false≢true h)

        by : Stands p (scheduler f) (joins f) (clock f).marks at → Holds p (scheduler f) (clock f).marks at
        by (idles was) = never [] was.list refl
        by (opens was) = never (was.first ∷ []) was.list (showing-not was.first was.is)
        by (away was) = never p.todo refl (put-away p.todo was.list)
        by (begun was) = never p.todo refl (calm-not p.todo was.0.calm)
        by (rouses was) = never (Todo.rouse was.who ∷ was.todo) was.list refl
        by (looks was) = never (Todo.look was.who was.site was.before ∷ was.todo) was.list refl
        by (holds was) = was
        by (pays was) = never p.todo refl (paying p.todo was.list)

    -- what stops or continues a thread isn't the first of a turn
    opens-calm : (q : Pending) (rest : Steps) (todo : Todos) → Shows f at.state e.cpu e q rest todo → Opens p (scheduler f) (clock f).marks at → stirs q (act_in e.act) ≡ false
    opens-calm q rest todo h was = by-made h (λ z. stirs z (act_in e.act) ≡ false) (λ killed. calm h.listed offered was.rests) (λ killed stopping. refl)
      where
        offered : IsOffered f.image p.context h.listed rest
        offered = (subst (Fits f.image p.context) h.at (law.rel.processors e.cpu law.by.named).list.fits).0

        stirs_first : Steps → Bool
        stirs_first [] = false
        stirs_first (r ∷ more) = stirs r (act_in e.act)

        first_of : (z : Pending) (more : Steps) → p.context.pending ≡ z ∷ more → (p.context.pending ≡ []) ⊎ (p.context.pending ≡ Pending.Killed ∷ []) → stirs z (act_in e.act) ≡ false
        first_of z more k (inl none) = ap stirs_first (sym k ∙ none)
        first_of z more k (inr killed) = ap stirs_first (sym k ∙ killed)

        has_second : Steps → Bool
        has_second (r ∷ s ∷ more) = true
        has_second steps = false

        no-second : (r z : Pending) (more : Steps) → p.context.pending ≡ r ∷ z ∷ more → (p.context.pending ≡ []) ⊎ (p.context.pending ≡ Pending.Killed ∷ []) → ⊥
        no-second r z more k (inl none) = true≢false (ap has_second (sym k ∙ none))
        no-second r z more k (inr killed) = true≢false (ap has_second (sym k ∙ killed))

        calm : (z : Pending) → IsOffered f.image p.context z rest → (p.context.pending ≡ []) ⊎ (p.context.pending ≡ Pending.Killed ∷ []) → stirs z (act_in e.act) ≡ false
        calm z o rests = which z rest o
          where
            which : (z : Pending) (more : Steps) → IsOffered f.image p.context z more → stirs z (act_in e.act) ≡ false
            which z more (O.goes k) = first_of z more k rests
            which z more (O.passed {who} k) = absurd (no-second (Pending.Inherit who) z more k rests)
            which z more (O.dropped {from} k) = absurd (no-second (Pending.Drops from) z more k rests)
            which _ _ (O.begins k on i) = refl
            which _ _ (O.exits k on i) = refl

    event-follows : (q : Pending) (rest : Steps) (todo : Todos) (x : ℕ) → (is_join q ≡ true → x < 2) → Shows f at.state e.cpu e q rest todo → IsShown q → IsStep f at.state e.cpu e x q → Rel later (T.after at.state p.context.thread x q rest)
        → TellsWaiters (T.after at.state p.context.thread x q rest) → AreBounded later → Stands p (scheduler f) (joins f) (clock f).marks at → Followed f at e law one orderly (T.after at.state p.context.thread x q rest)
    event-follows q rest todo x few h shown is related tells bounded st = by (stirs q (act_in e.act)) refl (showing h.listed rest todo h.at st)
      where
        full : IsFull at.state p.context.thread p.context.pending
        full = known.full (shows-runs h)

        least : (who : ThreadIx) (timeout : Timeout) → q ≡ Pending.Join who timeout → IsLeast at.state p.context.thread (Pending.Join who timeout) x
        least who timeout w =
            known.join_least who timeout rest todo x (subst (λ (r : Pending). Shows f at.state e.cpu e r rest todo) w h) (subst (λ (r : Pending). IsStep f at.state e.cpu e x r) w is)
            (few (ap is_join w))

        by : (b : Bool) → stirs q (act_in e.act) ≡ b → Begun p (scheduler f) (clock f).marks at ⊎ Opens p (scheduler f) (clock f).marks at → Followed f at e law one orderly (T.after at.state p.context.thread x q rest)
        by false calm (inl was) = event-begun q rest todo x h shown is calm least related tells bounded full was
        by false calm (inr was) = event-opens q rest todo x h shown is calm least related tells bounded full was
        by true stir (inl was) = stir-follows q rest todo x h is stir related full was
        by true stir (inr was) = absurd (true≢false (sym stir ∙ opens-calm q rest todo h was))

    -- a join says of a thread that is over the same by any number but 0
    event-least : (q : Pending) (rest : Steps) (todo : Todos) (x : ℕ) → Shows f at.state e.cpu e q rest todo → IsShown q → IsStep f at.state e.cpu e x q → Rel later (T.after at.state p.context.thread x q rest)
        → TellsWaiters (T.after at.state p.context.thread x q rest) → AreBounded later → Stands p (scheduler f) (joins f) (clock f).marks at → Followed f at e law one orderly (T.after at.state p.context.thread x q rest)
    event-least (Pending.Join who timeout) rest todo zero h shown is related tells bounded st = event-follows (Pending.Join who timeout) rest todo zero (λ j. omega arith) h shown is related tells bounded st
    event-least (Pending.Join who timeout) rest todo (suc zero) h shown is related tells bounded st =
        event-follows (Pending.Join who timeout) rest todo (suc zero) (λ j. omega arith) h shown is related tells bounded st
    event-least (Pending.Join who timeout) rest todo (suc (suc n)) h shown is related tells bounded st =
        event-follows (Pending.Join who timeout) rest todo (suc zero) (λ j. omega arith) h shown (record { said = is.said; chosen = is.chosen; says = is.says }) related tells bounded st
    event-least q rest todo x h shown is related tells bounded st = event-follows q rest todo x (λ j. absurd (false≢true j)) h shown is related tells bounded st

    -- there are marks where one is in the hand, and where time goes on
    held-marks : Holds p (scheduler f) (clock f).marks at → (clock f).marks ≡ [] → ⊥
    held-marks was = held-some at.state was.deadline was.mark (clock f).marks at.armings was.armings

    ticked-marks : IsTrue (is_some (next_deadline at.state.now at.state.armed)) → (clock f).marks ≡ [] → ⊥
    ticked-marks some none = false≢true (sym (ap (λ ds. is_some (next_deadline at.state.now ds)) (sym law.rel.clock.armed ∙ ap deadlines none)) ∙ some)

    of-cleaned : (was : Begun p (scheduler f) (clock f).marks at) (s2 : State) → Cleaned f at e law kept was s2 → Followed f at e law one orderly s2
    of-cleaned was s2 g = record { point = record at { state = s2 }; follows = g.follows; state = refl; stands = begun g.begun }

    pub by-leaves : OwnRows f.image → RestsHoldNothing at.state → (s2 : State) (leaves : Leaves f at.state e s2) → HasStep f at.state e s2 leaves → Rel later s2 → TellsWaiters s2 → AreBounded later
        → Stands p (scheduler f) (joins f) (clock f).marks at → Followed f at e law one orderly s2
    by-leaves own rests _ (nothing u said) has related tells bounded st = quiet-follows f at e law one orderly kept lawful suits all proper bounds known (ap is_shown said) st
    by-leaves own rests _ (event q rest todo x h shown is) has related tells bounded st = event-least q rest todo x h shown is related tells bounded st
    by-leaves own rests _ (resumes c told rest idle moved said) has related tells bounded st =
        resume-follows f at e law one orderly c told rest (is-idle idle st) moved said has related tells bounded
    by-leaves own rests _ (passes who x rest todo h said) has related tells bounded st =
        let was = has-begun (Todo.pass who x) todo h.at refl st in
        let fits = fits-pass f at e law one orderly suits all was who x todo h in
        subst
        (λ (left : Steps). Rel later (T.after m p.context.thread x (Pending.Inherit (to_thread who)) left) → TellsWaiters (T.after m p.context.thread x (Pending.Inherit (to_thread who)) left)
        → Followed f at e law one orderly (T.after m p.context.thread x (Pending.Inherit (to_thread who)) left))
        (ap tail (sym fits.0.pending ∙ has))
        (λ r t. pass-follows f at e law one orderly suits all was who x todo h r t bounded (known.full (visit-runs h (λ hand. hand)))) related tells
    by-leaves own rests _ (drops from x rest todo h said) has related tells bounded st =
        let was = has-begun (Todo.drop x) todo h.at refl st in
        let held = sound-held m law.sound x p.context.thread h.few in
        let fits = fits-drop f at e law one orderly suits all was x todo h held in
        subst
        (λ (z : ℕ × Steps). Rel later (T.after m p.context.thread x (Pending.Drops z.0) z.1) → TellsWaiters (T.after m p.context.thread x (Pending.Drops z.0) z.1)
        → Followed f at e law one orderly (T.after m p.context.thread x (Pending.Drops z.0) z.1))
        (λ i. (ap from_of (sym fits.pending ∙ has) i, ap tail (sym fits.pending ∙ has) i))
        (λ r t. drop-follows f at e law one orderly suits all was x todo h held r t bounded (known.full (visit-runs h (λ hand. hand)))) related tells
    by-leaves own rests _ (cleans who x rest todo h said) has related tells bounded st =
        let was = has-begun (Todo.clean_pair who x) todo h.at refl st in
        of-cleaned was _ (pair-follows f at e law kept was who x rest todo h (calls-known m law.sound rests) own (sound-held m law.sound x who h.few))
    by-leaves own rests _ (recycles x rest todo list l said chosen) has related tells bounded st =
        let was = has-begun (Todo.recycle x) todo list refl st in of-cleaned was _ (recycle-follows f at e law kept was x rest todo list said chosen)
    by-leaves own rests _ (beside t x q how chosen started) has related tells bounded st = by how chosen started (beside t x q how chosen started) related tells
      where
        by : {t x : ℕ} {q : Pending} → Beside f m e t x q → MayChoose m t x q → IsTrue (is_started (thread_at m t).life) → Leaves f m e (T.after m t x q (thread_at m t).pending)
            → Rel later (T.after m t x q (thread_at m t).pending) → TellsWaiters (T.after m t x q (thread_at m t).pending) → Followed f at e law one orderly (T.after m t x q (thread_at m t).pending)
        by (cuts who site before x todo list same few said) chosen started l r t =
            let found = looking who site before todo list st in
            subst
            (λ (n : ℕ). e.act ≡ by_me f.image p (Act.Cut (to_thread n)) → MayChoose m p.context.thread x (Pending.Cut (to_thread n))
            → Followed f at e law one orderly (T.after m p.context.thread x (Pending.Cut (to_thread n)) (thread_at m p.context.thread).pending)) found.1
            (λ said chosen. cut-follows f at e law found.0 one orderly kept x said chosen) said chosen
        by (times_out deadline site x who todo list same few said) chosen started l r t =
            let was = handling deadline (Mark.Thread who site) todo list st in
            timed-out-follows f at e law one orderly kept was deadline site x who todo list same few said chosen started (known.last_time (held-marks was)) r bounded
        by (expires deadline x todo list few said) chosen started l r t =
            let was = handling deadline (Mark.Timer x) todo list st in
            expire-follows f at e law one orderly kept suits.waits was deadline x todo list said chosen started (known.last_time (held-marks was)) r bounded
        by (ticks list said) chosen started l r t =
            tick-follows f at e law one orderly (is-idle list st) (ap is_tick said) known.chosen (settled-idle f at e law one orderly kept lawful suits all proper bounds list) (known.last_time (ticked-marks chosen)) chosen started
        by (L.leaves todo list said) chosen started l r t =
            leave-follows f at e law one orderly proper (has-begun Todo.leave todo list refl st) todo list said r t bounded
            (known.full (runs-first law.rel law.by.named Todo.leave todo list (λ hand. hand)))
