-- What is known of the state at which one processor makes a step, and that a step that shows no event leaves the point as it is.
use Rattle.std.proofs.Common.{◌≡◌, ◌⊎◌, inl, inr, ℕ, ◌<◌, Bool, true, false, [], ◌∷◌, Option, Some, None, refl, sym, ap, ◌∙◌, subst, arith}
use Rattle.std.specs.Prelude.{if◌then◌else◌}
use Rattle.std.proofs.lemmas.Bool.{true≢false}
use Rattle.um_base.specs.declared.act.Act.{Act}
use Rattle.um_base.specs.declared.limits.TheConstants.{THREADS}
use Rattle.um_base.specs.declared.names.ThreadIx.{ThreadIx}
use Rattle.um_base.specs.declared.names.Timeout.{Timeout}
use Rattle.um_base.specs.Lawful.{IsLawful}
use Rattle.um_machine.specs.declared.pending.Pending.{Pending}
use Rattle.um_machine.specs.Order.{Steps, to_thread}
use Rattle.um_machine.specs.State.{State, is_waiting, thread_at}
use Rattle.um_machine.specs.Table as T
use Rattle.um_invariants.specs.Armings.{Arming, makes_step}
use Rattle.um_invariants.specs.InOrder.{Point}
use Rattle.um_invariants.specs.NextSteps.{IsLeast}
use Rattle.um_invariants.proofs.ThreadWords.{AreKept}
use Rattle.um_words.specs.declared.fine.FineAct.{FineAct}
use Rattle.um_words.specs.declared.fine.Unseen.{Unseen}
use Rattle.um_fine.specs.Answers.{act_in, is_void, thread_in}
use Rattle.um_fine.specs.Asks.{by_actor, by_me, marks_end}
use Rattle.um_fine.specs.Continues.{continues}
use Rattle.um_fine.specs.Places.{Todo, Todos}
use Rattle.um_fine.specs.Processor.{actor_or}
use Rattle.um_fine.specs.Steps.{FineStep}
use Rattle.um_refinement.specs.Choice.{IsChosen}
use Rattle.um_refinement.specs.Fine.{Fine, clock, joins, scheduler}
use Rattle.um_refinement.specs.Lists.{runs}
use Rattle.um_refinement.specs.Relation.{Rel}
use Rattle.um_refinement.proofs.Bounds.{AreBounded}
use Rattle.um_refinement.proofs.CallsProper.{AreProper}
use Rattle.um_refinement.proofs.ChildrenKnown.{AllCreate}
use Rattle.um_refinement.proofs.ContextsPart.{is_shown}
use Rattle.um_refinement.proofs.Erased.{around}
use Rattle.um_refinement.proofs.LawfulSteps.{Suits}
use Rattle.um_refinement.proofs.Leaves.{Lawful}
use Rattle.um_refinement.proofs.MemoryPart.{InDomains}
use Rattle.um_refinement.proofs.Offered.{IsStep, Shows}
use Rattle.um_refinement.proofs.SchedulerSteps.{made-says}
use Rattle.um_order.proofs.ArmingOrder.{AreSettled, IsArmed}
use Rattle.um_order.proofs.Follow.{Followed, FollowsBy}
use Rattle.um_order.proofs.HandOrder.{hold-void, pays-on}
use Rattle.um_order.proofs.LookSteps.{look-void, rouse-on}
use Rattle.um_order.proofs.QuietSteps.{quiet-begun}
use Rattle.um_order.proofs.Settled.{idle-settled}
use Rattle.um_order.proofs.ShownLists.{stirs}
use Rattle.um_order.proofs.Standing.{Begun, Holds, Idles, IsFull, Looks, Opens, Pays, PutsAway, Stands, away, begun, goes, holds, idles, looks, opens, pays, rouses}
use Rattle.um_order.proofs.TakeSteps.{away-on, idle-on, opens-on}

-- whom a step stops, or goes on with
abbrev pub stirred : Pending → Option ℕ
stirred (Pending.Abort who) = Some who.0
stirred (Pending.Continue who) = Some who.0
stirred q = None

module _ (f : Fine) (at : Point) (e : FineStep) (law : Lawful f at.state e) (one : f.cpus ≡ 1) (orderly : AllCreate at.state) (kept : AreKept at.state) (lawful : IsLawful at.state.image) (suits : Suits f at.state)
    (all : InDomains f at.state) (proper : AreProper at.state.image at.state) (bounds : AreBounded f) where
  open around f e use {later, processor as p, now}

  abbrev m : State
  m = at.state

  abbrev t : ℕ
  t = p.context.thread

  -- what is known of the state at which one processor makes the step
  pub record Known : Type 0 where
    pub chosen : IsChosen f e
    pub full : runs p ≡ true → IsFull at.state p.context.thread p.context.pending
    -- nobody is aborted between the two readings of its word behind a wait
    pub calm_word : Begun p (scheduler f) (clock f).marks at → (site : ℕ) (todo : Todos) → p.todo ≡ Todo.reread site ∷ todo → (thread_in e.word).aborted ≡ false
    -- a look finds who waits, and a mark in the hand whom it is for
    pub look_void : (was : Looks p (scheduler f) (clock f).marks at) → is_void e.act ≡ true → is_waiting (thread_at at.state was.who) ≡ false
    -- behind a step that stops another thread, or goes on with one, its thread goes on; that one is no doomed thread
    pub stir_goes : (q : Pending) (rest : Steps) (todo : Todos) → Shows f at.state e.cpu e q rest todo → stirs q (act_in e.act) ≡ true
        → goes (continues f.image p.context 0 q rest (act_in e.act) e.moved).pending ≡ true
    pub stir_who : (q : Pending) (rest : Steps) (todo : Todos) (x u : ℕ) → Shows f at.state e.cpu e q rest todo → stirred q ≡ Some u
        → (u < THREADS) × ((thread_at (T.after at.state p.context.thread x q rest) u).doomed ≡ false)
    -- who is aborted waits only with a note
    pub abort_idle : (who : ThreadIx) (rest : Steps) (todo : Todos) (x : ℕ) → Shows f at.state e.cpu e (Pending.Abort who) rest todo → Rel later (T.after at.state p.context.thread x (Pending.Abort who) rest)
        → (thread_in e.word).note ≡ None → is_waiting (thread_at (T.after at.state p.context.thread x (Pending.Abort who) rest) who.0) ≡ false
    -- a join that says that its thread is no longer joined has the least row
    pub join_least : (who : ThreadIx) (timeout : Timeout) (rest : Steps) (todo : Todos) (x : ℕ) → Shows f at.state e.cpu e (Pending.Join who timeout) rest todo → IsStep f at.state e.cpu e x (Pending.Join who timeout)
        → x < 2 → IsLeast at.state p.context.thread (Pending.Join who timeout) x
    -- where there are marks, the thread by which the processor makes the events of time made the last event
    pub last_time : ((clock f).marks ≡ [] → ⊥) → at.last ≡ Some (to_thread (actor_or f.image p.actor))
    pub hand_void : (was : Holds p (scheduler f) (clock f).marks at) → is_void e.act ≡ true → (a : Arming) → IsArmed was.deadline was.mark a → makes_step at.state a ≡ false

  -- it settles each mark within the turn that armed it
  pub settled-idle : p.todo ≡ [] → AreSettled (clock f).marks
  settled-idle list =
      let first : e.cpu ≡ 0 = (let l = law.by.named in omega (arith, l, one)) in
      idle-settled f m law.rel one (ap (λ k. (f.processors k).todo) (sym first) ∙ list)

  stays : Stands now (scheduler later) (joins later) (clock later).marks at → (act : FineAct) → e.act ≡ act → is_shown act ≡ false → Followed f at e law one orderly at.state
  stays st (FineAct.Shown said more) is quiet = absurd (true≢false quiet)
  stays st (FineAct.Unseen u) is quiet = record { point = at; follows = subst (λ a. FollowsBy at a at) (sym is) refl; state = refl; stands = st }

  -- a step that shows no event
  quiet-next : Known → is_shown e.act ≡ false → Stands p (scheduler f) (joins f) (clock f).marks at → Stands now (scheduler later) (joins later) (clock later).marks at
  quiet-next known quiet (idles was) = by (idle-on f at e law was quiet known.chosen (settled-idle was.list))
    where
      by : Opens now (scheduler later) (clock later).marks at ⊎ Holds now (scheduler later) (clock later).marks at → Stands now (scheduler later) (joins later) (clock later).marks at
      by (inl is) = opens is
      by (inr is) = holds is
  quiet-next known quiet (opens was) = away (opens-on f at e law was quiet)
  quiet-next known quiet (away was) = by (away-on f at e law was)
    where
      by : PutsAway now (scheduler later) (clock later).marks at ⊎ Idles now (scheduler later) (clock later).marks at → Stands now (scheduler later) (joins later) (clock later).marks at
      by (inl is) = away is
      by (inr is) = idles is
  quiet-next known quiet (begun was) = by (quiet-begun f at e law one suits.tells proper bounds was quiet (known.calm_word was))
    where
      by : Begun now (scheduler later) (clock later).marks at ⊎ Idles now (scheduler later) (clock later).marks at → Stands now (scheduler later) (joins later) (clock later).marks at
      by (inl is) = begun is
      by (inr is) = idles is
  quiet-next known quiet (rouses was) = begun (rouse-on f at e law was)
  quiet-next known quiet (looks was) =
      begun (look-void f at e law was void (known.look_void was void))
    where
      void : is_void e.act ≡ true
      void = by (is_void e.act) refl
        where
          by : (b : Bool) → is_void e.act ≡ b → b ≡ true
          by true h = refl
          by false h =
              absurd (true≢false (ap is_shown (sym (made-says f m e law (Todo.look was.who was.site was.before ∷ was.todo) was.list ∙ ap (λ b. if b then FineAct.Unseen Unseen.Void else by_me f.image p (Act.Cut (to_thread was.who))) h)) ∙ quiet))
  quiet-next known quiet (holds was) =
      pays (hold-void f at e law one was void (known.hand_void was void))
    where
      void : is_void e.act ≡ true
      void = by (is_void e.act) refl
        where
          by : (b : Bool) → is_void e.act ≡ b → b ≡ true
          by true h = refl
          by false h =
              absurd (true≢false (ap is_shown (sym (made-says f m e law (Todo.handle was.deadline was.mark ∷ Todo.paid ∷ []) was.list ∙ ap (λ b. if b then FineAct.Unseen Unseen.Void else by_actor f.image p (marks_end f.image p was.mark e.act)) h)) ∙ quiet))
  quiet-next known quiet (pays was) = by (pays-on f at e law one suits.tells proper bounds was)
    where
      by : Pays now (scheduler later) (clock later).marks at ⊎ Idles now (scheduler later) (clock later).marks at → Stands now (scheduler later) (joins later) (clock later).marks at
      by (inl is) = pays is
      by (inr is) = idles is

  pub quiet-follows : Known → is_shown e.act ≡ false → Stands p (scheduler f) (joins f) (clock f).marks at → Followed f at e law one orderly at.state
  quiet-follows known quiet st = stays (quiet-next known quiet st) e.act refl quiet
