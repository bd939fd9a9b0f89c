-- What the relation with the access-matrix machine says of a processor that makes a step: the machine may offer that event to its thread, and the
-- scheduler hands over a thread at rest, one that was told something, or one that is to be killed.
use Rattle.std.proofs.Common.{◌≡◌, inl, inr, ℕ, ◌<◌, Bool, true, false, List, [], ◌∷◌, Option, Some, None, refl, sym, ap, ◌∙◌, subst, arith, eq-eqb, if◌then◌else◌, ◌+◌}
use Rattle.std.specs.Prelude.{◌&&◌, ◌||◌, not, IsTrue, is_some, nat_lt, unwrap_or}
use Rattle.std.specs.List.{list_all}
use Rattle.std.proofs.lemmas.Bool.{and_parts, false≢true, true≢false}
use Rattle.um_base.specs.declared.act.Act.{Act}
use Rattle.um_base.specs.declared.ask.Told.{Told}
use Rattle.um_base.specs.declared.image.Image.{Image}
use Rattle.um_base.specs.declared.limits.TheConstants.{THREADS}
use Rattle.um_base.specs.declared.names.ThreadIx.{ThreadIx}
use Rattle.um_machine.specs.declared.pending.Pending.{Pending}
use Rattle.um_machine.specs.declared.thread.Life.{Life}
use Rattle.um_machine.specs.declared.thread.Place.{Place}
use Rattle.um_machine.specs.declared.thread.Thread.{Thread}
use Rattle.um_machine.specs.Order.{Steps}
use Rattle.um_machine.specs.Services.{is_empty}
use Rattle.um_machine.specs.State.{State, is_living, is_started, thread_at}
use Rattle.um_measure.proofs.StepLemmas.{not-begin, not-exit}
use Rattle.um_measure.specs.Reached.{IsPlace, IsReached, may_wait}
use Rattle.um_words.specs.declared.fine.FineAct.{FineAct}
use Rattle.um_words.specs.declared.fine.More.{More}
use Rattle.um_fine.specs.Answers.{is_due_act, is_tick}
use Rattle.um_fine.specs.Asks.{me, says, says_show, says_turn, site_by, site_of_step}
use Rattle.um_fine.specs.Cells.{Cell}
use Rattle.um_fine.specs.Context.{Context, no_context}
use Rattle.um_fine.specs.FineRun.{ByOneOf}
use Rattle.um_fine.specs.Places.{Todo, Todos, armed_for, settling}
use Rattle.um_fine.specs.Processor.{Processor}
use Rattle.um_fine.specs.Scheduler.{Scheduler, first_ready, has_ready, is_cut, parked_at, to_kill, told_at, waits}
use Rattle.um_fine.specs.Sites.{SiteMay, SiteState, is_sort, site_takes}
use Rattle.um_fine.specs.Steps.{Exchange, FineStep, Site}
use Rattle.um_refinement.specs.Fine.{Fine, one_if, scheduler, scheduler_state}
use Rattle.um_refinement.specs.Lists.{has_steps, times}
use Rattle.um_refinement.specs.Offers.{Fits, IsOffered, IsPutBack, behind_shown, is_over}
use Rattle.um_refinement.specs.Relation.{Rel}
use Rattle.um_refinement.specs.Threads.{IsOf, IsRun, is_ended, is_ready_there, occurs}
use Rattle.um_refinement.proofs.Kept.{IdleStep, gives, idle-step, ticks, turns}
use Rattle.um_refinement.proofs.Offered.{own-unless, runs-first}
use Rattle.um_fine_measure.specs.Ready.{AreCut, HasDrops, IsTaken, IsTurn, MayShow, MayStep, is_round}

-- steps that have places of their own, and are no events here
abbrev has_place : Pending → Bool
has_place Pending.Resume = true
has_place (Pending.Inherit who) = true
has_place (Pending.Drops from) = true
has_place (Pending.CleanPair who) = true
has_place Pending.Recycle = true
has_place Pending.Left = true
has_place Pending.Tick = true
has_place (Pending.TimeOut who) = true
has_place Pending.Expire = true
has_place (Pending.Cut who) = true
has_place q = false

-- what stands after an event is no event, and no mark in a hand
settling-round : (image : Image) (c : Context) (until : Option ℕ) (q : Pending) → list_all is_round (settling image c until q) ≡ true
settling-round image c None q = refl
settling-round image c (Some deadline) q = refl

round-behind : (image : Image) (c : Context) (q : Pending) → list_all is_round (behind_shown image c q) ≡ true
round-behind image c (Pending.Start who script stack priority mode) = refl
round-behind image c (Pending.Load to a n) = refl
round-behind image c (Pending.Work a ask) = settling-round image c (armed_for image c (Pending.Work a ask)) (Pending.Work a ask)
round-behind image c (Pending.Join who timeout) = settling-round image c (armed_for image c (Pending.Join who timeout)) (Pending.Join who timeout)
round-behind image c (Pending.FutexWait a value timeout) = settling-round image c (armed_for image c (Pending.FutexWait a value timeout)) (Pending.FutexWait a value timeout)
round-behind image c q = refl

module _ (image : Image) (c : Context) where
  -- a step that is pending with a thread of this life
  pending-shows : (life : Life) (q : Pending) → may_wait life q ≡ true → c.ended ≡ is_ended life → IsTrue (is_started life) → is_empty c.pending ≡ false → has_place q ≡ false → MayShow image c q
  pending-shows life Pending.Begin waits ended started some place = absurd (not-begin life waits)
  pending-shows life Pending.Exit waits ended started some place = absurd (not-exit life waits)
  pending-shows Life.Living (Pending.Fatal reason cause) waits ended started some place = ended
  pending-shows Life.Unborn (Pending.Fatal reason cause) waits ended started some place = absurd (false≢true waits)
  pending-shows Life.Ended (Pending.Fatal reason cause) waits ended started some place = absurd (false≢true waits)
  pending-shows Life.Living (Pending.Dooms from) waits ended started some place = absurd (false≢true waits)
  pending-shows Life.Unborn (Pending.Dooms from) waits ended started some place = absurd (false≢true started)
  pending-shows Life.Ended (Pending.Dooms from) waits ended started some place = ended
  pending-shows life Pending.Resume waits ended started some place = absurd (true≢false place)
  pending-shows life (Pending.Inherit who) waits ended started some place = absurd (true≢false place)
  pending-shows life (Pending.Drops from) waits ended started some place = absurd (true≢false place)
  pending-shows life (Pending.CleanPair who) waits ended started some place = absurd (true≢false place)
  pending-shows life Pending.Recycle waits ended started some place = absurd (true≢false place)
  pending-shows life Pending.Left waits ended started some place = absurd (true≢false place)
  pending-shows life Pending.Tick waits ended started some place = absurd (true≢false place)
  pending-shows life (Pending.TimeOut who) waits ended started some place = absurd (true≢false place)
  pending-shows life Pending.Expire waits ended started some place = absurd (true≢false place)
  pending-shows life (Pending.Cut who) waits ended started some place = absurd (true≢false place)
  pending-shows Life.Living Pending.Killed waits ended started some place = ended
  pending-shows Life.Unborn Pending.Killed waits ended started some place = absurd (false≢true waits)
  pending-shows Life.Ended Pending.Killed waits ended started some place = absurd (false≢true waits)
  pending-shows life q waits ended started some place = some

  -- it is alive where it was started and hasn't ended
  still-living : (life : Life) → c.ended ≡ is_ended life → IsTrue (is_started life) → c.ended ≡ false → IsTrue (is_living life)
  still-living Life.Living ended started lives = refl
  still-living Life.Unborn ended started lives = absurd (false≢true started)
  still-living Life.Ended ended started lives = absurd (false≢true (sym lives ∙ ended))

  module _ (f : Fine) (m : State) (same : m.image ≡ image) (reached : IsReached m) (run : IsRun f m c) where
    abbrev thread : Thread
    thread = thread_at m c.thread

    some-left : (q : Pending) (rest : Steps) → c.pending ≡ q ∷ rest → is_empty c.pending ≡ false
    some-left q rest h = ap is_empty h

    not-over : is_empty c.pending ≡ false → is_over c ≡ false
    not-over h = by c.ended (is_empty c.pending) h
      where
        by : (a b : Bool) → b ≡ false → (a && b) ≡ false
        by true b e = e
        by false b e = refl

    waiting : IsOf f m c → waits c.pending ≡ false → list_all (may_wait thread.life) c.pending ≡ true
    waiting of awake =
        subst (λ (steps : Steps). list_all (may_wait thread.life) steps ≡ true) (sym (ap (λ (t : Thread). t.pending) (own-unless of awake))) (reached.sound c.thread).waits

    awake-first : (q : Pending) (rest : Steps) → c.pending ≡ q ∷ rest → has_place q ≡ false → waits c.pending ≡ false
    awake-first q rest h place = ap waits h ∙ by q place
      where
        by : (q : Pending) → has_place q ≡ false → waits (q ∷ rest) ≡ false
        by Pending.Resume place = absurd (true≢false place)
        by q place = refl

    offered-shows : (q : Pending) (rest : Steps) → IsOffered image c q rest → has_place q ≡ false → MayShow image c q
    offered-shows q rest (IsOffered.goes h) place =
        let some = some-left q rest h in
        let of = run.of (not-over some) in
        let all = subst (λ (steps : Steps). list_all (may_wait thread.life) steps ≡ true) h (waiting of (awake-first q rest h place)) in
        pending-shows thread.life q (and_parts (may_wait thread.life q) _ all).0 of.ended of.started some place
    offered-shows q rest (IsOffered.passed {who} h) place =
        let some = some-left (Pending.Inherit who) (q ∷ rest) h in
        let of = run.of (not-over some) in
        let all = subst (λ (steps : Steps). list_all (may_wait thread.life) steps ≡ true) h (waiting of (ap waits h)) in
        pending-shows thread.life q (and_parts (may_wait thread.life q) _ (and_parts (may_wait thread.life (Pending.Inherit who)) _ all).1).0 of.ended of.started some place
    offered-shows q rest (IsOffered.dropped {from} h) place =
        let some = some-left (Pending.Drops from) (q ∷ rest) h in
        let of = run.of (not-over some) in
        let all = subst (λ (steps : Steps). list_all (may_wait thread.life) steps ≡ true) h (waiting of (ap waits h)) in
        pending-shows thread.life q (and_parts (may_wait thread.life q) _ (and_parts (may_wait thread.life (Pending.Drops from)) _ all).1).0 of.ended of.started some place
    offered-shows q rest (IsOffered.begins none lives line) place =
        let of = run.of (ap (λ b. b && is_empty c.pending) lives) in
        let stands : IsPlace m.image thread.place = (reached.sound c.thread).place (still-living thread.life of.ended of.started lives) in
        let here : c.place ≡ thread.place = ap (λ (t : Thread). t.place) (own-unless of (ap waits none)) in
        (lives, none, subst (λ (z : Image × Place). IsPlace z.0 z.1) (λ i. (same i, sym here i)) stands, line)
    offered-shows q rest (IsOffered.exits none lives line) place = (lives, none)

-- Where the events are made.

-- the cell of memory takes no exit
exit-refused : (s : SiteState) (t : ThreadIx) (more : More) → is_sort Site.memory s ≡ true → site_takes s (FineAct.Shown (record { thread = t; act = Act.Exit }) more) ≡ true → ⊥
exit-refused (SiteState.cell n (Cell.memory b)) t more sort takes = false≢true (and_parts (nat_lt n 268435455) _ takes).1
exit-refused (SiteState.cell n (Cell.object o)) t more sort takes = false≢true sort
exit-refused (SiteState.cell n (Cell.parts d)) t more sort takes = false≢true sort
exit-refused (SiteState.cell n (Cell.heap h)) t more sort takes = false≢true sort
exit-refused (SiteState.cell n (Cell.scheduler r)) t more sort takes = false≢true sort
exit-refused (SiteState.cell n (Cell.clock c)) t more sort takes = false≢true sort
exit-refused (SiteState.cell n (Cell.joins j)) t more sort takes = false≢true sort
exit-refused (SiteState.row w) t more sort takes = false≢true sort
exit-refused (SiteState.thread w) t more sort takes = false≢true sort
exit-refused (SiteState.domain w) t more sort takes = false≢true sort

module _ (image : Image) (p : Processor) (e : FineStep) (s : SiteState) (may : SiteMay image s e) where
  refused : (more : More) → e.site ≡ Site.memory → e.act ≡ FineAct.Shown (record { thread = me image p; act = Act.Exit }) more → IsTrue (is_sort e.site s) → ⊥
  refused more site act sort =
      exit-refused s (me image p) more (subst (λ (i : Site). is_sort i s ≡ true) site sort) (subst (λ (a : FineAct). site_takes s a ≡ true) act may.takes)

  has-site : (q : Pending) → e.site ≡ site_of_step image p q → e.act ≡ says_show image p q e.act → IsTrue (is_sort e.site s) → has_place q ≡ false
  has-site Pending.Resume site act sort = absurd (refused More.Nothing site act sort)
  has-site (Pending.Inherit who) site act sort = absurd (refused More.Nothing site act sort)
  has-site (Pending.Drops from) site act sort = absurd (refused More.Nothing site act sort)
  has-site (Pending.CleanPair who) site act sort = absurd (refused More.Nothing site act sort)
  has-site Pending.Recycle site act sort = absurd (refused More.Nothing site act sort)
  has-site Pending.Left site act sort = absurd (refused More.Nothing site act sort)
  has-site Pending.Tick site act sort = absurd (refused More.Nothing site act sort)
  has-site (Pending.TimeOut who) site act sort = absurd (refused More.Nothing site act sort)
  has-site Pending.Expire site act sort = absurd (refused More.Nothing site act sort)
  has-site (Pending.Cut who) site act sort = absurd (refused More.Nothing site act sort)
  has-site q site act sort = refl

-- What is asked of a step follows where the relation holds.

scheduler-site : (i : Site) (n : ℕ) (r : Scheduler) → is_sort i (SiteState.cell n (Cell.scheduler r)) ≡ true → i ≡ Site.scheduler
scheduler-site Site.scheduler n r sort = refl
scheduler-site i n r sort = absurd (false≢true sort)

module _ (f : Fine) (m : State) (rel : Rel f m) where
  -- who was cut and is parked waits
  parked-cut : (t : ℕ) (c : Context) → parked_at (scheduler f) t ≡ Some c → is_cut (scheduler f) t ≡ true → waits c.pending ≡ true
  parked-cut t c there cut =
      let is = rel.contexts.parked t c there in
      let one : one_if (is_cut (scheduler f) c.thread) ≡ 1 = ap (λ n. one_if (is_cut (scheduler f) n)) is.1 ∙ ap one_if cut in is.0.waiting (omega (arith, one))

  pub are-cut : (i : Site) → AreCut (f.sites i)
  are-cut i = by i (f.sites i) refl (rel.sorts i)
    where
      by : (i : Site) (s : SiteState) → f.sites i ≡ s → is_sort i s ≡ true → AreCut s
      by i (SiteState.cell n (Cell.scheduler r)) at sort =
          let here : f.sites Site.scheduler ≡ SiteState.cell n (Cell.scheduler r) = ap f.sites (sym (scheduler-site i n r sort)) ∙ at in
          λ t c there cut.
          parked-cut t c (ap (λ (s : SiteState). parked_at (scheduler_state s) t) here ∙ there) (ap (λ (s : SiteState). is_cut (scheduler_state s) t) here ∙ cut)
      by i s at sort = tt

  module _ (p : Processor) (e : FineStep) where
    no-idle : (moved : Exchange) → (is_due_act (says_turn f.image p moved) ≡ false) × (is_tick (says_turn f.image p moved) ≡ false)
    no-idle (Exchange.thread c None) = (refl, refl)
    no-idle (Exchange.thread c (Some told)) = (refl, refl)
    no-idle moved = (refl, refl)

    -- the scheduler hands over a thread
    turn-taken : (ready : List ℕ) → (scheduler f).ready ≡ ready → has_ready (scheduler f) ready ≡ true → IsTurn p.context false false (first_ready (scheduler f) ready)
    turn-taken [] at h = absurd (false≢true h)
    turn-taken (t ∷ ready) at h = by (parked_at (scheduler f) t) refl (told_at (scheduler f) t) refl (is_cut (scheduler f) t) refl
      where
        put-back : (c : Context) → IsPutBack c → waits c.pending ≡ false → c.pending ≡ []
        put-back c (inl none) awake = none
        put-back c (inr on) awake = absurd (true≢false (sym on ∙ awake))

        rests : (c : Context) → parked_at (scheduler f) t ≡ Some c → told_at (scheduler f) t ≡ None → is_cut (scheduler f) t ≡ false → waits c.pending ≡ false
        rests c there told cut =
            let is = rel.contexts.parked t c there in
            let few : t < THREADS = subst (λ n. n < THREADS) is.1 is.0.index in
            let first : occurs t (scheduler f).ready ≡ occurs t ready + 1 = ap (occurs t) at ∙ ap (λ b. if b then occurs t ready + 1 else occurs t ready) (eq-eqb t t refl) in
            let ready-there : one_if (is_ready_there (parked_at (scheduler f) t) (told_at (scheduler f) t) (is_cut (scheduler f) t)) ≡ one_if (not (waits c.pending) || false || false)
            = λ i. one_if (is_ready_there (there i) (told i) (cut i)) in
            let count = (rel.threads t few).ready.ready in
            asleep (waits c.pending) (omega (arith, first, ready-there, count))
          where
            asleep : (b : Bool) → 0 < one_if (not b || false || false) → b ≡ false
            asleep true h = absurd (omega (arith, h))
            asleep false h = refl

        by : (o : Option Context) → parked_at (scheduler f) t ≡ o → (told : Option Told) → told_at (scheduler f) t ≡ told → (cut : Bool) → is_cut (scheduler f) t ≡ cut
            → IsTurn p.context false false (Exchange.thread (to_kill cut (unwrap_or o no_context)) told)
        by None there told w cut k = absurd (false≢true (sym (ap is_some there) ∙ (and_parts (is_some (parked_at (scheduler f) t)) (nat_lt (scheduler f).running 255) h).0))
        by (Some c) there (Some told) w cut k = tt
        by (Some c) there None w true k = tt
        by (Some c) there None w false k = subst IsTaken (sym (put-back c (rel.contexts.parked t c there).3 (rests c there w k))) tt

    idle-turn : p.context.claims ≡ [] → IdleStep f p e → IsTurn p.context (is_due_act e.act) (is_tick e.act) e.moved
    idle-turn none (turns site said ready moved) =
        let no = no-idle e.moved in
        subst (λ (z : Bool × Bool × Exchange). IsTurn p.context z.0 z.1 z.2) (λ i. (sym (ap is_due_act said ∙ no.0) i, sym (ap is_tick said ∙ no.1) i, moved i)) (turn-taken (scheduler f).ready refl ready)
    idle-turn none (gives x site said due moved) =
        subst (λ (z : Bool × Bool × Exchange). IsTurn p.context z.0 z.1 z.2) (λ i. (sym (ap is_due_act said) i, sym (ap is_tick said) i, sym moved i)) none
    idle-turn none (ticks now site said late moved) =
        subst (λ (z : Bool × Bool × Exchange). IsTurn p.context z.0 z.1 z.2) (λ i. (sym (ap is_due_act said) i, sym (ap is_tick said) i, sym moved i)) tt

  -- its step is one that a processor may make
  module _ (reached : IsReached m) (e : FineStep) (by : ByOneOf f.image f.cpus (f.processors e.cpu) e) (taken : SiteMay f.image (f.sites e.site) e) where
    abbrev maker : Processor
    maker = f.processors e.cpu

    site-at-list : (todo : Todos) → maker.todo ≡ todo → e.site ≡ site_by f.image maker todo e.act
    site-at-list todo at = sym (ap (λ (g : FineStep). g.site) by.may.makes) ∙ ap (λ z. site_by f.image maker z e.act) at

    said-at-list : (todo : Todos) → maker.todo ≡ todo → e.act ≡ says f.image maker todo e.act e.moved
    said-at-list todo at = sym (ap (λ (g : FineStep). g.act) by.may.makes) ∙ ap (λ z. says f.image maker z e.act e.moved) at

    fits-list : (todo : Todos) → maker.todo ≡ todo → Fits f.image maker.context todo
    fits-list todo at = subst (Fits f.image maker.context) at (rel.processors e.cpu by.named).list.fits

    may-at : (todo : Todos) → maker.todo ≡ todo → MayStep f.image maker e.act e.moved todo
    may-at [] at =
        idle-turn maker e ((rel.processors e.cpu by.named).idle.idle (ap (λ z. has_steps z && not (times z)) at)) (idle-step f m rel maker e by.may taken at)
    may-at (Todo.show q rest ∷ todo) at =
        let fits = fits-list (Todo.show q rest ∷ todo) at in
        let place = has-site f.image maker e (f.sites e.site) taken q (site-at-list (Todo.show q rest ∷ todo) at) (said-at-list (Todo.show q rest ∷ todo) at) (rel.sorts e.site) in
        let run = rel.contexts.running e.cpu by.named (runs-first rel by.named (Todo.show q rest) todo at (λ hand. hand)) in (
          offered-shows f.image maker.context f m rel.image reached run q rest fits.0 place,
          subst (λ (list : Todos). list_all is_round list ≡ true) (sym fits.1) (round-behind f.image maker.context q),
        )
    may-at (Todo.drop x ∷ todo) at = subst HasDrops (sym (fits-list (Todo.drop x ∷ todo) at).pending) tt
    may-at (Todo.sleep ∷ todo) at = (fits-list (Todo.sleep ∷ todo) at).2
    may-at (q ∷ todo) at = tt

    pub may-step : MayStep f.image maker e.act e.moved maker.todo
    may-step = may-at maker.todo refl
