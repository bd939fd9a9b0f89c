-- Two parts of the relation, kept by every lawful step: each site keeps its sort, and each processor a list that fits. And what a processor
-- without a thread does.
use Rattle.um_refinement.proofs.Words.{◌≡◌, ℕ, ◌<◌, Bool, true, false, cond, List, [], ◌∷◌, Option, Some, None, refl, sym, ap, ◌∙◌, subst, ◌==◌, ◌||◌, IsTrue, if◌then◌else◌, is_some, nat_lt, unwrap_or, and_parts, eqb-true, false≢true, true≢false, Act, Image, Told, Pending, Steps, to_thread, is_empty, State, FineAct, Unseen, act_in, context_in, is_word_read, Context, no_context, Exchange, FineStep, Site, Scheduler, first_ready, has_ready, parked_at, sched_takes, told_at, Cell, SiteMay, SiteState, is_sort, s_next, same_site, site_answers, site_moves, site_takes, Todo, Todos, Processor, CpuMay, says, says_show, moves, p_next, cpu_of, same_cpu, site_of, Fine, Fits, IsOffered, scheduler, scheduler_state, ListIs, Rel, sched_moves}
use Rattle.um_fine.specs.Answers.{is_due_act, is_tick, is_void, now_in}
use Rattle.um_fine.specs.Asks.{by_actor, idle_site, moves_idle, says_turn, site_by}
use Rattle.um_fine.specs.Clock.{Marked, first_due, later, mark_given}
use Rattle.um_fine.specs.Joins.{asleep_at, roused}
use Rattle.um_fine.specs.Runs.{changed}
use Rattle.um_fine.specs.Scheduler.{is_cut, to_kill}
use Rattle.um_refinement.specs.Fine.{clock, clock_state, joins, joins_state}
use Rattle.um_refinement.specs.Offers as O
use Rattle.um_refinement.proofs.ListFits.{IsAtRest, Rests, list-next}
use Rattle.um_refinement.proofs.ListFrames.{RousesBare}
use Rattle.um_refinement.proofs.RowSteps.{sort-next}
use Rattle.um_refinement.proofs.StepsLeft.{is_first}

pub sorts-kept : (image : Image) (ss : Site → SiteState) (e : FineStep) → ((i : Site) → IsTrue (is_sort i (ss i)))
    → (i : Site) → IsTrue (is_sort i (changed same_site site_of (s_next image) ss e i))
sorts-kept image ss e was i =
    elim (same_site e.site i) as (λ b. IsTrue (is_sort i (cond b (s_next image (ss i) e) (ss i)))) [
      | true ↦ sort-next image i (ss i) e.act e.moved (was i)
      | false ↦ was i
    ]

pub scheduler-sort : (s : SiteState) → IsTrue (is_sort Site.scheduler s) → (n : ℕ) × (s ≡ SiteState.cell n (Cell.scheduler (scheduler_state s)))
scheduler-sort (SiteState.cell n (Cell.scheduler s)) is = (n, refl)
scheduler-sort s is = absurd (false≢true is)

pub clock-sort : (s : SiteState) → IsTrue (is_sort Site.clock s) → (n : ℕ) × (s ≡ SiteState.cell n (Cell.clock (clock_state s)))
clock-sort (SiteState.cell n (Cell.clock c)) is = (n, refl)
clock-sort s is = absurd (false≢true is)

pub joins-sort : (s : SiteState) → IsTrue (is_sort Site.joins s) → (n : ℕ) × (s ≡ SiteState.cell n (Cell.joins (joins_state s)))
joins-sort (SiteState.cell n (Cell.joins j)) is = (n, refl)
joins-sort s is = absurd (false≢true is)

-- an idle processor that takes a thread asks for the first of the ready list
pub idle-moves : (image : Image) (p : Processor) (s : Scheduler) (moved : Exchange) → sched_moves s (says_turn image p moved) moved ≡ first_ready s s.ready
idle-moves image p s (Exchange.thread c None) = refl
idle-moves image p s (Exchange.thread c (Some told)) = refl
idle-moves image p s moved = refl

pub idle-takes : (image : Image) (p : Processor) (s : Scheduler) (moved : Exchange) → IsTrue (sched_takes s (says_turn image p moved)) → IsTrue (has_ready s s.ready)
idle-takes image p s (Exchange.thread c None) h = h
idle-takes image p s (Exchange.thread c (Some told)) h = h
idle-takes image p s moved h = h

-- Where its list has nothing a processor takes the first thread that is ready, or a mark that is due, or time goes on.
pub data IdleStep (f : Fine) (p : Processor) (e : FineStep) : Type 0 where
  turns : e.site ≡ Site.scheduler → e.act ≡ says_turn f.image p e.moved → IsTrue (has_ready (scheduler f) (scheduler f).ready) → first_ready (scheduler f) (scheduler f).ready ≡ e.moved → IdleStep f p e
  gives : (x : Marked) → e.site ≡ Site.clock → e.act ≡ FineAct.Unseen Unseen.Due → first_due (clock f).now (clock f).marks ≡ Some x → e.moved ≡ Exchange.mark x.deadline x.mark → IdleStep f p e
  ticks : (now : ℕ) → e.site ≡ Site.clock → e.act ≡ by_actor f.image p (Act.Tick now) → later (clock f) ≡ Some now → e.moved ≡ Exchange.nothing → IdleStep f p e

-- what a processor shows first of a thread, that thread is at rest for
abbrev pub RestsFirst : Processor → Type 0
RestsFirst p = (q : Pending) (rest : Steps) (todo : Todos) → p.todo ≡ Todo.show q rest ∷ todo → is_first q ≡ true → p.context.pending ≡ []

module _ (f : Fine) (m : State) (rel : Rel f m) where
  module _ (p : Processor) (e : FineStep) (may : CpuMay f.image p e) (taken : SiteMay f.image (f.sites e.site) e) where
    -- the site fills in what it is asked, and takes it
    abbrev FilledIn : FineAct → SiteState → Type 0
    FilledIn act s = IsTrue (site_takes s act) × (site_moves f.image s act e.moved ≡ e.moved) × (site_answers f.image s e.moved act ≡ act)

    filled-at : (i : Site) (act : FineAct) (s : SiteState) → e.site ≡ i → e.act ≡ act → f.sites i ≡ s → FilledIn act s
    filled-at i act s site said at = (
      subst (λ (z : SiteState). IsTrue (site_takes z act)) at (subst (λ (z : Site × FineAct). IsTrue (site_takes (f.sites z.0) z.1)) (λ j. (site j, said j)) taken.takes),
      subst (λ (z : SiteState). site_moves f.image z act e.moved ≡ e.moved) at
          (subst (λ (z : Site × FineAct). site_moves f.image (f.sites z.0) z.1 e.moved ≡ e.moved) (λ j. (site j, said j)) (ap (λ (s : FineStep). s.moved) taken.filled_in)),
      subst (λ (z : SiteState). site_answers f.image z e.moved act ≡ act) at
          (subst (λ (z : Site × FineAct). site_answers f.image (f.sites z.0) e.moved z.1 ≡ z.1) (λ j. (site j, said j)) (ap (λ (s : FineStep). s.act) taken.filled_in)),
    )

    site-by : (todo : Todos) → p.todo ≡ todo → e.site ≡ site_by f.image p todo e.act
    site-by todo at = sym (ap (λ (s : FineStep). s.site) may.makes) ∙ ap (λ (z : Todos). site_by f.image p z e.act) at

    says-by : (todo : Todos) → p.todo ≡ todo → e.act ≡ says f.image p todo e.act e.moved
    says-by todo at = sym (ap (λ (s : FineStep). s.act) may.makes) ∙ ap (λ (z : Todos). says f.image p z e.act e.moved) at

    moves-by : (todo : Todos) → p.todo ≡ todo → e.moved ≡ moves f.image p todo e.act e.moved
    moves-by todo at = sym (ap (λ (s : FineStep). s.moved) may.makes) ∙ ap (λ (z : Todos). moves f.image p z e.act e.moved) at

    clock-at : (n : ℕ) × (f.sites Site.clock ≡ SiteState.cell n (Cell.clock (clock f)))
    clock-at = clock-sort (f.sites Site.clock) (rel.sorts Site.clock)

    -- what a processor without a thread does
    pub idle-step : p.todo ≡ [] → IdleStep f p e
    idle-step idle = by (is_due_act e.act) refl (is_tick e.act) refl
      where
        gives-due : e.act ≡ FineAct.Unseen Unseen.Due → IdleStep f p e
        gives-due said = which (first_due (clock f).now (clock f).marks) refl
          where
            site : e.site ≡ Site.clock
            site = site-by [] idle ∙ ap (idle_site f.image p) said

            filled : FilledIn (FineAct.Unseen Unseen.Due) (SiteState.cell clock-at.0 (Cell.clock (clock f)))
            filled = filled-at Site.clock (FineAct.Unseen Unseen.Due) (SiteState.cell clock-at.0 (Cell.clock (clock f))) site said clock-at.1

            which : (o : Option Marked) → first_due (clock f).now (clock f).marks ≡ o → IdleStep f p e
            which None at = absurd (false≢true (sym (ap is_some at) ∙ (and_parts (nat_lt clock-at.0 268435455) (is_some (first_due (clock f).now (clock f).marks)) filled.0).1))
            which (Some x) at = gives x site said at (sym filled.1 ∙ ap mark_given at)

        lets-pass : (n : ℕ) → e.act ≡ by_actor f.image p (Act.Tick n) → e.moved ≡ Exchange.nothing → IdleStep f p e
        lets-pass n said none = which (later (clock f)) refl
          where
            site : e.site ≡ Site.clock
            site = site-by [] idle ∙ ap (idle_site f.image p) said

            filled : FilledIn (by_actor f.image p (Act.Tick n)) (SiteState.cell clock-at.0 (Cell.clock (clock f)))
            filled = filled-at Site.clock (by_actor f.image p (Act.Tick n)) (SiteState.cell clock-at.0 (Cell.clock (clock f))) site said clock-at.1

            which : (o : Option ℕ) → later (clock f) ≡ o → IdleStep f p e
            which None at = absurd (false≢true (sym (ap is_some at) ∙ (and_parts (nat_lt clock-at.0 268435455) (is_some (later (clock f))) filled.0).1))
            which (Some now) at =
                ticks now site (said ∙ (sym filled.2 ∙ ap (λ (o : Option ℕ). by_actor f.image p (Act.Tick (unwrap_or o (clock f).now))) at)) at none

        takes-turn : e.site ≡ Site.scheduler → e.act ≡ says_turn f.image p e.moved → IdleStep f p e
        takes-turn site said =
            let at = scheduler-sort (f.sites Site.scheduler) (rel.sorts Site.scheduler) in
            let filled = filled-at Site.scheduler (says_turn f.image p e.moved) (SiteState.cell at.0 (Cell.scheduler (scheduler f))) site said at.1 in
            turns site said (idle-takes f.image p (scheduler f) e.moved (and_parts (nat_lt at.0 268435455) (sched_takes (scheduler f) (says_turn f.image p e.moved)) filled.0).1) (sym (idle-moves f.image p (scheduler f) e.moved) ∙ filled.1)

        said : (due tick : Bool) → is_due_act e.act ≡ due → is_tick e.act ≡ tick
            → e.act ≡ (if due then FineAct.Unseen Unseen.Due else if tick then by_actor f.image p (Act.Tick (now_in (act_in e.act))) else says_turn f.image p e.moved)
        said due tick d t =
            says-by [] idle
            ∙ (λ i. if d i then FineAct.Unseen Unseen.Due else if t i then by_actor f.image p (Act.Tick (now_in (act_in e.act))) else says_turn f.image p e.moved)

        by : (due : Bool) → is_due_act e.act ≡ due → (tick : Bool) → is_tick e.act ≡ tick → IdleStep f p e
        by true d tick t = gives-due (said true tick d t)
        by false d true t = lets-pass (now_in (act_in e.act)) (said false true d t) (moves-by [] idle ∙ ap (λ b. moves_idle f.image p b e.moved) t)
        by false d false t = takes-turn (site-by [] idle ∙ (λ i. if d i || t i then Site.clock else Site.scheduler)) (said false false d t)

    -- who is roused slept here
    pub rouses-sleeper : (who : ℕ) (todo : Todos) → p.todo ≡ Todo.rouse who ∷ todo → is_void e.act ≡ false → (c : Context) × (asleep_at (joins f) who ≡ Some c) × (e.moved ≡ Exchange.thread c None)
    rouses-sleeper who todo at found = which (asleep_at (joins f) who) refl
      where
        act : FineAct
        act = FineAct.Unseen (Unseen.Rouse (to_thread who))

        said : e.act ≡ act
        said = says-by (Todo.rouse who ∷ todo) at ∙ ap (λ b. if b then FineAct.Unseen Unseen.Void else act) found

        there : (n : ℕ) × (f.sites Site.joins ≡ SiteState.cell n (Cell.joins (joins f)))
        there = joins-sort (f.sites Site.joins) (rel.sorts Site.joins)

        filled : FilledIn act (SiteState.cell there.0 (Cell.joins (joins f)))
        filled = filled-at Site.joins act (SiteState.cell there.0 (Cell.joins (joins f))) (site-by (Todo.rouse who ∷ todo) at) said there.1

        which : (o : Option Context) → asleep_at (joins f) who ≡ o → (c : Context) × (asleep_at (joins f) who ≡ Some c) × (e.moved ≡ Exchange.thread c None)
        which None none =
            absurd (true≢false (sym (ap is_void (sym filled.2 ∙ ap (λ b. if b then act else FineAct.Unseen Unseen.Void) (ap is_some none)))))
        which (Some c) some = (c, some, sym filled.1 ∙ ap (roused (to_thread who)) some)

  -- who is ready and isn't told anything, nor was cut, is at rest
  pub first-rests : (ready : List ℕ) → (scheduler f).ready ≡ ready → IsTrue (has_ready (scheduler f) ready) → IsAtRest (first_ready (scheduler f) ready)
  first-rests [] e h = tt
  first-rests (t ∷ ready) e h = by (parked_at (scheduler f) t) refl (told_at (scheduler f) t) (is_cut (scheduler f) t)
    where
      no-steps : (steps : Steps) → is_empty steps ≡ true → steps ≡ []
      no-steps [] none = refl
      no-steps (q ∷ rest) none = absurd (false≢true none)

      by : (o : Option Context) → parked_at (scheduler f) t ≡ o → (told : Option Told) (cut : Bool) → IsAtRest (Exchange.thread (to_kill cut (unwrap_or o no_context)) told)
      by None p told cut = absurd (false≢true (sym (ap is_some p) ∙ (and_parts _ _ h).0))
      by (Some c) p (Some told) cut = tt
      by (Some c) p None true = λ none. absurd (false≢true none)
      by (Some c) p None false = λ none. (no-steps c.pending none, (rel.contexts.parked t c p).2)

  -- a processor without a thread takes one that is at rest, or that is told something, or that was cut
  pub idle-rests : (p : Processor) (e : FineStep) → CpuMay f.image p e → SiteMay f.image (f.sites e.site) e → p.todo ≡ [] → IsAtRest e.moved
  idle-rests p e may taken idle = by (idle-step p e may taken idle)
    where
      by : IdleStep f p e → IsAtRest e.moved
      by (turns site said ready moved) = subst IsAtRest moved (first-rests (scheduler f).ready refl ready)
      by (gives x site said due moved) = subst IsAtRest (sym moved) tt
      by (ticks now site said due moved) = subst IsAtRest (sym moved) tt

  -- who is roused is at rest, and holds nothing
  pub roused-bare : (p : Processor) (e : FineStep) → CpuMay f.image p e → SiteMay f.image (f.sites e.site) e → (who : ℕ) (todo : Todos) → p.todo ≡ Todo.rouse who ∷ todo → is_void e.act ≡ false
      → ((context_in e.moved).pending ≡ []) × ((context_in e.moved).claims ≡ [])
  roused-bare p e may taken who todo at found =
      let sleeper = rouses-sleeper p e may taken who todo at found in
      let is = rel.contexts.asleep who sleeper.0 sleeper.1 in
      subst (λ (mv : Exchange). ((context_in mv).pending ≡ []) × ((context_in mv).claims ≡ [])) (sym sleeper.2) (is.3, is.4)

  pub rouses-bare : (p : Processor) (e : FineStep) → CpuMay f.image p e → SiteMay f.image (f.sites e.site) e → RousesBare f.image p e
  rouses-bare p e may taken who todo at found = (roused-bare p e may taken who todo at found).1

  -- what reads the word of its thread in the place of an event is at the begin of a turn
  reads-first : (image : Image) (p : Processor) (q : Pending) (act : FineAct) → is_word_read (says_show image p q act) ≡ true → is_first q ≡ true
  reads-first image p Pending.Begin act h = refl
  reads-first image p Pending.Exit act h = refl
  reads-first image p q act h = absurd (false≢true h)

  rests-on : (c : Context) (q : Pending) (rest : Steps) → IsOffered f.image c q rest → c.pending ≡ [] → c.ended ≡ false
  rests-on c q rest (O.goes e) none = absurd (true≢false (ap is_empty (sym none ∙ e)))
  rests-on c q rest (O.passed e) none = absurd (true≢false (ap is_empty (sym none ∙ e)))
  rests-on c q rest (O.dropped e) none = absurd (true≢false (ap is_empty (sym none ∙ e)))
  rests-on c _ _ (O.begins e on i) none = on
  rests-on c _ _ (O.exits e on i) none = on

  pub rests : (p : Processor) (e : FineStep) → CpuMay f.image p e → SiteMay f.image (f.sites e.site) e → ListIs f.image p → RestsFirst p → Rests f.image p e
  rests p e may taken list first =
      record {
        taken = idle-rests p e may taken;
        roused = λ who todo at found. (roused-bare p e may taken who todo at found).0;
        read = λ q rest todo at h.
            let said = says-by p e may taken (Todo.show q rest ∷ todo) at in
            let none = first q rest todo at (reads-first f.image p q e.act (sym (ap is_word_read said) ∙ h)) in
            (none, rests-on p.context q rest (subst (Fits f.image p.context) at list.fits).0 none);
      }

  -- each processor's list fits after the step
  pub lists-kept : (e : FineStep) → CpuMay f.image (f.processors e.cpu) e → SiteMay f.image (f.sites e.site) e → RestsFirst (f.processors e.cpu)
      → (k : ℕ) → k < f.cpus → ListIs f.image (changed same_cpu cpu_of (p_next f.image) f.processors e k)
  lists-kept e may taken first k l = by (e.cpu == k) refl
    where
      by : (b : Bool) → (e.cpu == k) ≡ b → ListIs f.image (cond b (p_next f.image (f.processors k) e) (f.processors k))
      by true q =
          let own : CpuMay f.image (f.processors k) e = subst (λ (j : ℕ). CpuMay f.image (f.processors j) e) (eqb-true e.cpu k q) may in
          let begins : RestsFirst (f.processors k) = subst (λ (j : ℕ). RestsFirst (f.processors j)) (eqb-true e.cpu k q) first in
          list-next f.image (f.processors k) e (rel.processors k l).list (rests (f.processors k) e own taken (rel.processors k l).list begins)
      by false q = (rel.processors k l).list
