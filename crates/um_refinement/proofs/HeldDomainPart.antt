-- A processor that holds its thread has that one's domain, after every lawful step: no thread that is held moves to another domain, or is
-- started; and the steps of an end don't hold it.
use Rattle.um_refinement.proofs.Words.{◌≡◌, inl, inr, ℕ, ◌<◌, Bool, true, false, cond, [], ◌∷◌, Some, None, refl, sym, ap, ◌∙◌, subst, arith, eq-eqb, ◌==◌, ◌&&◌, ◌||◌, not, if◌then◌else◌, nat_lt, list_any, and_parts, eqb-true, ◌++◌, Exchange, continues, behind_shown, false≢true, true≢false, Act, Image, THREADS, ThreadIx, Pending, Life, Steps, is_empty, State, is_living, is_started, thread_at, FineAct, More, Unseen, ThreadWord, thread_after, thread_after_act, act_in, domain_in, is_visit, is_word_read, allows, begins_cleaning, more_of, says_step, Context, after_claim, after_show, dropped_at, goes_on_by, p_next, unless_loaded, Todo, Todos, fine_steps, Processor, fails, is_of, key_of, SiteState, s_next, same_site, site_after, site_takes, word_of, FineStep, Site, same-sound, Fine, one_if, scheduler, thread_state, word, Behind, has_held, has_steps, is_hold, runs, runs_thread, Fits, is_ended, thread_after_unseen, thread_takes, thread_in, is_move_done, DomainKept}
use Rattle.um_base.specs.declared.names.Access.TheVariants as Access
use Rattle.um_fine.specs.Answers.{is_killed}
use Rattle.um_fine.specs.Follows.{shown_step}
use Rattle.um_fine.specs.Places.{put_away}
use Rattle.um_fine.specs.Scheduler.{is_cut, to_kill}
use Rattle.um_refinement.specs.Frames.{IsAccess, IsActOver, IsWaitOver, access_alone, access_settled, act_alone, act_settled, both, nothing, rereads, settled}
use Rattle.um_refinement.proofs.CallsKnown.{starts-known}
use Rattle.um_refinement.proofs.DomainReads.{is_told, next-domain, next-reply}
use Rattle.um_refinement.proofs.Endings.{Ends, TakesLiving, continues-ended, ending-alone, is_last, last-alone, next-ends}
use Rattle.um_refinement.proofs.Erased.{around}
use Rattle.um_refinement.proofs.Leaves.{Beside, Lawful, Leaves, beside, cleans, cuts, drops, event, expires, leaves, nothing as unshown, passes, recycles, resumes, ticks, times_out}
use Rattle.um_refinement.proofs.ListGrips.{filled-grip, grip, is_gripping, kill-rests, next-context, next-grips, next-thread, takes-grip}
use Rattle.um_refinement.proofs.HeldPart.{over-grip}
use Rattle.um_refinement.proofs.ListClaims.{IsThread}
use Rattle.um_refinement.proofs.ListRuns.{ends-rests}
use Rattle.um_refinement.proofs.ListGrowth.{ReadsLast, forms-kept, is_end, is_read_claim}
use Rattle.um_refinement.proofs.ListTails.{Reads, adds-pass, is_passed, quiet-next, tail-read, takes-read}
use Rattle.um_refinement.proofs.MemorySteps.{part-total}
use Rattle.um_refinement.proofs.Offered.{IsStep, Shows, shown-offers, site-is, either-act}
use Rattle.um_refinement.proofs.RowSteps.{thread-sort}
use Rattle.um_refinement.proofs.SchedulerSteps.{made-at, made-says, word-left}
use Rattle.um_refinement.proofs.StepReads.{is-behind}
use Rattle.um_refinement.proofs.TableReads.{grip-runs}
use Rattle.um_refinement.proofs.Taking.{Idles, idles, takes, tends}

-- What a processor was told of a move, and whose domain it has.

-- the end of a claim of a domain that a thread moves to
done-passed : (q : Todo) (todo : Todos) → is_passed q ≡ true → list_any is_move_done (q ∷ todo) ≡ list_any is_move_done todo
done-passed (Todo.read_done d) todo h = absurd (false≢true h)
done-passed q todo h = refl

done-none : (image : Image) (c : Context) (q : Pending) (rest : Steps) → list_any is_move_done (fine_steps image c q rest) ≡ false
done-none image = forms-kept image (λ todo. list_any is_move_done todo ≡ false)
    (record {
      note = λ site todo h. h;
      act = λ q rest. refl;
      settles = λ q rest deadline mark. refl;
      access = λ q rest. refl;
      access_settles = λ q rest deadline mark. refl;
      look = λ x todo h. h;
      owe = λ q rest. refl;
      leave = λ a rest. refl;
      edit = λ d q rest. refl;
      move = λ d who rest. refl;
      start = λ who q rest c. refl;
    })

done-waited : (site : ℕ) (todo : Todos) → IsActOver todo → list_any is_move_done (todo ++ Todo.reread site ∷ []) ≡ list_any is_move_done todo
done-waited site _ act_alone = refl
done-waited site _ act_settled = refl
done-waited site _ access_alone = refl
done-waited site _ access_settled = refl

done-reads : (image : Image) → Reads image (list_any is_move_done) false
done-reads image = record { empty = refl; passed = done-passed; expanded = done-none image; begins = refl; exits = refl; waited = done-waited }

done-over : (over : Todos) → IsWaitOver over → list_any is_move_done over ≡ false
done-over _ nothing = refl
done-over _ settled = refl
done-over _ rereads = refl
done-over _ both = refl

done-access : (access : Todos) → IsAccess access → list_any is_move_done access ≡ false
done-access access h = ap (list_any is_move_done) h.3 ∙ done-over h.2 h.5

or-right : (a b : Bool) → b ≡ true → (a || b) ≡ true
or-right true b h = refl
or-right false b h = h

-- The word of a thread.

unseen-domain : (w : ThreadWord) (u : Unseen) → (thread_after_unseen w u).domain ≡ w.domain
unseen-domain w Unseen.Hold = refl
unseen-domain w Unseen.LetGo = refl
unseen-domain w u = refl

-- the events that write a domain into it
abbrev is_placing : Pending → Bool
is_placing (Pending.DomMove d who) = true
is_placing (Pending.Start who script stack priority mode) = true
is_placing q = false

flagged-domain : (b : Bool) (z w : ThreadWord) → z.domain ≡ w.domain → (if b then z else w).domain ≡ w.domain
flagged-domain true z w h = h
flagged-domain false z w h = refl

event-domain : (image : Image) (p : Processor) (w : ThreadWord) (more : More) (q : Pending) (act : Act) → is_placing q ≡ false → (thread_after_act w more (says_step image p q act)).domain ≡ w.domain
event-domain image p w more (Pending.DomMove d who) act h = absurd (true≢false h)
event-domain image p w more (Pending.Start who script stack priority mode) act h = absurd (true≢false h)
event-domain image p w more (Pending.Load to a n) act h = either-act (λ z. (thread_after_act w more z).domain) _ (allows image p Access.Read a.0 n) _ _ refl refl
event-domain image p w more (Pending.Store a n value) act h = either-act (λ z. (thread_after_act w more z).domain) _ (allows image p Access.Write a.0 n) _ _ refl refl
event-domain image p w more (Pending.Fetch a) act h = either-act (λ z. (thread_after_act w more z).domain) _ (allows image p Access.Exec a.0 4) _ _ refl refl
event-domain image p w more (Pending.Abort who) act h = flagged-domain (is_living w.life) (record w { aborted = true }) w refl
event-domain image p w more (Pending.Suspend who) act h = flagged-domain (is_living w.life) (record w { suspended = true }) w refl
event-domain image p w more (Pending.Continue who) act h = flagged-domain (is_living w.life) (record w { suspended = false }) w refl
event-domain image p w more q act h = refl

-- a thread that was started and hasn't ended lives
lives-now : (l : Life) → is_started l ≡ true → is_ended l ≡ false → l ≡ Life.Living
lives-now Life.Living s n = refl
lives-now Life.Unborn s n = absurd (false≢true s)
lives-now Life.Ended s n = absurd (true≢false n)

module _ (f : Fine) (m : State) (e : FineStep) (law : Lawful f m e) where
  open around f e use {later, processor as p, now}
  open is-behind f m e law use {frame, last-shown}

  was : (k : ℕ) → k < f.cpus → DomainKept f k
  was k l = (law.rel.processors k l).domain

  fits : Fits f.image p.context p.todo
  fits = (law.rel.processors e.cpu law.by.named).list.fits

  -- The word of a thread that a processor holds keeps its domain.

  module _ (k : ℕ) (l : k < f.cpus) (held : has_held (f.processors k) ≡ true) where
    abbrev t : ℕ
    t = (f.processors k).context.thread

    running : runs (f.processors k) ≡ true
    running = grip-runs law.rel l held

    few : t < THREADS
    few = (law.rel.contexts.running k l running).index

    word-held : (word f t).held ≡ true
    word-held = by (word f t).held refl
      where
        mine : one_if (runs_thread t (f.processors k) && has_held (f.processors k)) ≡ 1
        mine = λ i. one_if ((running i && (eq-eqb t t refl) i) && held i)

        by : (b : Bool) → (word f t).held ≡ b → b ≡ true
        by true q = refl
        by false q =
            let all = (law.rel.threads t few).held.held in
            let part = part-total (λ j. one_if (runs_thread t (f.processors j) && has_held (f.processors j))) f.cpus k l in
            let none = ap one_if q in
            let one = mine in
            absurd (omega (arith, all, part, none, one))

    living : (thread_at m t).life ≡ Life.Living
    living =
        let of = (law.rel.contexts.running k l running).of (ap (λ b. b && is_empty (f.processors k).context.pending) ((was k l).lives held)) in
        lives-now (thread_at m t).life of.started (sym of.ended ∙ (was k l).lives held)

    word-else : same_site e.site (Site.thread t) ≡ false → (word later t).domain ≡ (word f t).domain
    word-else off = ap (λ b. (thread_state (cond b (s_next f.image (f.sites (Site.thread t)) e) (f.sites (Site.thread t)))).domain) off

    word-here : same_site e.site (Site.thread t) ≡ true → (act : FineAct) → e.act ≡ act → (word later t).domain ≡ (thread_after (word f t) act).domain
    word-here on act said =
        ap (λ b. (thread_state (cond b (s_next f.image (f.sites (Site.thread t)) e) (f.sites (Site.thread t)))).domain) on
        ∙ (ap (λ (s : SiteState). (thread_state (site_after f.image s e.act e.moved)).domain) (thread-sort t (f.sites (Site.thread t)) (law.rel.sorts (Site.thread t)))
        ∙ ap (λ a. (thread_after (word f t) a).domain) said)

    word-takes : same_site e.site (Site.thread t) ≡ true → (act : FineAct) → e.act ≡ act → thread_takes (word f t) act ≡ true
    word-takes on act said =
        (and_parts (nat_lt (word f t).number 268435455) (thread_takes (word f t) act)
        (subst (λ (s : SiteState). site_takes s act ≡ true) (thread-sort t (f.sites (Site.thread t)) (law.rel.sorts (Site.thread t)))
        (subst (λ (z : Site × FineAct). site_takes (f.sites z.0) z.1 ≡ true) (λ j. (same-sound e.site (Site.thread t) on j, said j)) law.taken.takes))).1

    -- a step that leaves its domain
    leaves-domain : (act : FineAct) → e.act ≡ act → (thread_after (word f t) act).domain ≡ (word f t).domain → (word later t).domain ≡ (word f t).domain
    leaves-domain act said same = by (same_site e.site (Site.thread t)) refl
      where
        by : (b : Bool) → same_site e.site (Site.thread t) ≡ b → (word later t).domain ≡ (word f t).domain
        by true on = word-here on act said ∙ same
        by false off = word-else off

    moves-not : (d : ℕ) (who : ThreadIx) (rest : Steps) (todo : Todos) (x : ℕ) → Shows f m e.cpu e (Pending.DomMove d who) rest todo → IsStep f m e.cpu e x (Pending.DomMove d who)
        → (word later t).domain ≡ (word f t).domain
    moves-not d who rest todo x h is = by (same_site e.site (Site.thread t)) refl
      where
        by : (b : Bool) → same_site e.site (Site.thread t) ≡ b → (word later t).domain ≡ (word f t).domain
        by true on = absurd (false≢true (sym (ap not word-held) ∙ (and_parts (not (word f t).held) _ (word-takes on _ is.said)).0))
        by false off = word-else off

    starts-not : (who : ThreadIx) (script : ℕ) (stack : _) (priority : _) (mode : _) (rest : Steps) (todo : Todos) (x : ℕ) → Shows f m e.cpu e (Pending.Start who script stack priority mode) rest todo
        → (word later t).domain ≡ (word f t).domain
    starts-not who script stack priority mode rest todo x h = by (who.0 == t) refl
      where
        by : (b : Bool) → (who.0 == t) ≡ b → (word later t).domain ≡ (word f t).domain
        by true q =
            absurd (false≢true (sym (starts-known m law.sound p.context.thread who script stack priority mode rest (shown-offers h)).0 ∙ ap is_living (ap (λ u. (thread_at m u).life) (eqb-true who.0 t q) ∙ living)))
        by false q = word-else (ap (λ i. same_site i (Site.thread t)) (site-is h) ∙ q)

    by-event : (q : Pending) (rest : Steps) (todo : Todos) (x : ℕ) → Shows f m e.cpu e q rest todo → IsStep f m e.cpu e x q → (word later t).domain ≡ (word f t).domain
    by-event (Pending.DomMove d who) rest todo x h is = moves-not d who rest todo x h is
    by-event (Pending.Start who script stack priority mode) rest todo x h is = starts-not who script stack priority mode rest todo x h
    by-event q rest todo x h is = leaves-domain _ is.said (event-domain f.image p (word f t) (more_of f.image p q) q (act_in e.act) refl)

    beside-stays : {u x : ℕ} {q : Pending} → Beside f m e u x q → (word later t).domain ≡ (word f t).domain
    beside-stays (cuts who site before x todo at place inside said) = leaves-domain _ said refl
    beside-stays (times_out deadline site x who todo at place inside said) = leaves-domain _ said refl
    beside-stays (expires deadline x todo at inside said) = leaves-domain _ said refl
    beside-stays (ticks at said) = leaves-domain _ said refl
    beside-stays (leaves todo at said) = leaves-domain _ said refl

    domain-stays : (s : State) → Leaves f m e s → (word later t).domain ≡ (word f t).domain
    domain-stays _ (unshown u said) = leaves-domain _ said (unseen-domain (word f t) u)
    domain-stays _ (event q rest todo x h shown is) = by-event q rest todo x h is
    domain-stays _ (resumes c told rest idle moved said) = leaves-domain _ said refl
    domain-stays _ (passes who x rest todo h said) = leaves-domain _ said refl
    domain-stays _ (drops from x rest todo h said) = leaves-domain _ said refl
    domain-stays _ (cleans who x rest todo h said) = leaves-domain _ said refl
    domain-stays _ (recycles x rest todo at inside said chosen) = leaves-domain _ said refl
    domain-stays _ (beside u x q how chosen started) = beside-stays how

  -- The processor that makes the step.

  -- a thread that is taken hasn't ended
  takes-living : p.todo ≡ [] → TakesLiving f.image e.moved
  takes-living at = by (idles f m e law at)
    where
      kill-ended : (b : Bool) (c : Context) → (to_kill b c).ended ≡ c.ended
      kill-ended true c = refl
      kill-ended false c = refl

      none : (moved : Exchange) → (IsThread moved → ⊥) → TakesLiving f.image moved
      none (Exchange.thread c told) h = absurd (h tt)
      none moved h = tt

      by : Idles f e → TakesLiving f.image e.moved
      by (takes first) =
          subst (TakesLiving f.image) (sym first.moved)
          (kill-ended (is_cut (scheduler f) first.thread) first.parked ∙ (law.rel.contexts.parked first.thread first.parked first.there).2)
      by (tends is) = none e.moved is.other

  ends-mine : Ends now.context
  ends-mine = next-ends f.image p e fits (was e.cpu law.by.named).ends takes-living

  -- after the end of a hold, or of a turn, it isn't held
  let-go-none : (todo : Todos) → p.todo ≡ Todo.let_go ∷ todo → has_held now ≡ false
  let-go-none todo at = ap (λ (z : Processor). grip z.todo) next ∙ (filled-grip f.image p.context todo ∙ none (frame Todo.let_go todo at))
    where
      next : now ≡ goes_on_by f.image p e (Todo.let_go ∷ todo)
      next = quiet-next f.image p e (Todo.let_go ∷ todo) Unseen.LetGo at (made-says f m e law (Todo.let_go ∷ todo) at) refl

      none : Behind f.image Todo.let_go todo → grip todo ≡ false
      none (inl h) = (over-grip todo h).1
      none (inr h) = ap grip h.1

  end-none : (q : Todo) (todo : Todos) → p.todo ≡ q ∷ todo → is_end q ≡ true → begins_cleaning e ≡ false → has_held now ≡ false
  end-none q todo at over quiet = ap grip (ends-rests f.image p e q todo at over quiet)

  -- what is on its list when it holds the thread isn't of an end
  lives-mine : has_held now ≡ true → now.context.ended ≡ false
  lives-mine held = by p.todo refl
    where
      before : Ends p.context
      before = (was e.cpu law.by.named).ends

      -- the context that it has then
      context-by : (q : Todo) (todo : Todos) → p.todo ≡ q ∷ todo → now.context ≡ (goes_on_by f.image p e (q ∷ todo)).context
      context-by q todo at = next-context f.image p e ∙ ap (λ (z : Todos). (goes_on_by f.image p e z).context) at

      -- it was held before
      was-held : (q : Todo) (todo : Todos) → p.todo ≡ q ∷ todo → is_gripping q ≡ false → ReadsLast e q todo → (grip (q ∷ todo) ≡ true) × (p.context.ended ≡ false)
      was-held q todo at free last =
          let same = sym (next-grips f.image p e q todo at free (frame q todo at) last) ∙ held in (same, (was e.cpu law.by.named).lives (ap grip at ∙ same))

      -- an access or a start isn't of an end
      not-ended : (c : Context) (q : Pending) (rest : Steps) (left : Todos) → Ends c → Fits f.image c (Todo.show q rest ∷ left) → has_steps left ≡ true → c.ended ≡ false
      not-ended c q rest left ends shown some = which c.ended refl
        where
          which : (b : Bool) → c.ended ≡ b → b ≡ false
          which false h = refl
          which true h = absurd (false≢true (sym (ap has_steps (shown.1 ∙ ending-alone f.image c q rest shown.0 ends h)) ∙ some))

      at-hold : (todo : Todos) → p.todo ≡ Todo.hold ∷ todo → Behind f.image Todo.hold todo → now.context.ended ≡ false
      at-hold todo at (inl h) =
          let (access, same, is) = h in
          ap (λ (c : Context). c.ended) (context-by Todo.hold todo at)
          ∙ not-ended p.context is.0 is.1 _ before
          (subst (λ (z : Todos). Fits f.image p.context (Todo.hold ∷ z)) (same ∙ ap (λ (z : Todos). Todo.read_claim None ∷ Todo.region_load ∷ z) is.3) (subst (Fits f.image p.context) at fits)) refl
      at-hold todo at (inr h) =
          let (who, start, same, is) = h in
          ap (λ (c : Context). c.ended) (context-by Todo.hold todo at)
          ∙ not-ended p.context is.0 is.1 _ before
          (subst (λ (z : Todos). Fits f.image p.context (Todo.hold ∷ z)) (same ∙ ap (λ (z : Todos). Todo.unshut who ∷ z) is.3) (subst (Fits f.image p.context) at fits)) refl

      at-show : (q : Pending) (rest : Steps) (todo : Todos) → p.todo ≡ Todo.show q rest ∷ todo → now.context.ended ≡ false
      at-show q rest todo at = ap (λ (c : Context). c.ended) (context-by (Todo.show q rest) todo at) ∙ by-read (is_word_read e.act)
        where
          old : (grip (Todo.show q rest ∷ todo) ≡ true) × (p.context.ended ≡ false)
          old = was-held (Todo.show q rest) todo at refl (last-shown q rest todo at)

          -- nothing would stand behind a step that ends the thread
          lonely : behind_shown f.image p.context q ≡ [] → ⊥
          lonely none = false≢true (sym (ap grip ((subst (Fits f.image p.context) at fits).1 ∙ none)) ∙ old.0)

          not-last : (b : Bool) → is_last q ≡ b → b ≡ false
          not-last false h = refl
          not-last true h = absurd (lonely (last-alone f.image p.context q h))

          made-ended : (b : Bool) → is_killed e.act ≡ b → (continues f.image p.context 0 (if b then Pending.Killed else q) rest (act_in e.act) e.moved).ended ≡ p.context.ended
          made-ended true kill = absurd (lonely (kill-rests f.image p p.context q e.act (made-says f m e law (Todo.show q rest ∷ todo) at) kill))
          made-ended false kill = continues-ended f.image p.context 0 q rest (act_in e.act) e.moved (not-last (is_last q) refl)

          by-read : (b : Bool) → (if b then record p { todo = put_away (thread_in e.word).doomed } else after_show f.image p e (shown_step f.image q e.act) rest todo).context.ended ≡ false
          by-read true = old.1
          by-read false = made-ended (is_killed e.act) refl ∙ old.1

      by : (todo : Todos) → p.todo ≡ todo → now.context.ended ≡ false
      by [] at = absurd (false≢true (sym (takes-grip f.image p e at) ∙ held))
      by (Todo.hold ∷ todo) at = at-hold todo at (frame Todo.hold todo at)
      by (Todo.let_go ∷ todo) at = absurd (false≢true (sym (let-go-none todo at) ∙ held))
      by (Todo.park ∷ todo) at = absurd (false≢true (sym (end-none Todo.park todo at refl (ap (λ a. begins_cleaning (record e { act = a })) (made-says f m e law (Todo.park ∷ todo) at))) ∙ held))
      by (Todo.done ∷ todo) at = absurd (false≢true (sym (end-none Todo.done todo at refl (ap (λ a. begins_cleaning (record e { act = a })) (made-says f m e law (Todo.done ∷ todo) at))) ∙ held))
      by (Todo.paid ∷ todo) at = absurd (false≢true (sym (end-none Todo.paid todo at refl (ap (λ a. begins_cleaning (record e { act = a })) (made-says f m e law (Todo.paid ∷ todo) at))) ∙ held))
      by (Todo.sleep ∷ todo) at = absurd (false≢true (sym (ap grip (frame Todo.sleep todo at)) ∙ (was-held Todo.sleep todo at refl tt).0))
      by (Todo.show q rest ∷ todo) at = at-show q rest todo at
      by (Todo.drop x ∷ todo) at = ap (λ (c : Context). c.ended) (context-by (Todo.drop x) todo at) ∙ (dropped (is_visit e.act) ∙ (was-held (Todo.drop x) todo at refl tt).1)
        where
          dropped : (b : Bool) → (dropped_at f.image p.context x b).ended ≡ p.context.ended
          dropped true = refl
          dropped false = refl
      by (Todo.read_claim (Some d) ∷ todo) at =
          ap (λ (c : Context). c.ended) (context-by (Todo.read_claim (Some d)) todo at) ∙ (claims (domain_in e.word).init ∙ (was-held (Todo.read_claim (Some d)) todo at refl tt).1)
        where
          claims : (b : Bool) → (after_claim p d b 0 todo).context.ended ≡ p.context.ended
          claims true = refl
          claims false = refl
      by (Todo.read_claim None ∷ todo) at = ap (λ (c : Context). c.ended) (context-by (Todo.read_claim None) todo at) ∙ (was-held (Todo.read_claim None) todo at refl tt).1
      by (q ∷ todo) at = ap (λ (c : Context). c.ended) (context-by q todo at) ∙ (was-held q todo at refl tt).1

  kept-mine : has_held now ≡ true → (s : State) → Leaves f m e s → now.domain ≡ (word later now.context.thread).domain
  kept-mine held s how = by p.todo refl
    where
      at-hold : (todo : Todos) → p.todo ≡ Todo.hold ∷ todo → now.domain ≡ (word later now.context.thread).domain
      at-hold todo at = ap (λ (z : Processor). z.domain) next ∙ (left ∙ ap (λ u. (word later u).domain) (sym (ap (λ (z : Processor). z.context.thread) next)))
        where
          next : now ≡ goes_on_by f.image p e (Todo.hold ∷ todo)
          next = quiet-next f.image p e (Todo.hold ∷ todo) Unseen.Hold at (made-says f m e law (Todo.hold ∷ todo) at) refl

          site : e.site ≡ Site.thread p.context.thread
          site = made-at f m e law (Todo.hold ∷ todo) at

          left : (thread_in e.word).domain ≡ (word later p.context.thread).domain
          left =
              ap (λ w. (thread_in w).domain) (word-left f m e law ∙ ap (λ i. word_of (s_next f.image (f.sites i) e)) site)
              ∙ (ap (λ (z : SiteState). (thread_in (word_of (site_after f.image z e.act e.moved))).domain) stands
              ∙ sym
              (ap (λ b. (thread_state (cond b (s_next f.image (f.sites (Site.thread p.context.thread)) e) (f.sites (Site.thread p.context.thread)))).domain)
              (ap (λ i. same_site i (Site.thread p.context.thread)) site ∙ eq-eqb p.context.thread p.context.thread refl)
              ∙ ap (λ (z : SiteState). (thread_state (site_after f.image z e.act e.moved)).domain) stands))
            where
              stands : f.sites (Site.thread p.context.thread) ≡ SiteState.thread (word f p.context.thread)
              stands = thread-sort p.context.thread (f.sites (Site.thread p.context.thread)) (law.rel.sorts (Site.thread p.context.thread))

      goes-on : (q : Todo) (todo : Todos) → p.todo ≡ q ∷ todo → is_gripping q ≡ false → is_end q ≡ false → ReadsLast e q todo → now.domain ≡ p.domain
          → now.domain ≡ (word later now.context.thread).domain
      goes-on q todo at free over last domain =
          let before : has_held p ≡ true = ap grip at ∙ (sym (next-grips f.image p e q todo at free (frame q todo at) last) ∙ held) in
          domain
          ∙ ((was e.cpu law.by.named).kept before
          ∙ (sym (domain-stays e.cpu law.by.named before s how) ∙ ap (λ u. (word later u).domain) (sym (next-thread f.image p e q todo at over))))

      keeps : (q : Todo) (todo : Todos) → p.todo ≡ q ∷ todo → is_hold q ≡ false → now.domain ≡ p.domain
      keeps q todo at h = next-domain f.image p e q todo at h

      by : (todo : Todos) → p.todo ≡ todo → now.domain ≡ (word later now.context.thread).domain
      by [] at = absurd (false≢true (sym (takes-grip f.image p e at) ∙ held))
      by (Todo.hold ∷ todo) at = at-hold todo at
      by (Todo.let_go ∷ todo) at = absurd (false≢true (sym (let-go-none todo at) ∙ held))
      by (Todo.park ∷ todo) at = absurd (false≢true (sym (end-none Todo.park todo at refl (ap (λ a. begins_cleaning (record e { act = a })) (made-says f m e law (Todo.park ∷ todo) at))) ∙ held))
      by (Todo.done ∷ todo) at = absurd (false≢true (sym (end-none Todo.done todo at refl (ap (λ a. begins_cleaning (record e { act = a })) (made-says f m e law (Todo.done ∷ todo) at))) ∙ held))
      by (Todo.paid ∷ todo) at = absurd (false≢true (sym (end-none Todo.paid todo at refl (ap (λ a. begins_cleaning (record e { act = a })) (made-says f m e law (Todo.paid ∷ todo) at))) ∙ held))
      by (Todo.show q rest ∷ todo) at = goes-on (Todo.show q rest) todo at refl refl (last-shown q rest todo at) (keeps (Todo.show q rest) todo at refl)
      by (q ∷ todo) at = goes-on q todo at refl refl tt (keeps q todo at refl)

  -- What it was told of a move.

  moves-mine : list_any is_move_done now.todo ≡ true → fails now.reply ≡ false
  moves-mine there = by p.todo refl
    where
      tail : (q : Todo) (todo : Todos) → p.todo ≡ q ∷ todo → is_read_claim q ≡ false → ReadsLast e q todo → list_any is_move_done now.todo ≡ list_any is_move_done todo
      tail q todo at claims last =
          tail-read f.image (list_any is_move_done) false (done-reads f.image) p e q todo at claims
          (adds-pass f.image (list_any is_move_done) false (done-reads f.image) (λ c z. refl) q) (frame q todo at) last

      goes-on : (q : Todo) (todo : Todos) → p.todo ≡ q ∷ todo → is_read_claim q ≡ false → is_told q ≡ false → ReadsLast e q todo → fails now.reply ≡ false
      goes-on q todo at claims tells last =
          let behind = sym (tail q todo at claims last) ∙ there in
          ap fails (next-reply f.image p e q todo at tells) ∙ (was e.cpu law.by.named).moves (ap (list_any is_move_done) at ∙ or-right (is_move_done q) (list_any is_move_done todo) behind)

      none : (q : Todo) (todo : Todos) → p.todo ≡ q ∷ todo → is_read_claim q ≡ false → ReadsLast e q todo → list_any is_move_done todo ≡ false → fails now.reply ≡ false
      none q todo at claims last lacks =
          absurd (false≢true (sym (tail q todo at claims last ∙ lacks) ∙ there))

      own-claim : (todo : Todos) → p.todo ≡ Todo.read_claim None ∷ todo → fails now.reply ≡ false
      own-claim todo at =
          let next = quiet-next f.image p e (Todo.read_claim None ∷ todo) Unseen.ReadClaim at (made-says f m e law (Todo.read_claim None ∷ todo) at) refl in
          let (access, same, is) = frame (Todo.read_claim None) todo at in
          absurd
          (false≢true
          (sym
          (ap (λ (z : Processor). list_any is_move_done z.todo) next
          ∙ (unless (is_of (key_of (record p { version = (domain_in e.word).version })) p.table) todo ∙ (ap (list_any is_move_done) same ∙ done-access access is)))
          ∙ there))
        where
          unless : (b : Bool) (left : Todos) → list_any is_move_done (unless_loaded b left) ≡ list_any is_move_done left
          unless true (Todo.region_load ∷ left) = refl
          unless b left = refl

      claim : (d : ℕ) (todo : Todos) → p.todo ≡ Todo.read_claim (Some d) ∷ todo → fails now.reply ≡ false
      claim d todo at = which (domain_in e.word).init refl
        where
          next : now ≡ after_claim p d (domain_in e.word).init 0 todo
          next = quiet-next f.image p e (Todo.read_claim (Some d) ∷ todo) Unseen.ReadClaim at (made-says f m e law (Todo.read_claim (Some d) ∷ todo) at) refl

          which : (b : Bool) → (domain_in e.word).init ≡ b → fails now.reply ≡ false
          which true q = ap (λ (z : Processor). fails z.reply) (next ∙ ap (λ b. after_claim p d b 0 todo) q)
          which false q =
              let h = frame (Todo.read_claim (Some d)) todo at in
              absurd (false≢true (sym (ap (λ (z : Processor). list_any is_move_done z.todo) (next ∙ ap (λ b. after_claim p d b 0 todo) q) ∙ ap (list_any is_move_done) h.2) ∙ there))

      by : (todo : Todos) → p.todo ≡ todo → fails now.reply ≡ false
      by [] at = absurd (false≢true (sym (takes-read f.image (list_any is_move_done) false (done-reads f.image) p e at) ∙ there))
      by (Todo.show q rest ∷ todo) at = goes-on (Todo.show q rest) todo at refl refl (last-shown q rest todo at)
      by (Todo.read_claim None ∷ todo) at = own-claim todo at
      by (Todo.read_claim (Some d) ∷ todo) at = claim d todo at
      by (Todo.edit d q ∷ todo) at = none (Todo.edit d q) todo at refl tt (ap (list_any is_move_done) (frame (Todo.edit d q) todo at).1)
      by (Todo.hold ∷ todo) at = holds (frame Todo.hold todo at)
        where
          holds : Behind f.image Todo.hold todo → fails now.reply ≡ false
          holds (inl h) = let (access, same, is) = h in none Todo.hold todo at refl tt (ap (list_any is_move_done) same ∙ done-access access is)
          holds (inr h) = none Todo.hold todo at refl tt (ap (list_any is_move_done) (h.2 ∙ ap (λ (z : Todos). Todo.unshut h.0 ∷ z) h.3.3))
      by (q ∷ todo) at = goes-on q todo at refl refl tt

  pub held-domain-part : (s : State) → Leaves f m e s → (k : ℕ) → k < f.cpus → DomainKept later k
  held-domain-part s how k l = by (e.cpu == k) refl
    where
      kth : Bool → Processor
      kth b = cond b (p_next f.image (f.processors k) e) (f.processors k)

      by : (b : Bool) → (e.cpu == k) ≡ b → DomainKept later k
      by true q =
          let at : f.processors e.cpu ≡ f.processors k = ap f.processors (eqb-true e.cpu k q) in
          let is : kth (e.cpu == k) ≡ now = ap kth q ∙ ap (λ (z : Processor). p_next f.image z e) (sym at) in
          record {
            kept = λ h. ap (λ (z : Processor). z.domain) is ∙ (kept-mine (sym (ap has_held is) ∙ h) s how ∙ ap (λ (z : Processor). (word later z.context.thread).domain) (sym is));
            moves = λ h. ap (λ (z : Processor). fails z.reply) is ∙ moves-mine (sym (ap (λ (z : Processor). list_any is_move_done z.todo) is) ∙ h);
            lives = λ h. ap (λ (z : Processor). z.context.ended) is ∙ lives-mine (sym (ap has_held is) ∙ h);
            ends = subst (λ (z : Processor). Ends z.context) (sym is) ends-mine;
          }
      by false q =
          let is : kth (e.cpu == k) ≡ f.processors k = ap kth q in
          record {
            kept = λ h.
                let held = sym (ap has_held is) ∙ h in
                ap (λ (z : Processor). z.domain) is
                ∙ ((was k l).kept held ∙ (sym (domain-stays k l held s how) ∙ ap (λ (z : Processor). (word later z.context.thread).domain) (sym is)));
            moves = λ h. ap (λ (z : Processor). fails z.reply) is ∙ (was k l).moves (sym (ap (λ (z : Processor). list_any is_move_done z.todo) is) ∙ h);
            lives = λ h. ap (λ (z : Processor). z.context.ended) is ∙ (was k l).lives (sym (ap has_held is) ∙ h);
            ends = subst (λ (z : Processor). Ends z.context) (sym is) (was k l).ends;
          }
