-- What a step makes of the flags of a thread that sleeps: only an abort, a suspension and a continuation of it change them; behind the first and the last
-- stands that it is to be roused.
use Rattle.um_refinement.proofs.Words.{after_show, behind_step, continues, filled_up, ne_eqb, runs_on, shows, waits, ◌≡◌, ℕ, ◌<◌, Bool, true, false, cond, [], ◌∷◌, Some, None, refl, sym, ap, ◌∙◌, subst, arith, ◌==◌, ◌&&◌, ◌||◌, not, eq-eqb, eqb-true, false≢true, true≢false, if◌then◌else◌, is_some, list_any, Act, Life, More, FineAct, FineStep, Unseen, Context, Image, Processor, Pending, Steps, State, Thread, ThreadIx, ThreadWord, thread_at, thread_after, act_in, allows, says_step, Site, SiteState, same_site, s_next, site_after, thread_in, one_if, Todo, Todos, Fine, word, is_ended, THREADS}
use Rattle.um_base.specs.declared.names.Access.TheVariants as Access
use Rattle.um_machine.specs.State.{is_living, is_started}
use Rattle.um_words.specs.Threads.{counted_thread, thread_after_act, thread_after_unseen}
use Rattle.um_fine.specs.Answers.{is_done_in}
use Rattle.um_fine.specs.Asks.{more_of}
use Rattle.um_fine.specs.Follows.{looks_for, waits_behind}
use Rattle.um_fine.specs.Places.{put_away}
use Rattle.um_fine.specs.Joins.{asleep_at}
use Rattle.um_fine.specs.Sites.{word_of}
use Rattle.um_refinement.specs.Fine.{joins, thread_state}
use Rattle.um_refinement.specs.Stops.{is_rouse}
use Rattle.um_refinement.proofs.Erased.{around}
use Rattle.um_refinement.proofs.Leaves.{Beside, Lawful, Leaves, beside as beside_it, cleans, cuts, drops, event, expires, leaves as leaves_it, nothing, passes, recycles, resumes, ticks, times_out}
use Rattle.um_refinement.proofs.NoteFacts.{rests-unnoted}
use Rattle.um_refinement.proofs.Offered.{IsStep, Shows, either-act, own-unless, shown-on, shows-runs, site-is}
use Rattle.um_refinement.proofs.PartsElsewhere.{starts-apart}
use Rattle.um_refinement.proofs.PlacesFacts.{lies-unslept}
use Rattle.um_refinement.proofs.RowSteps.{thread-sort}
use Rattle.um_refinement.proofs.SchedulerSteps.{word-left}
use Rattle.um_refinement.proofs.StepsLeft.{rests-on}
use Rattle.um_refinement.proofs.TailsKept.{made-there}

-- the flags of an aborted and of a suspended thread
abbrev pub Same : ThreadWord → ThreadWord → Type 0
Same z w = (z.suspended ≡ w.suspended) × (z.aborted ≡ w.aborted)

-- the events that change them
abbrev pub Flagless : Pending → Type 0
Flagless (Pending.Abort who) = ⊥
Flagless (Pending.Suspend who) = ⊥
Flagless (Pending.Continue who) = ⊥
Flagless (Pending.Start who script stack priority mode) = ⊥
Flagless q = Unit {0}

pub unseen-same : (w : ThreadWord) (u : Unseen) → Same (thread_after_unseen w u) w
unseen-same w Unseen.Hold = (refl, refl)
unseen-same w Unseen.LetGo = (refl, refl)
unseen-same w (Unseen.Note site) = (refl, refl)
unseen-same w u = (refl, refl)

pub shown-same : (image : Image) (p : Processor) (w : ThreadWord) (more : More) (q : Pending) (act : Act) → Flagless q → Same (thread_after_act w more (says_step image p q act)) w
shown-same image p w more (Pending.Abort who) act h = absurd h
shown-same image p w more (Pending.Suspend who) act h = absurd h
shown-same image p w more (Pending.Continue who) act h = absurd h
shown-same image p w more (Pending.Start who script stack priority mode) act h = absurd h
shown-same image p w more (Pending.Load to a n) act h = let same = either-act (λ z. thread_after_act w more z) w (allows image p Access.Read a.0 n) _ _ refl refl in (ap (λ (z : ThreadWord). z.suspended) same, ap (λ (z : ThreadWord). z.aborted) same)
shown-same image p w more (Pending.Store a n value) act h = let same = either-act (λ z. thread_after_act w more z) w (allows image p Access.Write a.0 n) _ _ refl refl in (ap (λ (z : ThreadWord). z.suspended) same, ap (λ (z : ThreadWord). z.aborted) same)
shown-same image p w more (Pending.Fetch a) act h = let same = either-act (λ z. thread_after_act w more z) w (allows image p Access.Exec a.0 4) _ _ refl refl in (ap (λ (z : ThreadWord). z.suspended) same, ap (λ (z : ThreadWord). z.aborted) same)
shown-same image p w more q act h = (refl, refl)

module _ (f : Fine) (m : State) (e : FineStep) (law : Lawful f m e) (t : ℕ) (few : t < THREADS) where
  open around f e use {later, processor as p, now}

  -- the word of the thread after the step
  pub word-here : same_site e.site (Site.thread t) ≡ true → word later t ≡ counted_thread (thread_after (word f t) e.act)
  word-here on =
      ap (λ b. thread_state (cond b (s_next f.image (f.sites (Site.thread t)) e) (f.sites (Site.thread t)))) on
      ∙ ap (λ (s : SiteState). thread_state (site_after f.image s e.act e.moved)) (thread-sort t (f.sites (Site.thread t)) (law.rel.sorts (Site.thread t)))

  pub word-else : same_site e.site (Site.thread t) ≡ false → word later t ≡ word f t
  word-else off = ap (λ b. thread_state (cond b (s_next f.image (f.sites (Site.thread t)) e) (f.sites (Site.thread t)))) off

  pub flags-same : (act : FineAct) → e.act ≡ act → ((w : ThreadWord) → Same (thread_after w act) w) → Same (word later t) (word f t)
  flags-same act said same = by (same_site e.site (Site.thread t)) refl
    where
      by : (b : Bool) → same_site e.site (Site.thread t) ≡ b → Same (word later t) (word f t)
      by true on =
          let is = word-here on ∙ ap (λ a. counted_thread (thread_after (word f t) a)) said in
          let kept = same (word f t) in
          (ap (λ (z : ThreadWord). z.suspended) is ∙ kept.0, ap (λ (z : ThreadWord). z.aborted) is ∙ kept.1)
      by false off = (ap (λ (z : ThreadWord). z.suspended) (word-else off), ap (λ (z : ThreadWord). z.aborted) (word-else off))

  -- what a step makes of the flags of one that sleeps
  pub data Flags : Type 0 where
    stays : Same (word later t) (word f t) → Flags
    suspends : (word later t).suspended ≡ true → (word later t).aborted ≡ (word f t).aborted → Flags
    is_roused : list_any (is_rouse t) now.todo ≡ true → Flags

  abbrev goes_part : Pending → Steps → Context
  goes_part q rest = continues f.image p.context 0 q rest (act_in e.act) e.moved

  module _ (c : Context) (here : asleep_at (joins f) t ≡ Some c) where
    slept : is_some (asleep_at (joins f) t) ≡ true
    slept = ap is_some here

    lives : (life : Life) → is_started life ≡ true → is_ended life ≡ false → is_living life ≡ true
    lives Life.Living h k = refl
    lives Life.Unborn h k = absurd (false≢true h)
    lives Life.Ended h k = absurd (true≢false k)

    -- it lives, and is at rest
    living : is_living (thread_at m t).life ≡ true
    living =
        let is = law.rel.contexts.asleep t c here in
        subst (λ n. is_living (thread_at m n).life ≡ true) is.1 (lives (thread_at m c.thread).life is.0.started (sym is.0.ended ∙ is.2))

    marked : is_living (word f t).life ≡ true
    marked = ap is_living (law.rel.threads t few).word.life ∙ living

    unnoted : (word f t).note ≡ None
    unnoted =
        let is = law.rel.contexts.asleep t c here in
        rests-unnoted f m t (law.rel.threads t few).note (subst (λ n. (thread_at m n).pending ≡ []) is.1 (sym (ap (λ (z : Thread). z.pending) (own-unless is.0 (ap waits is.3))) ∙ is.3))

    -- its own processor makes no event meanwhile
    not-mine : (q : Pending) (rest : Steps) (todo : Todos) → Shows f m e.cpu e q rest todo → p.context.thread ≡ t → ⊥
    not-mine q rest todo h same =
        let runs : runs_on t p ≡ true = λ i. (shows-runs h i && eq-eqb p.context.thread t same i) && not (shown-on h i) in
        let one = ap one_if runs in
        true≢false (sym slept ∙ lies-unslept f m law.rel t few e.cpu law.by.named (omega (arith, one)))

    -- what stands on the list of the processor that makes the event
    shown-there : (q : Pending) (rest : Steps) (todo : Todos) (h : Shows f m e.cpu e q rest todo)
        → list_any (is_rouse t) (after_show f.image p e q rest todo).todo ≡ true → list_any (is_rouse t) now.todo ≡ true
    shown-there q rest todo h there =
        made-there f.image (is_rouse t) refl p e (Todo.show h.listed rest) todo h.at
        (subst (λ (z : Processor). list_any (is_rouse t) z.todo ≡ true)
        (sym (λ i. if h.shown i then record p { todo = put_away (thread_in e.word).doomed } else after_show f.image p e (h.made i) rest todo)) there)

    at-site : (who : ℕ) → e.site ≡ Site.thread who → (b : Bool) → (who == t) ≡ b → same_site e.site (Site.thread t) ≡ b
    at-site who site b k = ap (λ i. same_site i (Site.thread t)) site ∙ k

    apart : (who : ℕ) → e.site ≡ Site.thread who → (who == t) ≡ false → Flags
    apart who site k = let off = word-else (at-site who site false k) in stays (ap (λ (z : ThreadWord). z.suspended) off, ap (λ (z : ThreadWord). z.aborted) off)

    -- the note of its word, as the processor reads it
    read-note : (act : FineAct) → e.act ≡ act → e.site ≡ Site.thread t → ((w : ThreadWord) → (thread_after w act).note ≡ w.note) → (thread_in e.word).note ≡ None
    read-note act said site same =
        ap (λ w. (thread_in w).note) (word-left f m e law ∙ ap (λ i. word_of (s_next f.image (f.sites i) e)) site)
        ∙ (ap (λ (s : SiteState). (thread_in (word_of (site_after f.image s e.act e.moved))).note) (thread-sort t (f.sites (Site.thread t)) (law.rel.sorts (Site.thread t)))
        ∙ (ap (λ a. (thread_after (word f t) a).note) said ∙ (same (word f t) ∙ unnoted)))

    either-note : (b : Bool) (w z : ThreadWord) → z.note ≡ w.note → (if b then z else w).note ≡ w.note
    either-note true w z h = h
    either-note false w z h = refl

    on-suspend : (who : ThreadIx) (rest : Steps) (todo : Todos) → Shows f m e.cpu e (Pending.Suspend who) rest todo → e.act ≡ shows f.image p (Pending.Suspend who) e.act → Flags
    on-suspend who rest todo h said = by (who.0 == t) refl
      where
        by : (b : Bool) → (who.0 == t) ≡ b → Flags
        by false k = apart who.0 (site-is h) k
        by true k =
            let is = word-here (at-site who.0 (site-is h) true k) ∙ (ap (λ a. counted_thread (thread_after (word f t) a)) said ∙ ap (λ b. counted_thread (if b then record (word f t) { suspended = true } else word f t)) marked) in
            suspends (ap (λ (z : ThreadWord). z.suspended) is) (ap (λ (z : ThreadWord). z.aborted) is)

    on-continue : (who : ThreadIx) (rest : Steps) (todo : Todos) (h : Shows f m e.cpu e (Pending.Continue who) rest todo) → is_done_in (act_in e.act) ≡ is_living (thread_at m who.0).life → Flags
    on-continue who rest todo h done = by (who.0 == t) refl
      where
        by : (b : Bool) → (who.0 == t) ≡ b → Flags
        by false k = apart who.0 (site-is h) k
        by true k =
            let is-done : is_done_in (act_in e.act) ≡ true = done ∙ (ap (λ n. is_living (thread_at m n).life) (eqb-true who.0 t k) ∙ living) in
            let left = behind_step f.image p.context (Pending.Continue who) e.moved (filled_up f.image (goes_part (Pending.Continue who) rest) (waits_behind f.image (Pending.Continue who) e todo)) in
            is_roused (shown-there (Pending.Continue who) rest todo h
            (ap (λ b. list_any (is_rouse t) (if b then Todo.rouse who.0 ∷ left else left)) is-done ∙ ap (λ b. b || list_any (is_rouse t) left) k))

    on-abort : (who : ThreadIx) (rest : Steps) (todo : Todos) (h : Shows f m e.cpu e (Pending.Abort who) rest todo) → e.act ≡ shows f.image p (Pending.Abort who) e.act
        → is_done_in (act_in e.act) ≡ is_living (thread_at m who.0).life → Flags
    on-abort who rest todo h said done = by (who.0 == t) refl
      where
        by : (b : Bool) → (who.0 == t) ≡ b → Flags
        by false k = apart who.0 (site-is h) k
        by true k =
            let same = eqb-true who.0 t k in
            let is-done : is_done_in (act_in e.act) ≡ true = done ∙ (ap (λ n. is_living (thread_at m n).life) same ∙ living) in
            let other : (who.0 == p.context.thread) ≡ false = ne_eqb who.0 p.context.thread (λ own. not-mine (Pending.Abort who) rest todo h (sym own ∙ same)) in
            let note = read-note _ said (site-is h ∙ ap Site.thread same) (λ w. either-note (is_living w.life) w (record w { aborted = true }) refl) in
            let left = behind_step f.image p.context (Pending.Abort who) e.moved (filled_up f.image (goes_part (Pending.Abort who) rest) (waits_behind f.image (Pending.Abort who) e todo)) in
            is_roused (shown-there (Pending.Abort who) rest todo h
            (ap (λ b. list_any (is_rouse t) (if b then looks_for f.image who.0 (thread_in e.word) left else left)) (λ i. is-done i && not (other i))
            ∙ (ap (λ o. list_any (is_rouse t) (elim o as (λ _. Todos) [ Some site ↦ Todo.look who.0 site (thread_in e.word).number ∷ left | None ↦ Todo.rouse who.0 ∷ left ])) note
            ∙ ap (λ b. b || list_any (is_rouse t) left) k)))

    by-event : (q : Pending) (rest : Steps) (todo : Todos) (x : ℕ) → Shows f m e.cpu e q rest todo → IsStep f m e.cpu e x q → Flags
    by-event (Pending.Suspend who) rest todo x h is = on-suspend who rest todo h is.said
    by-event (Pending.Continue who) rest todo x h is = on-continue who rest todo h (ap is_done_in is.says)
    by-event (Pending.Abort who) rest todo x h is = on-abort who rest todo h is.said (ap is_done_in is.says)
    by-event (Pending.Start who script stack priority mode) rest todo x h is = by (who.0 == t) refl
      where
        by : (b : Bool) → (who.0 == t) ≡ b → Flags
        by false k = apart who.0 (site-is h) k
        by true k =
            let asleep = law.rel.contexts.asleep t c here in
            absurd (starts-apart f m e law c asleep.0 (rests-on c asleep.2) (Pending.Start who script stack priority mode) rest todo h tt (eqb-true who.0 t k ∙ sym asleep.1))
    by-event q rest todo x h is = stays (flags-same _ is.said (λ w. shown-same f.image p w (more_of f.image p q) q (act_in e.act) tt))

    pub flags : (s : State) → Leaves f m e s → Flags
    flags _ (nothing u said) = stays (flags-same (FineAct.Unseen u) said (λ w. unseen-same w u))
    flags _ (event q rest todo x h shown is) = by-event q rest todo x h is
    flags _ (resumes d told rest idle moved said) = stays (flags-same _ said (λ w. (refl, refl)))
    flags _ (passes who x rest todo h said) = stays (flags-same _ said (λ w. (refl, refl)))
    flags _ (drops from x rest todo h said) = stays (flags-same _ said (λ w. (refl, refl)))
    flags _ (cleans who x rest todo h said) = stays (flags-same _ said (λ w. (refl, refl)))
    flags _ (recycles x rest todo at l said chosen) = stays (flags-same _ said (λ w. (refl, refl)))
    flags _ (beside_it u x q how chosen started) = on-beside u x q how
      where
        on-beside : (u x : ℕ) (q : Pending) → Beside f m e u x q → Flags
        on-beside _ _ _ (cuts who site before x todo at place inside said) = stays (flags-same _ said (λ w. (refl, refl)))
        on-beside _ _ _ (times_out deadline site x who todo at place inside said) = stays (flags-same _ said (λ w. (refl, refl)))
        on-beside _ _ _ (expires deadline x todo at inside said) = stays (flags-same _ said (λ w. (refl, refl)))
        on-beside _ _ _ (ticks at said) = stays (flags-same _ said (λ w. (refl, refl)))
        on-beside _ _ _ (leaves_it todo at said) = stays (flags-same _ said (λ w. (refl, refl)))
