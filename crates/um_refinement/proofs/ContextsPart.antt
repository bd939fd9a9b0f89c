-- Own parts lie with processors, parked, or with a new thread on a list, and are those of the machine's threads, after every lawful step.
use Rattle.um_refinement.proofs.Words.{◌⊎◌, zero, suc, Processor, Image, AreBlocks, ◌≡◌, inl, inr, ℕ, ◌+◌, ◌<◌, Bool, true, false, cond, List, [], ◌∷◌, length, Option, Some, None, refl, sym, ap, ◌∙◌, subst, arith, eq-eqb, ◌==◌, ◌&&◌, if◌then◌else◌, is_some, nat_lt, not, slice_index_or, list_all, and_parts, eqb-false, eqb-true, false≢true, ltb-true, true≢false, get_or-set_same, length-set, Act, Told, ROWS, THREADS, Pending, Life, to_thread, is_empty, State, thread_at, FineAct, Unseen, act_in, domain_in, is_visit, is_word_read, begins_cleaning, by_me, says, says_show, shows, Context, as_thread, continues, resumed, after_claim, after_show, after_take, dropped_at, goes_on_by, p_next, Todo, Todos, parked_at, waits, Exchange, FineStep, Fine, one_if, scheduler, adders, has_steps, of_thread, runs, is_over, IsOf, IsRun, flags_of, is_ended, runs_on, visits}
use Rattle.um_machine.specs.Table as T
use Rattle.um_words.specs.declared.fine.Mark.{Mark}
use Rattle.um_fine.specs.Answers.{is_killed, is_tick, thread_in}
use Rattle.um_fine.specs.Asks.{begins, says_turn}
use Rattle.um_fine.specs.Follows.{refilled_by, shown_step}
use Rattle.um_fine.specs.Places.{put_away, turn}
use Rattle.um_fine.specs.Scheduler.{is_cut, to_kill}
use Rattle.um_refinement.specs.Lists.{times}
use Rattle.um_refinement.specs.Threads.{as_cut, cutters}
use Rattle.um_refinement.proofs.CallsKnown.{RestsHoldNothing}
use Rattle.um_refinement.proofs.Erased.{around}
use Rattle.um_refinement.proofs.LawfulSteps.{Suits}
use Rattle.um_refinement.proofs.Leaves.{Beside, HasStep, Lawful, Leaves, beside, cuts, expires, ticks, times_out, cleans, drops, event, nothing, passes, recycles, resumes}
use Rattle.um_refinement.proofs.Leaves as L
use Rattle.um_refinement.proofs.ListGrips.{next-context}
use Rattle.um_refinement.proofs.ListGrowth.{is_end}
use Rattle.um_refinement.proofs.ListRuns.{ends-rests, goes-runs, takes-none}
use Rattle.um_refinement.proofs.MemoryPart.{InDomains}
use Rattle.um_refinement.proofs.Offered.{not-cut, own-part}
use Rattle.um_refinement.proofs.OfKept.{of-kept}
use Rattle.um_refinement.proofs.OfVisits.{of-drops, of-passes, of-resumes}
use Rattle.um_refinement.proofs.PartsElsewhere.{Apart, CutsNot, apart-from, cuts-or-not, cutters-same, elsewhere-of, of-stays, started-kept}
use Rattle.um_refinement.proofs.Taking.{CutNow, Idles, IsTaken, idles, kill-thread, of-cut, of-taken, taken-index, taken-parked, taken-told, taken-uncut, takes, takes-first, tends}
use Rattle.um_refinement.proofs.CuttersKept.{cutters-taken}
use Rattle.um_refinement.proofs.VisitSteps.{visit-runs}
use Rattle.um_refinement.proofs.PlacesFacts.{lies-once, lies-unparked}
use Rattle.um_refinement.proofs.SchedulerSteps.{made-says}
use Rattle.um_refinement.proofs.StepReads.{is-behind, reads-last}
use Rattle.um_refinement.proofs.StepsLeft.{steps-on}

-- A call of a thread that holds nothing has no rows.

abbrev Below : List ℕ → Type 0
Below xs = list_all (λ x. nat_lt x ROWS) xs ≡ true

pub flags-long : (xs : List ℕ) → length (flags_of xs) ≡ ROWS
flags-long [] = refl
flags-long (x ∷ xs) = length-set (flags_of xs) x true ∙ flags-long xs

pub flags-none : (xs : List ℕ) → Below xs → ((x : ℕ) → slice_index_or (flags_of xs) x false ≡ false) → xs ≡ []
flags-none [] below none = refl
flags-none (x ∷ xs) below none =
    let few = ltb-true x ROWS (and_parts (nat_lt x ROWS) (list_all (λ z. nat_lt z ROWS) xs) below).0 in
    let long = flags-long xs in
    absurd (true≢false (sym (get_or-set_same (flags_of xs) x true false (omega (arith, few, long))) ∙ none x))

pub ended-not : (life : Life) → is_ended life ≡ true → life ≡ Life.Living → ⊥
ended-not life h same = false≢true (sym (ap is_ended same) ∙ h)

-- of the thread of a processor, where the part is that of the machine's thread
run-of : (g : Fine) (s : State) (c : Context) → RestsHoldNothing s → IsOf g s c → IsRun g s c
run-of g s c rests of =
    record {
      index = of.index;
      started = of.started;
      of = λ on. of;
      over = λ o.
          let ended : c.ended ≡ true = (and_parts c.ended _ o).0 in
          flags-none c.claims of.below
          (λ x. ap (λ (flags : List Bool). slice_index_or flags x false) (sym of.claims) ∙ rests c.thread x (inl (ended-not (thread_at s c.thread).life (sym of.ended ∙ ended))));
    }

-- and one that notes down where it waits is as before
noted-of : (g : Fine) (s : State) (c : Context) (n : Option ℕ) → IsOf g s c → IsOf g s (record c { noted = n })
noted-of g s c n of =
    record {
      index = of.index;
      own = cut-noted (cutters g c.thread) ∙ of.own;
      waiting = of.waiting;
      claims = of.claims;
      ended = of.ended;
      started = of.started;
      below = of.below;
    }
  where
    cut-noted : (k : ℕ) → as_thread (as_cut k (record c { noted = n })) ≡ as_thread (as_cut k c)
    cut-noted zero = refl
    cut-noted (suc k) = refl

pub noted-run : (g : Fine) (s : State) (c : Context) (n : Option ℕ) → IsRun g s c → IsRun g s (record c { noted = n })
noted-run g s c n run = record { index = run.index; started = run.started; of = λ on. noted-of g s c n (run.of on); over = run.over }

abbrev pub is_shown : FineAct → Bool
is_shown (FineAct.Shown said more) = true
is_shown (FineAct.Unseen u) = false

abbrev pub is_sleep_step : Todo → Bool
is_sleep_step Todo.sleep = true
is_sleep_step q = false

-- a thread that is taken is run with its own part
pub take-context : (image : Image) (p : Processor) (c : Context) → (after_take image p (Exchange.thread c None)).context ≡ c
take-context image p c =
    elim (is_empty c.pending) as (λ b. (if b then record p { context = c; todo = turn image c } else refilled_by image (record p { context = c }) []).context ≡ c) [ true ↦ refl | false ↦ refl ]

-- whether a step is one beside the instructions
abbrev is_beside : {f : Fine} {m : State} {e : FineStep} {s : State} → Leaves f m e s → Bool
is_beside (beside t x q how chosen started) = true
is_beside l = false

module _ (f : Fine) (m : State) (e : FineStep) (law : Lawful f m e) where
  open around f e use {processor as p, now}

  -- the own part that the maker has then
  pub now-context : (todo : Todos) → p.todo ≡ todo → now.context ≡ (goes_on_by f.image p e todo).context
  now-context todo at = next-context f.image p e ∙ ap (λ (z : Todos). (goes_on_by f.image p e z).context) at

  -- a step that no trace shows and that is no last one of a turn leaves it
  pub read-only : (q : Pending) → e.act ≡ says_show f.image p q e.act → is_shown e.act ≡ false → is_word_read e.act ≡ true
  read-only q said quiet = by q said
    where
      either : (q : Pending) → e.act ≡ begins f.image p q e.act → is_word_read e.act ≡ true
      either q said = which (is_word_read e.act) refl (is_killed e.act) refl
        where
          which : (b : Bool) → is_word_read e.act ≡ b → (k : Bool) → is_killed e.act ≡ k → b ≡ true
          which true h k i = refl
          which false h true i = absurd (false≢true (sym quiet ∙ ap is_shown (said ∙ (λ j. if h j then FineAct.Unseen Unseen.WordRead else if i j then by_me f.image p Act.Killed else shows f.image p q e.act))))
          which false h false i = absurd (false≢true (sym quiet ∙ ap is_shown (said ∙ (λ j. if h j then FineAct.Unseen Unseen.WordRead else if i j then by_me f.image p Act.Killed else shows f.image p q e.act))))

      by : (q : Pending) → e.act ≡ says_show f.image p q e.act → is_word_read e.act ≡ true
      by Pending.Begin said = either Pending.Begin said
      by Pending.Exit said = either Pending.Exit said
      by q said = absurd (false≢true (sym quiet ∙ ap is_shown said))

  look-only : (act : Act) → e.act ≡ visits f.image p e.act act → is_shown e.act ≡ false → is_visit e.act ≡ true
  look-only act said quiet = which (is_visit e.act) refl
    where
      which : (b : Bool) → is_visit e.act ≡ b → b ≡ true
      which true h = refl
      which false h = absurd (false≢true (sym quiet ∙ ap is_shown (said ∙ ap (λ b. if b then FineAct.Unseen Unseen.Visit else by_me f.image p act) h)))

  claim-context : (d : ℕ) (init : Bool) (todo : Todos) → (after_claim p d init 0 todo).context ≡ p.context
  claim-context d true todo = refl
  claim-context d false todo = refl

  -- but for where it notes down that it waits, and where it goes to sleep
  pub quiet-context : (q : Todo) (todo : Todos) → p.todo ≡ q ∷ todo → is_end q ≡ false → is_sleep_step q ≡ false → is_shown e.act ≡ false → (n : Option ℕ) × (now.context ≡ record p.context { noted = n })
  quiet-context q todo at goes wakes quiet = let r = by q goes wakes (made-says f m e law (q ∷ todo) at) in (r.0, now-context (q ∷ todo) at ∙ r.1)
    where
      Noted : Context → Type 0
      Noted c = (n : Option ℕ) × (c ≡ record p.context { noted = n })

      same : {c : Context} → c ≡ p.context → Noted c
      same k = (p.context.noted, k)

      by : (q : Todo) → is_end q ≡ false → is_sleep_step q ≡ false → e.act ≡ says f.image p (q ∷ todo) e.act e.moved → Noted (goes_on_by f.image p e (q ∷ todo)).context
      by (Todo.show r rest) h w said =
          same (ap (λ b. (if b then record p { todo = put_away (thread_in e.word).doomed } else after_show f.image p e (shown_step f.image r e.act) rest todo).context) (read-only r said quiet))
      by (Todo.note site) h w said = (Some (thread_in e.word).number, refl)
      by (Todo.read_claim None) h w said = same refl
      by (Todo.read_claim (Some d)) h w said = same (claim-context d (domain_in e.word).init todo)
      by (Todo.drop x) h w said = same (ap (λ b. dropped_at f.image p.context x b) (look-only _ said quiet))
      by Todo.park h w said = absurd (true≢false h)
      by Todo.done h w said = absurd (true≢false h)
      by Todo.paid h w said = absurd (true≢false h)
      by Todo.sleep h w said = absurd (true≢false w)
      by r h w said = same refl

  open around f e use {later}
  open is-behind f m e law use {frame}

  -- An own part that lies with the maker, or with nobody, is that of the machine's thread as before, unless a look cuts it.

  pub own-of : (s : State) (how : Leaves f m e s) (c : Context) → IsOf f m c → (CutsNot f m e law s how s how c.thread → Apart f m e law s how s how c.thread)
      → ((d : Context) (told : Option Told) → p.todo ≡ [] → e.moved ≡ Exchange.thread d told → d.thread ≡ c.thread → ⊥) → IsOf later s c
  own-of s how c of apart untaken = by (cuts-or-not f m e law s how c.thread)
    where
      by : CutsNot f m e law s how s how c.thread ⊎ CutNow f m e c.thread s → IsOf later s c
      by (inl free) = of-stays f m e law s how c of (apart free) (cutters-same f m e law s how c.thread of.index free untaken)
      by (inr is) = of-cut f m e law c of s is

  run-stays : (s : State) (how : Leaves f m e s) (c : Context) → IsRun f m c → (is_over c ≡ false → IsOf later s c) → IsRun later s c
  run-stays s how c run of =
      record { index = run.index; started = started-kept f m e law s how c.thread run.index run.started; of = of; over = run.over }

  -- the maker of the step runs this thread
  pub makes-part : (v : ℕ) → runs_on v p ≡ true → 0 < one_if (runs_on v p) + of_thread v (adders p.todo)
  makes-part v h = let one = ap one_if h in omega (arith, one)

  -- who is taken was parked
  pub taken-lies : p.todo ≡ [] → (d : Context) (told : Option Told) → e.moved ≡ Exchange.thread d told → is_some (parked_at (scheduler f) d.thread) ≡ true
  taken-lies idle d told moved =
      let (first, is, tells) = takes-first f m e law idle d told moved in
      ap (λ n. is_some (parked_at (scheduler f) n)) (ap (λ (z : Context). z.thread) is ∙ (kill-thread (is_cut (scheduler f) first.thread) first.parked ∙ first.same)) ∙ ap is_some first.there

  -- one with another processor is neither run by the maker nor taken
  module _ (s : State) (how : Leaves f m e s) (v : ℕ) (few : v < THREADS) (c : Context) (of : IsOf f m c) (at : c.thread ≡ v) (on : is_over c ≡ false)
      (k : ℕ) (l : k < f.cpus) (other : (e.cpu == k) ≡ false) (some : 0 < one_if (runs_on v (f.processors k)) + of_thread v (adders (f.processors k).todo)) where
    alone-with : runs_on v p ≡ true → ⊥
    alone-with mine-on = lies-once f m law.rel v few e.cpu k law.by.named l (eqb-false e.cpu k other) (makes-part v mine-on) some

    untaken-with : (d : Context) (told : Option Told) → p.todo ≡ [] → e.moved ≡ Exchange.thread d told → d.thread ≡ v → ⊥
    untaken-with d told idle moved same =
        true≢false (sym (subst (λ n. is_some (parked_at (scheduler f) n) ≡ true) same (taken-lies idle d told moved)) ∙ lies-unparked f m law.rel v few k l some)

    pub apart-with : CutsNot f m e law s how s how v → Apart f m e law s how s how v
    apart-with = apart-from f m e law s how v few c of at on alone-with untaken-with

    pub part-with : IsOf later s c
    part-with = elsewhere-of f m e law s how v few c of at on alone-with untaken-with

  pub not-idle : (q : Todo) (todo : Todos) → p.todo ≡ q ∷ todo → p.todo ≡ [] → ⊥
  not-idle q todo at idle = true≢false (ap has_steps (sym at ∙ idle))

  pub ran : (q : Todo) (todo : Todos) → p.todo ≡ q ∷ todo → is_end q ≡ false → runs now ≡ true → runs p ≡ true
  ran q todo at goes h =
      sym (goes-runs f.image p e q todo at goes (frame q todo at) (reads-last f m e law q todo at) (subst (AreBlocks f.image) at (law.rel.processors e.cpu law.by.named).blocks)) ∙ h

  module _ (suits : Suits f m) (all : InDomains f m) where
    -- The thread of the processor that makes the step.

    taken-run : RestsHoldNothing m → p.todo ≡ [] → runs now ≡ true → is_shown e.act ≡ false → IsRun later m now.context
    taken-run rests at h quiet = by (idles f m e law at)
      where
        told-none : (first : IsTaken f e) → (told : Option Told) → e.moved ≡ Exchange.thread (to_kill (is_cut (scheduler f) first.thread) first.parked) told → IsRun later m now.context
        told-none first None moved =
            let c = to_kill (is_cut (scheduler f) first.thread) first.parked in
            subst (IsRun later m) (sym (now-context [] at ∙ (ap (λ (mv : Exchange). (after_take f.image p mv).context) moved ∙ take-context f.image p c)))
            (run-of later m c rests (of-taken f m e law at first (law.rel.contexts.parked first.thread first.parked first.there).0))
        told-none first (Some w) moved = absurd (false≢true (sym quiet ∙ ap is_shown (first.said ∙ ap (says_turn f.image p) moved)))

        by : Idles f e → IsRun later m now.context
        by (takes first) = told-none first first.told first.moved
        by (tends is) = absurd (false≢true (sym (takes-none f.image p e at is.other is.quiet) ∙ h))

    -- one that goes on with its list, and its own part
    going : (s : State) (how : Leaves f m e s) (q : Todo) (todo : Todos) → p.todo ≡ q ∷ todo → is_end q ≡ false → runs now ≡ true
        → (CutsNot f m e law s how s how p.context.thread → Apart f m e law s how s how p.context.thread) → IsRun later s p.context
    going s how q todo at goes h apart =
        let run = law.rel.contexts.running e.cpu law.by.named (ran q todo at goes h) in
        run-stays s how p.context run (λ on. own-of s how p.context (run.of on) apart (λ d told idle. absurd (not-idle q todo at idle)))

    ends-not : {A : Type 0} (q : Todo) (todo : Todos) → p.todo ≡ q ∷ todo → is_end q ≡ true → runs now ≡ true → A
    ends-not q todo at over h =
        absurd (false≢true (sym (ap (λ (z : Todos). has_steps z && not (times z)) (ends-rests f.image p e q todo at over (cleans-none q over (made-says f m e law (q ∷ todo) at)))) ∙ h))
      where
        cleans-none : (q : Todo) → is_end q ≡ true → e.act ≡ says f.image p (q ∷ todo) e.act e.moved → begins_cleaning e ≡ false
        cleans-none Todo.park h said = ap (λ a. begins_cleaning (record e { act = a })) said
        cleans-none Todo.done h said = ap (λ a. begins_cleaning (record e { act = a })) said
        cleans-none Todo.paid h said = ap (λ a. begins_cleaning (record e { act = a })) said
        cleans-none r h said = absurd (false≢true h)

    quiet-run : (u : Unseen) → e.act ≡ FineAct.Unseen u → RestsHoldNothing m → runs now ≡ true → (todo : Todos) → p.todo ≡ todo → IsRun later m now.context
    quiet-run u said rests h [] at = taken-run rests at h (ap is_shown said)
    quiet-run u said rests h (Todo.sleep ∷ todo) at =
        let run = law.rel.contexts.running e.cpu law.by.named (ran Todo.sleep todo at refl h) in
        subst (IsRun later m) (sym (now-context (Todo.sleep ∷ todo) at)) (record { index = run.index; started = run.started; of = λ on. absurd (true≢false on); over = λ o. refl })
    quiet-run u said rests h (q ∷ todo) at = by (is_end q) refl
      where
        by : (b : Bool) → is_end q ≡ b → IsRun later m now.context
        by false goes =
            let r = quiet-context q todo at goes refl (ap is_shown said) in
            subst (IsRun later m) (sym r.1) (noted-run later m p.context r.0 (going m (nothing u said) q todo at goes h (λ free. tt)))
        by true over = ends-not q todo at over h

    -- nobody cuts the thread of an event
    pub event-uncut : (s : State) (how : Leaves f m e s) (q : Todo) (todo : Todos) → p.todo ≡ q ∷ todo → CutsNot f m e law s how s how p.context.thread → IsOf f m p.context → waits p.context.pending ≡ false
        → cutters later p.context.thread ≡ 0
    event-uncut s how q todo at free of awake =
        cutters-same f m e law s how p.context.thread of.index free (λ d told idle. absurd (not-idle q todo at idle)) ∙ not-cut of awake

    -- a step beside the instructions is of no thread but the one that it cuts
    apart-beside : {s : State} (how : Leaves f m e s) → is_beside how ≡ true → CutsNot f m e law s how s how p.context.thread → Apart f m e law s how s how p.context.thread
    apart-beside (beside t x q how chosen started) h free = free
    apart-beside l h free = absurd (false≢true h)

    beside-run : (t x : ℕ) (q : Pending) → Beside f m e t x q → (how : Leaves f m e (T.after m t x q (thread_at m t).pending)) → is_beside how ≡ true → runs now ≡ true → IsRun later (T.after m t x q (thread_at m t).pending) now.context
    beside-run t x _ (cuts who site before _ todo at place inside said) how is h =
        subst (IsRun later _) (sym (now-context (Todo.look who site before ∷ todo) at)) (going _ how (Todo.look who site before) todo at refl h (apart-beside how is))
    beside-run t x _ (times_out deadline site _ who todo at place inside said) how is h =
        let z = Todo.handle deadline (Mark.Thread who site) in subst (IsRun later _) (sym (now-context (z ∷ todo) at)) (going _ how z todo at refl h (apart-beside how is))
    beside-run t x _ (expires deadline y todo at inside said) how is h =
        let z = Todo.handle deadline (Mark.Timer y) in subst (IsRun later _) (sym (now-context (z ∷ todo) at)) (going _ how z todo at refl h (apart-beside how is))
    beside-run t x _ (ticks at said) how is h = by (idles f m e law at)
      where
        turns : (c : Context) (told : Option Told) → e.act ≡ says_turn f.image p (Exchange.thread c told) → ⊥
        turns c None k = false≢true (ap is_tick (sym k ∙ said))
        turns c (Some w) k = false≢true (ap is_tick (sym k ∙ said))

        by : Idles f e → IsRun later (T.after m t x Pending.Tick (thread_at m t).pending) now.context
        by (takes first) = absurd (turns (to_kill (is_cut (scheduler f) first.thread) first.parked) first.told (first.said ∙ ap (says_turn f.image p) first.moved))
        by (tends is) = absurd (false≢true (sym (takes-none f.image p e at is.other is.quiet) ∙ h))
    beside-run t x _ (L.leaves todo at said) how is h =
        subst (IsRun later _) (sym (now-context (Todo.leave ∷ todo) at)) (going _ how Todo.leave todo at refl h (apart-beside how is))

    mine-run : (s : State) (how : Leaves f m e s) → HasStep f m e s how → RestsHoldNothing s → runs now ≡ true → IsRun later s now.context
    mine-run _ (nothing u said) has rests h = quiet-run u said rests h p.todo refl
    mine-run s (event q rest todo x h shown is) has rests k =
        let l = event q rest todo x h shown is in
        subst (IsRun later s)
        (sym (now-context (Todo.show h.listed rest ∷ todo) h.at
        ∙ (ap (λ b. (if b then record p { todo = put_away (thread_in e.word).doomed } else after_show f.image p e (shown_step f.image h.listed e.act) rest todo).context) h.shown
        ∙ ap (λ r. (after_show f.image p e r rest todo).context) h.made)))
        (run-of later s (continues f.image p.context 0 q rest (act_in e.act) e.moved) rests
        (of-kept f m e law suits all rest todo x q h shown is (event-uncut s l (Todo.show h.listed rest) todo h.at tt (own-part h) h.awake)))
    mine-run s (resumes c told rest idle moved said) has rests h =
        let (first, is, tells) = takes-first f m e law idle c (Some told) moved in
        let parked = taken-parked f m e law idle c told moved in
        let of = (law.rel.contexts.parked c.thread c parked).0 in
        let none = taken-uncut f m e law idle c told moved of.index in
        let same : c.thread ≡ first.thread = ap (λ (z : Context). z.thread) is ∙ (kill-thread (is_cut (scheduler f) first.thread) first.parked ∙ first.same) in
        let counts = cutters-taken f m e law idle first.site first.said first.thread first.list first.ready (taken-index f m e law first) in
        let was : cutters f first.thread ≡ 0 = ap (cutters f) (sym same) ∙ none in
        let now-none : cutters later first.thread ≡ 0 = omega (arith, counts, was) in
        subst (IsRun later s) (sym (now-context [] idle ∙ ap (λ (mv : Exchange). (after_take f.image p mv).context) moved))
        (run-of later s (resumed f.image c told) rests
        (of-resumes f m e law c told rest of none (ap (cutters later) same ∙ now-none) has (taken-told f m e law idle c told moved)))
    mine-run s (passes who x rest todo v said) has rests h =
        let l = passes who x rest todo v said in
        let of = (law.rel.contexts.running e.cpu law.by.named (visit-runs v (λ hand. hand))).of (steps-on p.context (Pending.Inherit (to_thread who)) rest has) in
        subst (IsRun later s) (sym (now-context (Todo.pass who x ∷ todo) v.at))
        (run-of later s p.context rests (of-passes f m e law p.context who x rest of (event-uncut s l (Todo.pass who x) todo v.at tt of (ap waits has)) has))
    mine-run s (drops from x rest todo v said) has rests h =
        let l = drops from x rest todo v said in
        let of = (law.rel.contexts.running e.cpu law.by.named (visit-runs v (λ hand. hand))).of (steps-on p.context (Pending.Drops from) rest has) in
        subst (IsRun later s) (sym (now-context (Todo.drop x ∷ todo) v.at ∙ ap (λ b. dropped_at f.image p.context x b) v.shown))
        (run-of later s (dropped_at f.image p.context x false) rests (of-drops f m e law p.context from x rest of (event-uncut s l (Todo.drop x) todo v.at tt of (ap waits has)) has))
    mine-run s (cleans who x rest todo v said) has rests h =
        let l = cleans who x rest todo v said in
        subst (IsRun later s) (sym (now-context (Todo.clean_pair who x ∷ todo) v.at)) (going s l (Todo.clean_pair who x) todo v.at refl h (λ free. tt))
    mine-run s (recycles x rest todo at few said chosen) has rests h =
        let l = recycles x rest todo at few said chosen in
        subst (IsRun later s) (sym (now-context (Todo.recycle x ∷ todo) at)) (going s l (Todo.recycle x) todo at refl h (λ free. tt))
    mine-run s (beside t x q how chosen started) has rests h = beside-run t x q how (beside t x q how chosen started) refl h

    -- Each processor's thread.
    pub running-field : (s : State) (how : Leaves f m e s) → HasStep f m e s how → RestsHoldNothing s → (k : ℕ) → k < f.cpus → runs (later.processors k) ≡ true → IsRun later s (later.processors k).context
    running-field s how has rests k l = by (e.cpu == k) refl
      where
        by : (b : Bool) → (e.cpu == k) ≡ b → runs (cond b (p_next f.image (f.processors k) e) (f.processors k)) ≡ true → IsRun later s (cond b (p_next f.image (f.processors k) e) (f.processors k)).context
        by true q h = subst (λ n. runs (p_next f.image (f.processors n) e) ≡ true → IsRun later s (p_next f.image (f.processors n) e).context) (eqb-true e.cpu k q) (mine-run s how has rests) h
        by false q h =
            let c = (f.processors k).context in
            let run = law.rel.contexts.running k l h in
            run-stays s how c run
            (λ on.
            let lies : runs_on c.thread (f.processors k) ≡ true = λ i. (h i && eq-eqb c.thread c.thread refl i) && not (on i) in
            let one = ap one_if lies in
            part-with s how c.thread run.index c (run.of on) refl on k l q (omega (arith, one)))
