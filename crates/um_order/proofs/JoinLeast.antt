-- A join that says that its thread is over has the least row, where one processor runs: an index that is shut has its object marked only while another thread is
-- within the call that starts it, or clears the mark, and no other one is within a call then.
use Rattle.std.specs.List.{list_any}
use Rattle.std.specs.Prelude.{◌==◌, ◌&&◌, ◌||◌, not, if◌then◌else◌, is_some, nat_lt, unwrap_or, slice_index_or, ℤ}
use Rattle.std.proofs.Common.{◌+◌, ◌-◌, ◌≡◌, ◌⊎◌, inl, inr, ℕ, zero, suc, ◌<◌, ◌≤◌, arith, length, Bool, true, false, List, [], ◌∷◌, Option, Some, None, refl, sym, ap, ◌∙◌, subst}
use Rattle.std.proofs.lemmas.Bool.{not-true, and_parts, false≢true, true≢false, eqb-true, eqb-false, ltb-true}
use Rattle.std.proofs.lemmas.List.{get_or-set_same}
use Rattle.um_base.specs.Lawful.{IsLawful}
use Rattle.um_base.specs.Places.{own_row, setup_at, setup_thread, thread_of_row}
use Rattle.um_base.specs.declared.act.Answer.{Answer}
use Rattle.um_base.specs.declared.ask.Waiter.{Waiter}
use Rattle.um_base.specs.declared.image.Image.{Image}
use Rattle.um_base.specs.declared.limits.TheConstants.{THREADS, STATIC_THREADS, STATIC_ROWS, JOIN_CELL}
use Rattle.um_base.specs.declared.names.Addr.{Addr}
use Rattle.um_base.specs.declared.names.Errno.{Errno}
use Rattle.um_base.specs.declared.names.Mode.{Mode}
use Rattle.um_base.specs.declared.names.Reply.{Reply}
use Rattle.um_base.specs.declared.names.Row.{Row}
use Rattle.um_base.specs.declared.names.ThreadIx.{ThreadIx}
use Rattle.um_base.specs.declared.names.Timeout.{Timeout}
use Rattle.um_machine.specs.Joins as Plain
use Rattle.um_machine.specs.Order.{Steps}
use Rattle.um_machine.specs.Run.{MayChoose, Offers, goes, skips_inherit, skips_drops, begins, exits, stops, tends, opening, leaves, is_tending}
use Rattle.um_machine.specs.State.{State, nobody, thread_at, object_at, is_living, is_to_resume, is_waiting}
use Rattle.um_machine.specs.Table as T
use Rattle.um_machine.specs.Writes.{wrote}
use Rattle.um_machine.specs.declared.pending.Pending.{Pending}
use Rattle.um_machine.specs.declared.thread.Life.{Life}
use Rattle.um_machine.specs.declared.thread.Thread.{Thread}
use Rattle.um_machine.proofs.AfterLemmas.{after-is}
use Rattle.um_machine.proofs.EffectLemmas.{effects_of}
use Rattle.um_invariants.specs.NextSteps.{IsLeast, MayTake}
use Rattle.um_invariants.proofs.Cores.{at_set}
use Rattle.um_invariants.proofs.Guards.{IsSited}
use Rattle.um_invariants.proofs.SitedImages.{index_small}
use Rattle.um_words.specs.declared.fine.FineAct.{FineAct}
use Rattle.um_fine.specs.Addresses.{row_named}
use Rattle.um_fine.specs.Answers.{answer_in}
use Rattle.um_fine.specs.Context.{Context}
use Rattle.um_fine.specs.Joins.{deadlocks, is_shut, open_says}
use Rattle.um_fine.specs.Opening.{indexed}
use Rattle.um_fine.specs.Places.{Todo, Todos}
use Rattle.um_fine.specs.Seeking.{stands_in}
use Rattle.um_fine.specs.Steps.{FineStep}
use Rattle.um_refinement.specs.Fine.{Fine, joins}
use Rattle.um_refinement.specs.Frames.{AreFramed}
use Rattle.um_refinement.specs.Offers.{Fits}
use Rattle.um_refinement.specs.Offers as O
use Rattle.um_refinement.specs.Relation.{Rel}
use Rattle.um_refinement.specs.Stops.{HasOwn}
use Rattle.um_refinement.specs.Threads.{IsOf, IsRun}
use Rattle.um_refinement.proofs.CallsProper.{AreProper, Closing, offered-proper}
use Rattle.um_refinement.proofs.Erased.{GoesBy, around}
use Rattle.um_refinement.proofs.First.{first}
use Rattle.um_refinement.proofs.FirstObjects.{opening-image}
use Rattle.um_refinement.proofs.FirstThreads.{new-thread, threads-long}
use Rattle.um_refinement.proofs.JoinSteps.{join-says}
use Rattle.um_refinement.proofs.Leaves.{Lawful, Leaves}
use Rattle.um_refinement.proofs.Offered.{IsStep, Shows, own-unless, runs-first, shown-offers}
use Rattle.um_refinement.proofs.ShutDead.{shut-by}
use Rattle.um_refinement.proofs.StepsLeft.{offered-awake, offered-on}
use Rattle.um_refinement.proofs.WaitersFound.{WaitersWait}
use Rattle.um_order.proofs.CallsKept.{AreCalls, AtMostOne, IsBack, within}
use Rattle.um_order.proofs.InitLeft.{MarksIt, init-left}
use Rattle.um_order.proofs.InitShapes.{IsThread, Inits, Clears}
use Rattle.um_order.proofs.InitsKept.{AllInits, offered-inits}
use Rattle.um_order.proofs.MidCall.{IsMid, Mid, behind-drops, behind-inherit, marked-mid, mid-after, mid-within}

abbrev pub ShutMid : Fine → State → Type 0
ShutMid f m = (w : ℕ) → w < THREADS → IsThread f.image w → is_shut (joins f) w ≡ true → (object_at m (own_row f.image w)).init ≡ true → Mid f.image w m

-- the thread of an object is one of the machine's
row-below : (image : Image) → IsLawful image → (x : ℕ) (low inside : Bool) → nat_lt (STATIC_THREADS + (x - STATIC_ROWS)) THREADS ≡ inside → (o : Option ℕ)
    → (if low then setup_thread (setup_at image x) else if inside then Some (STATIC_THREADS + (x - STATIC_ROWS)) else None) ≡ o → unwrap_or o 0 < THREADS
row-below image lawful x low inside f None h = omega arith
row-below image lawful x true inside f (Some w) h = let small = index_small image.objects 0 x w lawful.indices h in omega (arith, small)
row-below image lawful x false true f (Some w) h =
    let below = ltb-true (STATIC_THREADS + (x - STATIC_ROWS)) THREADS f in
    let same : STATIC_THREADS + (x - STATIC_ROWS) ≡ w = ap (λ (o : Option ℕ). unwrap_or o 0) h in omega (arith, below, same)
row-below image lawful x false false f (Some w) h = absurd (false≢true (ap is_some h))

own-below : (image : Image) → IsLawful image → (w : ℕ) → HasOwn image w → w < THREADS
own-below image lawful w own =
    subst (λ n. n < THREADS) (ap (λ (o : Option ℕ). unwrap_or o 0) own)
    (row-below image lawful (own_row image w) (nat_lt (own_row image w) STATIC_ROWS) (nat_lt (STATIC_THREADS + (own_row image w - STATIC_ROWS)) THREADS) refl (thread_of_row image (own_row image w)) refl)

-- who is started lives
started-lives : (s : State) (t x : ℕ) (who : ThreadIx) (script : ℕ) (stack : Row) (priority : ℤ) (mode : Mode) (rest : Steps) → who.0 < length s.threads
    → (thread_at (T.after s t x (Pending.Start who script stack priority mode) rest) who.0).life ≡ Life.Living
started-lives s t x who script stack priority mode rest few =
    ap (λ (w : State). (thread_at w who.0).life) (after-is s t x q rest)
    ∙ at_set (λ n (me : Thread). n ≡ who.0 → me.life ≡ Life.Living) z.threads t who.0 (T.at_steps z.image (record (thread_at z t) { child = None }) rest) nobody
    (λ same. ap (λ n. (thread_at z n).life) same ∙ born) (λ same. born) refl
  where
    q : Pending
    q = Pending.Start who script stack priority mode

    z : State
    z = wrote (effects_of s t x (Pending.Start who script stack priority mode)) s

    born : (thread_at (wrote (effects_of s t x (Pending.Start who script stack priority mode)) s) who.0).life ≡ Life.Living
    born = ap (λ (me : Thread). me.life) (get_or-set_same s.threads who.0 (T.newborn s (thread_at s t) who.0 script (Pending.Start who script stack priority mode)) nobody few)

module _ (f : Fine) (m : State) (e : FineStep) (law : Lawful f m e) (proper : AreProper m.image m) (one : AtMostOne m) (calls : AreCalls m) (all : AllInits f.image m) (was : ShutMid f m) where
  open around f e use {later, processor as p}

  abbrev t : ℕ
  t = (f.processors e.cpu).context.thread

  sited : IsSited f.image
  sited = subst IsSited law.rel.image law.sound.known.reached.sited

  -- who tells those that wait for its end clears its own object's mark next
  module _ (todo : Todos) (at : p.todo ≡ Todo.leave ∷ todo) where
    abbrev c : Context
    c = (f.processors e.cpu).context

    leaving-mid : Mid f.image (f.processors e.cpu).context.thread m
    leaving-mid = (c.thread, subst (IsMid f.image c.thread) pending (by offered))
      where
        frame : (a : Addr) × (rest : Steps) × (todo ≡ Todo.show (Pending.ClearInit a) rest ∷ [])
        frame = (subst (AreFramed f.image) at (law.rel.processors e.cpu law.by.named).frames).0

        behind : O.ClearsOwn f.image (f.processors e.cpu).context (Todo.show (Pending.ClearInit frame.0) frame.1 ∷ []) × Fits f.image (f.processors e.cpu).context (Todo.show (Pending.ClearInit frame.0) frame.1 ∷ [])
        behind =
            subst (λ (z : Todos). O.ClearsOwn f.image (f.processors e.cpu).context z × Fits f.image (f.processors e.cpu).context z) frame.2
            (subst (Fits f.image (f.processors e.cpu).context) at (law.rel.processors e.cpu law.by.named).list.fits)

        offered : O.IsOffered f.image (f.processors e.cpu).context (Pending.ClearInit frame.0) frame.1
        offered = behind.1.0

        row : row_named f.image frame.0 ≡ own_row f.image (f.processors e.cpu).context.thread
        row = eqb-true _ _ behind.0

        run : IsRun f m (f.processors e.cpu).context
        run = law.rel.contexts.running e.cpu law.by.named (runs-first law.rel law.by.named Todo.leave todo at (λ hand. hand))

        of : IsOf f m (f.processors e.cpu).context
        of = run.of (offered-on f.image (f.processors e.cpu).context (Pending.ClearInit frame.0) frame.1 offered)

        pending : (f.processors e.cpu).context.pending ≡ (thread_at m (f.processors e.cpu).context.thread).pending
        pending = ap (λ (z : Thread). z.pending) (own-unless of (offered-awake f.image (f.processors e.cpu).context (Pending.ClearInit frame.0) frame.1 offered refl))

        by : O.IsOffered f.image (f.processors e.cpu).context (Pending.ClearInit frame.0) frame.1 → IsMid f.image (f.processors e.cpu).context.thread (f.processors e.cpu).context.pending
        by (O.goes k) = inr (subst (Clears f.image (f.processors e.cpu).context.thread) (sym k) row)
        by (O.dropped {from} k) = inr (subst (Clears f.image (f.processors e.cpu).context.thread) (sym k) row)
        by (O.passed {who} k) = inr (subst (Clears f.image (f.processors e.cpu).context.thread) (sym k) row)

  -- Each step keeps it.
  module _ (s2 : State) (left : Leaves f m e s2) (goes_by : GoesBy m e.act s2) (related : Rel later s2) where
    pub mid-next : ShutMid later s2
    mid-next w few thread shut init = by e.act goes_by
      where
        before : (is_shut (joins f) w ≡ true) ⊎ Mid f.image w m
        before = which (shut-by f m e law proper w few s2 left shut)
          where
            which : (is_shut (joins f) w ≡ true) ⊎ ((todo : Todos) × (p.todo ≡ Todo.leave ∷ todo) × (p.context.thread ≡ w)) → (is_shut (joins f) w ≡ true) ⊎ Mid f.image w m
            which (inl h) = inl h
            which (inr (todo, at, own)) = inr (subst (λ n. Mid f.image n m) own (leaving-mid todo at))

        by : (act : FineAct) → GoesBy m act s2 → Mid f.image w s2
        by (FineAct.Unseen u) stays = subst (Mid f.image w) (sym stays) (which before)
          where
            which : (is_shut (joins f) w ≡ true) ⊎ Mid f.image w m → Mid f.image w m
            which (inl h) = was w few thread h (subst (λ (s : State). (object_at s (own_row f.image w)).init ≡ true) stays init)
            which (inr mid) = mid
        by (FineAct.Shown event more) made = subst (Mid f.image w) (sym made.leaves) (which before)
          where
            there : (object_at (T.after m event.thread.0 made.row made.step made.rest) (own_row f.image w)).init ≡ true
            there = subst (λ (s : State). (object_at s (own_row f.image w)).init ≡ true) made.leaves init

            unstarted : (who : ThreadIx) (script : ℕ) (stack : Row) (priority : ℤ) (mode : Mode) → made.step ≡ Pending.Start who script stack priority mode → who.0 ≡ w → ⊥
            unstarted who script stack priority mode is same =
                let long = law.sound.wide.threads in
                let lives : (thread_at s2 w).life ≡ Life.Living =
                ap (λ (s : State). (thread_at s w).life) (made.leaves ∙ ap (λ q. T.after m event.thread.0 made.row q made.rest) is)
                ∙ (ap (λ n. (thread_at (T.after m event.thread.0 made.row (Pending.Start who script stack priority mode) made.rest) n).life) (sym same)
                ∙ started-lives m event.thread.0 made.row who script stack priority mode made.rest (omega (arith, few, same, long))) in
                (related.threads w few).shut.dead shut lives

            on : Mid f.image w m → Mid f.image w (T.after m event.thread.0 made.row made.step made.rest)
            on = mid-after f.image w m law.rel.image event.thread.0 made.row made.step made.rest made.offered made.chosen proper law.sound.wide.threads one calls unstarted there

            which : (is_shut (joins f) w ≡ true) ⊎ Mid f.image w m → Mid f.image w (T.after m event.thread.0 made.row made.step made.rest)
            which (inr mid) = on mid
            which (inl h) = from (init-left m event.thread.0 made.row (own_row f.image w) made.step made.rest there)
              where
                from : ((object_at m (own_row f.image w)).init ≡ true) ⊎ MarksIt m (own_row f.image w) made.step → Mid f.image w (T.after m event.thread.0 made.row made.step made.rest)
                from (inl k) = on (was w few thread h k)
                from (inr marks) =
                    marked-mid f.image w m law.rel.image event.thread.0 made.row made.step made.rest made.offered made.chosen proper law.sound.wide.threads one calls sited law.sound.known all thread marks

  -- What a join says.
  module _ (lawful : IsLawful f.image) (waits : WaitersWait m) (who : ThreadIx) (timeout : Timeout) (rest : Steps) (todo : Todos) (h : Shows f m e.cpu e (Pending.Join who timeout) rest todo) where
    abbrev is_join : Pending → Bool
    is_join (Pending.Join who timeout) = true
    is_join q = false

    offered : Offers m t (Pending.Join who timeout) rest
    offered = shown-offers h

    -- nobody is within such a call then
    none-mid : MayChoose m t 1 (Pending.Join who timeout) → (w : ℕ) → Mid f.image w m → ⊥
    none-mid chosen w (u, mid) = each (u == t) refl
      where
        joined : (q : Pending) (more : Steps) → is_join q ≡ true → IsMid f.image w (q ∷ more) → ⊥
        joined (Pending.Join w2 timeout2) more k (inl g) = g
        joined (Pending.Join w2 timeout2) more k (inr g) = g
        joined q more k g = false≢true k

        tending : (q : Pending) → is_tending q ≡ true → is_join q ≡ true → ⊥
        tending (Pending.Join w2 timeout2) k g = false≢true k
        tending q k g = false≢true g

        mine : {q : Pending} {more : Steps} → Offers m t q more → is_join q ≡ true → IsMid f.image w (thread_at m t).pending → ⊥
        mine (goes {p = q} {rest = more} k) is g = joined q more is (subst (IsMid f.image w) k g)
        mine (skips_inherit {who = v} {p = q} {rest = more} k due) is g = joined q more is (behind-inherit f.image w v (q ∷ more) (subst (IsMid f.image w) k g))
        mine (skips_drops {from} {p = q} {rest = more} k due) is g = joined q more is (behind-drops f.image w from (q ∷ more) (subst (IsMid f.image w) k g))
        mine (begins k lives may there) is g = false≢true is
        mine (exits k lives may there) is g = false≢true is
        mine (stops k lives must) is g = false≢true is
        mine (leaves ends) is g = false≢true is
        mine (tends {p = q} is_so started) is g = tending q is_so is

        apart : IsBack (thread_at m u).pending ⊎ IsBack (thread_at m t).pending → ⊥
        apart (inl back) = mid-within f.image w (thread_at m u).pending mid back
        apart (inr back) = within m t 1 (Pending.Join who timeout) rest offered chosen proper law.sound.wide.threads one calls (Pending.Join who timeout) rest offered refl back

        each : (b : Bool) → (u == t) ≡ b → ⊥
        each true k = mine offered refl (subst (λ n. IsMid f.image w (thread_at m n).pending) (eqb-true u t k) mid)
        each false k = apart (one u t (eqb-false u t k))

    own : HasOwn f.image who.0
    own = subst (λ (i : Image). HasOwn i who.0) law.rel.image (offered-proper m t 1 (proper t) (Pending.Join who timeout) rest offered).0.0

    thread : IsThread f.image who.0
    thread = (own, (offered-inits f.image sited m law.rel.image law.sound.known all t 1 (Pending.Join who timeout) rest offered).0)

    abbrev is_over : Answer → Bool
    is_over (Answer.Now (Reply.Num n)) = true
    is_over answer = false

    waits-on : (b : Bool) → is_over (if b then Answer.Now (Reply.Fail Errno.EDEADLK) else Answer.Wait) ≡ false
    waits-on true = refl
    waits-on false = refl

    unshut-says : (timeout2 : Timeout) → is_over (open_says (joins f) t who.0 timeout2) ≡ false
    unshut-says Timeout.NoWait = refl
    unshut-says (Timeout.Ticks n) = waits-on (deadlocks (joins f) t who.0)
    unshut-says Timeout.Forever = waits-on (deadlocks (joins f) t who.0)

    -- one that says that its thread is over asks an index that is shut
    over-shut : IsStep f m e.cpu e 1 (Pending.Join who timeout) → is_shut (joins f) who.0 ≡ true
    over-shut is = by (is_shut (joins f) who.0) refl
      where
        by : (b : Bool) → is_shut (joins f) who.0 ≡ b → b ≡ true
        by true k = refl
        by false k = absurd (false≢true (sym (unshut-says timeout) ∙ ap is_over (said k)))
          where
            said : is_shut (joins f) who.0 ≡ false → open_says (joins f) t who.0 timeout ≡ Answer.Now (Reply.Num 0)
            said k =
                ap (λ b. if b then Answer.Now (Reply.Num 0) else open_says (joins f) t who.0 timeout) (sym k)
                ∙ (join-says law.sound.wide.threads who timeout h ∙ ap answer_in is.says)

    closing-awake : (steps : Steps) → Closing steps → is_to_resume steps ≡ true → ⊥
    closing-awake (Pending.Resume ∷ more) g k = g
    closing-awake [] g k = false≢true k
    closing-awake (q ∷ more) g k = false≢true k

    stands-so : (ws : List Waiter) → list_any (λ (w : Waiter). w.thread.0 == who.0 && Plain.joins t w) ws ≡ true → stands_in who.0 ws ≡ true
    stands-so [] k = k
    stands-so (w ∷ ws) k = by (w.thread.0 == who.0) k (stands-so ws)
      where
        by : (b : Bool) → ((b && Plain.joins t w) || list_any (λ (v : Waiter). v.thread.0 == who.0 && Plain.joins t v) ws) ≡ true
            → (list_any (λ (v : Waiter). v.thread.0 == who.0 && Plain.joins t v) ws ≡ true → stands_in who.0 ws ≡ true) → (b || stands_in who.0 ws) ≡ true
        by true g more = refl
        by false g more = more g

    -- nor may it say that it isn't over
    module _ (is : IsStep f m e.cpu e 1 (Pending.Join who timeout)) where
      dead : is_living (thread_at m who.0).life ≡ false
      dead = not-true (is_living (thread_at m who.0).life) is.chosen

      undeadlocked : Plain.deadlocks m t who.0 ≡ true → ⊥
      undeadlocked = by (who.0 == t) refl
        where
          by : (b : Bool) → (who.0 == t) ≡ b → (b || Plain.is_joining m who.0 t) ≡ true → ⊥
          by true k g = ((offered-proper m t 1 (proper t) (Pending.Join who timeout) rest offered).1 (subst (λ n. is_living (thread_at m n).life ≡ false) (eqb-true who.0 t k) dead)).1
          by false k g =
              let waiting : is_waiting (thread_at m who.0) ≡ true = waits JOIN_CELL who.0 (stands-so m.joins g) in
              closing-awake (thread_at m who.0).pending ((proper who.0).1 dead).1 (and_parts (is_to_resume (thread_at m who.0).pending) _ waiting).0

      uninit : (object_at m (own_row m.image who.0)).init ≡ true → ⊥
      uninit init =
          none-mid is.chosen who.0
          (was who.0 (own-below f.image lawful who.0 own) thread (over-shut is) (subst (λ (i : Image). (object_at m (own_row i who.0)).init ≡ true) law.rel.image init))

      either : (a : Bool) {b : Bool} → (a ≡ true → ⊥) → (b ≡ true → ⊥) → (a || b) ≡ true → ⊥
      either true g k h = g refl
      either false g k h = k h

      unless : (timeout2 : Timeout) → Plain.may_say m t 0 who.0 timeout2 ≡ true → ⊥
      unless Timeout.NoWait = uninit
      unless (Timeout.Ticks n) = either (Plain.deadlocks m t who.0) undeadlocked uninit
      unless Timeout.Forever = either (Plain.deadlocks m t who.0) undeadlocked uninit

    pub join-least : (x : ℕ) → IsStep f m e.cpu e x (Pending.Join who timeout) → x < 2 → IsLeast m (f.processors e.cpu).context.thread (Pending.Join who timeout) x
    join-least zero is l = ((is.chosen, tt), λ y less may. absurd (omega (arith, less)))
    join-least (suc zero) is l = ((is.chosen, tt), first)
      where
        first : (y : ℕ) → y < 1 → MayTake m t (Pending.Join who timeout) y → ⊥
        first zero less may = unless is timeout may.0
        first (suc n) less may = omega (arith, less)
    join-least (suc (suc n)) is l = absurd (omega (arith, l))

-- At the opening.

pub opening-inits : (image : Image) → AllInits image (opening image)
opening-inits image u = subst (Inits image) (sym (new-thread image u).rests) tt

-- what an indexed list has at a place, or else beyond it
indexed-flag : (g : ℕ → Bool) (i : ℕ) (xs : List Thread) (t : ℕ)
    → (slice_index_or (indexed (λ n (me : Thread). g n) i xs) t true ≡ g (i + t)) ⊎ ((slice_index_or (indexed (λ n (me : Thread). g n) i xs) t true ≡ true) × (length xs ≤ t))
indexed-flag g i [] t = inr (refl, omega arith)
indexed-flag g i (x ∷ xs) zero = let at : i ≡ i + 0 = omega arith in inl (ap g at)
indexed-flag g i (x ∷ xs) (suc t) = by (indexed-flag g (i + 1) xs t)
  where
    by : (slice_index_or (indexed (λ n (me : Thread). g n) (i + 1) xs) t true ≡ g (i + 1 + t)) ⊎ ((slice_index_or (indexed (λ n (me : Thread). g n) (i + 1) xs) t true ≡ true) × (length xs ≤ t))
        → (slice_index_or (indexed (λ n (me : Thread). g n) (i + 1) xs) t true ≡ g (i + suc t)) ⊎ ((slice_index_or (indexed (λ n (me : Thread). g n) (i + 1) xs) t true ≡ true) × (suc (length xs) ≤ suc t))
    by (inl e) = let at : i + 1 + t ≡ i + suc t = omega arith in inl (e ∙ ap g at)
    by (inr r) = let l = r.1 in inr (r.0, omega (arith, l))

-- an index is shut where its object isn't marked
pub opening-shut : (image : Image) → ShutMid (first image 1) (opening image)
opening-shut image w few thread shut init = by (indexed-flag (λ n. not (object_at m (own_row m.image n)).init) 0 m.threads w)
  where
    m : State
    m = opening image

    by : (is_shut (joins (first image 1)) w ≡ not (object_at (opening image) (own_row (opening image).image (0 + w))).init) ⊎ ((is_shut (joins (first image 1)) w ≡ true) × (length (opening image).threads ≤ w))
        → Mid image w (opening image)
    by (inl e) =
        let at : 0 + w ≡ w = omega arith in
        absurd (true≢false (sym shut ∙ (e ∙ (ap (λ n. not (object_at m (own_row m.image n)).init) at ∙ (ap (λ (i : Image). not (object_at m (own_row i w)).init) (opening-image image) ∙ ap not init)))))
    by (inr r) = let long = threads-long image in let l = r.1 in absurd (omega (arith, few, long, l))
