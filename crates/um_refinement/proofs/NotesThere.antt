-- The word of a thread has a note exactly while its own part has the number of one, after every lawful step.
use Rattle.um_refinement.proofs.Words.{◌≡◌, inl, ℕ, ◌<◌, Bool, true, false, cond, List, [], ◌∷◌, Option, Some, None, refl, sym, ap, ◌∙◌, subst, arith, eq-eqb, ◌==◌, ◌&&◌, if◌then◌else◌, is_some, not, slice_index_or, slice_set, unwrap_or, and_parts, eqb-false, eqb-true, false≢true, true≢false, get_or-set_at, get_or-set_other, thread_at, Act, Told, THREADS, Image, Change, Next, Pending, Steps, Thread, act_in, as_thread, came_in, continues, gone_part, to_thread, State, FineAct, Unseen, ThreadWord, thread_after, context_in, domain_in, is_visit, is_word_read, ready_in, begins_cleaning, Context, after_claim, after_show, after_take, dropped_at, goes_on_by, p_next, resumed, resumed_at, Todo, Todos, Scheduler, parked_at, put_back, sched_after, same_site, Exchange, FineStep, Site, AreBlocks, Fine, scheduler, word, has_steps, runs, runs_on, runs_thread, waits, Adds, Fits, is_over}
use Rattle.um_machine.specs.Table as T
use Rattle.um_fine.specs.Answers.{is_void, thread_in}
use Rattle.um_fine.specs.Continues.{changed_part}
use Rattle.um_fine.specs.Follows.{shown_step}
use Rattle.um_fine.specs.Joins.{Joins, asleep_at, join_after}
use Rattle.um_fine.specs.Places.{put_away}
use Rattle.um_fine.specs.Scheduler.{is_cut, to_kill}
use Rattle.um_refinement.specs.Fine.{joins, one_if}
use Rattle.um_refinement.specs.Frames.{IsNoted, accesses, acts, arming}
use Rattle.um_refinement.specs.Lists.{times}
use Rattle.um_refinement.specs.Stops.{LiesAt, asleep, parked, runs_it}
use Rattle.um_refinement.proofs.Continued.{Held, resumed-held}
use Rattle.um_refinement.proofs.ContextsPart.{is_shown, now-context, read-only, take-context}
use Rattle.um_refinement.proofs.EachUncut.{NotCut}
use Rattle.um_refinement.proofs.Erased.{around}
use Rattle.um_refinement.proofs.Leaves.{Beside, Lawful, Leaves, beside, cleans, cuts, drops, event, expires, leaves, nothing, passes, recycles, resumes, ticks, times_out}
use Rattle.um_refinement.proofs.ListGrips.{next-thread}
use Rattle.um_refinement.proofs.ListGrowth.{is_end}
use Rattle.um_refinement.proofs.ListRuns.{ends-rests, goes-runs, takes-none}
use Rattle.um_refinement.proofs.LooksPart.{part-of}
use Rattle.um_refinement.proofs.NoteFacts.{rests-unnoted}
use Rattle.um_refinement.proofs.NoteSteps.{Noting, final-note, finals, is_final, notes, noting, starts, stays, thread_of}
use Rattle.um_refinement.proofs.Offered.{IsStep, Shows, own-unless, runs-first, shown-on, shows-runs}
use Rattle.um_refinement.proofs.OncePart.{stays-over}
use Rattle.um_refinement.proofs.Others.{starts_other}
use Rattle.um_refinement.proofs.ParkedPart.{asleep-same, awake-act, idle-awake, is_sleeping, joins-later}
use Rattle.um_refinement.proofs.PartsElsewhere.{starts-apart}
use Rattle.um_refinement.proofs.PlacesFacts.{lies-once, lies-unslept, running-unparked, set-none}
use Rattle.um_refinement.proofs.Rousing.{said, sleepers}
use Rattle.um_refinement.proofs.RunningPart.{todo-elsewhere}
use Rattle.um_refinement.proofs.SchedulerSteps.{made-at, made-moves, made-says, sched-else, sched-later}
use Rattle.um_refinement.proofs.SleepFlags.{word-here}
use Rattle.um_refinement.proofs.StepReads.{is-behind, is-placed, reads-last}
use Rattle.um_refinement.proofs.StepsLeft.{offered-on, rests-on}
use Rattle.um_refinement.proofs.Taking.{Idles, IsTaken, idles, kill-thread, parks-after, takes, tends}

-- A note stays as a thread goes on, but where its call or the thread ends.

noted-changed : (change : Change) (c : Context) → (changed_part change c).noted ≡ c.noted
noted-changed Change.nothing c = refl
noted-changed (Change.register to value) c = refl
noted-changed (Change.copies bs) c = refl
noted-changed (Change.says reply) c = refl
noted-changed (Change.outcome reply taken) c = refl
noted-changed (Change.until deadline) c = refl

abbrev is_last : Next → Bool
is_last (Next.answers to reply) = true
is_last Next.exits = true
is_last (Next.fatal reason) = true
is_last next = false

noted-gone : (image : Image) (left : Steps) (next : Next) (c : Context) → is_last next ≡ false → (gone_part image left next c).noted ≡ c.noted
noted-gone image left (Next.on change way) c h = noted-changed change c
noted-gone image left (Next.checks x None way) c h = refl
noted-gone image left (Next.checks x (Some e) way) c h = refl
noted-gone image left (Next.answers to reply) c h = absurd (true≢false h)
noted-gone image left (Next.begins None) c h = refl
noted-gone image left (Next.begins (Some instr)) c h = refl
noted-gone image left (Next.resumes None) c h = refl
noted-gone image left (Next.resumes (Some told)) c h = refl
noted-gone image left Next.exits c h = absurd (true≢false h)
noted-gone image left (Next.fatal reason) c h = absurd (true≢false h)
noted-gone image left next c h = refl

noted-stays : (image : Image) (c : Context) (q : Pending) (rest : Steps) (act : Act) (moved : Exchange) → is_final q ≡ false → (continues image c 0 q rest act moved).noted ≡ c.noted
noted-stays image c Pending.Exit rest act moved h = absurd (true≢false h)
noted-stays image c Pending.Killed rest act moved h = absurd (true≢false h)
noted-stays image c (Pending.Fatal reason cause) rest act moved h = absurd (true≢false h)
noted-stays image c (Pending.Answer reply to) rest act moved h = absurd (true≢false h)
noted-stays image c q rest act moved h = noted-gone image rest (T.continues image c.thread (as_thread c) 0 q act (came_in q moved)) c refl

noted-ends : (image : Image) (c : Context) (q : Pending) (rest : Steps) (act : Act) (moved : Exchange) → is_final q ≡ true → (continues image c 0 q rest act moved).noted ≡ None
noted-ends image c Pending.Exit rest act moved h = refl
noted-ends image c Pending.Killed rest act moved h = refl
noted-ends image c (Pending.Fatal reason cause) rest act moved h = refl
noted-ends image c (Pending.Answer reply to) rest act moved h = refl
noted-ends image c q rest act moved h = absurd (false≢true h)

noted-resumed : (image : Image) (c : Context) (told : Told) → (resumed image c told).noted ≡ c.noted
noted-resumed image c told = by c.pending
  where
    by : (steps : Steps) → (resumed_at image c told steps).noted ≡ c.noted
    by (Pending.Resume ∷ rest) = refl
    by steps = refl

noted-killed : (b : Bool) (c : Context) → (to_kill b c).noted ≡ c.noted
noted-killed true c = refl
noted-killed false c = refl

-- lists whose first step may change a note
abbrev pub shows_first : Todos → Bool
shows_first (Todo.show q rest ∷ todo) = true
shows_first todo = false

abbrev touches : Todos → Bool
touches (Todo.note site ∷ todo) = true
touches todo = shows_first todo

abbrev listed_in : Todos → Pending
listed_in (Todo.show q rest ∷ todo) = q
listed_in todo = Pending.Exit

module _ (f : Fine) (m : State) (e : FineStep) (law : Lawful f m e) (s : State) (how : Leaves f m e s) (t : ℕ) (few : t < THREADS) where
  open around f e use {later, processor as p, now}
  open is-behind f m e law use {frame}

  abbrev Matches : Context → Type 0
  Matches c = is_some (word later t).note ≡ is_some c.noted

  -- an own part that lay before with this note, whose word is left
  from : (c d : Context) → LiesAt f t d → c.noted ≡ d.noted → (word later t).note ≡ (word f t).note → Matches c
  from c d lies same kept = ap is_some kept ∙ ((law.rel.threads t few).note.there d lies ∙ ap is_some (sym same))

  not-started : (d : Context) → LiesAt f t d → (q : Pending) (rest : Steps) (todo : Todos) → Shows f m e.cpu e q rest todo → NotCut q → (starts_other t q → ⊥) → ⊥
  not-started d lies q rest todo h uncut other =
      let is = part-of f m e law s how t few d lies in
      other (subst (λ n. starts_other n q) is.2 (starts-apart f m e law d is.0 is.1 q rest todo h uncut))

  runs-mine : runs p ≡ true → p.context.thread ≡ t → is_over p.context ≡ false → runs_on t p ≡ true
  runs-mine running same on = λ i. (running i && eq-eqb p.context.thread t same i) && not (on i)

  runs-note : (site : ℕ) (todo : Todos) → p.todo ≡ Todo.note site ∷ todo → p.context.thread ≡ t → runs_on t p ≡ true
  runs-note site todo at same =
      runs-mine (runs-first law.rel law.by.named (Todo.note site) todo at (λ hand. hand)) same
      (noted-on (frame (Todo.note site) todo at) (subst (Fits f.image p.context) at (law.rel.processors e.cpu law.by.named).list.fits 0))
    where
      c : Context
      c = record p.context { noted = Some 0 }

      noted-on : {todo : Todos} → IsNoted f.image site todo → Fits f.image c todo → is_over p.context ≡ false
      noted-on (acts {q} {rest} is) fits = offered-on f.image c q rest fits.0
      noted-on (accesses {q} {rest} is) fits = offered-on f.image c q rest fits.0
      noted-on (arming {q} {rest} arms is) fits = offered-on f.image c q rest fits.0

  -- one that lay elsewhere than with the maker
  elsewhere : (c d : Context) → LiesAt f t d → c.noted ≡ d.noted → (runs_on t p ≡ true → ⊥) → Matches c
  elsewhere c d lies same apart = by (noting f m e law t few s how)
    where
      by : Noting f m e law t few → Matches c
      by (stays kept) = from c d lies same kept
      by (notes site todo at on is) = absurd (apart (runs-note site todo at (ap thread_of (sym (made-at f m e law (Todo.note site ∷ todo) at) ∙ on))))
      by (finals q rest todo h fin own is) = absurd (apart (runs-mine (shows-runs h) own (shown-on h)))
      by (starts q rest todo h other uncut is) = absurd (not-started d lies q rest todo h uncut other)

  plain-word : touches p.todo ≡ false → (word later t).note ≡ (word f t).note
  plain-word plain = by (noting f m e law t few s how)
    where
      by : Noting f m e law t few → (word later t).note ≡ (word f t).note
      by (stays kept) = kept
      by (notes site todo at on is) = absurd (true≢false (sym (ap touches at) ∙ plain))
      by (finals q rest todo h fin own is) = absurd (true≢false (sym (ap touches h.at) ∙ plain))
      by (starts q rest todo h other uncut is) = absurd (true≢false (sym (ap touches h.at) ∙ plain))

  claim-noted : (d : ℕ) (init : Bool) (todo : Todos) → (after_claim p d init 0 todo).context.noted ≡ p.context.noted
  claim-noted d true todo = refl
  claim-noted d false todo = refl

  drop-noted : (x : ℕ) (b : Bool) → (dropped_at f.image p.context x b).noted ≡ p.context.noted
  drop-noted x true = refl
  drop-noted x false = refl

  -- The thread of the maker.

  module _ (running : runs now ≡ true) (same : now.context.thread ≡ t) (on : is_over now.context ≡ false) where
    took : (first : IsTaken f e) → p.todo ≡ [] → Matches now.context
    took first at =
        from now.context first.parked (parked first.parked (subst (λ u. parked_at (scheduler f) u ≡ Some first.parked) index first.there))
        (ap (λ (z : Context). z.noted) context ∙ (noted-of first.told ∙ noted-killed (is_cut (scheduler f) first.thread) first.parked)) (plain-word (ap touches at))
      where
        c : Context
        c = to_kill (is_cut (scheduler f) first.thread) first.parked

        context : now.context ≡ (after_take f.image p (Exchange.thread c first.told)).context
        context = now-context f m e law [] at ∙ ap (λ (mv : Exchange). (after_take f.image p mv).context) first.moved

        thread-of : (told : Option Told) → (after_take f.image p (Exchange.thread c told)).context.thread ≡ c.thread
        thread-of None = ap (λ (d : Context). d.thread) (take-context f.image p c)
        thread-of (Some w) = ap (λ (h : Held). h.0) (resumed-held f.image c w)

        index : first.thread ≡ t
        index = sym (ap (λ (d : Context). d.thread) context ∙ (thread-of first.told ∙ (kill-thread (is_cut (scheduler f) first.thread) first.parked ∙ first.same))) ∙ same

        noted-of : (told : Option Told) → (after_take f.image p (Exchange.thread c told)).context.noted ≡ c.noted
        noted-of None = ap (λ (d : Context). d.noted) (take-context f.image p c)
        noted-of (Some w) = noted-resumed f.image c w

    idle-lay : p.todo ≡ [] → Idles f e → Matches now.context
    idle-lay at (takes first) = took first at
    idle-lay at (tends is) = absurd (false≢true (sym (takes-none f.image p e at is.other is.quiet) ∙ running))

    -- the thread that goes on with its list
    own-thread : (q : Todo) (todo : Todos) → p.todo ≡ q ∷ todo → is_end q ≡ false → p.context.thread ≡ t
    own-thread q todo at ends = sym (next-thread f.image p e q todo at ends) ∙ same

    goes : (q : Todo) (todo : Todos) → p.todo ≡ q ∷ todo → is_end q ≡ false → now.context.noted ≡ p.context.noted → (word later t).note ≡ (word f t).note → Matches now.context
    goes q todo at ends noted kept =
        let steps = goes-runs f.image p e q todo at ends (frame q todo at) (reads-last f m e law q todo at) (subst (AreBlocks f.image) at (law.rel.processors e.cpu law.by.named).blocks) in
        from now.context p.context
        (runs_it e.cpu law.by.named (λ i. (sym steps ∙ running) i && eq-eqb p.context.thread t (own-thread q todo at ends) i) (by (is_over p.context) refl)) noted kept
      where
        by : (b : Bool) → is_over p.context ≡ b → b ≡ false
        by true over = absurd (true≢false (sym (stays-over f m e law s how t few q todo at ends over) ∙ on))
        by false still = refl

    ended : (q : Todo) (todo : Todos) → p.todo ≡ q ∷ todo → is_end q ≡ true → begins_cleaning e ≡ false → Matches now.context
    ended q todo at over quiet = absurd (false≢true (sym (ap (λ (z : Todos). has_steps z && not (times z)) (ends-rests f.image p e q todo at over quiet)) ∙ running))

    here : (q : Todo) (todo : Todos) → p.todo ≡ q ∷ todo → now.context.noted ≡ (goes_on_by f.image p e (q ∷ todo)).context.noted
    here q todo at = ap (λ (c : Context). c.noted) (now-context f m e law (q ∷ todo) at)

    module _ (r : Pending) (left : Steps) (todo : Todos) (at : p.todo ≡ Todo.show r left ∷ todo) where
      -- a look at the own word
      reads : is_word_read e.act ≡ true → Matches now.context
      reads read =
          goes (Todo.show r left) todo at refl
          (here (Todo.show r left) todo at
          ∙ ap (λ b. (if b then record p { todo = put_away (thread_in e.word).doomed } else after_show f.image p e (shown_step f.image r e.act) left todo).context.noted) read)
          (by (noting f m e law t few s how))
        where
          by : Noting f m e law t few → (word later t).note ≡ (word f t).note
          by (stays kept) = kept
          by (notes site todo there on is) = absurd (true≢false (ap shows_first (sym at ∙ there)))
          by (finals q rest todo h fin own is) = absurd (true≢false (sym read ∙ h.shown))
          by (starts q rest todo h other uncut is) = absurd (true≢false (sym read ∙ h.shown))

      shows-event : (q : Pending) (rest : Steps) (over : Todos) (x : ℕ) → Shows f m e.cpu e q rest over → IsStep f m e.cpu e x q → Matches now.context
      shows-event q rest over x h is = by (is_final q) refl
        where
          context : now.context ≡ continues f.image p.context 0 q rest (act_in e.act) e.moved
          context =
              now-context f m e law (Todo.show h.listed rest ∷ over) h.at
              ∙ (ap (λ b. (if b then record p { todo = put_away (thread_in e.word).doomed } else after_show f.image p e (shown_step f.image h.listed e.act) rest over).context) h.shown
              ∙ ap (λ r. (after_show f.image p e r rest over).context) h.made)

          same-step : (z : Pending) (rest2 : Steps) (over2 : Todos) → Shows f m e.cpu e z rest2 over2 → z ≡ q
          same-step z rest2 over2 k = sym k.made ∙ (ap (λ (l : Todos). shown_step f.image (listed_in l) e.act) (sym k.at ∙ h.at) ∙ h.made)

          lies : is_end (Todo.show r left) ≡ false
          lies = refl

          kept : is_final q ≡ false → Noting f m e law t few → (word later t).note ≡ (word f t).note
          kept other (stays k) = k
          kept other (notes site todo there on is) = absurd (true≢false (ap shows_first (sym at ∙ there)))
          kept other (finals z rest2 over2 k fin own is) = absurd (true≢false (sym fin ∙ (ap is_final (same-step z rest2 over2 k) ∙ other)))
          kept plain (starts z rest2 over2 k other uncut is) =
              absurd (not-started p.context
              (runs_it e.cpu law.by.named (λ i. shows-runs k i && eq-eqb p.context.thread t (own-thread (Todo.show r left) todo at refl) i) (shown-on k)) z rest2 over2 k uncut other)

          by : (b : Bool) → is_final q ≡ b → Matches now.context
          by true fin =
              ap is_some (final-note f m e law t few q rest over x h is fin (own-thread (Todo.show r left) todo at refl))
              ∙ sym (ap (λ (z : Context). is_some z.noted) context ∙ ap is_some (noted-ends f.image p.context q rest (act_in e.act) e.moved fin))
          by false other =
              goes (Todo.show r left) todo at refl (ap (λ (z : Context). z.noted) context ∙ noted-stays f.image p.context q rest (act_in e.act) e.moved other)
              (kept other (noting f m e law t few s how))

      shows-lay : (z : State) → Leaves f m e z → Matches now.context
      shows-lay _ (nothing u said) = reads (read-only f m e law r (made-says f m e law (Todo.show r left ∷ todo) at) (ap is_shown said))
      shows-lay _ (event q rest over x h shown is) = shows-event q rest over x h is
      shows-lay _ (resumes c told rest idle moved said) = absurd (true≢false (ap shows_first (sym at ∙ idle)))
      shows-lay _ (passes who x rest over h said) = absurd (true≢false (ap shows_first (sym at ∙ h.at)))
      shows-lay _ (drops source x rest over h said) = absurd (true≢false (ap shows_first (sym at ∙ h.at)))
      shows-lay _ (cleans who x rest over h said) = absurd (true≢false (ap shows_first (sym at ∙ h.at)))
      shows-lay _ (recycles x rest over there l said chosen) = absurd (true≢false (ap shows_first (sym at ∙ there)))
      shows-lay _ (beside u x q done chosen started) = by done
        where
          by : {u x : ℕ} {q : Pending} → Beside f m e u x q → Matches now.context
          by (cuts who site before x over there place inside said) = absurd (true≢false (ap shows_first (sym at ∙ there)))
          by (times_out deadline site x who over there place inside said) = absurd (true≢false (ap shows_first (sym at ∙ there)))
          by (expires deadline x over there inside said) = absurd (true≢false (ap shows_first (sym at ∙ there)))
          by (ticks there said) = absurd (true≢false (ap shows_first (sym at ∙ there)))
          by (leaves over there said) = absurd (true≢false (ap shows_first (sym at ∙ there)))

    plain : (q : Todo) (todo : Todos) → p.todo ≡ q ∷ todo → is_end q ≡ false → touches (q ∷ todo) ≡ false → now.context.noted ≡ p.context.noted → Matches now.context
    plain q todo at ends other noted = goes q todo at ends noted (plain-word (ap touches at ∙ other))

    lay : (todo : Todos) → p.todo ≡ todo → Matches now.context
    lay [] at = idle-lay at (idles f m e law at)
    lay (Todo.show q rest ∷ todo) at = shows-lay q rest todo at s how
    lay (Todo.note site ∷ todo) at =
        let site-is : e.site ≡ Site.thread t = made-at f m e law (Todo.note site ∷ todo) at ∙ ap Site.thread (own-thread (Todo.note site) todo at refl) in
        let on : same_site e.site (Site.thread t) ≡ true = ap (λ i. same_site i (Site.thread t)) site-is ∙ eq-eqb t t refl in
        let note : (word later t).note ≡ Some site =
        ap (λ (w : ThreadWord). w.note) (word-here f m e law t few on) ∙ ap (λ a. (thread_after (word f t) a).note) (made-says f m e law (Todo.note site ∷ todo) at) in
        ap is_some note ∙ sym (ap is_some (here (Todo.note site) todo at))
    lay (Todo.sleep ∷ todo) at = absurd (true≢false (sym (ap is_over (now-context f m e law (Todo.sleep ∷ todo) at)) ∙ on))
    lay (Todo.read_claim (Some d) ∷ todo) at = plain (Todo.read_claim (Some d)) todo at refl refl (here (Todo.read_claim (Some d)) todo at ∙ claim-noted d (domain_in e.word).init todo)
    lay (Todo.read_claim None ∷ todo) at = plain (Todo.read_claim None) todo at refl refl (here (Todo.read_claim None) todo at)
    lay (Todo.drop x ∷ todo) at = plain (Todo.drop x) todo at refl refl (here (Todo.drop x) todo at ∙ drop-noted x (is_visit e.act))
    lay (Todo.park ∷ todo) at = ended Todo.park todo at refl (ap (λ a. begins_cleaning (record e { act = a })) (made-says f m e law (Todo.park ∷ todo) at))
    lay (Todo.done ∷ todo) at = ended Todo.done todo at refl (ap (λ a. begins_cleaning (record e { act = a })) (made-says f m e law (Todo.done ∷ todo) at))
    lay (Todo.paid ∷ todo) at = ended Todo.paid todo at refl (ap (λ a. begins_cleaning (record e { act = a })) (made-says f m e law (Todo.paid ∷ todo) at))
    lay (q ∷ todo) at = plain q todo at refl refl (here q todo at)

  some-one : {c d : Context} → Some c ≡ Some d → c ≡ d
  some-one {c} h = ap (λ (o : Option Context). unwrap_or o c) h

  -- One that is parked.

  parked-apart : (c : Context) → parked_at (scheduler f) t ≡ Some c → runs_on t p ≡ true → ⊥
  parked-apart c there on = false≢true (sym (running-unparked f m law.rel t few e.cpu law.by.named on) ∙ ap is_some there)

  parked-still : (c : Context) → parked_at (scheduler f) t ≡ Some c → Matches c
  parked-still c there = elsewhere c c (parked c there) refl (parked-apart c there)

  asleep-still : (c : Context) → asleep_at (joins f) t ≡ Some c → Matches c
  asleep-still c there =
      elsewhere c c (asleep c there) refl
      (λ on. let one = ap one_if on in false≢true (sym (lies-unslept f m law.rel t few e.cpu law.by.named (omega (arith, one))) ∙ ap is_some there))

  -- the maker's own part lay with it
  mine-from : (c : Context) → runs p ≡ true → p.context.thread ≡ t → is_over p.context ≡ false → c ≡ p.context → touches p.todo ≡ false → Matches c
  mine-from c running same on is plain =
      from c p.context (runs_it e.cpu law.by.named (λ i. running i && eq-eqb p.context.thread t same i) on) (ap (λ (z : Context). z.noted) is) (plain-word plain)

  put-lay : (b : Bool) (d c : Context) → d.thread < THREADS → parked_at (put_back (scheduler f) b d) t ≡ Some c → (d.thread ≡ t → c ≡ d → Matches c) → Matches c
  put-lay b d c small there mine = which (t == d.thread) refl
    where
      which : (v : Bool) → (t == d.thread) ≡ v → Matches c
      which true same =
          let equal = eqb-true t d.thread same in
          let long = law.rel.scheduler.parked in
          let at = get_or-set_at (scheduler f).parked d.thread t (Some d) None equal (omega (arith, small, long, equal)) in
          mine (sym equal) (sym (some-one (sym at ∙ there)))
      which false other = parked-still c (sym (get_or-set_other (scheduler f).parked d.thread t (Some d) None (eqb-false t d.thread other)) ∙ there)

  parked-lay : (c : Context) → parked_at (scheduler later) t ≡ Some c → Matches c
  parked-lay c there = by p.todo refl
    where
      still : scheduler later ≡ scheduler f → Matches c
      still same = parked-still c (sym (ap (λ (z : Scheduler). parked_at z t) same) ∙ there)

      resting : Idles f e → Matches c
      resting (tends is) = still (sched-else f m e law (ap (λ i. same_site i Site.scheduler) is.site))
      resting (takes first) = which (t == first.thread) refl
        where
          stands : slice_index_or (slice_set (scheduler f).parked first.thread None) t None ≡ Some c
          stands = sym (ap (λ (z : Scheduler). parked_at z t) first.after) ∙ there

          which : (b : Bool) → (t == first.thread) ≡ b → Matches c
          which true same =
              absurd (false≢true (ap is_some (sym (subst (λ n. slice_index_or (slice_set (scheduler f).parked first.thread None) n None ≡ None) (sym (eqb-true t first.thread same)) (set-none (scheduler f).parked first.thread)) ∙ stands)))
          which false other = parked-still c (sym (get_or-set_other (scheduler f).parked first.thread t None None (eqb-false t first.thread other)) ∙ stands)

      parks : (todo : Todos) → p.todo ≡ Todo.park ∷ todo → Matches c
      parks todo at =
          let fits = subst (Fits f.image p.context) at (law.rel.processors e.cpu law.by.named).list.fits in
          let running = runs-first law.rel law.by.named Todo.park todo at (λ hand. hand) in
          put-lay (ready_in e.act) p.context c (law.rel.contexts.running e.cpu law.by.named running).index (sym (ap (λ (z : Scheduler). parked_at z t) (parks-after f m e law todo at)) ∙ there)
          (λ same is. mine-from c running same fits.1 is (ap touches at))

      adds : (d : Context) (todo : Todos) → p.todo ≡ Todo.add d ∷ todo → Matches c
      adds d todo at =
          let new = law.rel.contexts.added e.cpu d law.by.named (subst (Adds d) (sym at) (inl refl)) in
          let after = sched-later f m e law (made-at f m e law (Todo.add d ∷ todo) at) (FineAct.Unseen (Unseen.Add (to_thread d.thread))) (made-says f m e law (Todo.add d ∷ todo) at)
          ∙ ap (λ (mv : Exchange). put_back (scheduler f) true (context_in mv)) (made-moves f m e law (Todo.add d ∷ todo) at) in
          put-lay true d c new.0.index (sym (ap (λ (z : Scheduler). parked_at z t) after) ∙ there)
          (λ same is.
          let rests : (thread_at m t).pending ≡ [] = subst (λ n. (thread_at m n).pending ≡ []) same (sym (ap (λ (z : Thread). z.pending) (own-unless new.0 (ap waits new.2))) ∙ new.2) in
          ap is_some (plain-word (ap touches at) ∙ rests-unnoted f m t (law.rel.threads t few).note rests) ∙ sym (ap is_some (ap (λ (z : Context). z.noted) is ∙ new.3)))

      at-scheduler : (q : Todo) (todo : Todos) (act : FineAct) → e.site ≡ Site.scheduler → e.act ≡ act → parked_at (sched_after (scheduler f) act e.moved) t ≡ parked_at (scheduler f) t → Matches c
      at-scheduler q todo act site said same = parked-still c (sym same ∙ (sym (ap (λ (z : Scheduler). parked_at z t) (sched-later f m e law site act said)) ∙ there))

      by : (todo : Todos) → p.todo ≡ todo → Matches c
      by [] at = resting (idles f m e law at)
      by (Todo.park ∷ todo) at = parks todo at
      by (Todo.add d ∷ todo) at = adds d todo at
      by (Todo.wake who told ∷ todo) at = at-scheduler (Todo.wake who told) todo _ (made-at f m e law (Todo.wake who told ∷ todo) at) (made-says f m e law (Todo.wake who told ∷ todo) at) refl
      by (Todo.tell_cut who ∷ todo) at = at-scheduler (Todo.tell_cut who) todo _ (made-at f m e law (Todo.tell_cut who ∷ todo) at) (made-says f m e law (Todo.tell_cut who ∷ todo) at) refl
      by (Todo.owe ∷ todo) at = at-scheduler Todo.owe todo _ (made-at f m e law (Todo.owe ∷ todo) at) (made-says f m e law (Todo.owe ∷ todo) at) refl
      by (Todo.paid ∷ todo) at = at-scheduler Todo.paid todo _ (made-at f m e law (Todo.paid ∷ todo) at) (made-says f m e law (Todo.paid ∷ todo) at) refl
      by (Todo.done ∷ todo) at = at-scheduler Todo.done todo _ (made-at f m e law (Todo.done ∷ todo) at) (made-says f m e law (Todo.done ∷ todo) at) refl
      by (q ∷ todo) at = still (sched-else f m e law (ap (λ i. same_site i Site.scheduler) (made-at f m e law (q ∷ todo) at) ∙ todo-elsewhere f.image p q todo refl (is-placed f m e law q todo at)))

  -- One that sleeps.

  asleep-lay : (c : Context) → asleep_at (joins later) t ≡ Some c → Matches c
  asleep-lay c there = by p.todo refl
    where
      still : (joins later).asleep ≡ (joins f).asleep → Matches c
      still same = asleep-still c (sym (ap (λ (l : List (Option Context)). slice_index_or l t None) same) ∙ there)

      sleeps-now : (todo : Todos) → p.todo ≡ Todo.sleep ∷ todo → Matches c
      sleeps-now todo at = which (t == p.context.thread) refl
        where
          stands : slice_index_or (slice_set (joins f).asleep p.context.thread (Some p.context)) t None ≡ Some c
          stands =
              sym (ap (λ (j : Joins). asleep_at j t)
              (joins-later f m e law (made-at f m e law (Todo.sleep ∷ todo) at) (FineAct.Unseen Unseen.Sleep) (made-says f m e law (Todo.sleep ∷ todo) at)
              ∙ ap (λ (mv : Exchange). join_after (joins f) (FineAct.Unseen Unseen.Sleep) mv) (made-moves f m e law (Todo.sleep ∷ todo) at)))
              ∙ there

          which : (v : Bool) → (t == p.context.thread) ≡ v → Matches c
          which true same =
              let fits = subst (Fits f.image p.context) at (law.rel.processors e.cpu law.by.named).list.fits in
              let running = runs-first law.rel law.by.named Todo.sleep todo at (λ hand. hand) in
              let small = (law.rel.contexts.running e.cpu law.by.named running).index in
              let equal = eqb-true t p.context.thread same in
              let long = law.rel.joins.asleep in
              let here = get_or-set_at (joins f).asleep p.context.thread t (Some p.context) None equal (omega (arith, small, long, equal)) in
              mine-from c running (sym equal) (rests-on p.context fits.1) (sym (some-one (sym here ∙ stands))) (ap touches at)
          which false other = asleep-still c (sym (get_or-set_other (joins f).asleep p.context.thread t (Some p.context) None (eqb-false t p.context.thread other)) ∙ stands)

      rouses-now : (who : ℕ) (todo : Todos) → p.todo ≡ Todo.rouse who ∷ todo → (b : Bool) → is_void e.act ≡ b → Matches c
      rouses-now who todo at true void = still (asleep-same f m e law (ap is_sleeping (said f m e law who todo at true void)))
      rouses-now who todo at false found = which (t == who) refl
        where
          stands : slice_index_or (slice_set (joins f).asleep who None) t None ≡ Some c
          stands = sym (ap (λ (l : List (Option Context)). slice_index_or l t None) (sleepers f m e law who todo at found)) ∙ there

          which : (v : Bool) → (t == who) ≡ v → Matches c
          which true same =
              absurd (false≢true (ap is_some (sym (subst (λ n. slice_index_or (slice_set (joins f).asleep who None) n None ≡ None) (sym (eqb-true t who same)) (set-none (joins f).asleep who)) ∙ stands)))
          which false other = asleep-still c (sym (get_or-set_other (joins f).asleep who t None None (eqb-false t who other)) ∙ stands)

      by : (todo : Todos) → p.todo ≡ todo → Matches c
      by [] at = still (asleep-same f m e law (idle-awake f m e law at))
      by (Todo.sleep ∷ todo) at = sleeps-now todo at
      by (Todo.rouse who ∷ todo) at = rouses-now who todo at (is_void e.act) refl
      by (q ∷ todo) at = still (asleep-same f m e law (awake-act f m e law q todo at refl))

  pub note-there : (c : Context) → LiesAt later t c → Matches c
  note-there _ (runs_it k l running on) = by (e.cpu == k) refl running on
    where
      by : (b : Bool) → (e.cpu == k) ≡ b → runs_thread t (cond b (p_next f.image (f.processors k) e) (f.processors k)) ≡ true → is_over (cond b (p_next f.image (f.processors k) e) (f.processors k)).context ≡ false
          → Matches (cond b (p_next f.image (f.processors k) e) (f.processors k)).context
      by true q running on =
          subst (λ j. runs_thread t (p_next f.image (f.processors j) e) ≡ true → is_over (p_next f.image (f.processors j) e).context ≡ false → Matches (p_next f.image (f.processors j) e).context) (eqb-true e.cpu k q)
          (λ running on. let parts = and_parts (runs now) _ running in lay parts.0 (eqb-true now.context.thread t parts.1) on p.todo refl) running on
      by false q running on =
          let c = (f.processors k).context in
          elsewhere c c (runs_it k l running on) refl
          (λ mine.
          let there : runs_on t (f.processors k) ≡ true = λ i. running i && not (on i) in
          let one = ap one_if mine in
          let two = ap one_if there in
          lies-once f m law.rel t few e.cpu k law.by.named l (eqb-false e.cpu k q) (omega (arith, one)) (omega (arith, two)))
  note-there _ (parked c there) = parked-lay c there
  note-there _ (asleep c there) = asleep-lay c there
