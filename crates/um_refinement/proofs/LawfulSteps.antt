-- Each lawful step is one of the machine, or leaves it: given a few facts of the machine's state, what it makes of that state
-- is one of the kinds of `Leaves`.
use Rattle.um_refinement.proofs.Words.{opening, is_some, Act, Addr, Amount, Ask, Bool, Cell, Exchange, Fine, FineAct, FineStep, Fits, Guarded, Image, IsStatic, IsTrue, List, MayChoose, None, Offers, Pending, ROWS, Site, SiteState, Some, State, Steps, THREADS, ThreadIs, ThreadIx, Todo, Todos, Unseen, [], act_in, address_of, and_from, and_parts, ap, behind_birth, by_me, bytes, call_is, eq-eqb, false, false≢true, goes, if◌then◌else◌, inl, inr, is_visit, is_word_read, leftover_in, length, list_all, list_any, ltb-true, names_row, nat_lt, not, own_row, refl, row_named, says_show, shows, site_takes, skips_drops, skips_inherit, slice_index_or, subst, sym, tends, thread_at, to_thread, true, true≢false, waits, woken_in, ℕ, ◌&&◌, ◌<◌, ◌==◌, ◌∙◌, ◌∷◌, ◌≡◌}
use Rattle.um_machine.specs.Joins as Plain
use Rattle.um_machine.specs.State.{is_waiting, object_at, waiters_in}
use Rattle.um_machine.specs.Table as T
use Rattle.um_machine.specs.Time.{has_run_out, next_deadline}
use Rattle.um_fine.specs.Seeking.{stands_in}
use Rattle.um_words.specs.declared.fine.Mark.{Mark}
use Rattle.um_fine.specs.Answers.{is_killed, is_shut_act, is_void, now_in}
use Rattle.um_fine.specs.Asks as A
use Rattle.um_fine.specs.Asks.{by_actor, says_turn}
use Rattle.um_fine.specs.Follows.{shown_step}
use Rattle.um_fine.specs.Joins.{is_shut}
use Rattle.um_fine.specs.Processor.{actor_or}
use Rattle.um_refinement.specs.Fine.{joins}
use Rattle.um_refinement.specs.Stops.{HasOwn, clears_own}
use Rattle.um_refinement.proofs.CallsProper.{AreProper, offered-proper}
use Rattle.um_refinement.proofs.CallSteps.{Proper}
use Rattle.um_refinement.proofs.FutexSteps.{wait-step, wake-step}
use Rattle.um_refinement.proofs.JoinSteps.{join-step}
use Rattle.um_refinement.proofs.Kept.{IdleStep, gives, idle-step, turns}
use Rattle.um_refinement.proofs.Kept as K
use Rattle.um_refinement.proofs.LeaveSteps.{leave-started, left-chosen, left-step}
use Rattle.um_refinement.proofs.SearchSteps.{cut-cell, cut-chosen, cut-started, cut-step, expire-chosen, expire-step, timeout-cell, timeout-chosen, timeout-step, timer-below}
use Rattle.um_refinement.proofs.StepsLeft.{BeginsNothing, first-rests, offered-awake}
use Rattle.um_refinement.proofs.StopSteps.{abort-step, continue-step, suspend-step}
use Rattle.um_refinement.proofs.FirstWaits.{IsBooted, opening-armed, opening-calm, opening-waits, stopped-stays}
use Rattle.um_refinement.proofs.TimeSteps.{acts-started, arm-step, arm-timer-step, tick-chosen, tick-step}
use Rattle.um_refinement.proofs.WaitersFound.{WaitersWait}
use Rattle.um_refinement.proofs.CallsKnown.{RestsHoldNothing, calls-known}
use Rattle.um_refinement.proofs.CleanSteps.{Calls, OwnRows, clean-pair-step, recycle-chosen, recycle-step}
use Rattle.um_refinement.proofs.DomainSteps.{add-step, init-step, remove-step}
use Rattle.um_refinement.proofs.DropSteps.{drop-pair-step, drop-step}
use Rattle.um_refinement.proofs.Erased.{Goes, GoesBy, around}
use Rattle.um_refinement.proofs.HeapSteps.{buffer-step, reserve-step}
use Rattle.um_refinement.proofs.Leaves.{HasStep, Lawful, Leaves, beside, cleans, cuts, drops, event, expires, leaves, nothing, passes, recycles, resumes, ticks, times_out}
use Rattle.um_refinement.proofs.MemoryPart.{InDomains, held-domain, wait-domain}
use Rattle.um_refinement.proofs.MemorySteps.{copy-in-step, copy-out-step, fetch-step, load-step, memory-sort, probe-step, store-step}
use Rattle.um_refinement.proofs.ObjectsKept.{row-below}
use Rattle.um_refinement.proofs.Offered.{IsStep, Shows, act-is, at-made, begins-nothing, machine-step, own-part, shown-offers, shows-runs, site-is, step-goes}
use Rattle.um_refinement.proofs.Reachable.{sound-held}
use Rattle.um_refinement.proofs.ResumeSteps.{TellsWaiters, resume-step}
use Rattle.um_refinement.proofs.RowSteps.{check-step, grant-step, named-row, own-step, publish-step, set-step}
use Rattle.um_refinement.proofs.RowsPart.{found, named-below}
use Rattle.um_refinement.proofs.SchedulerSteps.{made-at, made-says}
use Rattle.um_refinement.proofs.Shown.{answer-step, begin-step, exit-step}
use Rattle.um_refinement.proofs.TextSteps.{copy-str-step}
use Rattle.um_refinement.proofs.VisitSteps.{Visits, pass-step}
use Rattle.um_refinement.proofs.WordsKept.{IsShown}
use Rattle.um_refinement.proofs.WorkSteps.{get-probe-step, move-step, put-copy-step, work-step}

-- an edit is of one of so many domains
abbrev pub EditsOne : ℕ → Pending → Type 0
EditsOne n (Pending.DomInit d parts) = d < n
EditsOne n (Pending.DomAdd d range attr) = d < n
EditsOne n (Pending.DomRemove d range attr) = d < n
EditsOne n q = Unit {0}

-- What the events ask of the machine's state beside what is known of it: edits are of the image's domains, a call works on an object that
-- it holds, only threads that wait are told anything, who is in no call holds nothing by one, the steps that are left of calls are proper, and who
-- stands in a cell waits.
pub record Suits (f : Fine) (m : State) : Type 0 where
  pub edits : (t : ℕ) (q : Pending) (rest : Steps) → Offers m t q rest → EditsOne (length f.image.domains) q
  pub works : (t : ℕ) (a : Addr) (ask : Ask) (rest : Steps) → Offers m t (Pending.Work a ask) rest → slice_index_or (thread_at m t).checked (T.row_of m a) false ≡ true
  pub tells : TellsWaiters m
  pub rests : RestsHoldNothing m
  pub proper : AreProper m.image m
  pub waits : WaitersWait m
  pub booted : IsBooted m

-- what a step leaves, and that the machine goes there
pub record Next (f : Fine) (m : State) (e : FineStep) : Type 0 where
  pub state : State
  pub goes : Goes m e state
  pub leaves : Leaves f m e state
  pub has : HasStep f m e state leaves

module _ (f : Fine) (m : State) (e : FineStep) (law : Lawful f m e) (suits : Suits f m) (own : OwnRows f.image) (all : InDomains f m) where
  calls : Calls m
  calls = calls-known m law.sound suits.rests

  open around f e use {processor as p}

  quietly : (u : Unseen) → e.act ≡ FineAct.Unseen u → Next f m e
  quietly u said = record { state = m; goes = subst (λ act. GoesBy m act m) (sym said) refl; leaves = nothing u said; has = tt }

  row-named : (a : Addr) → row_named f.image a < ROWS
  row-named a = ltb-true (row_named f.image a) ROWS (named-below f m e law a)

  -- the row of a new thread's own object
  own-below : (t : ℕ) (who : ThreadIx) (rest : Steps) → Offers m t (Pending.Own who) rest → own_row f.image who.0 < ROWS
  own-below t who rest offers = subst (λ (i : Image). own_row i who.0 < ROWS) law.rel.image (by offers)
    where
      static : IsStatic m.image (thread_at m t).checked (own_row m.image who.0) → own_row m.image who.0 < ROWS
      static (inl l) = row-below m law.sound (own_row m.image who.0) (inl l)
      static (inr r) = row-below m law.sound (own_row m.image who.0) r.0

      guarded : Guarded m.image (thread_at m t).checked (behind_birth (thread_at m t).pending)
      guarded = subst (λ (c : _). Guarded m.image c.checked (behind_birth c.pending)) (call_is m t) (law.sound.known.reached.guarded t)

      by : {left : Steps} → Offers m t (Pending.Own who) left → own_row m.image who.0 < ROWS
      by (goes q) = static (subst (λ (steps : Steps). Guarded m.image (thread_at m t).checked (behind_birth steps)) q guarded).0
      by (skips_inherit q due) = static (subst (λ (steps : Steps). Guarded m.image (thread_at m t).checked (behind_birth steps)) q guarded).0
      by (skips_drops q due) = static (subst (λ (steps : Steps). Guarded m.image (thread_at m t).checked (behind_birth steps)) q guarded).0
      by (tends is started) = absurd (false≢true is)

  -- who is named by an abort and its like is one of the machine's threads
  pub abort-below : (t : ℕ) (who : ThreadIx) (rest : Steps) → Offers m t (Pending.Abort who) rest → who.0 < THREADS
  abort-below t who rest offers = (offered-proper m t 0 (suits.proper t) (Pending.Abort who) rest offers).0.0

  suspend-below : (t : ℕ) (who : ThreadIx) (rest : Steps) → Offers m t (Pending.Suspend who) rest → who.0 < THREADS
  suspend-below t who rest offers = (offered-proper m t 0 (suits.proper t) (Pending.Suspend who) rest offers).0.0

  continue-below : (t : ℕ) (who : ThreadIx) (rest : Steps) → Offers m t (Pending.Continue who) rest → who.0 < THREADS
  continue-below t who rest offers = (offered-proper m t 0 (suits.proper t) (Pending.Continue who) rest offers).0.0

  -- An event of an instruction.

  exits-nowhere : (act : FineAct) → e.act ≡ act → e.site ≡ Site.memory → site_takes (SiteState.cell 0 (Cell.memory (bytes f))) act ≡ false → ⊥
  exits-nowhere act said site none = false≢true (sym (both none) ∙ takes)
    where
      at : (n : ℕ) × (f.sites Site.memory ≡ SiteState.cell n (Cell.memory (bytes f)))
      at = memory-sort (f.sites Site.memory) (law.rel.sorts Site.memory)

      takes : site_takes (SiteState.cell at.0 (Cell.memory (bytes f))) act ≡ true
      takes =
          subst (λ (s : SiteState). site_takes s act ≡ true) at.1
          (subst (λ (z : Site × FineAct). site_takes (f.sites z.0) z.1 ≡ true) (λ j. (site j, said j)) law.taken.takes)

      both : site_takes (SiteState.cell 0 (Cell.memory (bytes f))) act ≡ false → site_takes (SiteState.cell at.0 (Cell.memory (bytes f))) act ≡ false
      both h = ap (λ b. nat_lt at.0 268435455 && b) h ∙ no (nat_lt at.0 268435455)
        where
          no : (b : Bool) → (b && false) ≡ false
          no true = refl
          no false = refl

  -- whoever clears its own object has nobody who waits for its end
  clear-chosen : (a : Addr) (rest : Steps) (todo : Todos) → Shows f m e.cpu e (Pending.ClearInit a) rest todo → MayChoose m p.context.thread 0 (Pending.ClearInit a)
  clear-chosen a rest todo h = by (T.row_of m a == own_row m.image p.context.thread) refl
    where
      t : ℕ
      t = p.context.thread

      shut : ThreadIs f m t
      shut = law.rel.threads t (own-part h).index

      clears : (row_named f.image a == own_row f.image t) ≡ true → is_shut (joins f) t ≡ true
      clears own =
          shut.shut.clears e.cpu law.by.named (and_from _ _ (shows-runs h) (eq-eqb t t refl)) (ap (clears_own f p) (at-made h tt) ∙ own)

      by : (b : Bool) → (T.row_of m a == own_row m.image t) ≡ b → IsTrue (not ((T.row_of m a == own_row m.image t) && Plain.is_joined m t))
      by false other = ap (λ b. not (b && Plain.is_joined m t)) other
      by true own =
          let none = shut.shut.alone (clears ((λ i. row_named (sym law.rel.image i) a == own_row (sym law.rel.image i) t) ∙ own)) in
          λ i. not (own i && (ap (λ ws. list_any (Plain.joins t) ws) (sym law.rel.joins.waiters) ∙ none) i)

  module _ (rest : Steps) (todo : Todos) where
    shown-step : (q : Pending) → Shows f m e.cpu e q rest todo → IsShown q × (x : ℕ) × IsStep f m e.cpu e x q
    shown-step (Pending.Check a kind want refusal) h = (tt, 0, check-step a kind want refusal (λ x at. ltb-true x ROWS (found f m e law a.0 x at)) h)
    shown-step (Pending.Load to a n) h = (tt, 0, load-step (held-domain all h tt refl) to a n h)
    shown-step (Pending.Store a n value) h = (tt, 0, store-step (held-domain all h tt refl) a n value h)
    shown-step (Pending.Fetch a) h = (tt, 0, fetch-step (held-domain all h tt refl) a h)
    shown-step (Pending.Probe a (Amount.Bytes n)) h = (tt, 0, probe-step (held-domain all h tt refl) a n h)
    shown-step (Pending.Probe a (Amount.MessageOf b)) h = (tt, 0, get-probe-step a b (held-domain all h tt refl) h)
    shown-step (Pending.CopyIn a (Amount.Bytes n)) h = (tt, 0, copy-in-step (held-domain all h tt refl) a n h)
    shown-step (Pending.CopyIn a (Amount.MessageOf b)) h = (tt, 0, put-copy-step a b (held-domain all h tt refl) h)
    shown-step (Pending.CopyOut a) h = (tt, 0, copy-out-step (held-domain all h tt refl) a h)
    shown-step (Pending.CopyStr a) h = (tt, 0, copy-str-step (held-domain all h tt refl) a h)
    shown-step (Pending.Work a ask) h = (
      tt,
      0,
      work-step a ask (row-named a)
          (ap (λ y. slice_index_or (thread_at m p.context.thread).checked y false) (sym (named-row f m law.rel a)) ∙ suits.works p.context.thread a ask rest (shown-offers h)) h,
    )
    shown-step (Pending.Grant who a) h = (tt, 0, grant-step who a (row-named a) h)
    shown-step (Pending.Own who) h = (tt, 0, own-step who (own-below p.context.thread who rest (shown-offers h)) h)
    shown-step (Pending.DropPair who a) h = (tt, 0, drop-pair-step who a (row-named a) (sound-held m law.sound (row_named f.image a) who.0 (row-named a)) h)
    shown-step (Pending.Publish a) h = (tt, 0, publish-step a (row-named a) h)
    shown-step (Pending.SetInit a strict undo) h = (tt, 0, set-step a strict undo (row-named a) h)
    shown-step (Pending.Reserve kind) h = let r = reserve-step kind h in (tt, r.0, r.1)
    shown-step (Pending.Buffer size) h = (tt, 0, buffer-step size h)
    shown-step (Pending.DomInit d parts) h = (tt, 0, init-step d parts (suits.edits p.context.thread (Pending.DomInit d parts) rest (shown-offers h)) h)
    shown-step (Pending.DomAdd d range attr) h = (tt, 0, add-step d range attr (suits.edits p.context.thread (Pending.DomAdd d range attr) rest (shown-offers h)) h)
    shown-step (Pending.DomRemove d range attr) h = (tt, 0, remove-step d range attr (suits.edits p.context.thread (Pending.DomRemove d range attr) rest (shown-offers h)) h)
    shown-step (Pending.DomMove d who) h = (tt, 0, move-step d who h)
    shown-step Pending.Resume h = absurd (exits-nowhere _ (act-is h) (site-is h) refl)
    shown-step (Pending.Inherit who) h = absurd (exits-nowhere _ (act-is h) (site-is h) refl)
    shown-step (Pending.Drops from) h = absurd (exits-nowhere _ (act-is h) (site-is h) refl)
    shown-step (Pending.CleanPair who) h = absurd (exits-nowhere _ (act-is h) (site-is h) refl)
    shown-step Pending.Recycle h = absurd (exits-nowhere _ (act-is h) (site-is h) refl)
    shown-step Pending.Left h = absurd (exits-nowhere _ (act-is h) (site-is h) refl)
    shown-step Pending.Tick h = absurd (exits-nowhere _ (act-is h) (site-is h) refl)
    shown-step (Pending.TimeOut who) h = absurd (exits-nowhere _ (act-is h) (site-is h) refl)
    shown-step Pending.Expire h = absurd (exits-nowhere _ (act-is h) (site-is h) refl)
    shown-step (Pending.Cut who) h = absurd (exits-nowhere _ (act-is h) (site-is h) refl)
    shown-step (Pending.Arm n) h = (tt, 0, arm-step n h)
    shown-step (Pending.ArmTimer n) h = (tt, 0, arm-timer-step n h)
    shown-step (Pending.Abort who) h = (tt, 0, abort-step who (abort-below p.context.thread who rest (shown-offers h)) h)
    shown-step (Pending.Suspend who) h = (tt, 0, suspend-step who (suspend-below p.context.thread who rest (shown-offers h)) h)
    shown-step (Pending.Continue who) h = (tt, 0, continue-step who (continue-below p.context.thread who rest (shown-offers h)) h)
    shown-step (Pending.Join who timeout) h =
        let own = (offered-proper m p.context.thread 0 (suits.proper p.context.thread) (Pending.Join who timeout) rest (shown-offers h)).0.0 in
        let r = join-step law.sound.wide.threads who timeout h law.sound (subst (λ (i : Image). HasOwn i who.0) law.rel.image own) in (tt, r.0, r.1)
    shown-step (Pending.FutexWait a value timeout) h = (tt, 0, wait-step (wait-domain all h) a value timeout h)
    shown-step (Pending.FutexWake a wakes_all) h = (tt, 0, wake-step (held-domain all h tt refl) a wakes_all h)
    shown-step (Pending.ClearInit a) h = (tt, 0, machine-step h 0 (act-is h) (clear-chosen a rest todo h) refl)
    shown-step Pending.Begin h = (tt, 0, begin-step h)
    shown-step Pending.Exit h = (tt, 0, exit-step h)
    shown-step (Pending.Answer reply to) h = (tt, 0, answer-step reply to h)
    shown-step q h = (tt, 0, machine-step h 0 (act-is h) tt refl)

  -- no thread has a step that it makes at rest among those of its call
  proper-begins : (image : Image) (checked : List Bool) (steps : Steps) → Proper image checked steps → BeginsNothing steps
  proper-begins image checked [] h = tt
  proper-begins image checked (Pending.Begin ∷ rest) h = h
  proper-begins image checked (Pending.Exit ∷ rest) h = h
  proper-begins image checked (Pending.Inherit who ∷ rest) h = proper-begins image checked rest h.1
  proper-begins image checked (Pending.Drops from ∷ rest) h = proper-begins image checked rest h
  proper-begins image checked (q ∷ rest) h = tt

  pub begins : (t : ℕ) → BeginsNothing (thread_at m t).pending
  begins t = proper-begins m.image (thread_at m t).checked (thread_at m t).pending (suits.proper t).0

  -- a resume has a place of its own
  not-resume : (q : Pending) (rest : Steps) (todo : Todos) → p.todo ≡ Todo.show q rest ∷ todo → waits (q ∷ rest) ≡ false
  not-resume Pending.Resume rest todo at =
      absurd (exits-nowhere _ (made-says f m e law (Todo.show Pending.Resume rest ∷ todo) at) (made-at f m e law (Todo.show Pending.Resume rest ∷ todo) at) refl)
  not-resume q rest todo at = refl

  show-next : (q : Pending) (rest : Steps) (todo : Todos) → p.todo ≡ Todo.show q rest ∷ todo → (b : Bool) → is_word_read e.act ≡ b → Next f m e
  show-next q rest todo at false shown =
      let offered = (subst (Fits f.image p.context) at (law.rel.processors e.cpu law.by.named).list.fits).0 in
      let made = shown_step f.image q e.act in
      let h : Shows f m e.cpu e made rest todo =
      record {
        rel = law.rel;
        there = law.by.named;
        listed = q;
        at = at;
        made = refl;
        at_rest = λ first. (first-rests f.image p.context q rest offered first (begins-nothing law.rel law.by.named begins q rest todo at)).0;
        awake = offered-awake f.image p.context q rest offered (not-resume q rest todo at);
        may = law.by.may;
        taken = law.taken;
        shown = shown;
      } in
      let r = shown-step rest todo made h in
      record { state = T.after m p.context.thread r.1 made rest; goes = step-goes h r.2; leaves = event made rest todo r.1 h r.0 r.2; has = tt }
  show-next q rest todo at true read = by q (made-says f m e law (Todo.show q rest ∷ todo) at)
    where
      reads : (q : Pending) → e.act ≡ A.begins f.image p q e.act → Next f m e
      reads q said =
          quietly Unseen.WordRead (said ∙ ap (λ b. if b then FineAct.Unseen Unseen.WordRead else if is_killed e.act then by_me f.image p Act.Killed else shows f.image p q e.act) read)

      by : (q : Pending) → e.act ≡ says_show f.image p q e.act → Next f m e
      by Pending.Begin said = reads Pending.Begin said
      by Pending.Exit said = reads Pending.Exit said
      by q said = absurd (true≢false (sym read ∙ ap is_word_read said))

  -- Visits, and the end of a cleaning.

  row-first : (q : Todo) (todo : Todos) → p.todo ≡ q ∷ todo → names_row q ≡ true
  row-first q todo at = (and_parts (names_row q) (list_all names_row todo) (subst (λ (z : Todos). list_all names_row z ≡ true) at (law.rel.processors e.cpu law.by.named).rows)).0

  visited-at : (x : ℕ) (q : Todo) (todo : Todos) → p.todo ≡ q ∷ todo → nat_lt x ROWS ≡ true → is_visit e.act ≡ false → Visits f m e.cpu e x q todo
  visited-at x q todo at few shown =
      record { rel = law.rel; there = law.by.named; at = at; few = ltb-true x ROWS few; may = law.by.may; taken = law.taken; shown = shown }

  looks : (act : Act) → e.act ≡ (if is_visit e.act then FineAct.Unseen Unseen.Visit else by_me f.image p act) → is_visit e.act ≡ true → Next f m e
  looks act said look = quietly Unseen.Visit (said ∙ ap (λ b. if b then FineAct.Unseen Unseen.Visit else by_me f.image p act) look)

  does : (act : Act) → e.act ≡ (if is_visit e.act then FineAct.Unseen Unseen.Visit else by_me f.image p act) → is_visit e.act ≡ false → e.act ≡ by_me f.image p act
  does act said shown = said ∙ ap (λ b. if b then FineAct.Unseen Unseen.Visit else by_me f.image p act) shown

  pass-next : (who x : ℕ) (todo : Todos) → p.todo ≡ Todo.pass who x ∷ todo → (b : Bool) → is_visit e.act ≡ b → Next f m e
  pass-next who x todo at true look = looks (Act.Inherit (to_thread who) (address_of f.image x)) (made-says f m e law (Todo.pass who x ∷ todo) at) look
  pass-next who x todo at false shown =
      let v = visited-at x (Todo.pass who x) todo at (row-first (Todo.pass who x) todo at) shown in
      let r = pass-step who v in
      record {
        state = T.after m p.context.thread x (Pending.Inherit (to_thread who)) r.0;
        goes = r.2;
        has = r.1;
        leaves = passes who x r.0 todo v (does (Act.Inherit (to_thread who) (address_of f.image x)) (made-says f m e law (Todo.pass who x ∷ todo) at) shown);
      }

  drop-next : (x : ℕ) (todo : Todos) → p.todo ≡ Todo.drop x ∷ todo → (b : Bool) → is_visit e.act ≡ b → Next f m e
  drop-next x todo at true look =
      looks (Act.DropPair (to_thread p.context.thread) (address_of f.image x) (leftover_in (act_in e.act))) (made-says f m e law (Todo.drop x ∷ todo) at) look
  drop-next x todo at false shown =
      let v = visited-at x (Todo.drop x) todo at (row-first (Todo.drop x) todo at) shown in
      let r = drop-step v (sound-held m law.sound x p.context.thread v.few) in
      record {
        state = T.after m p.context.thread x (Pending.Drops r.0) r.1;
        goes = r.3;
        has = r.2;
        leaves = drops r.0 x r.1 todo v (does (Act.DropPair (to_thread p.context.thread) (address_of f.image x) (leftover_in (act_in e.act))) (made-says f m e law (Todo.drop x ∷ todo) at) shown);
      }

  clean-next : (who x : ℕ) (todo : Todos) → p.todo ≡ Todo.clean_pair who x ∷ todo → (b : Bool) → is_visit e.act ≡ b → Next f m e
  clean-next who x todo at true look =
      looks (Act.DropPair (to_thread who) (address_of f.image x) (leftover_in (act_in e.act))) (made-says f m e law (Todo.clean_pair who x ∷ todo) at) look
  clean-next who x todo at false shown =
      let v = visited-at x (Todo.clean_pair who x) todo at (row-first (Todo.clean_pair who x) todo at) shown in
      let pending = (thread_at m p.context.thread).pending in
      record {
        state = T.after m p.context.thread x (Pending.CleanPair (to_thread who)) pending;
        has = tt;
        goes = clean-pair-step v calls own (sound-held m law.sound x who v.few);
        leaves = cleans who x pending todo v (does (Act.DropPair (to_thread who) (address_of f.image x) (leftover_in (act_in e.act))) (made-says f m e law (Todo.clean_pair who x ∷ todo) at) shown);
      }

  recycle-next : (x : ℕ) (todo : Todos) → p.todo ≡ Todo.recycle x ∷ todo → Next f m e
  recycle-next x todo at =
      let few = ltb-true x ROWS (row-first (Todo.recycle x) todo at) in
      let pending = (thread_at m p.context.thread).pending in
      record {
        state = T.after m p.context.thread x Pending.Recycle pending;
        has = tt;
        goes = recycle-step f m law.rel calls own x todo law.by.named few at law.by.may;
        leaves = recycles x pending todo at few (made-says f m e law (Todo.recycle x ∷ todo) at) (recycle-chosen f m law.rel calls own x todo law.by.named few at);
      }

  -- Looks, marks in hands, ends that are told, and time.

  is-found : {act : FineAct} → e.act ≡ (if is_void e.act then FineAct.Unseen Unseen.Void else act) → is_void e.act ≡ false → e.act ≡ act
  is-found {act} said found = said ∙ ap (λ b. if b then FineAct.Unseen Unseen.Void else act) found

  is-void : (act : FineAct) → e.act ≡ (if is_void e.act then FineAct.Unseen Unseen.Void else act) → is_void e.act ≡ true → e.act ≡ FineAct.Unseen Unseen.Void
  is-void act said void = said ∙ ap (λ b. if b then FineAct.Unseen Unseen.Void else act) void

  look-next : (who site before : ℕ) (todo : Todos) → p.todo ≡ Todo.look who site before ∷ todo → (b : Bool) → is_void e.act ≡ b → Next f m e
  look-next who site before todo at true void = quietly Unseen.Void (is-void _ (made-says f m e law (Todo.look who site before ∷ todo) at) void)
  look-next who site before todo at false found =
      let said = is-found (made-says f m e law (Todo.look who site before ∷ todo) at) found in
      let x = cut-cell f m law.rel suits.waits law.sound.wide.threads e.cpu law.by.named e law.by.may law.taken who site before todo at said in
      record {
        state = T.after m p.context.thread x.0 (Pending.Cut (to_thread who)) (thread_at m p.context.thread).pending;
        has = tt;
        goes = cut-step f m law.rel suits.waits law.sound.wide.threads e.cpu law.by.named e law.by.may law.taken who site before todo at said;
        leaves = beside p.context.thread x.0 (Pending.Cut (to_thread who)) (cuts who site before x.0 todo at x.1 x.2 said)
            (cut-chosen f m law.rel suits.waits law.sound.wide.threads e.cpu law.by.named e law.by.may law.taken who site before todo at said)
            (cut-started f m law.rel suits.waits law.sound.wide.threads e.cpu law.by.named e law.by.may law.taken who site before todo at said);
      }

  -- who waits, a timer that runs and an armed deadline are of an image with a boot entry

  has-boots : (m ≡ opening m.image → ⊥) → 0 < length f.image.boots
  has-boots apart = by suits.booted
    where
      by : IsBooted m → 0 < length f.image.boots
      by (inl some) = subst (λ (i : Image). 0 < length i.boots) law.rel.image some
      by (inr first) = absurd (apart first)

  when-waits : (c t : ℕ) → stands_in t (waiters_in m c) ≡ true → 0 < length f.image.boots
  when-waits c t h = has-boots (λ first. false≢true (sym (ap (stands_in t) (ap (λ (z : State). waiters_in z c) first ∙ opening-waits m.image c)) ∙ h))

  when-runs : (x : ℕ) → has_run_out m.now (object_at m x).contents ≡ true → 0 < length f.image.boots
  when-runs x h =
      has-boots (λ first. false≢true (sym (ap (λ (z : State). has_run_out m.now (object_at z x).contents) first ∙ stopped-stays m.now (object_at (opening m.image) x).contents (opening-calm m.image x).stopped) ∙ h))

  when-armed : is_some (next_deadline m.now m.armed) ≡ true → 0 < length f.image.boots
  when-armed h = has-boots (λ first. false≢true (sym (ap (λ ds. is_some (next_deadline m.now ds)) (ap (λ (z : State). z.armed) first ∙ opening-armed m.image)) ∙ h))

  handle-next : (deadline : ℕ) (mark : Mark) (todo : Todos) → p.todo ≡ Todo.handle deadline mark ∷ todo → (b : Bool) → is_void e.act ≡ b → Next f m e
  handle-next deadline mark todo at true void = quietly Unseen.Void (is-void _ (made-says f m e law (Todo.handle deadline mark ∷ todo) at) void)
  handle-next deadline (Mark.Thread who site) todo at false found =
      let t = actor_or f.image p.actor in
      let said = is-found (made-says f m e law (Todo.handle deadline (Mark.Thread who site) ∷ todo) at) found in
      let x = timeout-cell f m law.rel suits.waits law.sound.wide.threads e.cpu law.by.named e law.by.may law.taken deadline who site todo at said in
      let chosen = timeout-chosen f m law.rel suits.waits law.sound.wide.threads e.cpu law.by.named e law.by.may law.taken deadline who site todo at said t in
      let boots = when-waits x.0 who.0 (and_parts (is_waiting (thread_at m who.0)) _ (and_parts _ _ chosen).1).1 in
      record {
        state = T.after m t x.0 (Pending.TimeOut who) (thread_at m t).pending;
        has = tt;
        goes = timeout-step f m law.rel suits.waits law.sound.wide.threads e.cpu law.by.named e law.by.may law.taken deadline who site todo at said boots;
        leaves = beside t x.0 (Pending.TimeOut who) (times_out deadline site x.0 who todo at x.1 x.2 said)
            (timeout-chosen f m law.rel suits.waits law.sound.wide.threads e.cpu law.by.named e law.by.may law.taken deadline who site todo at said t)
            (acts-started f m law.rel e.cpu law.by.named boots);
      }
  handle-next deadline (Mark.Timer x) todo at false found =
      let t = actor_or f.image p.actor in
      let said = is-found (made-says f m e law (Todo.handle deadline (Mark.Timer x) ∷ todo) at) found in
      let boots = when-runs x.0 (expire-chosen f m law.rel suits.waits law.sound.wide.threads e.cpu law.by.named e law.by.may law.taken deadline x todo at said t) in
      record {
        state = T.after m t x.0 Pending.Expire (thread_at m t).pending;
        has = tt;
        goes = expire-step f m law.rel suits.waits law.sound.wide.threads e.cpu law.by.named e law.by.may law.taken deadline x todo at said boots;
        leaves = beside t x.0 Pending.Expire
            (expires deadline x todo at (timer-below f m law.rel suits.waits law.sound.wide.threads e.cpu law.by.named e law.by.may law.taken deadline x todo at said) said)
            (expire-chosen f m law.rel suits.waits law.sound.wide.threads e.cpu law.by.named e law.by.may law.taken deadline x todo at said t)
            (acts-started f m law.rel e.cpu law.by.named boots);
      }

  leave-next : (todo : Todos) → p.todo ≡ Todo.leave ∷ todo → (b : Bool) → is_shut_act e.act ≡ b → Next f m e
  leave-next todo at true shut =
      quietly (Unseen.Shut (to_thread p.context.thread))
      (made-says f m e law (Todo.leave ∷ todo) at
      ∙ ap (λ b. if b then FineAct.Unseen (Unseen.Shut (to_thread p.context.thread)) else by_me f.image p (Act.Left (to_thread p.context.thread) (woken_in (act_in e.act)))) shut)
  leave-next todo at false told =
      let t = p.context.thread in
      let said = made-says f m e law (Todo.leave ∷ todo) at
      ∙ ap (λ b. if b then FineAct.Unseen (Unseen.Shut (to_thread t)) else by_me f.image p (Act.Left (to_thread t) (woken_in (act_in e.act)))) told in
      record {
        state = T.after m t 0 Pending.Left (thread_at m t).pending;
        has = tt;
        goes = left-step f m law.rel law.sound suits.proper e.cpu law.by.named e law.by.may law.taken todo at said;
        leaves = beside t 0 Pending.Left (leaves todo at said) (left-chosen f m law.rel law.sound suits.proper e.cpu law.by.named e law.by.may law.taken todo at said)
            (leave-started f m law.rel law.sound suits.proper e.cpu law.by.named e law.by.may law.taken todo at);
      }

  rouse-next : (who : ℕ) (todo : Todos) → p.todo ≡ Todo.rouse who ∷ todo → (b : Bool) → is_void e.act ≡ b → Next f m e
  rouse-next who todo at true void = quietly Unseen.Void (is-void _ (made-says f m e law (Todo.rouse who ∷ todo) at) void)
  rouse-next who todo at false found = quietly (Unseen.Rouse (to_thread who)) (is-found (made-says f m e law (Todo.rouse who ∷ todo) at) found)

  -- A thread is taken, or a mark; or time goes on.
  turn-next : p.todo ≡ [] → (moved : Exchange) → e.moved ≡ moved → e.act ≡ says_turn f.image p moved → Next f m e
  turn-next at (Exchange.thread c None) moved said = quietly (Unseen.Next (to_thread c.thread)) said
  turn-next at (Exchange.thread c (Some told)) moved said =
      let r = resume-step f m law.rel c told law.by.named at law.by.may law.taken moved suits.tells in
      record { state = T.after m c.thread 0 Pending.Resume r.0; goes = r.2; leaves = resumes c told r.0 at moved said; has = r.1 }
  turn-next at exchange moved said = quietly _ said

  take-next : p.todo ≡ [] → IdleStep f p e → Next f m e
  take-next at (turns site said ready first) = turn-next at e.moved refl said
  take-next at (gives x site said first moved) = quietly Unseen.Due said
  take-next at (K.ticks now site said next moved) =
      let t = actor_or f.image p.actor in
      let boots = when-armed (tick-chosen f m law.rel e.cpu law.by.named now next) in
      record {
        state = T.after m t 0 Pending.Tick (thread_at m t).pending;
        has = tt;
        goes = tick-step f m law.rel e.cpu law.by.named now next boots e said;
        leaves = beside t 0 Pending.Tick (ticks at (said ∙ ap (λ n. by_actor f.image p (Act.Tick n)) (sym (ap (λ z. now_in (act_in z)) said)))) (tick-chosen f m law.rel e.cpu law.by.named now next)
            (acts-started f m law.rel e.cpu law.by.named boots);
      }

  by-todo : (todo : Todos) → p.todo ≡ todo → Next f m e
  by-todo [] at = take-next at (idle-step f m law.rel p e law.by.may law.taken at)
  by-todo (Todo.show q rest ∷ todo) at = show-next q rest todo at (is_word_read e.act) refl
  by-todo (Todo.pass who x ∷ todo) at = pass-next who x todo at (is_visit e.act) refl
  by-todo (Todo.drop x ∷ todo) at = drop-next x todo at (is_visit e.act) refl
  by-todo (Todo.clean_pair who x ∷ todo) at = clean-next who x todo at (is_visit e.act) refl
  by-todo (Todo.recycle x ∷ todo) at = recycle-next x todo at
  by-todo (Todo.hold ∷ todo) at = quietly _ (made-says f m e law (Todo.hold ∷ todo) at)
  by-todo (Todo.let_go ∷ todo) at = quietly _ (made-says f m e law (Todo.let_go ∷ todo) at)
  by-todo (Todo.read_claim d ∷ todo) at = quietly _ (made-says f m e law (Todo.read_claim d ∷ todo) at)
  by-todo (Todo.read_done d ∷ todo) at = quietly _ (made-says f m e law (Todo.read_done d ∷ todo) at)
  by-todo (Todo.region_load ∷ todo) at = quietly _ (made-says f m e law (Todo.region_load ∷ todo) at)
  by-todo (Todo.write_claim d ∷ todo) at = quietly _ (made-says f m e law (Todo.write_claim d ∷ todo) at)
  by-todo (Todo.edit d q ∷ todo) at = quietly _ (made-says f m e law (Todo.edit d q ∷ todo) at)
  by-todo (Todo.size_look x ∷ todo) at = quietly _ (made-says f m e law (Todo.size_look x ∷ todo) at)
  by-todo (Todo.end_call x ∷ todo) at = quietly _ (made-says f m e law (Todo.end_call x ∷ todo) at)
  by-todo (Todo.wake who told ∷ todo) at = quietly _ (made-says f m e law (Todo.wake who told ∷ todo) at)
  by-todo (Todo.add c ∷ todo) at = quietly _ (made-says f m e law (Todo.add c ∷ todo) at)
  by-todo (Todo.wipe x ∷ todo) at = quietly _ (made-says f m e law (Todo.wipe x ∷ todo) at)
  by-todo (Todo.vacate x ∷ todo) at = quietly _ (made-says f m e law (Todo.vacate x ∷ todo) at)
  by-todo (Todo.park ∷ todo) at = quietly _ (made-says f m e law (Todo.park ∷ todo) at)
  by-todo (Todo.look who site before ∷ todo) at = look-next who site before todo at (is_void e.act) refl
  by-todo (Todo.handle deadline mark ∷ todo) at = handle-next deadline mark todo at (is_void e.act) refl
  by-todo (Todo.leave ∷ todo) at = leave-next todo at (is_shut_act e.act) refl
  by-todo (Todo.rouse who ∷ todo) at = rouse-next who todo at (is_void e.act) refl
  by-todo (Todo.note site ∷ todo) at = quietly _ (made-says f m e law (Todo.note site ∷ todo) at)
  by-todo (Todo.owe ∷ todo) at = quietly _ (made-says f m e law (Todo.owe ∷ todo) at)
  by-todo (Todo.settle deadline mark ∷ todo) at = quietly _ (made-says f m e law (Todo.settle deadline mark ∷ todo) at)
  by-todo (Todo.reread site ∷ todo) at = quietly _ (made-says f m e law (Todo.reread site ∷ todo) at)
  by-todo (Todo.tell_cut who ∷ todo) at = quietly _ (made-says f m e law (Todo.tell_cut who ∷ todo) at)
  by-todo (Todo.sleep ∷ todo) at = quietly _ (made-says f m e law (Todo.sleep ∷ todo) at)
  by-todo (Todo.reread_asleep ∷ todo) at = quietly _ (made-says f m e law (Todo.reread_asleep ∷ todo) at)
  by-todo (Todo.unshut who ∷ todo) at = quietly _ (made-says f m e law (Todo.unshut who ∷ todo) at)
  by-todo (Todo.paid ∷ todo) at = quietly _ (made-says f m e law (Todo.paid ∷ todo) at)
  by-todo (Todo.done ∷ todo) at = quietly _ (made-says f m e law (Todo.done ∷ todo) at)

  pub lawful-next : Next f m e
  lawful-next = by-todo p.todo refl
