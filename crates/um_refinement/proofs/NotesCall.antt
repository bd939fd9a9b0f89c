-- A thread with a note is in a call that has noted that cell, after every lawful step; and a thread that begins to wait has noted its cell.
use Rattle.um_refinement.proofs.Words.{◌≡◌, inl, inr, ℕ, ◌<◌, Bool, true, false, [], ◌∷◌, Option, Some, None, length, refl, sym, ap, ◌∙◌, subst, arith, eq-eqb, ◌==◌, ◌&&◌, is_some, eqb-false, eqb-true, false≢true, true≢false, THREADS, Told, Pending, Steps, Thread, State, thread_at, to_thread, act_in, Context, as_thread, continues, Exchange, Todo, Todos, FineStep, Fine, Fits, IsOf, IsOffered, is_over, waits, own_part, steps_by, told_way, resumed_at, unwrap_or, ThreadIx, word}
use Rattle.um_fine.specs.Places.{noted_cell}
use Rattle.um_machine.specs.Table as T
use Rattle.um_machine.specs.Writes.{cut}
use Rattle.um_refinement.specs.Frames.{IsNoted, accesses, acts, arming}
use Rattle.um_refinement.specs.Stops.{ActsIn, HasNoted, LiesAt, cell_site, runs_it}
use Rattle.um_refinement.specs.Threads.{as_cut}
use Rattle.um_refinement.specs.Timing.{IsHand}
use Rattle.um_refinement.proofs.ArmSteps.{Timed}
use Rattle.um_refinement.proofs.ArmsKnown.{AreTimed}
use Rattle.um_refinement.proofs.CallsKnown.{starts-known}
use Rattle.um_refinement.proofs.Erased.{around}
use Rattle.um_refinement.proofs.First.{none-some}
use Rattle.um_refinement.proofs.LawfulSteps.{Suits}
use Rattle.um_refinement.proofs.Leaves.{Beside, HasStep, Lawful, Leaves, beside, cleans, cuts, drops, event, expires, leaves, mine, nothing, passes, recycles, resumes, ticks, times_out}
use Rattle.um_refinement.proofs.MemoryPart.{InDomains}
use Rattle.um_refinement.proofs.NotedCalls.{acts-next, acts-there, arms-next, call-goes, ends-left, offered-call}
use Rattle.um_refinement.proofs.NoteSteps.{Noting, final-note, finals, is_final, notes, noting, starts as starts_now, stays as note_stays, thread_of}
use Rattle.um_refinement.proofs.Offered.{IsStep, Shows, noted-by, own-unless, runs-first, shown-offers, shown-on, shows-runs}
use Rattle.um_refinement.proofs.Others.{starts_other}
use Rattle.um_refinement.proofs.OfVisits.{scheduler-tells}
use Rattle.um_refinement.proofs.Own.{own-after, own-resumed}
use Rattle.um_refinement.proofs.OwnKept.{own-kept}
use Rattle.um_refinement.proofs.PartsElsewhere.{Apart, stays}
use Rattle.um_refinement.proofs.SchedulerSteps.{made-at}
use Rattle.um_refinement.proofs.StepReads.{is-behind}
use Rattle.um_refinement.proofs.StepsLeft.{offered-awake, offered-on, steps-on}
use Rattle.um_refinement.proofs.Taking.{taken-parked, taken-told, taken-uncut}
use Rattle.um_refinement.proofs.ThreadLists.{at-here}
use Rattle.um_refinement.proofs.VisitSteps.{Visits, visit-runs}
use Rattle.um_refinement.proofs.WaitsKept.{Begun, arm-awake, begun, noted-awake}
use Rattle.um_refinement.proofs.WaitsNoted.{begins-noted}
use Rattle.um_refinement.proofs.WaitSteps.{Begins}
use Rattle.um_refinement.proofs.WordsKept.{IsShown}

abbrev notes_first : Todos → Bool
notes_first (Todo.note site ∷ todo) = true
notes_first todo = false

begins-shown : (s : State) (t x c : ℕ) (q : Pending) → Begins s t x q c → IsShown q
begins-shown s t x c (Pending.Work a ask) h = tt
begins-shown s t x c (Pending.Join who timeout) h = tt
begins-shown s t x c (Pending.FutexWait a value timeout) h = tt
begins-shown s t x c q h = absurd h

some-one : {a b : ℕ} → Some a ≡ Some b → a ≡ b
some-one {a} h = ap (λ (o : Option ℕ). unwrap_or o a) h

module _ (f : Fine) (m : State) (e : FineStep) (law : Lawful f m e) (t : ℕ) (few : t < THREADS) where
  open around f e use {later, processor as p}
  open is-behind f m e law use {frame}

  -- A thread that begins to wait.

  pub begun-noted : (c : ℕ) → Begun f m e t c → (word f t).note ≡ Some (cell_site c)
  begun-noted c (begun q rest todo x h is same starts) = by (word f t).note refl
    where
      cell : noted_cell f.image (q ∷ []) ≡ Some (cell_site c)
      cell = begins-noted f m e law (mine f m e) x c q starts

      lies : LiesAt f t p.context
      lies = runs_it e.cpu law.by.named (λ i. shows-runs h i && eq-eqb p.context.thread t (sym same) i) (shown-on h)

      left : (site : ℕ) → (word f t).note ≡ Some site → HasNoted f.image site (q ∷ rest)
      left site noted =
          offered-call f.image site m (mine f m e) q rest (begins-shown m (mine f m e) x c q starts)
          (subst (λ n. HasNoted f.image site (thread_at m n).pending) same ((law.rel.threads t few).note.call site noted)) (shown-offers h)

      by : (o : Option ℕ) → (word f t).note ≡ o → o ≡ Some (cell_site c)
      by None none = absurd (false≢true (sym (ap is_some none) ∙ ((law.rel.threads t few).note.there p.context lies ∙ noted-by h (cell_site c) cell)))
      by (Some site) noted = sym (acts-there f.image site q rest (cell_site c) cell (left site noted)) ∙ cell

  -- One that notes a cell.

  module _ (timed : AreTimed m) (site : ℕ) (todo : Todos) (at : p.todo ≡ Todo.note site ∷ todo) where
    abbrev z : Context
    z = record p.context { noted = Some 0 }

    fits : Fits f.image z todo
    fits = subst (Fits f.image p.context) at (law.rel.processors e.cpu law.by.named).list.fits 0

    abbrev Facts : Type 0
    Facts = (waits p.context.pending ≡ false) × (is_over p.context ≡ false)

    offered : (q : Pending) (rest : Steps) → IsOffered f.image z q rest → waits (q ∷ rest) ≡ false → Facts
    offered q rest o awake = (offered-awake f.image z q rest o awake, offered-on f.image z q rest o)

    facts : {todo : Todos} → IsNoted f.image site todo → Fits f.image z todo → Facts
    facts (acts {q} {rest} there) fits = offered q rest fits.0 (noted-awake f.image q rest site there)
    facts (accesses {q} {rest} there) fits = offered q rest fits.0 (noted-awake f.image q rest site there)
    facts (arming {q} {rest} arms there) fits = offered q rest fits.0 (arm-awake q rest arms)

    own : as_thread p.context ≡ own_part (thread_at m p.context.thread)
    own =
        let is = facts (frame (Todo.note site) todo at) fits in
        own-unless ((law.rel.contexts.running e.cpu law.by.named (runs-first law.rel law.by.named (Todo.note site) todo at (λ hand. hand))).of is.1) is.0

    ahead : {todo : Todos} → Timed p.context.until p.context.pending → IsNoted f.image site todo → Fits f.image z todo → ActsIn f.image site p.context.pending
    ahead all (acts {q} {rest} there) fits = acts-next f.image site z z.until all q rest there fits.0
    ahead all (accesses {q} {rest} there) fits = acts-next f.image site z z.until all q rest there fits.0
    ahead all (arming {q} {rest} arms there) fits = arms-next f.image site z z.until all q rest arms there fits.0

    notes-call : p.context.thread ≡ t → HasNoted f.image site (thread_at m t).pending
    notes-call same =
        let all : Timed p.context.until p.context.pending =
        subst (λ (th : Thread). Timed th.until th.pending) (sym own) (timed p.context.thread) in
        subst (λ n. HasNoted f.image site (thread_at m n).pending) same
        (inr (subst (λ (th : Thread). ActsIn f.image site th.pending) own (ahead all (frame (Todo.note site) todo at) fits)))

    note-same : (s : State) → Leaves f m e s → (thread_at s t).pending ≡ (thread_at m t).pending
    note-same _ (nothing u said) = refl
    note-same _ (event q rest over x h shown is) = absurd (true≢false (ap notes_first (sym at ∙ h.at)))
    note-same _ (resumes c told rest idle moved said) = absurd (true≢false (ap notes_first (sym at ∙ idle)))
    note-same _ (passes who x rest over h said) = absurd (true≢false (ap notes_first (sym at ∙ h.at)))
    note-same _ (drops source x rest over h said) = absurd (true≢false (ap notes_first (sym at ∙ h.at)))
    note-same _ (cleans who x rest over h said) = absurd (true≢false (ap notes_first (sym at ∙ h.at)))
    note-same _ (recycles x rest over there l said chosen) = absurd (true≢false (ap notes_first (sym at ∙ there)))
    note-same _ (beside u x q done chosen started) = absurd (by done)
      where
        by : {u x : ℕ} {q : Pending} → Beside f m e u x q → ⊥
        by (cuts who there before x over k place inside said) = true≢false (ap notes_first (sym at ∙ k))
        by (times_out deadline there x who over k place inside said) = true≢false (ap notes_first (sym at ∙ k))
        by (expires deadline x over k inside said) = true≢false (ap notes_first (sym at ∙ k))
        by (ticks k said) = true≢false (ap notes_first (sym at ∙ k))
        by (leaves over k said) = true≢false (ap notes_first (sym at ∙ k))

  -- One that keeps its note.

  module _ (suits : Suits f m) (all : InDomains f m) (site : ℕ) (noted : (word f t).note ≡ Some site) (kept : (word later t).note ≡ Some site) where
    abbrev Left : State → Type 0
    Left z = HasNoted f.image site (thread_at z t).pending

    was : Left m
    was = (law.rel.threads t few).note.call site noted

    was-of : (u : ℕ) → u ≡ t → HasNoted f.image site (thread_at m u).pending
    was-of u same = subst (λ n. HasNoted f.image site (thread_at m n).pending) (sym same) was

    never-rests : (thread_at m t).pending ≡ [] → ⊥
    never-rests rests = by (subst (HasNoted f.image site) rests was)
      where
        by : HasNoted f.image site [] → ⊥
        by (inl h) = h
        by (inr h) = h

    apart-keeps : (z : State) (l : Leaves f m e z) → Apart f m e law z l z l t → Left z
    apart-keeps z l apart = subst (λ (th : Thread). HasNoted f.image site th.pending) (sym (stays f m e law z l t apart)) was

    starts-none : (q : Pending) (rest : Steps) (todo : Todos) → Shows f m e.cpu e q rest todo → IsShown q → starts_other t q
    starts-none (Pending.Start who script stack priority mode) rest todo h shown = λ same.
        never-rests (ap (λ n. (thread_at m n).pending) (sym same) ∙ (starts-known m law.sound p.context.thread who script stack priority mode rest (shown-offers h)).1)
    starts-none (Pending.Cut who) rest todo h shown = absurd shown
    starts-none q rest todo h shown = tt

    -- what an own part has left, its thread has
    here : (z : State) (u : ℕ) (c : Context) → u ≡ t → as_thread c ≡ own_part (thread_at z u) → HasNoted f.image site c.pending → Left z
    here z u c same own h =
        subst (λ n. HasNoted f.image site (thread_at z n).pending) same (subst (λ (th : Thread). HasNoted f.image site th.pending) own h)

    module _ (q : Pending) (rest : Steps) (todo : Todos) (x : ℕ) (h : Shows f m e.cpu e q rest todo) (shown : IsShown q) (is : IsStep f m e.cpu e x q) where
      event-keeps : mine f m e ≡ t → Left (T.after m (mine f m e) x q rest)
      event-keeps same = by (is_final q) refl
        where
          by : (b : Bool) → is_final q ≡ b → Left (T.after m (mine f m e) x q rest)
          by true fin = absurd (none-some (sym (final-note f m e law t few q rest todo x h is fin same) ∙ kept))
          by false more =
              here (T.after m (mine f m e) x q rest) (mine f m e) (continues f.image p.context 0 q rest (act_in e.act) e.moved) same (own-kept f m e law suits all rest todo x q h shown is)
              (call-goes f.image site p.context q rest (act_in e.act) e.moved shown more (offered-call f.image site m (mine f m e) q rest shown (was-of (mine f m e) same) (shown-offers h)))

    resume-keeps : (c : Context) (told : Told) (rest : Steps) → p.todo ≡ [] → e.moved ≡ Exchange.thread c (Some told) → c.pending ≡ Pending.Resume ∷ rest → c.thread ≡ t
        → Left (T.after m c.thread 0 Pending.Resume rest)
    resume-keeps c told rest idle moved has same =
        here (T.after m c.thread 0 Pending.Resume rest) c.thread (resumed_at m.image c told (Pending.Resume ∷ rest)) same (own-resumed m c.thread c own refl room told rest tells)
        (goes-on (subst (HasNoted f.image site) (sym (ap (λ (th : Thread). th.pending) own) ∙ has) (was-of c.thread same)))
      where
        of : IsOf f m c
        of = (law.rel.contexts.parked c.thread c (taken-parked f m e law idle c told moved)).0

        own : as_thread c ≡ own_part (thread_at m c.thread)
        own = ap (λ n. as_thread (as_cut n c)) (sym (taken-uncut f m e law idle c told moved of.index)) ∙ of.own

        room : c.thread < length m.threads
        room = let index = of.index in let many = law.sound.wide.threads in omega (arith, index, many)

        tells : (thread_at m c.thread).told ≡ Some told
        tells = scheduler-tells f m law.rel c.thread of.index told (taken-told f m e law idle c told moved)

        goes-on : HasNoted f.image site (Pending.Resume ∷ rest) → HasNoted f.image site (steps_by rest (told_way told.reply))
        goes-on (inl h) = inl (ends-left rest (told_way told.reply) h)
        goes-on (inr h) = absurd (none-some h.0)

    -- a visit leaves all steps but itself
    module _ (step : Todo) (x : ℕ) (rest : Steps) (todo : Todos) (v : Visits f m e.cpu e x step todo) (apart : IsHand (step ∷ todo) → ⊥) (same : mine f m e ≡ t) where
      visit-of : (q : Pending) → p.context.pending ≡ q ∷ rest → IsOf f m p.context
      visit-of q has = (law.rel.contexts.running e.cpu law.by.named (visit-runs v apart)).of (steps-on p.context q rest has)

      visit-room : IsOf f m p.context → mine f m e < length m.threads
      visit-room of = let index = of.index in let many = law.sound.wide.threads in omega (arith, index, many)

      before : (q : Pending) → p.context.pending ≡ q ∷ rest → as_thread p.context ≡ own_part (thread_at m (mine f m e)) → HasNoted f.image site (q ∷ rest)
      before q has own = subst (HasNoted f.image site) (sym (ap (λ (th : Thread). th.pending) own) ∙ has) (was-of (mine f m e) same)

      pass-keeps : (who : ThreadIx) → p.context.pending ≡ Pending.Inherit who ∷ rest → Left (T.after m (mine f m e) x (Pending.Inherit who) rest)
      pass-keeps who has =
          let q = Pending.Inherit who in
          let of = visit-of q has in
          let own = own-unless of (ap waits has) in
          here (T.after m (mine f m e) x q rest) (mine f m e) (continues m.image p.context x q rest (T.act_of m (mine f m e) x q) e.moved) same
          (own-after m (mine f m e) p.context own refl (visit-room of) x q rest e.moved tt) (before q has own)

      drop-keeps : (from : ℕ) → p.context.pending ≡ Pending.Drops from ∷ rest → Left (T.after m (mine f m e) x (Pending.Drops from) rest)
      drop-keeps from has =
          let q = Pending.Drops from in
          let of = visit-of q has in
          let own = own-unless of (ap waits has) in
          here (T.after m (mine f m e) x q rest) (mine f m e) (continues m.image p.context x q rest (T.act_of m (mine f m e) x q) e.moved) same
          (own-after m (mine f m e) p.context own refl (visit-room of) x q rest e.moved tt) (before q has own)

    -- one that is cut has nothing left but that it is killed
    beside-keeps : (u x : ℕ) (q : Pending) → Beside f m e u x q → (starts_other t q → Left (T.after m u x q (thread_at m u).pending)) → Left (T.after m u x q (thread_at m u).pending)
    beside-keeps u _ _ (cuts who there before x todo at place inside said) apart = by (who == t) refl
      where
        by : (b : Bool) → (who == t) ≡ b → Left (T.after m u x (Pending.Cut (to_thread who)) (thread_at m u).pending)
        by true k =
            let same = eqb-true who t k in
            let room : who < length m.threads = (let many = law.sound.wide.threads in omega (arith, many, few, same)) in
            subst (λ n. HasNoted f.image site (thread_at (T.after m u x (Pending.Cut (to_thread who)) (thread_at m u).pending) n).pending) same
            (subst (λ (th : Thread). HasNoted f.image site th.pending) (sym (at-here m.threads who (cut (thread_at m who)) room)) (inl tt))
        by false k = apart (λ same. eqb-false who t k same)
    beside-keeps _ _ _ (times_out deadline there x who todo at place inside said) apart = apart tt
    beside-keeps _ _ _ (expires deadline x todo at inside said) apart = apart tt
    beside-keeps _ _ _ (ticks at said) apart = apart tt
    beside-keeps _ _ _ (leaves todo at said) apart = apart tt

    pub keeps-call : (s : State) (how : Leaves f m e s) → HasStep f m e s how → Left s
    keeps-call _ (nothing u said) has = was
    keeps-call _ (event q rest todo x h shown is) has = by (mine f m e == t) refl
      where
        by : (b : Bool) → (mine f m e == t) ≡ b → Left (T.after m (mine f m e) x q rest)
        by true k = event-keeps q rest todo x h shown is (eqb-true (mine f m e) t k)
        by false k = apart-keeps _ (event q rest todo x h shown is) ((λ same. eqb-false (mine f m e) t k same), starts-none q rest todo h shown)
    keeps-call _ (resumes c told rest idle moved said) has = by (c.thread == t) refl
      where
        by : (b : Bool) → (c.thread == t) ≡ b → Left (T.after m c.thread 0 Pending.Resume rest)
        by true k = resume-keeps c told rest idle moved has (eqb-true c.thread t k)
        by false k = apart-keeps _ (resumes c told rest idle moved said) (λ same. eqb-false c.thread t k same)
    keeps-call _ (passes who x rest todo v said) has = by (mine f m e == t) refl
      where
        by : (b : Bool) → (mine f m e == t) ≡ b → Left (T.after m (mine f m e) x (Pending.Inherit (to_thread who)) rest)
        by true k = pass-keeps (Todo.pass who x) x rest todo v (λ hand. hand) (eqb-true (mine f m e) t k) (to_thread who) has
        by false k = apart-keeps _ (passes who x rest todo v said) (λ same. eqb-false (mine f m e) t k same)
    keeps-call _ (drops from x rest todo v said) has = by (mine f m e == t) refl
      where
        by : (b : Bool) → (mine f m e == t) ≡ b → Left (T.after m (mine f m e) x (Pending.Drops from) rest)
        by true k = drop-keeps (Todo.drop x) x rest todo v (λ hand. hand) (eqb-true (mine f m e) t k) from has
        by false k = apart-keeps _ (drops from x rest todo v said) (λ same. eqb-false (mine f m e) t k same)
    keeps-call _ (cleans who x rest todo v said) has = apart-keeps _ (cleans who x rest todo v said) tt
    keeps-call _ (recycles x rest todo at l said chosen) has = apart-keeps _ (recycles x rest todo at l said chosen) tt
    keeps-call _ (beside u x q done chosen started) has = beside-keeps u x q done (λ apart. apart-keeps _ (beside u x q done chosen started) apart)

  pub note-call : Suits f m → InDomains f m → AreTimed m → (s : State) (how : Leaves f m e s) → HasStep f m e s how → (site : ℕ) → (word later t).note ≡ Some site
      → HasNoted f.image site (thread_at s t).pending
  note-call suits all timed s how has site noted = by (noting f m e law t few s how)
    where
      by : Noting f m e law t few → HasNoted f.image site (thread_at s t).pending
      by (note_stays kept) = keeps-call suits all site (sym kept ∙ noted) noted s how has
      by (notes there todo at on is) =
          let same = ap thread_of (sym (made-at f m e law (Todo.note there ∷ todo) at) ∙ on) in
          subst (λ n. HasNoted f.image n (thread_at s t).pending) (some-one (sym is ∙ noted))
          (subst (HasNoted f.image there) (sym (note-same timed there todo at s how)) (notes-call timed there todo at same))
      by (finals q rest todo h fin mine_now is) = absurd (none-some (sym is ∙ noted))
      by (starts_now q rest todo h other uncut is) = absurd (none-some (sym is ∙ noted))
