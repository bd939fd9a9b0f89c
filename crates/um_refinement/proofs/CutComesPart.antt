-- An aborted thread that waits in a cell is going to be cut, after every lawful step: by a processor that is to look there, or by the one that runs it
-- and is to read its word once more.
use Rattle.um_refinement.proofs.Words.{ThreadIx, act_in, after_show, behind_step, continues, ne_eqb, same-sound, shows, filled_up, goes_on_by, thread_after, is_some, unwrap_or, ◌≡◌, ◌≢◌, ◌⊎◌, inl, inr, ℕ, ◌+◌, ◌<◌, ◌≤◌, Bool, true, false, cond, [], ◌∷◌, Option, Some, None, refl, sym, ap, ◌∙◌, subst, arith, ◌==◌, ◌&&◌, ◌||◌, not, and_from, and_parts, eq-eqb, eqb-true, lt-ltb, ltb-true, nat_lt, false≢true, true≢false, if◌then◌else◌, list_any, ROWS, THREADS, Act, Exchange, FineAct, FineStep, Unseen, Processor, Pending, Steps, State, Thread, ThreadWord, thread_at, thread_in, to_thread, waits, by_me, Site, SiteState, site_answers, site_after, s_next, same_site, Todo, Todos, AreBlocks, Behind, Fine, word, p_next}
use Rattle.um_machine.specs.State.{is_living, is_to_resume, waiters_in}
use Rattle.um_machine.specs.Table as T
use Rattle.um_fine.specs.Answers.{is_done_in, is_void}
use Rattle.um_fine.specs.Asks.{more_of}
use Rattle.um_fine.specs.Follows.{looks_for, waits_behind}
use Rattle.um_fine.specs.Places.{put_away}
use Rattle.um_fine.specs.Seeking.{stands_in}
use Rattle.um_fine.specs.Sites.{site_numbered, word_of}
use Rattle.um_words.specs.Threads.{counted_thread}
use Rattle.um_refinement.specs.Lists.{runs, runs_thread}
use Rattle.um_refinement.specs.Stops.{CutComes, IsCutComing, cell_site, is_look, is_reread, looks, noted_at, reads}
use Rattle.um_refinement.proofs.CellSites.{site-of-cell, waiting_cell}
use Rattle.um_refinement.proofs.Erased.{around}
use Rattle.um_refinement.proofs.Leaves.{Beside, Lawful, Leaves, beside, cleans, cuts, drops, event, expires, leaves as tells_left, mine, nothing, passes, recycles, resumes, ticks as time_passes, times_out}
use Rattle.um_refinement.proofs.ListGrips.{next-thread}
use Rattle.um_refinement.proofs.ListGrowth.{is_end}
use Rattle.um_refinement.proofs.ListRuns.{goes-runs}
use Rattle.um_refinement.proofs.NotesKept.{noted-kept}
use Rattle.um_refinement.proofs.Offered.{IsStep, Shows, own-same, shows-runs, site-is}
use Rattle.um_refinement.proofs.SchedulerSteps.{made-at, made-moves, made-says, word-left}
use Rattle.um_refinement.proofs.RowSteps.{thread-sort}
use Rattle.um_refinement.proofs.SleepFlags.{shown-same, unseen-same, word-else, word-here}
use Rattle.um_refinement.proofs.StepReads.{is-behind, reads-last}
use Rattle.um_refinement.proofs.TailsKept.{made-there, next-there}
use Rattle.um_refinement.proofs.VoidLooks.{cell-void}
use Rattle.um_refinement.proofs.WaitersKnown.{WaitersHold}
use Rattle.um_refinement.proofs.TimeoutPart.{site-once}
use Rattle.um_refinement.proofs.WaitSteps.{Begins, cut-gone, stood}
use Rattle.um_refinement.proofs.WaitersFound.{WaitersWait, waiter-lies}
use Rattle.um_refinement.proofs.WaitsNoted.{rereads-there}

resumes-waits : (steps : Steps) → is_to_resume steps ≡ true → waits steps ≡ true
resumes-waits (Pending.Resume ∷ rest) h = refl
resumes-waits steps h = absurd (false≢true h)

none-behind : (test : Todo → Bool) (todo : Todos) → todo ≡ [] → list_any test todo ≡ true → ⊥
none-behind test todo empty h = false≢true (sym (ap (list_any test) empty) ∙ h)

-- for whom and where a list looks first
abbrev first_looked : Todos → Option (ℕ × ℕ)
first_looked (Todo.look who site before ∷ todo) = Some (who, site)
first_looked todo = None

abbrev is_unseen : FineAct → Bool
is_unseen (FineAct.Unseen u) = true
is_unseen (FineAct.Shown said more) = false

module _ (f : Fine) (m : State) (e : FineStep) (law : Lawful f m e) (holding : WaitersHold m) (wait : WaitersWait m) (t : ℕ) (few : t < THREADS) (s : State) (left : Leaves f m e s) (c : ℕ) (inside : c < ROWS + 2) where
  open around f e use {later, processor as p, now}
  open is-behind f m e law use {frame}

  abbrev Stood : State → Type 0
  Stood z = stands_in t (waiters_in z c) ≡ true

  -- the processor that makes the step runs the thread, and is to read its word once more
  Reads : Type 0
  Reads = (p.context.thread ≡ t) × (runs_thread t now ≡ true) × (list_any (is_reread (cell_site c)) now.todo ≡ true)

  runs-on : (q : Todo) (todo : Todos) → p.todo ≡ q ∷ todo → is_end q ≡ false → runs p ≡ true → p.context.thread ≡ t → runs_thread t now ≡ true
  runs-on q todo at goes run own =
      let still = goes-runs f.image p e q todo at goes (frame q todo at) (reads-last f m e law q todo at) (subst (AreBlocks f.image) at (law.rel.processors e.cpu law.by.named).blocks) ∙ run in
      let same = next-thread f.image p e q todo at goes ∙ own in
      λ i. still i && eq-eqb now.context.thread t same i

  begun : (q : Pending) (rest : Steps) (todo : Todos) (x : ℕ) → (h : Shows f m e.cpu e q rest todo) → (is : IsStep f m e.cpu e x q) → t ≡ mine f m e → Begins m (mine f m e) x q c → Reads
  unfolding Reads
  begun q rest todo x h is same starts = (sym same, runs-on (Todo.show h.listed rest) todo h.at refl (shows-runs h) (sym same), rereads-there f m e law q rest todo x c h is starts)

  -- a thread that waits now waited, or begins to
  before : (z : State) → Leaves f m e z → Stood z → Stood m ⊎ Reads
  before _ (nothing u said) h = inl h
  before _ (event q rest todo x shows shown is) h = by (stood m (mine f m e) x q rest t c h)
    where
      by : Stood m ⊎ ((t ≡ mine f m e) × Begins m (mine f m e) x q c) → Stood m ⊎ Reads
      by (inl was) = inl was
      by (inr (same, starts)) = inr (begun q rest todo x shows is same starts)
  before _ (resumes o told rest idle moved said) h = by (stood m o.thread 0 Pending.Resume rest t c h)
    where
      by : Stood m ⊎ ((t ≡ o.thread) × Begins m o.thread 0 Pending.Resume c) → Stood m ⊎ Reads
      by (inl was) = inl was
      by (inr (same, starts)) = absurd starts
  before _ (passes who x rest todo v said) h = by (stood m (mine f m e) x (Pending.Inherit (to_thread who)) rest t c h)
    where
      by : Stood m ⊎ ((t ≡ mine f m e) × Begins m (mine f m e) x (Pending.Inherit (to_thread who)) c) → Stood m ⊎ Reads
      by (inl was) = inl was
      by (inr (same, starts)) = absurd starts
  before _ (drops from x rest todo v said) h = by (stood m (mine f m e) x (Pending.Drops from) rest t c h)
    where
      by : Stood m ⊎ ((t ≡ mine f m e) × Begins m (mine f m e) x (Pending.Drops from) c) → Stood m ⊎ Reads
      by (inl was) = inl was
      by (inr (same, starts)) = absurd starts
  before _ (cleans who x rest todo v said) h = by (stood m (mine f m e) x (Pending.CleanPair (to_thread who)) rest t c h)
    where
      by : Stood m ⊎ ((t ≡ mine f m e) × Begins m (mine f m e) x (Pending.CleanPair (to_thread who)) c) → Stood m ⊎ Reads
      by (inl was) = inl was
      by (inr (same, starts)) = absurd starts
  before _ (recycles x rest todo at inside said chosen) h = by (stood m (mine f m e) x Pending.Recycle rest t c h)
    where
      by : Stood m ⊎ ((t ≡ mine f m e) × Begins m (mine f m e) x Pending.Recycle c) → Stood m ⊎ Reads
      by (inl was) = inl was
      by (inr (same, starts)) = absurd starts
  before _ (beside who x q how chosen started) h = by (stood m who x q (thread_at m who).pending t c h)
    where
      quiet : {who x : ℕ} {q : Pending} → Beside f m e who x q → Begins m who x q c → ⊥
      quiet (cuts v site older x todo at same few said) starts = starts
      quiet (times_out deadline site x v todo at same few said) starts = starts
      quiet (expires deadline x todo at few said) starts = starts
      quiet (time_passes at said) starts = starts
      quiet (tells_left todo at said) starts = starts

      by : Stood m ⊎ ((t ≡ who) × Begins m who x q c) → Stood m ⊎ Reads
      by (inl was) = inl was
      by (inr (same, starts)) = absurd (quiet how starts)

  -- One that waited already.

  abbrev kth : ℕ → Bool → Processor
  kth k b = cond b (p_next f.image (f.processors k) e) (f.processors k)

  other-stays : (k : ℕ) → (e.cpu == k) ≡ false → later.processors k ≡ f.processors k
  other-stays k off = ap (kth k) off

  this-now : (k : ℕ) → (e.cpu == k) ≡ true → later.processors k ≡ now
  this-now k on = ap (kth k) on ∙ ap (λ j. p_next f.image (f.processors j) e) (sym (eqb-true e.cpu k on))

  here : later.processors e.cpu ≡ now
  here = this-now e.cpu (eq-eqb e.cpu e.cpu refl)

  looks-now : list_any (is_look t (cell_site c) (noted_at later c t)) now.todo ≡ true → IsCutComing later t c
  looks-now there = looks e.cpu law.by.named (subst (λ (z : Processor). list_any (is_look t (cell_site c) (noted_at later c t)) z.todo ≡ true) (sym here) there)

  reads-now : runs_thread t now ≡ true → list_any (is_reread (cell_site c)) now.todo ≡ true → IsCutComing later t c
  reads-now run there =
      reads e.cpu law.by.named (subst (λ (z : Processor). runs_thread t z ≡ true) (sym here) run) (subst (λ (z : Processor). list_any (is_reread (cell_site c)) z.todo ≡ true) (sym here) there)

  comes-anew : Reads → IsCutComing later t c
  unfolding Reads
  comes-anew (own, run, there) = reads-now run there

  module _ (was : Stood m) (stays : Stood s) where
    waiting : waits (thread_at m t).pending ≡ true
    waiting = resumes-waits (thread_at m t).pending (and_parts (is_to_resume (thread_at m t).pending) _ (wait c t was)).0

    -- it makes no event
    not-mine : (q : Pending) (rest : Steps) (todo : Todos) → Shows f m e.cpu e q rest todo → p.context.thread ≢ t
    not-mine q rest todo h = λ same.
        true≢false (sym waiting ∙ (ap (λ n. waits (thread_at m n).pending) (sym same) ∙ (ap (λ (z : Thread). waits z.pending) (sym (own-same h)) ∙ h.awake)))

    -- so its cell keeps the number of its note
    same-note : noted_at later c t ≡ noted_at f c t
    same-note = noted-kept f m e law t s left not-mine c inside

    -- which is one of the word's
    older : noted_at f c t ≤ (word f t).number
    older =
        let lies = waiter-lies f m law.rel law.sound.wide.threads t (wait c t was) in
        let note = (law.rel.threads t few).note in
        note.number lies.0 (noted_at f c t) lies.1 (note.kept c lies.0 inside was lies.1)

    -- a look for it finds it, and cuts it
    found-look : (site before : ℕ) (todo : Todos) → p.todo ≡ Todo.look t site before ∷ todo → site ≡ cell_site c → noted_at f c t < before → ⊥
    found-look site before todo at same less = by (is_void e.act) refl
      where
        says : e.act ≡ (if is_void e.act then FineAct.Unseen Unseen.Void else by_me f.image p (Act.Cut (to_thread t)))
        says = made-says f m e law (Todo.look t site before ∷ todo) at

        finds-none : is_void e.act ≡ true → ⊥
        finds-none void =
            let place : e.site ≡ waiting_cell c = made-at f m e law (Todo.look t site before ∷ todo) at ∙ (ap site_numbered same ∙ site-of-cell c inside) in
            let moved : e.moved ≡ Exchange.sought (to_thread t) (Some before) = made-moves f m e law (Todo.look t site before ∷ todo) at in
            let said : e.act ≡ FineAct.Unseen Unseen.Void = says ∙ ap (λ b. if b then FineAct.Unseen Unseen.Void else by_me f.image p (Act.Cut (to_thread t))) void in
            let answers = subst (λ (z : Site × FineAct × Exchange). site_answers f.image (f.sites z.0) z.2 z.1 ≡ z.1) (λ j. (place j, said j, moved j)) (ap (λ (s : FineStep). s.act) law.taken.filled_in) in
            let none = cell-void f m law.rel law.sound.wide.threads wait holding c t inside (Exchange.sought (to_thread t) (Some before)) was (λ ws noted. refl) refl answers in
            true≢false (sym (and_from (stands_in t (waiters_in m c)) (nat_lt (noted_at f c t) before) was (lt-ltb (noted_at f c t) before less)) ∙ none)

        not-looked : (list : Todos) → p.todo ≡ list → first_looked list ≡ None → ⊥
        not-looked list other none = true≢false (ap is_some (ap first_looked (sym at ∙ other) ∙ none))

        pair : (v there : ℕ) → ◌≡◌ {A = Option (ℕ × ℕ)} (Some (t, site)) (Some (v, there)) → (t ≡ v) × (site ≡ there)
        pair v there h = (ap (λ (o : Option (ℕ × ℕ)). (unwrap_or o (t, site)).0) h, ap (λ (o : Option (ℕ × ℕ)). (unwrap_or o (t, site)).1) h)

        ends : (z : State) → Leaves f m e z → is_void e.act ≡ false → Stood z → ⊥
        ends _ (nothing u said) found h = true≢false (sym (ap is_unseen said) ∙ ap is_unseen (says ∙ ap (λ b. if b then FineAct.Unseen Unseen.Void else by_me f.image p (Act.Cut (to_thread t))) found))
        ends _ (event q rest todo x shows shown is) found h = not-looked _ shows.at refl
        ends _ (resumes o told rest idle moved said) found h = not-looked _ idle refl
        ends _ (passes who x rest todo v said) found h = not-looked _ v.at refl
        ends _ (drops from x rest todo v said) found h = not-looked _ v.at refl
        ends _ (cleans who x rest todo v said) found h = not-looked _ v.at refl
        ends _ (recycles x rest todo there inside said chosen) found h = not-looked _ there refl
        ends _ (beside who x q how chosen started) found h = by-beside how h
          where
            by-beside : {who x : ℕ} {q : Pending} → Beside f m e who x q → Stood (T.after m who x q (thread_at m who).pending) → ⊥
            by-beside {who = maker} (cuts v there rank x list found-at place within said) h =
                let is = pair v there (ap first_looked (sym at ∙ found-at)) in
                let two : c ≡ x = site-once c x inside within (sym same ∙ (is.1 ∙ place)) in
                cut-gone m maker x (to_thread v) (thread_at m maker).pending
                (subst (λ (z : ℕ × ℕ). stands_in z.0 (waiters_in (T.after m maker x (Pending.Cut (to_thread v)) (thread_at m maker).pending) z.1) ≡ true) (λ i. (is.0 i, two i)) h)
            by-beside (times_out deadline there x v list found-at place within said) h = not-looked _ found-at refl
            by-beside (expires deadline x list found-at within said) h = not-looked _ found-at refl
            by-beside (time_passes idle said) h = not-looked _ idle refl
            by-beside (tells_left list found-at said) h = not-looked _ found-at refl

        by : (b : Bool) → is_void e.act ≡ b → ⊥
        by true void = finds-none void
        by false found = ends s left found stays

    -- a look that is to come
    carry-looks : (k : ℕ) → k < f.cpus → list_any (is_look t (cell_site c) (noted_at f c t)) (f.processors k).todo ≡ true → IsCutComing later t c
    carry-looks k l there = by (e.cpu == k) refl
      where
        by : (b : Bool) → (e.cpu == k) ≡ b → IsCutComing later t c
        by false off = looks k l (subst (λ (z : Processor). list_any (is_look t (cell_site c) (noted_at later c t)) z.todo ≡ true) (sym (other-stays k off)) (subst (λ n. list_any (is_look t (cell_site c) n) (f.processors k).todo ≡ true) (sym same-note) there))
        by true on = mine-looks p.todo refl (subst (λ j. list_any (is_look t (cell_site c) (noted_at f c t)) (f.processors j).todo ≡ true) (sym (eqb-true e.cpu k on)) there)
          where
            tail : (q : Todo) (todo : Todos) → p.todo ≡ q ∷ todo → list_any (is_look t (cell_site c) (noted_at f c t)) todo ≡ true → IsCutComing later t c
            tail q todo at there =
                looks-now (subst (λ n. list_any (is_look t (cell_site c) n) now.todo ≡ true) (sym same-note)
                (next-there f.image (is_look t (cell_site c) (noted_at f c t)) refl p e q todo at (frame q todo at) (reads-last f m e law q todo at) there))

            head : (q : Todo) (todo : Todos) → p.todo ≡ q ∷ todo → is_look t (cell_site c) (noted_at f c t) q ≡ true → ⊥
            head (Todo.look who site before) todo at h =
                let parts = and_parts ((who == t) && (site == cell_site c)) _ h in
                let named = and_parts (who == t) (site == cell_site c) parts.0 in
                found-look site before todo (at ∙ ap (λ n. Todo.look n site before ∷ todo) (eqb-true who t named.0)) (eqb-true site (cell_site c) named.1) (ltb-true (noted_at f c t) before parts.1)
            head q todo at h = absurd (false≢true h)

            mine-looks : (todo : Todos) → p.todo ≡ todo → list_any (is_look t (cell_site c) (noted_at f c t)) p.todo ≡ true → IsCutComing later t c
            mine-looks [] at h = absurd (none-behind (is_look t (cell_site c) (noted_at f c t)) p.todo at h)
            mine-looks (q ∷ todo) at h = which (is_look t (cell_site c) (noted_at f c t) q) refl
              where
                which : (b : Bool) → is_look t (cell_site c) (noted_at f c t) q ≡ b → IsCutComing later t c
                which true k = absurd (head q todo at k)
                which false k = tail q todo at (sym (ap (λ b. b || list_any (is_look t (cell_site c) (noted_at f c t)) todo) k) ∙ (sym (ap (list_any (is_look t (cell_site c) (noted_at f c t))) at) ∙ h))

    -- its word is to be read once more
    carry-reads : (word later t).aborted ≡ true → (k : ℕ) → k < f.cpus → runs_thread t (f.processors k) ≡ true → list_any (is_reread (cell_site c)) (f.processors k).todo ≡ true → IsCutComing later t c
    carry-reads aborted k l runs-it there = by (e.cpu == k) refl
      where
        by : (b : Bool) → (e.cpu == k) ≡ b → IsCutComing later t c
        by false off =
            reads k l (subst (λ (z : Processor). runs_thread t z ≡ true) (sym (other-stays k off)) runs-it)
            (subst (λ (z : Processor). list_any (is_reread (cell_site c)) z.todo ≡ true) (sym (other-stays k off)) there)
        by true on =
            let same = sym (eqb-true e.cpu k on) in
            mine-reads p.todo refl (subst (λ j. runs_thread t (f.processors j) ≡ true) same runs-it) (subst (λ j. list_any (is_reread (cell_site c)) (f.processors j).todo ≡ true) same there)
          where
            reread : (q : Todo) (todo : Todos) → p.todo ≡ q ∷ todo → p.context.thread ≡ t → is_reread (cell_site c) q ≡ true → IsCutComing later t c
            reread (Todo.reread there) todo at own h = looks-now (made-there f.image (is_look t (cell_site c) (noted_at later c t)) refl p e (Todo.reread there) todo at puts)
              where
                site : e.site ≡ Site.thread t
                site = made-at f m e law (Todo.reread there ∷ todo) at ∙ ap Site.thread own

                word-same : thread_in e.word ≡ word later t
                word-same =
                    ap thread_in (word-left f m e law ∙ ap (λ i. word_of (s_next f.image (f.sites i) e)) site)
                    ∙ (ap (λ (s : SiteState). thread_in (word_of (site_after f.image s e.act e.moved))) (thread-sort t (f.sites (Site.thread t)) (law.rel.sorts (Site.thread t)))
                    ∙ sym (word-here f m e law t few (ap (λ i. same_site i (Site.thread t)) site ∙ eq-eqb t t refl)))

                number : (word later t).number ≡ (word f t).number + 1
                number =
                    ap (λ (w : ThreadWord). w.number)
                    (word-here f m e law t few (ap (λ i. same_site i (Site.thread t)) site ∙ eq-eqb t t refl)
                    ∙ ap (λ a. counted_thread (thread_after (word f t) a)) (made-says f m e law (Todo.reread there ∷ todo) at))

                newer : noted_at later c t < (thread_in e.word).number
                newer = let least = older in let kept = same-note in let now-number = number in let read = ap (λ (w : ThreadWord). w.number) word-same in omega (arith, least, kept, now-number, read)

                is-it : is_look t (cell_site c) (noted_at later c t) (Todo.look p.context.thread there (thread_in e.word).number) ≡ true
                is-it =
                    and_from ((p.context.thread == t) && (there == cell_site c)) _ (and_from (p.context.thread == t) (there == cell_site c) (eq-eqb p.context.thread t own) h)
                    (lt-ltb (noted_at later c t) (thread_in e.word).number newer)

                puts : list_any (is_look t (cell_site c) (noted_at later c t)) (goes_on_by f.image p e (Todo.reread there ∷ todo)).todo ≡ true
                puts =
                    ap (λ b. list_any (is_look t (cell_site c) (noted_at later c t)) (filled_up f.image p.context (if b then Todo.look p.context.thread there (thread_in e.word).number ∷ todo else todo)))
                    (ap (λ (w : ThreadWord). w.aborted) word-same ∙ aborted)
                    ∙ ap (λ b. b || list_any (is_look t (cell_site c) (noted_at later c t)) todo) is-it
            reread q todo at own h = absurd (false≢true h)

            end-last : (q : Todo) (todo : Todos) → is_end q ≡ true → Behind f.image q todo → todo ≡ []
            end-last Todo.park todo h behind = behind
            end-last Todo.done todo h behind = behind
            end-last Todo.paid todo h behind = behind
            end-last q todo h behind = absurd (false≢true h)

            mine-reads : (todo : Todos) → p.todo ≡ todo → runs_thread t p ≡ true → list_any (is_reread (cell_site c)) p.todo ≡ true → IsCutComing later t c
            mine-reads [] at run h = absurd (none-behind (is_reread (cell_site c)) p.todo at h)
            mine-reads (q ∷ todo) at run h = which (is_reread (cell_site c) q) refl
              where
                parts : (runs p ≡ true) × ((p.context.thread == t) ≡ true)
                parts = and_parts (runs p) (p.context.thread == t) run

                own : p.context.thread ≡ t
                own = eqb-true p.context.thread t parts.1

                which : (b : Bool) → is_reread (cell_site c) q ≡ b → IsCutComing later t c
                which true k = reread q todo at own k
                which false k = on-end (is_end q) refl
                  where
                    tail : list_any (is_reread (cell_site c)) todo ≡ true
                    tail = sym (ap (λ b. b || list_any (is_reread (cell_site c)) todo) k) ∙ (sym (ap (list_any (is_reread (cell_site c))) at) ∙ h)

                    on-end : (b : Bool) → is_end q ≡ b → IsCutComing later t c
                    on-end true ends = absurd (none-behind (is_reread (cell_site c)) todo (end-last q todo ends (frame q todo at)) tail)
                    on-end false goes =
                        reads-now (runs-on q todo at goes parts.0 own) (next-there f.image (is_reread (cell_site c)) refl p e q todo at (frame q todo at) (reads-last f m e law q todo at) tail)

    carried : (word later t).aborted ≡ true → (word f t).aborted ≡ true → IsCutComing later t c
    carried aborted before = by ((law.rel.threads t few).cut_comes.comes c inside before was)
      where
        by : IsCutComing f t c → IsCutComing later t c
        by (looks k l there) = carry-looks k l there
        by (reads k l runs-it there) = carry-reads aborted k l runs-it there

    -- One that is aborted now.

    aborted-same : (act : FineAct) → e.act ≡ act → ((w : ThreadWord) → (thread_after w act).aborted ≡ w.aborted) → (word later t).aborted ≡ (word f t).aborted
    aborted-same act said same = by (same_site e.site (Site.thread t)) refl
      where
        by : (b : Bool) → same_site e.site (Site.thread t) ≡ b → (word later t).aborted ≡ (word f t).aborted
        by true on = ap (λ (w : ThreadWord). w.aborted) (word-here f m e law t few on ∙ ap (λ a. counted_thread (thread_after (word f t) a)) said) ∙ same (word f t)
        by false off = ap (λ (w : ThreadWord). w.aborted) (word-else f m e law t few off)

    either-same : (b : Bool) (w z : ThreadWord) → z.aborted ≡ w.aborted → (if b then z else w).aborted ≡ w.aborted
    either-same true w z h = h
    either-same false w z h = refl

    module _ (old : (word f t).aborted ≡ false) (aborted : (word later t).aborted ≡ true) where
      not-same : {A : Type 0} → (word later t).aborted ≡ (word f t).aborted → A
      not-same same = absurd (true≢false (sym aborted ∙ (same ∙ old)))

      on-abort : (who : ThreadIx) (rest : Steps) (todo : Todos) (h : Shows f m e.cpu e (Pending.Abort who) rest todo) → e.act ≡ shows f.image p (Pending.Abort who) e.act
          → is_done_in (act_in e.act) ≡ is_living (thread_at m who.0).life → IsCutComing later t c
      on-abort who rest todo h said done = by (who.0 == t) refl
        where
          by : (b : Bool) → (who.0 == t) ≡ b → IsCutComing later t c
          by false k = not-same (ap (λ (w : ThreadWord). w.aborted) (word-else f m e law t few (ap (λ i. same_site i (Site.thread t)) (site-is h) ∙ k)))
          by true k = living-by (is_living (word f t).life) refl
            where
              on : same_site e.site (Site.thread t) ≡ true
              on = ap (λ i. same_site i (Site.thread t)) (site-is h) ∙ k

              now-word : word later t ≡ counted_thread (if is_living (word f t).life then record (word f t) { aborted = true } else word f t)
              now-word = word-here f m e law t few on ∙ ap (λ a. counted_thread (thread_after (word f t) a)) said

              word-same : thread_in e.word ≡ word later t
              word-same =
                  ap thread_in (word-left f m e law ∙ ap (λ i. word_of (s_next f.image (f.sites i) e)) (same-sound e.site (Site.thread t) on))
                  ∙ (ap (λ (s : SiteState). thread_in (word_of (site_after f.image s e.act e.moved))) (thread-sort t (f.sites (Site.thread t)) (law.rel.sorts (Site.thread t)))
                  ∙ sym (word-here f m e law t few on))

              living-by : (b : Bool) → is_living (word f t).life ≡ b → IsCutComing later t c
              living-by false dead = not-same (ap (λ (w : ThreadWord). w.aborted) (now-word ∙ ap (λ b. counted_thread (if b then record (word f t) { aborted = true } else word f t)) dead))
              living-by true lives = looks-now (made-there f.image (is_look t (cell_site c) (noted_at later c t)) refl p e (Todo.show h.listed rest) todo h.at
                  (subst (λ (z : Processor). list_any (is_look t (cell_site c) (noted_at later c t)) z.todo ≡ true)
                  (sym (λ i. if h.shown i then record p { todo = put_away (thread_in e.word).doomed } else after_show f.image p e (h.made i) rest todo)) puts))
                where
                  exact : word later t ≡ counted_thread (record (word f t) { aborted = true })
                  exact = now-word ∙ ap (λ b. counted_thread (if b then record (word f t) { aborted = true } else word f t)) lives

                  note : (thread_in e.word).note ≡ Some (cell_site c)
                  note = ap (λ (w : ThreadWord). w.note) (word-same ∙ exact) ∙ (law.rel.threads t few).note.waits c inside was

                  is-done : is_done_in (act_in e.act) ≡ true
                  is-done = done ∙ (ap (λ n. is_living (thread_at m n).life) (eqb-true who.0 t k) ∙ (sym (ap is_living (law.rel.threads t few).word.life) ∙ lives))

                  other : (who.0 == p.context.thread) ≡ false
                  other = ne_eqb who.0 p.context.thread (λ own. not-mine (Pending.Abort who) rest todo h (sym own ∙ eqb-true who.0 t k))

                  newer : noted_at later c t < (thread_in e.word).number
                  newer = let least = older in let kept = same-note in let read = ap (λ (w : ThreadWord). w.number) (word-same ∙ exact) in omega (arith, least, kept, read)

                  is-it : is_look t (cell_site c) (noted_at later c t) (Todo.look who.0 (cell_site c) (thread_in e.word).number) ≡ true
                  is-it =
                      and_from ((who.0 == t) && (cell_site c == cell_site c)) _ (and_from (who.0 == t) (cell_site c == cell_site c) k (eq-eqb (cell_site c) (cell_site c) refl))
                      (lt-ltb (noted_at later c t) (thread_in e.word).number newer)

                  puts : list_any (is_look t (cell_site c) (noted_at later c t)) (after_show f.image p e (Pending.Abort who) rest todo).todo ≡ true
                  puts =
                      let d = continues f.image p.context 0 (Pending.Abort who) rest (act_in e.act) e.moved in
                      let list = behind_step f.image p.context (Pending.Abort who) e.moved (filled_up f.image d (waits_behind f.image (Pending.Abort who) e todo)) in
                      ap (λ b. list_any (is_look t (cell_site c) (noted_at later c t)) (if b then looks_for f.image who.0 (thread_in e.word) list else list)) (λ i. is-done i && not (other i))
                      ∙ (ap (λ o. list_any (is_look t (cell_site c) (noted_at later c t)) (elim o as (λ _. Todos) [ Some site ↦ Todo.look who.0 site (thread_in e.word).number ∷ list | None ↦ Todo.rouse who.0 ∷ list ])) note
                      ∙ ap (λ b. b || list_any (is_look t (cell_site c) (noted_at later c t)) list) is-it)

      on-start : (who : ThreadIx) (rest : Steps) (todo : Todos) (q : Pending) → e.site ≡ Site.thread who.0 → ((w : ThreadWord) → (thread_after w e.act).aborted ≡ false) → IsCutComing later t c
      on-start who rest todo q site resets = by (who.0 == t) refl
        where
          by : (b : Bool) → (who.0 == t) ≡ b → IsCutComing later t c
          by false k = not-same (ap (λ (w : ThreadWord). w.aborted) (word-else f m e law t few (ap (λ i. same_site i (Site.thread t)) site ∙ k)))
          by true k = absurd (true≢false (sym aborted ∙ (ap (λ (w : ThreadWord). w.aborted) (word-here f m e law t few (ap (λ i. same_site i (Site.thread t)) site ∙ k)) ∙ resets (word f t))))

      by-event : (q : Pending) (rest : Steps) (todo : Todos) (x : ℕ) → Shows f m e.cpu e q rest todo → IsStep f m e.cpu e x q → IsCutComing later t c
      by-event (Pending.Abort who) rest todo x h is = on-abort who rest todo h is.said (ap is_done_in is.says)
      by-event (Pending.Suspend who) rest todo x h is = not-same (aborted-same _ is.said (λ w. either-same (is_living w.life) w (record w { suspended = true }) refl))
      by-event (Pending.Continue who) rest todo x h is = not-same (aborted-same _ is.said (λ w. either-same (is_living w.life) w (record w { suspended = false }) refl))
      by-event (Pending.Start who script stack priority mode) rest todo x h is =
          on-start who rest todo (Pending.Start who script stack priority mode) (site-is h) (λ w. ap (λ a. (thread_after w a).aborted) is.said)
      by-event q rest todo x h is = not-same (aborted-same _ is.said (λ w. (shown-same f.image p w (more_of f.image p q) q (act_in e.act) tt).1))

      anew : (z : State) → Leaves f m e z → IsCutComing later t c
      anew _ (nothing u said) = not-same (aborted-same (FineAct.Unseen u) said (λ w. (unseen-same w u).1))
      anew _ (event q rest todo x h shown is) = by-event q rest todo x h is
      anew _ (resumes o told rest idle moved said) = not-same (aborted-same _ said (λ w. refl))
      anew _ (passes who x rest todo v said) = not-same (aborted-same _ said (λ w. refl))
      anew _ (drops from x rest todo v said) = not-same (aborted-same _ said (λ w. refl))
      anew _ (cleans who x rest todo v said) = not-same (aborted-same _ said (λ w. refl))
      anew _ (recycles x rest todo at inside said chosen) = not-same (aborted-same _ said (λ w. refl))
      anew _ (beside u x q how chosen started) = by how
        where
          by : {u x : ℕ} {q : Pending} → Beside f m e u x q → IsCutComing later t c
          by (cuts v site before x todo at same few said) = not-same (aborted-same _ said (λ w. refl))
          by (times_out deadline site x v todo at same few said) = not-same (aborted-same _ said (λ w. refl))
          by (expires deadline x todo at few said) = not-same (aborted-same _ said (λ w. refl))
          by (time_passes at said) = not-same (aborted-same _ said (λ w. refl))
          by (tells_left todo at said) = not-same (aborted-same _ said (λ w. refl))

    waited-comes : (word later t).aborted ≡ true → IsCutComing later t c
    waited-comes aborted = by (word f t).aborted refl
      where
        by : (b : Bool) → (word f t).aborted ≡ b → IsCutComing later t c
        by true k = carried aborted k
        by false k = anew k aborted s left

  comes-in : (word later t).aborted ≡ true → Stood s → IsCutComing later t c
  comes-in aborted stands = by (before s left stands)
    where
      by : Stood m ⊎ Reads → IsCutComing later t c
      by (inl was) = waited-comes was stands aborted
      by (inr reads-it) = comes-anew reads-it

pub cut-comes-part : (f : Fine) (m : State) (e : FineStep) → Lawful f m e → WaitersHold m → WaitersWait m → (t : ℕ) → t < THREADS → (s : State) → Leaves f m e s → CutComes (around f e).later s t
cut-comes-part f m e law holding wait t few s left = record { comes = λ c inside aborted stands. comes-in f m e law holding wait t few s left c inside aborted stands }
