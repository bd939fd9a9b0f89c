-- A turn is done with a thread that is at rest, and has ended or is doomed, after every lawful step.
use Rattle.um_refinement.proofs.Words.{by_me, is_living, not-true, or-true, runs, scheduler, waits, with_cleaned, ◌&&◌, ◌≡◌, ◌⊎◌, inl, inr, ℕ, ◌<◌, Bool, true, false, cond, [], ◌∷◌, refl, sym, ap, ◌∙◌, subst, ◌==◌, ◌||◌, if◌then◌else◌, not, list_any, and_parts, eqb-true, false≢true, true≢false, Act, THREADS, Pending, Thread, Steps, State, thread_at, FineAct, Unseen, ThreadWord, thread_after, thread_after_act, is_word_read, begins_cleaning, says_show, shows, site_of_step, Context, after_show, after_take, goes_on_by, p_next, Todo, Todos, Processor, SiteState, s_next, same_site, site_after, word_of, Exchange, FineStep, Site, Fine, thread_state, word, is_done, Fits, IsOffered, IsOf, thread_in}
use Rattle.um_fine.specs.Answers.{is_killed}
use Rattle.um_fine.specs.Follows.{shown_step}
use Rattle.um_fine.specs.Places.{put_away}
use Rattle.um_fine.specs.Scheduler.{is_cut, to_kill}
use Rattle.um_refinement.specs.Lists.{is_sleep}
use Rattle.um_refinement.specs.Timing.{IsHand, IsPaying}
use Rattle.um_refinement.proofs.ListClaims.{IsThread}
use Rattle.um_refinement.proofs.ListGrowth.{acted-kept}
use Rattle.um_refinement.proofs.Offered.{own-unless, runs-first}
use Rattle.um_refinement.specs.Offers as O
use Rattle.um_refinement.proofs.CallSteps.{Proper}
use Rattle.um_refinement.proofs.CallsProper.{AreProper}
use Rattle.um_refinement.proofs.ContextsPart.{now-context}
use Rattle.um_refinement.proofs.Erased.{around, later}
use Rattle.um_refinement.proofs.Leaves.{Lawful, Leaves}
use Rattle.um_refinement.proofs.ListDone.{AsBefore, Done, Ends, Read, goes-done, says_done, take-ends, with-cleaned-done}
use Rattle.um_refinement.proofs.Taking.{Idles, idles, takes, tends}
use Rattle.um_refinement.proofs.RowSteps.{thread-sort}
use Rattle.um_refinement.proofs.SchedulerSteps.{made-at, made-says, word-left}
use Rattle.um_refinement.proofs.StepsLeft.{offered-on}
use Rattle.um_refinement.proofs.WordsPart.{words-part}

-- a thread that is doomed stays so
word-doomed : (w : ThreadWord) (act : FineAct) → w.doomed ≡ true → (thread_after w act).doomed ≡ true
word-doomed w (FineAct.Shown said more) h = by said.act
  where
    flag : (b : Bool) (z : ThreadWord) → z.doomed ≡ true → (if b then z else w).doomed ≡ true
    flag true z k = k
    flag false z k = h

    by : (act : Act) → (thread_after_act w more act).doomed ≡ true
    by (Act.Doom who) = refl
    by (Act.Abort who done) = flag (is_living w.life) (record w { aborted = true }) h
    by (Act.Suspend who done) = flag (is_living w.life) (record w { suspended = true }) h
    by (Act.Continue who done) = flag (is_living w.life) (record w { suspended = false }) h
    by act = h
word-doomed w (FineAct.Unseen Unseen.Hold) h = h
word-doomed w (FineAct.Unseen Unseen.LetGo) h = h
word-doomed w (FineAct.Unseen u) h = h

-- the list of a mark in the hand ends no turn
paying-done : (todo : Todos) → IsPaying todo → list_any is_done todo ≡ false
paying-done [] h = absurd h
paying-done (Todo.wake who told ∷ todo) h = paying-done todo h
paying-done (Todo.paid ∷ todo) h = ap (list_any is_done) h
paying-done (q ∷ todo) h = absurd h

hand-done : (todo : Todos) → IsHand todo → list_any is_done todo ≡ false
hand-done [] h = absurd h
hand-done (Todo.handle deadline mark ∷ todo) h = ap (list_any is_done) h
hand-done (q ∷ todo) h = paying-done (q ∷ todo) h

hand-undone : (q : Todo) (todo : Todos) → IsHand (q ∷ todo) → says_done todo ≡ false
hand-undone q todo h = by (list_any is_done todo) refl
  where
    by : (b : Bool) → list_any is_done todo ≡ b → says_done todo ≡ false
    by false k = ap (λ c. c && not (list_any is_sleep todo)) k
    by true k = absurd (false≢true (sym (hand-done (q ∷ todo) h) ∙ (ap (λ c. is_done q || c) k ∙ or-true (is_done q))))

module _ (f : Fine) (m : State) (e : FineStep) (law : Lawful f m e) where
  open around f e use {processor as p, now}

  pub doomed-kept : (s : State) → Leaves f m e s → (v : ℕ) → v < THREADS → (thread_at m v).doomed ≡ true → (thread_at s v).doomed ≡ true
  doomed-kept s how v few h = sym (words-part f m e law v few s how).doomed ∙ by (same_site e.site (Site.thread v)) refl ((law.rel.threads v few).word.doomed ∙ h)
    where
      by : (b : Bool) → same_site e.site (Site.thread v) ≡ b → (word f v).doomed ≡ true → (word (later f e) v).doomed ≡ true
      by true q k =
          ap (λ b. (thread_state (cond b (s_next f.image (f.sites (Site.thread v)) e) (f.sites (Site.thread v)))).doomed) q
          ∙ (ap (λ (z : SiteState). (thread_state (site_after f.image z e.act e.moved)).doomed) (thread-sort v (f.sites (Site.thread v)) (law.rel.sorts (Site.thread v)))
          ∙ word-doomed (word f v) e.act k)
      by false q k = ap (λ b. (thread_state (cond b (s_next f.image (f.sites (Site.thread v)) e) (f.sites (Site.thread v)))).doomed) q ∙ k

  -- whose word was read is at rest, and doomed
  read-rests-doomed : AreProper m.image m → (q : Pending) (rest : Steps) (todo : Todos) → p.todo ≡ Todo.show q rest ∷ todo → is_word_read e.act ≡ true → (thread_in e.word).doomed ≡ true
      → (p.context.pending ≡ []) × ((thread_at m p.context.thread).doomed ≡ true)
  read-rests-doomed proper q rest todo at read said-doomed = (by q rest offered (made-says f m e law (Todo.show q rest ∷ todo) at), doomed)
    where
      offered : IsOffered f.image p.context q rest
      offered = (subst (Fits f.image p.context) at (law.rel.processors e.cpu law.by.named).list.fits).0

      of : IsOf f m p.context
      of = (law.rel.contexts.running e.cpu law.by.named (runs-first law.rel law.by.named (Todo.show q rest) todo at (λ hand. hand))).of (offered-on f.image p.context q rest offered)

      -- the steps of one that doesn't wait are the machine's
      own-proper : (steps : Steps) → p.context.pending ≡ steps → waits steps ≡ false → Proper m.image (thread_at m p.context.thread).checked steps
      own-proper steps h awake =
          subst (Proper m.image (thread_at m p.context.thread).checked) (sym (ap (λ (th : Thread). th.pending) (own-unless of (ap waits h ∙ awake))) ∙ h) (proper p.context.thread).0

      -- nobody has a begin or an exit among its steps
      starts-none : (r : Pending) (more : Steps) → Proper m.image (thread_at m p.context.thread).checked (r ∷ more) → e.act ≡ says_show f.image p r e.act → ⊥
      starts-none Pending.Begin more h said = h
      starts-none Pending.Exit more h said = h
      starts-none r more h said = true≢false (sym read ∙ ap is_word_read said)

      starts-next : (r : Pending) (more : Steps) → p.context.pending ≡ r ∷ more → e.act ≡ says_show f.image p r e.act → ⊥
      starts-next Pending.Begin more h said = own-proper (Pending.Begin ∷ more) h refl
      starts-next Pending.Exit more h said = own-proper (Pending.Exit ∷ more) h refl
      starts-next r more h said = true≢false (sym read ∙ ap is_word_read said)

      by : (r : Pending) (more : Steps) → IsOffered f.image p.context r more → e.act ≡ says_show f.image p r e.act → p.context.pending ≡ []
      by r more (O.goes h) said = absurd (starts-next r more h said)
      by r more (O.passed {who} h) said = absurd (starts-none r more (own-proper (Pending.Inherit who ∷ r ∷ more) h refl).1 said)
      by r more (O.dropped {from} h) said = absurd (starts-none r more (own-proper (Pending.Drops from ∷ r ∷ more) h refl) said)
      by _ _ (O.begins none on i) said = none
      by _ _ (O.exits none on i) said = none

      unseen : (r : Pending) → e.act ≡ says_show f.image p r e.act → e.site ≡ site_of_step f.image p r → (e.act ≡ FineAct.Unseen Unseen.WordRead) × (e.site ≡ Site.thread p.context.thread)
      unseen Pending.Begin said site =
          (said ∙ ap (λ b. if b then FineAct.Unseen Unseen.WordRead else if is_killed e.act then by_me f.image p Act.Killed else shows f.image p Pending.Begin e.act) read, site)
      unseen Pending.Exit said site =
          (said ∙ ap (λ b. if b then FineAct.Unseen Unseen.WordRead else if is_killed e.act then by_me f.image p Act.Killed else shows f.image p Pending.Exit e.act) read, site)
      unseen r said site = absurd (true≢false (sym read ∙ ap is_word_read said))

      doomed : (thread_at m p.context.thread).doomed ≡ true
      doomed =
          let is = unseen q (made-says f m e law (Todo.show q rest ∷ todo) at) (made-at f m e law (Todo.show q rest ∷ todo) at) in
          let here : (thread_in (word_of (s_next f.image (f.sites e.site) e))).doomed ≡ (word f p.context.thread).doomed =
          ap (λ (i : Site). (thread_in (word_of (site_after f.image (f.sites i) e.act e.moved))).doomed) is.1
          ∙ (ap (λ (z : SiteState). (thread_in (word_of (site_after f.image z e.act e.moved))).doomed) (thread-sort p.context.thread (f.sites (Site.thread p.context.thread)) (law.rel.sorts (Site.thread p.context.thread)))
          ∙ ap (λ (act : FineAct). (thread_after (word f p.context.thread) act).doomed) is.0) in
          sym (law.rel.threads p.context.thread of.index).word.doomed ∙ (sym here ∙ (ap (λ w. (thread_in w).doomed) (sym (word-left f m e law)) ∙ said-doomed))

  -- The list of the processor that makes the step.

  abbrev IsDone : State → Context → Type 0
  IsDone s c = (c.pending ≡ []) × ((c.ended ≡ true) ⊎ ((thread_at s c.thread).doomed ≡ true))

  done-stays : (s : State) (how : Leaves f m e s) (c : Context) → c.thread < THREADS → IsDone m c → IsDone s c
  done-stays s how c few (none, inl ended) = (none, inl ended)
  done-stays s how c few (none, inr doomed) = (none, inr (doomed-kept s how c.thread few doomed))

  done-as : (s : State) (c d : Context) → AsBefore f.image c d → IsDone s d → IsDone s c
  done-as s c d same (none, inl ended) = (same.pending ∙ none, inl (same.ended ∙ ended))
  done-as s c d same (none, inr doomed) = (same.pending ∙ none, inr (ap (λ n. (thread_at s n).doomed) same.thread ∙ doomed))

  ends-done : (s : State) (c : Context) → Ends c → IsDone s c
  ends-done s c h = (h.0, inl h.1)

  mine-done : AreProper m.image m → (s : State) (how : Leaves f m e s) → says_done now.todo ≡ true → IsDone s now.context
  mine-done proper s how h = by p.todo refl
    where
      listed : says_done (goes_on_by f.image p e p.todo).todo ≡ true
      listed =
          sym (with-cleaned-done f.image (goes_on_by f.image p e p.todo) e (begins_cleaning e))
          ∙ (sym (ap says_done (acted-kept f.image (λ (z : Todos). z ≡ (with_cleaned f.image (goes_on_by f.image p e p.todo) e (begins_cleaning e)).todo) (with_cleaned f.image (goes_on_by f.image p e p.todo) e (begins_cleaning e)) e.act refl))
          ∙ h)

      -- a mark that is taken ends no turn
      untaken : (moved : Exchange) → (IsThread moved → ⊥) → p.todo ≡ [] → says_done (after_take f.image p moved).todo ≡ false
      untaken (Exchange.thread c told) other at = absurd (other tt)
      untaken (Exchange.mark deadline mark) other at = refl
      untaken moved other at = ap says_done at

      taken : p.todo ≡ [] → Idles f e → IsDone s now.context
      taken at (takes first) =
          let after = ap (λ (z : Todos). goes_on_by f.image p e z) at ∙ ap (after_take f.image p) first.moved in
          let ends = take-ends f.image p (to_kill (is_cut (scheduler f) first.thread) first.parked) first.told (ap (λ (z : Processor). says_done z.todo) (sym after) ∙ listed) in
          ends-done s now.context (subst Ends (sym (now-context f m e law [] at ∙ ap (λ (mv : Exchange). (after_take f.image p mv).context) first.moved)) ends)
      taken at (tends is) = absurd (false≢true (sym (ap (λ (z : Todos). says_done (goes_on_by f.image p e z).todo) at ∙ untaken e.moved is.other at) ∙ listed))

      -- it is its thread's turn that is done
      running : (q : Todo) (todo : Todos) → p.todo ≡ q ∷ todo → says_done todo ≡ true → runs p ≡ true
      running q todo at done = runs-first law.rel law.by.named q todo at (λ hand. false≢true (sym (hand-undone q todo hand) ∙ done))

      was-done : (q : Todo) (todo : Todos) → p.todo ≡ q ∷ todo → says_done todo ≡ true → AsBefore f.image (goes_on_by f.image p e (q ∷ todo)).context p.context → IsDone m p.context
      was-done q todo at done same = law.rel.contexts.done e.cpu law.by.named (ap (list_any is_done) at ∙ later-one (is_done q)) (ap (list_any is_sleep) at ∙ awake q at same)
        where
          parts : (list_any is_done todo ≡ true) × (not (list_any is_sleep todo) ≡ true)
          parts = and_parts (list_any is_done todo) _ done

          later-one : (b : Bool) → (b || list_any is_done todo) ≡ true
          later-one true = refl
          later-one false = parts.0

          awake : (r : Todo) → p.todo ≡ r ∷ todo → AsBefore f.image (goes_on_by f.image p e (r ∷ todo)).context p.context → list_any is_sleep (r ∷ todo) ≡ false
          awake Todo.sleep there k = absurd (true≢false (k.ended ∙ (subst (Fits f.image p.context) there (law.rel.processors e.cpu law.by.named).list.fits).1))
          awake r there k = not-true (list_any is_sleep todo) parts.1

      goes : (q : Todo) (todo : Todos) → p.todo ≡ q ∷ todo → Done f.image p e q todo → IsDone s now.context
      goes q todo at (inl read) = reads q at read
        where
          reads : (q : Todo) → p.todo ≡ q ∷ todo → Read f.image e q → IsDone s now.context
          reads (Todo.show r rest) at read =
              let rest-is = read-rests-doomed proper r rest todo at read.0 read.1 in
              let index = (law.rel.contexts.running e.cpu law.by.named (runs-first law.rel law.by.named (Todo.show r rest) todo at (λ hand. hand))).index in
              let context : now.context ≡ p.context =
              now-context f m e law (Todo.show r rest ∷ todo) at
              ∙ ap (λ b. (if b then record p { todo = put_away (thread_in e.word).doomed } else after_show f.image p e (shown_step f.image r e.act) rest todo).context) read.0 in
              subst (IsDone s) (sym context) (done-stays s how p.context index (rest-is.0, inr rest-is.1))
          reads r at none = absurd none
      goes q todo at (inr (inl was)) =
          let index = (law.rel.contexts.running e.cpu law.by.named (running q todo at was.0)).index in
          subst (IsDone s) (sym (now-context f m e law (q ∷ todo) at))
          (done-as s (goes_on_by f.image p e (q ∷ todo)).context p.context was.1 (done-stays s how p.context index (was-done q todo at was.0 was.1)))
      goes q todo at (inr (inr ends)) = ends-done s now.context (subst Ends (sym (now-context f m e law (q ∷ todo) at)) ends)

      by : (todo : Todos) → p.todo ≡ todo → IsDone s now.context
      by [] at = taken at (idles f m e law at)
      by (q ∷ todo) at =
          goes q todo at (goes-done f.image p e q todo (subst (Fits f.image p.context) at (law.rel.processors e.cpu law.by.named).list.fits) (ap (λ (z : Todos). says_done (goes_on_by f.image p e z).todo) (sym at) ∙ listed))

  abbrev Says : Processor → State → Type 0
  Says z s = list_any is_done z.todo ≡ true → list_any is_sleep z.todo ≡ false → IsDone s z.context

  -- each processor's list
  pub done-part : AreProper m.image m → (s : State) (how : Leaves f m e s) → (k : ℕ) → k < f.cpus → Says ((later f e).processors k) s
  done-part proper s how k l = by (e.cpu == k) refl
    where
      by : (b : Bool) → (e.cpu == k) ≡ b → Says (cond b (p_next f.image (f.processors k) e) (f.processors k)) s
      by true q = subst (λ n. Says (p_next f.image (f.processors n) e) s) (eqb-true e.cpu k q) (λ done awake. mine-done proper s how (λ i. done i && not (awake i)))
      by false q = λ done awake.
          let index = (law.rel.contexts.running k l (runs-on (f.processors k).todo refl done)).index in
          done-stays s how (f.processors k).context index (law.rel.contexts.done k l done awake)
        where
          runs-on : (todo : Todos) → (f.processors k).todo ≡ todo → list_any is_done todo ≡ true → runs (f.processors k) ≡ true
          runs-on [] at h = absurd (false≢true h)
          runs-on (q ∷ todo) at h = runs-first law.rel l q todo at (λ hand. false≢true (sym (hand-done (q ∷ todo) hand) ∙ h))
