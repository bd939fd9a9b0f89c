-- A thread that sleeps is suspended and not aborted, or somebody is to rouse it, or the one that put it to sleep is to read its word once more, after
-- every lawful step.
use Rattle.um_refinement.proofs.Words.{◌≡◌, ℕ, ◌<◌, Bool, true, false, cond, List, [], ◌∷◌, Option, Some, None, refl, sym, ap, ◌∙◌, subst, ◌==◌, ◌||◌, not, eq-eqb, eqb-false, eqb-true, false≢true, true≢false, if◌then◌else◌, is_some, list_any, get_or-set_other, slice_index_or, slice_set, Exchange, FineAct, FineStep, Unseen, Context, Processor, State, ThreadWord, to_thread, Site, SiteState, site_answers, site_after, s_next, same_site, thread_in, Todo, Todos, Fits, Fine, word, p_next, Behind, THREADS}
use Rattle.um_words.specs.Threads.{is_awake}
use Rattle.um_fine.specs.Answers.{is_void}
use Rattle.um_fine.specs.Joins.{Joins, asleep_at, join_after}
use Rattle.um_fine.specs.Asks.{roused_by}
use Rattle.um_fine.specs.Seeking.{looked_for}
use Rattle.um_fine.specs.Sites.{word_of}
use Rattle.um_refinement.specs.Fine.{joins}
use Rattle.um_refinement.specs.Stops.{IsRouseComing, SleepIs, is_reread_asleep, is_rouse, reads, rouses, sleeps}
use Rattle.um_refinement.proofs.Erased.{around}
use Rattle.um_refinement.proofs.Kept.{joins-sort}
use Rattle.um_refinement.proofs.Leaves.{Lawful, Leaves}
use Rattle.um_refinement.proofs.ListGrips.{next-thread}
use Rattle.um_refinement.proofs.ListGrowth.{is_end}
use Rattle.um_refinement.proofs.ParkedPart.{asleep-same, awake-act, idle-awake, joins-later}
use Rattle.um_refinement.proofs.PlacesFacts.{set-none}
use Rattle.um_refinement.proofs.RowSteps.{thread-sort}
use Rattle.um_refinement.proofs.SchedulerSteps.{made-at, made-moves, made-says, word-left}
use Rattle.um_refinement.proofs.SleepFlags.{Flags, flags, is_roused, stays, suspends, word-here}
use Rattle.um_refinement.proofs.StepReads.{is-behind, reads-last}
use Rattle.um_refinement.proofs.TailsKept.{made-there, next-there}

none-behind : (test : Todo → Bool) (todo : Todos) → todo ≡ [] → list_any test todo ≡ true → ⊥
none-behind test todo empty h = false≢true (sym (ap (list_any test) empty) ∙ h)

module _ (f : Fine) (m : State) (e : FineStep) (law : Lawful f m e) (s : State) (left : Leaves f m e s) (t : ℕ) (few : t < THREADS) where
  open around f e use {later, processor as p, now}
  open is-behind f m e law use {frame}

  abbrev kth : ℕ → Bool → Processor
  kth k b = cond b (p_next f.image (f.processors k) e) (f.processors k)

  -- another processor stays, and this one has made its step
  other-stays : (k : ℕ) → (e.cpu == k) ≡ false → later.processors k ≡ f.processors k
  other-stays k off = ap (kth k) off

  this-now : (k : ℕ) → (e.cpu == k) ≡ true → later.processors k ≡ now
  this-now k on = ap (kth k) on ∙ ap (λ j. p_next f.image (f.processors j) e) (sym (eqb-true e.cpu k on))

  end-last : (q : Todo) (todo : Todos) → is_end q ≡ true → Behind f.image q todo → todo ≡ []
  end-last Todo.park todo h behind = behind
  end-last Todo.done todo h behind = behind
  end-last Todo.paid todo h behind = behind
  end-last q todo h behind = absurd (false≢true h)

  -- a step of this kind that isn't the first of the list stays on it
  tail-there : (test : Todo → Bool) → test Todo.region_load ≡ false → (q : Todo) (todo : Todos) → p.todo ≡ q ∷ todo → test q ≡ false → list_any test p.todo ≡ true
      → (list_any test now.todo ≡ true) × (list_any test todo ≡ true)
  tail-there test loads q todo at first there =
      let behind : list_any test todo ≡ true = sym (ap (λ b. b || list_any test todo) first) ∙ (sym (ap (list_any test) at) ∙ there) in
      (next-there f.image test loads p e q todo at (frame q todo at) (reads-last f m e law q todo at) behind, behind)

  -- that it is roused is to come still
  carry : (q : Todo) (todo : Todos) → p.todo ≡ q ∷ todo → is_rouse t q ≡ false → (is_reread_asleep q ≡ true → p.context.thread ≡ t → IsRouseComing later t) → Flags f m e law t few → IsRouseComing f t
      → IsRouseComing later t
  carry q todo at first reread flags (sleeps suspended aborted) = by flags
    where
      by : Flags f m e law t few → IsRouseComing later t
      by (stays same) = sleeps (same.0 ∙ suspended) (same.1 ∙ aborted)
      by (suspends now-suspended same) = sleeps now-suspended (same ∙ aborted)
      by (is_roused there) = rouses e.cpu law.by.named (subst (λ (z : Processor). list_any (is_rouse t) z.todo ≡ true) (sym (this-now e.cpu (eq-eqb e.cpu e.cpu refl))) there)
  carry q todo at first reread flags (rouses k l there) = by (e.cpu == k) refl
    where
      by : (b : Bool) → (e.cpu == k) ≡ b → IsRouseComing later t
      by false off = rouses k l (subst (λ (z : Processor). list_any (is_rouse t) z.todo ≡ true) (sym (other-stays k off)) there)
      by true on =
          let mine = subst (λ j. list_any (is_rouse t) (f.processors j).todo ≡ true) (sym (eqb-true e.cpu k on)) there in
          rouses k l (subst (λ (z : Processor). list_any (is_rouse t) z.todo ≡ true) (sym (this-now k on)) (tail-there (is_rouse t) refl q todo at first mine).0)
  carry q todo at first reread flags (reads k l thread there) = by (e.cpu == k) refl
    where
      by : (b : Bool) → (e.cpu == k) ≡ b → IsRouseComing later t
      by false off =
          reads k l (ap (λ (z : Processor). z.context.thread) (other-stays k off) ∙ thread) (subst (λ (z : Processor). list_any is_reread_asleep z.todo ≡ true) (sym (other-stays k off)) there)
      by true on = which (is_reread_asleep q) refl
        where
          same : e.cpu ≡ k
          same = eqb-true e.cpu k on

          mine : list_any is_reread_asleep p.todo ≡ true
          mine = subst (λ j. list_any is_reread_asleep (f.processors j).todo ≡ true) (sym same) there

          own : p.context.thread ≡ t
          own = ap (λ j. (f.processors j).context.thread) same ∙ thread

          which : (b : Bool) → is_reread_asleep q ≡ b → IsRouseComing later t
          which true k = reread k own
          which false unread = on-end (is_end q) refl
            where
              kept : (list_any is_reread_asleep now.todo ≡ true) × (list_any is_reread_asleep todo ≡ true)
              kept = tail-there is_reread_asleep refl q todo at unread mine

              on-end : (b : Bool) → is_end q ≡ b → IsRouseComing later t
              on-end true ends = absurd (none-behind is_reread_asleep todo (end-last q todo ends (frame q todo at)) kept.1)
              on-end false goes =
                  reads k l (ap (λ (z : Processor). z.context.thread) (this-now k on) ∙ (next-thread f.image p e q todo at goes ∙ own))
                  (subst (λ (z : Processor). list_any is_reread_asleep z.todo ≡ true) (sym (this-now k on)) kept.0)

  carry-idle : p.todo ≡ [] → Flags f m e law t few → IsRouseComing f t → IsRouseComing later t
  carry-idle at flags (sleeps suspended aborted) = by flags
    where
      by : Flags f m e law t few → IsRouseComing later t
      by (stays same) = sleeps (same.0 ∙ suspended) (same.1 ∙ aborted)
      by (suspends now-suspended same) = sleeps now-suspended (same ∙ aborted)
      by (is_roused there) = rouses e.cpu law.by.named (subst (λ (z : Processor). list_any (is_rouse t) z.todo ≡ true) (sym (this-now e.cpu (eq-eqb e.cpu e.cpu refl))) there)
  carry-idle at flags (rouses k l there) = by (e.cpu == k) refl
    where
      by : (b : Bool) → (e.cpu == k) ≡ b → IsRouseComing later t
      by false off = rouses k l (subst (λ (z : Processor). list_any (is_rouse t) z.todo ≡ true) (sym (other-stays k off)) there)
      by true on = absurd (none-behind (is_rouse t) p.todo at (subst (λ j. list_any (is_rouse t) (f.processors j).todo ≡ true) (sym (eqb-true e.cpu k on)) there))
  carry-idle at flags (reads k l thread there) = by (e.cpu == k) refl
    where
      by : (b : Bool) → (e.cpu == k) ≡ b → IsRouseComing later t
      by false off =
          reads k l (ap (λ (z : Processor). z.context.thread) (other-stays k off) ∙ thread) (subst (λ (z : Processor). list_any is_reread_asleep z.todo ≡ true) (sym (other-stays k off)) there)
      by true on = absurd (none-behind is_reread_asleep p.todo at (subst (λ j. list_any is_reread_asleep (f.processors j).todo ≡ true) (sym (eqb-true e.cpu k on)) there))

  -- The cell of the joins.

  module _ (c : Context) (there : asleep_at (joins later) t ≡ Some c) where
    comes-before : asleep_at (joins f) t ≡ Some c → IsRouseComing f t
    comes-before here = (law.rel.threads t few).sleep.comes c here

    flags-of : asleep_at (joins f) t ≡ Some c → Flags f m e law t few
    flags-of here = flags f m e law t few c here s left

    same-before : (joins later).asleep ≡ (joins f).asleep → asleep_at (joins f) t ≡ Some c
    same-before same = sym (ap (λ (l : List (Option Context)). slice_index_or l t None) same) ∙ there

    sleeps-now : (todo : Todos) → p.todo ≡ Todo.sleep ∷ todo → IsRouseComing later t
    sleeps-now todo at = by (t == p.context.thread) refl
      where
        after : (joins later).asleep ≡ slice_set (joins f).asleep p.context.thread (Some p.context)
        after =
            ap (λ (j : Joins). j.asleep) (joins-later f m e law (made-at f m e law (Todo.sleep ∷ todo) at) (FineAct.Unseen Unseen.Sleep) (made-says f m e law (Todo.sleep ∷ todo) at))
            ∙ ap (λ (mv : Exchange). (join_after (joins f) (FineAct.Unseen Unseen.Sleep) mv).asleep) (made-moves f m e law (Todo.sleep ∷ todo) at)

        list : todo ≡ Todo.reread_asleep ∷ Todo.done ∷ []
        list = (subst (Fits f.image p.context) at (law.rel.processors e.cpu law.by.named).list.fits).2

        by : (b : Bool) → (t == p.context.thread) ≡ b → IsRouseComing later t
        by true same =
            let mine = this-now e.cpu (eq-eqb e.cpu e.cpu refl) in
            reads e.cpu law.by.named (ap (λ (z : Processor). z.context.thread) mine ∙ (next-thread f.image p e Todo.sleep todo at refl ∙ sym (eqb-true t p.context.thread same)))
            (subst (λ (z : Processor). list_any is_reread_asleep z.todo ≡ true) (sym mine) (made-there f.image is_reread_asleep refl p e Todo.sleep todo at (ap (list_any is_reread_asleep) list)))
        by false other =
            let here = sym (get_or-set_other (joins f).asleep p.context.thread t (Some p.context) None (eqb-false t p.context.thread other))
            ∙ (sym (ap (λ (l : List (Option Context)). slice_index_or l t None) after) ∙ there) in
            carry Todo.sleep todo at refl (λ h. absurd (false≢true h)) (flags-of here) (comes-before here)

    rouses-now : (who : ℕ) (todo : Todos) → p.todo ≡ Todo.rouse who ∷ todo → (b : Bool) → is_void e.act ≡ b → IsRouseComing later t
    rouses-now who todo at found void = by (who == t) refl found void
      where
        said : (b : Bool) → is_void e.act ≡ b → e.act ≡ (if b then FineAct.Unseen Unseen.Void else FineAct.Unseen (Unseen.Rouse (to_thread who)))
        said b k = made-says f m e law (Todo.rouse who ∷ todo) at ∙ ap (λ b. if b then FineAct.Unseen Unseen.Void else FineAct.Unseen (Unseen.Rouse (to_thread who))) k

        after : is_void e.act ≡ false → (joins later).asleep ≡ slice_set (joins f).asleep who None
        after k = ap (λ (j : Joins). j.asleep) (joins-later f m e law (made-at f m e law (Todo.rouse who ∷ todo) at) _ (said false k))

        same : is_void e.act ≡ true → (joins later).asleep ≡ (joins f).asleep
        same k = ap (λ (j : Joins). j.asleep) (joins-later f m e law (made-at f m e law (Todo.rouse who ∷ todo) at) _ (said true k))

        -- who sleeps is found
        not-found : who ≡ t → is_void e.act ≡ true → ⊥
        not-found equal k = no-step (subst (λ b. looked_for b (FineAct.Unseen Unseen.Void) ≡ FineAct.Unseen Unseen.Void) asleep says)
          where
            moved : e.moved ≡ Exchange.sought (to_thread who) None
            moved = made-moves f m e law (Todo.rouse who ∷ todo) at ∙ ap (λ b. roused_by f.image p who b e.moved) k

            says : looked_for (is_some (asleep_at (joins f) who)) (FineAct.Unseen Unseen.Void) ≡ FineAct.Unseen Unseen.Void
            says =
                subst (λ (z : SiteState). site_answers f.image z (Exchange.sought (to_thread who) None) (FineAct.Unseen Unseen.Void) ≡ FineAct.Unseen Unseen.Void) (joins-sort (f.sites Site.joins) (law.rel.sorts Site.joins)).1
                (subst (λ (z : Site × FineAct × Exchange). site_answers f.image (f.sites z.0) z.2 z.1 ≡ z.1) (λ i. (made-at f m e law (Todo.rouse who ∷ todo) at i, said true k i, moved i)) (ap (λ (z : FineStep). z.act) law.taken.filled_in))

            asleep : is_some (asleep_at (joins f) who) ≡ true
            asleep = ap (λ n. is_some (asleep_at (joins f) n)) equal ∙ ap is_some (same-before (same k))

            no-step : looked_for true (FineAct.Unseen Unseen.Void) ≡ FineAct.Unseen Unseen.Void → ⊥
            no-step h = false≢true (ap is_void h)

        by : (a : Bool) → (who == t) ≡ a → (b : Bool) → is_void e.act ≡ b → IsRouseComing later t
        by true equal false k =
            absurd (false≢true (ap is_some (sym (subst (λ n. slice_index_or (slice_set (joins f).asleep who None) n None ≡ None) (eqb-true who t equal) (set-none (joins f).asleep who))
            ∙ (sym (ap (λ (l : List (Option Context)). slice_index_or l t None) (after k)) ∙ there))))
        by true equal true k = absurd (not-found (eqb-true who t equal) k)
        by false other false k =
            let here = sym (get_or-set_other (joins f).asleep who t None None (λ z. eqb-false who t other (sym z))) ∙ (sym (ap (λ (l : List (Option Context)). slice_index_or l t None) (after k)) ∙ there) in
            carry (Todo.rouse who) todo at other (λ h. absurd (false≢true h)) (flags-of here) (comes-before here)
        by false other true k = let here = same-before (same k) in carry (Todo.rouse who) todo at other (λ h. absurd (false≢true h)) (flags-of here) (comes-before here)

    rereads : (todo : Todos) → p.todo ≡ Todo.reread_asleep ∷ todo → p.context.thread ≡ t → IsRouseComing later t
    rereads todo at own = by (is_awake (thread_in e.word)) refl
      where
        site : e.site ≡ Site.thread t
        site = made-at f m e law (Todo.reread_asleep ∷ todo) at ∙ ap Site.thread own

        word-same : thread_in e.word ≡ word later t
        word-same =
            ap thread_in (word-left f m e law ∙ ap (λ i. word_of (s_next f.image (f.sites i) e)) site)
            ∙ (ap (λ (s : SiteState). thread_in (word_of (site_after f.image s e.act e.moved))) (thread-sort t (f.sites (Site.thread t)) (law.rel.sorts (Site.thread t)))
            ∙ sym (word-here f m e law t few (ap (λ i. same_site i (Site.thread t)) site ∙ eq-eqb t t refl)))

        asleep-still : (w : ThreadWord) → is_awake w ≡ false → (w.suspended ≡ true) × (w.aborted ≡ false)
        asleep-still w h = parts w.aborted w.suspended h
          where
            parts : (a b : Bool) → (a || not b) ≡ false → (b ≡ true) × (a ≡ false)
            parts true b h = absurd (true≢false h)
            parts false true h = (refl, refl)
            parts false false h = absurd (true≢false h)

        by : (b : Bool) → is_awake (thread_in e.word) ≡ b → IsRouseComing later t
        by true k =
            let mine = this-now e.cpu (eq-eqb e.cpu e.cpu refl) in
            rouses e.cpu law.by.named
            (subst (λ (z : Processor). list_any (is_rouse t) z.todo ≡ true) (sym mine)
            (made-there f.image (is_rouse t) refl p e Todo.reread_asleep todo at
            (ap (λ b. list_any (is_rouse t) (if b then Todo.rouse p.context.thread ∷ todo else todo)) k ∙ ap (λ b. b || list_any (is_rouse t) todo) (eq-eqb p.context.thread t own))))
        by false k = let w = asleep-still (word later t) (ap is_awake (sym word-same) ∙ k) in sleeps w.0 w.1

    by-todo : (todo : Todos) → p.todo ≡ todo → IsRouseComing later t
    by-todo [] at = let here = same-before (asleep-same f m e law (idle-awake f m e law at)) in carry-idle at (flags-of here) (comes-before here)
    by-todo (Todo.sleep ∷ todo) at = sleeps-now todo at
    by-todo (Todo.rouse who ∷ todo) at = rouses-now who todo at (is_void e.act) refl
    by-todo (Todo.reread_asleep ∷ todo) at =
        let here = same-before (asleep-same f m e law (awake-act f m e law Todo.reread_asleep todo at refl)) in
        carry Todo.reread_asleep todo at refl (λ h own. rereads todo at own) (flags-of here) (comes-before here)
    by-todo (q ∷ todo) at =
        let here = same-before (asleep-same f m e law (awake-act f m e law q todo at refl)) in carry q todo at refl (λ h. absurd (false≢true h)) (flags-of here) (comes-before here)

  pub sleep-part : SleepIs later t
  sleep-part = record { comes = λ c there. by-todo c there p.todo refl }
