-- A thread is held by the processor that runs it, after every lawful step.
use Rattle.um_refinement.proofs.Words.{Life, ◌≡◌, inl, inr, ℕ, ◌+◌, ◌<◌, Bool, true, false, cond, [], ◌∷◌, Some, None, refl, sym, ap, ◌∙◌, subst, arith, ◌==◌, ◌&&◌, if◌then◌else◌, nat_lt, list_any, and_parts, eqb-true, not-true, true≢false, Image, THREADS, Pending, State, Act, FineAct, Unseen, ThreadWord, thread_after, thread_after_act, is_visit, is_word_read, begins_cleaning, says, says_idle, says_show, goes_on_by, p_next, with_cleaned, Todo, Todos, Processor, SiteState, s_next, same_site, site_after, site_takes, Exchange, FineStep, Site, AreBlocks, Fine, one_if, over_processors, thread_state, word, Behind, has_held, runs, is_let_go, runs_thread, and-false, thread_takes, HeldIs}
use Rattle.um_fine.specs.Answers.{is_due_act, is_killed, is_shut_act, is_tick, is_void}
use Rattle.um_fine.specs.Asks.{begins, says_turn}
use Rattle.um_refinement.specs.Frames.{IsWaitOver, both, nothing, rereads, settled}
use Rattle.um_refinement.proofs.Offered.{runs-first}
use Rattle.um_refinement.proofs.TableReads.{access-grip}
use Rattle.um_refinement.proofs.ListGrowth.{acted-kept, is_end}
use Rattle.um_refinement.proofs.Erased.{around}
use Rattle.um_refinement.proofs.Leaves.{Lawful}
use Rattle.um_refinement.proofs.ListGrips.{filled-grip, grip, is_gripping, next-grips, next-thread, takes-grip}
use Rattle.um_refinement.proofs.ListRuns.{ends-rests, goes-runs}
use Rattle.um_refinement.proofs.RowSteps.{thread-sort}
use Rattle.um_refinement.proofs.SchedulerSteps.{made-at, made-says}
use Rattle.um_refinement.proofs.StepReads.{is-behind, reads-last}
use Rattle.um_refinement.proofs.Sums.{over-changed}

-- a step that holds a thread, or lets go of it
abbrev pub grips : FineAct → Bool
grips (FineAct.Unseen Unseen.Hold) = true
grips (FineAct.Unseen Unseen.LetGo) = true
grips act = false

pub either-no : (b : Bool) (x y : FineAct) → grips x ≡ false → grips y ≡ false → grips (if b then x else y) ≡ false
either-no true x y h k = h
either-no false x y h k = k

pub says-no-grip : (image : Image) (p : Processor) (q : Todo) (todo : Todos) (act : FineAct) (moved : Exchange) → is_gripping q ≡ false → grips (says image p (q ∷ todo) act moved) ≡ false
says-no-grip image p (Todo.show q rest) todo act moved free = by q
  where
    begins-no : (q : Pending) → grips (begins image p q act) ≡ false
    begins-no q = either-no (is_word_read act) _ _ refl (either-no (is_killed act) _ _ refl refl)

    by : (q : Pending) → grips (says_show image p q act) ≡ false
    by Pending.Begin = begins-no Pending.Begin
    by Pending.Exit = begins-no Pending.Exit
    by q = refl
says-no-grip image p (Todo.pass who x) todo act moved free = either-no (is_visit act) _ _ refl refl
says-no-grip image p (Todo.drop x) todo act moved free = either-no (is_visit act) _ _ refl refl
says-no-grip image p (Todo.clean_pair who x) todo act moved free = either-no (is_visit act) _ _ refl refl
says-no-grip image p (Todo.look who site before) todo act moved free = either-no (is_void act) _ _ refl refl
says-no-grip image p (Todo.rouse who) todo act moved free = either-no (is_void act) _ _ refl refl
says-no-grip image p (Todo.handle deadline mark) todo act moved free = either-no (is_void act) _ _ refl refl
says-no-grip image p Todo.leave todo act moved free = either-no (is_shut_act act) _ _ refl refl
says-no-grip image p Todo.hold todo act moved free = absurd (true≢false free)
says-no-grip image p Todo.let_go todo act moved free = absurd (true≢false free)
says-no-grip image p q todo act moved free = refl

turn-no-grip : (image : Image) (p : Processor) (moved : Exchange) → grips (says_turn image p moved) ≡ false
turn-no-grip image p (Exchange.thread c None) = refl
turn-no-grip image p (Exchange.thread c (Some told)) = refl
turn-no-grip image p moved = refl

pub idle-no-grip : (image : Image) (p : Processor) (act : FineAct) (moved : Exchange) → grips (says_idle image p act moved) ≡ false
idle-no-grip image p act moved = either-no (is_due_act act) _ _ refl (either-no (is_tick act) _ _ refl (turn-no-grip image p moved))

flag-same : (life : Life) (P : Life → Type 0) → P Life.Unborn → P Life.Living → P Life.Ended → P life
flag-same Life.Unborn P unborn living ended = unborn
flag-same Life.Living P unborn living ended = living
flag-same Life.Ended P unborn living ended = ended

pub held-same : (w : ThreadWord) (act : FineAct) → grips act ≡ false → (thread_after w act).held ≡ w.held
held-same w (FineAct.Shown event more) free = by event.act
  where
    by : (act : Act) → (thread_after_act w more act).held ≡ w.held
    by (Act.DomMove d who reply) = refl
    by Act.Exit = refl
    by (Act.Fatal reason cause) = refl
    by (Act.Doom who) = refl
    by (Act.Start who) = refl
    by Act.EnterUser = refl
    by Act.Killed = refl
    by (Act.Abort who done) = flag-same w.life (λ z. (thread_after_act (record w { life = z }) more (Act.Abort who done)).held ≡ w.held) refl refl refl
    by (Act.Suspend who done) = flag-same w.life (λ z. (thread_after_act (record w { life = z }) more (Act.Suspend who done)).held ≡ w.held) refl refl refl
    by (Act.Continue who done) = flag-same w.life (λ z. (thread_after_act (record w { life = z }) more (Act.Continue who done)).held ≡ w.held) refl refl refl
    by act = refl
held-same w (FineAct.Unseen Unseen.Hold) free = absurd (true≢false free)
held-same w (FineAct.Unseen Unseen.LetGo) free = absurd (true≢false free)
held-same w (FineAct.Unseen u) free = refl

and-true : (b : Bool) → (b && true) ≡ b
and-true true = refl
and-true false = refl

pub over-grip : (todo : Todos) → IsWaitOver todo → (grip (Todo.let_go ∷ todo) ≡ true) × (grip todo ≡ false)
over-grip _ nothing = (refl, refl)
over-grip _ settled = (refl, refl)
over-grip _ rereads = (refl, refl)
over-grip _ both = (refl, refl)

module _ (f : Fine) (m : State) (e : FineStep) (law : Lawful f m e) (t : ℕ) (few : t < THREADS) where
  open around f e use {later, processor as p}
  open is-behind f m e law use {frame}

  -- whether a processor holds the thread
  abbrev holds : Processor → Bool
  holds z = runs_thread t z && has_held z

  counts : (n k : ℕ) → one_if (holds p) ≡ n → one_if (holds (p_next f.image p e)) ≡ k
      → over_processors later (λ z. one_if (holds z)) + n ≡ over_processors f (λ z. one_if (holds z)) + k
  counts n k before after =
      let all = over-changed f e (λ z. one_if (holds z)) law.by.named in omega (arith, all, before, after)

  -- the word of a thread after the step
  word-here : same_site e.site (Site.thread t) ≡ true → (word later t).held ≡ (thread_after (word f t) e.act).held
  word-here on =
      ap (λ b. (thread_state (cond b (s_next f.image (f.sites (Site.thread t)) e) (f.sites (Site.thread t)))).held) on
      ∙ ap (λ (s : SiteState). (thread_state (site_after f.image s e.act e.moved)).held) (thread-sort t (f.sites (Site.thread t)) (law.rel.sorts (Site.thread t)))

  word-else : same_site e.site (Site.thread t) ≡ false → (word later t).held ≡ (word f t).held
  word-else off = ap (λ b. (thread_state (cond b (s_next f.image (f.sites (Site.thread t)) e) (f.sites (Site.thread t)))).held) off

  takes-here : (u : ℕ) (act : FineAct) → e.site ≡ Site.thread u → e.act ≡ act → u ≡ t → thread_takes (word f t) act ≡ true
  takes-here u act site said same =
      (and_parts (nat_lt (word f t).number 268435455) (thread_takes (word f t) act)
      (subst (λ (s : SiteState). site_takes s act ≡ true) (thread-sort t (f.sites (Site.thread t)) (law.rel.sorts (Site.thread t)))
      (subst (λ (z : Site × FineAct). site_takes (f.sites z.0) z.1 ≡ true) (λ j. ((site ∙ ap Site.thread same) j, said j)) law.taken.takes))).1

  -- neither a hold nor its end: words are held as before
  word-same : grips e.act ≡ false → (word later t).held ≡ (word f t).held
  word-same free = by (same_site e.site (Site.thread t)) refl
    where
      by : (b : Bool) → same_site e.site (Site.thread t) ≡ b → (word later t).held ≡ (word f t).held
      by true q = word-here q ∙ held-same (word f t) e.act free
      by false q = word-else q

  was : one_if (word f t).held ≡ over_processors f (λ z. one_if (holds z))
  was = (law.rel.threads t few).held.held

  still : one_if (holds (p_next f.image p e)) ≡ one_if (holds p) → (word later t).held ≡ (word f t).held → HeldIs later t
  still same held =
      let sums = counts (one_if (holds p)) (one_if (holds p)) refl same in
      let before = was in
      let now = ap one_if held in
      record { held = omega (arith, sums, before, now) }

  -- what holds of one that runs a thread or not, and of a list with these steps
  holds-as : (z : Processor) (on grip-there : Bool) → runs z ≡ on → grip z.todo ≡ grip-there → holds z ≡ ((on && (z.context.thread == t)) && grip-there)
  holds-as z on grip-there s g = λ i. (s i && (z.context.thread == t)) && g i

  not-holding : (z : Processor) → grip z.todo ≡ false → one_if (holds z) ≡ 0
  not-holding z g = ap one_if (holds-as z (runs z) false refl g ∙ and-false (runs z && (z.context.thread == t)))

  holding : (z : Processor) → runs z ≡ true → grip z.todo ≡ true → one_if (holds z) ≡ one_if (z.context.thread == t)
  holding z s g = ap one_if (holds-as z true true s g ∙ and-true (z.context.thread == t))

  goes-so : (q : Todo) (todo : Todos) → p.todo ≡ q ∷ todo → is_end q ≡ false → runs (p_next f.image p e) ≡ runs p
  goes-so q todo at goes =
      goes-runs f.image p e q todo at goes (frame q todo at) (reads-last f m e law q todo at) (subst (AreBlocks f.image) at (law.rel.processors e.cpu law.by.named).blocks)

  -- a hold, or its end: where the word of the thread is, and what it and the list are then
  record IsGrip (q : Todo) (todo : Todos) (u : Unseen) : Type 0 where
    list : (p_next f.image p e).todo ≡ (goes_on_by f.image p e (q ∷ todo)).todo
    here : (p.context.thread == t) ≡ true → (thread_takes (word f t) (FineAct.Unseen u) ≡ true) × ((word later t).held ≡ (thread_after (word f t) (FineAct.Unseen u)).held)
    other : (p.context.thread == t) ≡ false → (word later t).held ≡ (word f t).held

  grip-made : (q : Todo) (todo : Todos) (u : Unseen) → p.todo ≡ q ∷ todo → e.act ≡ FineAct.Unseen u → e.site ≡ Site.thread p.context.thread
      → begins_cleaning (record e { act = FineAct.Unseen u }) ≡ false → IsGrip q todo u
  grip-made q todo u at said site quiet =
      record {
        list =
            acted-kept f.image (λ todo. todo ≡ (with_cleaned f.image (goes_on_by f.image p e p.todo) e (begins_cleaning e)).todo) (with_cleaned f.image (goes_on_by f.image p e p.todo) e (begins_cleaning e)) e.act refl
            ∙ (ap (λ b. (with_cleaned f.image (goes_on_by f.image p e p.todo) e b).todo) (ap (λ a. begins_cleaning (record e { act = a })) said ∙ quiet)
            ∙ ap (λ (z : Todos). (goes_on_by f.image p e z).todo) at);
        here = λ q. (
          takes-here p.context.thread (FineAct.Unseen u) site said (eqb-true p.context.thread t q),
          word-here (ap (λ i. same_site i (Site.thread t)) site ∙ q) ∙ ap (λ a. (thread_after (word f t) a).held) said,
        );
        other = λ q. word-else (ap (λ i. same_site i (Site.thread t)) site ∙ q);
      }

  -- the thread is held
  takes-hold : (todo : Todos) → p.todo ≡ Todo.hold ∷ todo → HeldIs later t
  takes-hold todo at = by (p.context.thread == t) refl (shape (frame Todo.hold todo at))
    where
      made : IsGrip Todo.hold todo Unseen.Hold
      made = grip-made Todo.hold todo Unseen.Hold at (made-says f m e law (Todo.hold ∷ todo) at) (made-at f m e law (Todo.hold ∷ todo) at) refl

      same : (p_next f.image p e).context.thread ≡ p.context.thread
      same = next-thread f.image p e Todo.hold todo at refl

      before : one_if (holds p) ≡ 0
      before = not-holding p (ap grip at ∙ and-false (list_any is_let_go todo))

      on : runs p ≡ true
      on = runs-first law.rel law.by.named Todo.hold todo at (λ hand. hand)

      shape : Behind f.image Todo.hold todo → grip todo ≡ true
      shape (inl h) = ap grip (h.1 ∙ ap (λ (z : Todos). Todo.read_claim None ∷ Todo.region_load ∷ z) h.2.3) ∙ access-grip h.2.2 h.2.5
      shape (inr h) = ap grip (h.2 ∙ ap (λ (z : Todos). Todo.unshut h.0 ∷ z) h.3.3)

      by : (b : Bool) → (p.context.thread == t) ≡ b → grip todo ≡ true → HeldIs later t
      by b q h = which b q
        where
          after : (b : Bool) → (p.context.thread == t) ≡ b → one_if (holds (p_next f.image p e)) ≡ one_if b
          after b q = holding (p_next f.image p e) (goes-so Todo.hold todo at refl ∙ on) (ap grip made.list ∙ h) ∙ ap one_if (ap (λ n. n == t) same ∙ q)

          which : (b : Bool) → (p.context.thread == t) ≡ b → HeldIs later t
          which true q =
              let sums = counts 0 1 before (after true q) in
              let first = sym (ap one_if (not-true _ (made.here q).0)) ∙ was in
              let now = ap one_if (made.here q).1 in
              record { held = omega (arith, sums, first, now) }
          which false q = still (after false q ∙ sym before) (made.other q)

  -- the hold ends
  lets-go : (todo : Todos) → p.todo ≡ Todo.let_go ∷ todo → HeldIs later t
  lets-go todo at = by (p.context.thread == t) refl (shape (frame Todo.let_go todo at))
    where
      made : IsGrip Todo.let_go todo Unseen.LetGo
      made = grip-made Todo.let_go todo Unseen.LetGo at (made-says f m e law (Todo.let_go ∷ todo) at) (made-at f m e law (Todo.let_go ∷ todo) at) refl

      shape : Behind f.image Todo.let_go todo → (grip (Todo.let_go ∷ todo) ≡ true) × (grip todo ≡ false)
      shape (inl h) = over-grip todo h
      shape (inr h) = (ap (λ (z : Todos). grip (Todo.let_go ∷ z)) h.1, ap grip h.1)

      by : (b : Bool) → (p.context.thread == t) ≡ b → (grip (Todo.let_go ∷ todo) ≡ true) × (grip todo ≡ false) → HeldIs later t
      by b q h = which b q
        where
          before : (b : Bool) → (p.context.thread == t) ≡ b → one_if (holds p) ≡ one_if b
          before b q = holding p (runs-first law.rel law.by.named Todo.let_go todo at (λ hand. hand)) (ap grip at ∙ h.0) ∙ ap one_if q

          after : one_if (holds (p_next f.image p e)) ≡ 0
          after = not-holding (p_next f.image p e) (ap grip made.list ∙ (filled-grip f.image p.context todo ∙ h.1))

          which : (b : Bool) → (p.context.thread == t) ≡ b → HeldIs later t
          which true q =
              let sums = counts 1 0 (before true q) after in
              let first = sym (ap one_if (made.here q).0) ∙ was in
              let now = ap one_if (made.here q).1 in
              record { held = omega (arith, sums, first, now) }
          which false q = still (after ∙ sym (before false q)) (made.other q)

  -- any other step
  goes-on : (q : Todo) (todo : Todos) → p.todo ≡ q ∷ todo → is_gripping q ≡ false → is_end q ≡ false → HeldIs later t
  goes-on q todo at free goes =
      let steps = goes-so q todo at goes in
      let grips-same = next-grips f.image p e q todo at free (frame q todo at) (reads-last f m e law q todo at) in
      let thread = next-thread f.image p e q todo at goes in
      still (λ i. one_if ((steps i && (thread i == t)) && (grips-same ∙ sym (ap grip at)) i))
      (word-same (ap grips (made-says f m e law (q ∷ todo) at) ∙ says-no-grip f.image p q todo e.act e.moved free))

  ends : (q : Todo) (todo : Todos) → p.todo ≡ q ∷ todo → is_gripping q ≡ false → is_end q ≡ true → begins_cleaning e ≡ false → grip (q ∷ todo) ≡ false → HeldIs later t
  ends q todo at free over quiet none =
      still (not-holding (p_next f.image p e) (ap grip (ends-rests f.image p e q todo at over quiet)) ∙ sym (not-holding p (ap grip at ∙ none)))
      (word-same (ap grips (made-says f m e law (q ∷ todo) at) ∙ says-no-grip f.image p q todo e.act e.moved free))

  by-todo : (todo : Todos) → p.todo ≡ todo → HeldIs later t
  by-todo [] at =
      still (not-holding (p_next f.image p e) (takes-grip f.image p e at) ∙ sym (not-holding p (ap grip at)))
      (word-same (ap grips (made-says f m e law [] at) ∙ idle-no-grip f.image p e.act e.moved))
  by-todo (Todo.hold ∷ todo) at = takes-hold todo at
  by-todo (Todo.let_go ∷ todo) at = lets-go todo at
  by-todo (Todo.park ∷ todo) at =
      ends Todo.park todo at refl refl (ap (λ a. begins_cleaning (record e { act = a })) (made-says f m e law (Todo.park ∷ todo) at)) (ap grip (frame Todo.park todo at))
  by-todo (Todo.done ∷ todo) at =
      ends Todo.done todo at refl refl (ap (λ a. begins_cleaning (record e { act = a })) (made-says f m e law (Todo.done ∷ todo) at)) (ap grip (frame Todo.done todo at))
  by-todo (Todo.paid ∷ todo) at =
      ends Todo.paid todo at refl refl (ap (λ a. begins_cleaning (record e { act = a })) (made-says f m e law (Todo.paid ∷ todo) at)) (ap grip (frame Todo.paid todo at))
  by-todo (q ∷ todo) at = goes-on q todo at refl refl

  pub held-part : HeldIs later t
  held-part = by-todo p.todo refl
