-- What a processor has that tends to time: the thread of its last event was started, and with a mark in its hand its list is that of the mark, after
-- every lawful step.
use Rattle.um_refinement.proofs.Words.{Act, ◌≡◌, inr, ℕ, zero, suc, ◌<◌, Bool, true, false, cond, List, [], ◌∷◌, length, Some, None, refl, sym, ap, ◌∙◌, subst, arith, IsTrue, ◌||◌, ◌==◌, if◌then◌else◌, slice_index_or, eqb-true, false≢true, Told, Image, ThreadIx, Thread, Pending, nobody, State, is_started, thread_at, FineAct, Unseen, act_in, is_word_read, thread_in, after_claim, after_show, after_take, begins_cleaning, domain_in, filled_up, goes_on_by, p_next, refilled_by, turn, wakes, with_cleaned, Todo, Todos, Processor, Exchange, FineStep, Fine, first_ready, has_ready, counted, is_empty, scheduler, woken_in}
use Rattle.um_words.specs.declared.fine.Mark.{Mark}
use Rattle.um_fine.specs.Answers.{is_void}
use Rattle.um_fine.specs.Asks.{by_actor, marks_end, or_void}
use Rattle.um_fine.specs.Follows.{shown_step, told_marked, with_actor}
use Rattle.um_fine.specs.Places.{is_paid, put_away}
use Rattle.um_fine.specs.Processor.{actor_or}
use Rattle.um_refinement.specs.Lists.{times}
use Rattle.um_refinement.specs.Timing.{IsHand, IsPaying, TimerIs}
use Rattle.um_refinement.proofs.Erased.{around}
use Rattle.um_refinement.proofs.Kept.{IdleStep, gives, idle-step, ticks as time_goes, turns}
use Rattle.um_refinement.proofs.Leaves.{Beside, Lawful, Leaves, beside, cleans, cuts, drops, event, expires, leaves as tells_left, mine, nothing, passes, recycles, resumes, ticks as time_passes, times_out}
use Rattle.um_refinement.proofs.ListMarks.{in_hand, next-count, paid-of, taken-count, takes-free}
use Rattle.um_refinement.proofs.ListTails.{exact-next}
use Rattle.um_refinement.proofs.Offered.{act-is, own-part, runs-first}
use Rattle.um_refinement.proofs.PartsElsewhere.{started-kept}
use Rattle.um_refinement.proofs.ResumeSteps.{first-taken, takes-turn}
use Rattle.um_refinement.proofs.SchedulerSteps.{made-says}
use Rattle.um_refinement.proofs.StepReads.{is-behind, reads-last}

-- a thread that was started has an index
started-in : (xs : List Thread) (v : ℕ) → IsTrue (is_started (slice_index_or xs v nobody).life) → v < length xs
started-in [] v h = absurd (false≢true h)
started-in (x ∷ xs) zero h = omega arith
started-in (x ∷ xs) (suc v) h = let l = started-in xs v h in omega (arith, l)

-- a list has a mark to pay where one is counted
times-none : (todo : Todos) → counted is_paid todo ≡ 0 → times todo ≡ false
times-none [] h = refl
times-none (Todo.paid ∷ todo) h = absurd (omega (arith, h))
times-none (q ∷ todo) h = times-none todo h

times-some : (todo : Todos) → times todo ≡ true → 0 < counted is_paid todo
times-some [] h = absurd (false≢true h)
times-some (Todo.paid ∷ todo) h = omega arith
times-some (q ∷ todo) h = times-some todo h

counted-times : (todo : Todos) → 0 < counted is_paid todo → times todo ≡ true
counted-times [] h = absurd (omega (arith, h))
counted-times (Todo.paid ∷ todo) h = refl
counted-times (q ∷ todo) h = counted-times todo h

-- no step on a list changes who made the last event
module _ (image : Image) (p : Processor) (e : FineStep) where
  take-actor : (moved : Exchange) → (after_take image p moved).actor ≡ p.actor
  take-actor (Exchange.thread c None) =
      elim (is_empty c.pending) as (λ b. (if b then record p { context = c; todo = turn image c } else refilled_by image (record p { context = c }) []).actor ≡ p.actor) [ true ↦ refl | false ↦ refl ]
  take-actor (Exchange.thread c (Some told)) = refl
  take-actor (Exchange.mark deadline mark) = refl
  take-actor moved = refl

  goes-actor : (todo : Todos) → (goes_on_by image p e todo).actor ≡ p.actor
  goes-actor [] = take-actor e.moved
  goes-actor (Todo.show q rest ∷ todo) =
      elim (is_word_read e.act) as (λ b. (if b then record p { todo = put_away (thread_in e.word).doomed } else after_show image p e (shown_step image q e.act) rest todo).actor ≡ p.actor) [ true ↦ refl | false ↦ refl ]
  goes-actor (Todo.read_claim None ∷ todo) = refl
  goes-actor (Todo.read_claim (Some d) ∷ todo) = elim (domain_in e.word).init as (λ b. (after_claim p d b 0 todo).actor ≡ p.actor) [ true ↦ refl | false ↦ refl ]
  goes-actor (q ∷ todo) = refl

  cleaned-actor : (p : Processor) (b : Bool) → (with_cleaned image p e b).actor ≡ p.actor
  cleaned-actor p true = refl
  cleaned-actor p false = refl

  next-actor : (p_next image p e).actor ≡ (with_actor image p e.act).actor
  next-actor = by e.act
    where
      kept : (with_cleaned image (goes_on_by image p e p.todo) e (begins_cleaning e)).actor ≡ p.actor
      kept = cleaned-actor (goes_on_by image p e p.todo) (begins_cleaning e) ∙ goes-actor p.todo

      by : (act : FineAct) → (with_actor image (with_cleaned image (goes_on_by image p e p.todo) e (begins_cleaning e)) act).actor ≡ (with_actor image p act).actor
      by (FineAct.Shown v more) = refl
      by (FineAct.Unseen u) = kept

module _ (f : Fine) (m : State) (e : FineStep) (law : Lawful f m e) (s : State) (leaves : Leaves f m e s) where
  open around f e use {later, processor as p, now}

  stays : (v : ℕ) → IsTrue (is_started (thread_at m v).life) → IsTrue (is_started (thread_at s v).life)
  stays v h =
      let few = started-in m.threads v h in
      let wide = law.sound.wide.threads in
      started-kept f m e law s leaves v (omega (arith, few, wide)) h

  running-started : (q : Todo) (todo : Todos) → p.todo ≡ q ∷ todo → (IsHand (q ∷ todo) → ⊥) → IsTrue (is_started (thread_at m (mine f m e)).life)
  running-started q todo at apart = (law.rel.contexts.running e.cpu law.by.named (runs-first law.rel law.by.named q todo at apart)).started

  -- who made the event that a processor makes was started
  abbrev IsStartedBy : FineAct → Type 0
  IsStartedBy (FineAct.Shown v more) = IsTrue (is_started (thread_at m v.thread.0).life)
  IsStartedBy (FineAct.Unseen u) = Unit {0}

  by-started : (z : State) → Leaves f m e z → IsStartedBy e.act
  by-started _ (nothing u said) = subst IsStartedBy (sym said) tt
  by-started _ (event q rest todo x h shown is) = subst IsStartedBy (sym (act-is h)) (own-part h).started
  by-started _ (resumes c told rest idle moved said) =
      let idles = takes-turn (idle-step f m law.rel p e law.by.may law.taken idle) moved in
      let is = first-taken f m law.rel (scheduler f).ready c told idles.1 (idles.2 ∙ moved) in
      subst IsStartedBy (sym said) is.of.started
  by-started _ (passes who x rest todo v said) = subst IsStartedBy (sym said) (running-started (Todo.pass who x) todo v.at (λ h. h))
  by-started _ (drops from x rest todo v said) = subst IsStartedBy (sym said) (running-started (Todo.drop x) todo v.at (λ h. h))
  by-started _ (cleans who x rest todo v said) = subst IsStartedBy (sym said) (running-started (Todo.clean_pair who x) todo v.at (λ h. h))
  by-started _ (recycles x rest todo at few said chosen) = subst IsStartedBy (sym said) (running-started (Todo.recycle x) todo at (λ h. h))
  by-started _ (beside t x q how chosen started) = by how started
    where
      by : {t x : ℕ} {q : Pending} → Beside f m e t x q → IsTrue (is_started (thread_at m t).life) → IsStartedBy e.act
      by (cuts who site before x todo at same few said) started = subst IsStartedBy (sym said) started
      by (times_out deadline site x who todo at same few said) started = subst IsStartedBy (sym said) started
      by (expires deadline x todo at few said) started = subst IsStartedBy (sym said) started
      by (time_passes at said) started = subst IsStartedBy (sym said) started
      by (tells_left todo at said) started = subst IsStartedBy (sym said) started

  actor-now : 0 < length f.image.boots → IsTrue (is_started (thread_at s (actor_or f.image now.actor)).life)
  actor-now boots = subst (λ a. IsTrue (is_started (thread_at s (actor_or f.image a)).life)) (sym (next-actor f.image p e)) (by e.act (by-started s leaves))
    where
      by : (act : FineAct) → IsStartedBy act → IsTrue (is_started (thread_at s (actor_or f.image (with_actor f.image p act).actor)).life)
      by (FineAct.Shown v more) h = stays v.thread.0 h
      by (FineAct.Unseen u) h = stays (actor_or f.image p.actor) ((law.rel.processors e.cpu law.by.named).timer.actor boots)

  -- A mark in the hand.

  paid-tail : (q : Todo) (todo : Todos) → p.todo ≡ q ∷ todo → counted is_paid now.todo ≡ counted is_paid todo
  paid-tail q todo at = next-count f.image is_paid paid-of todo p e q at ((is-behind f m e law).frame q todo at) (reads-last f m e law q todo at) (λ none. inr (λ deadline mark. refl))

  exact : (todo : Todos) → p.todo ≡ todo → begins_cleaning e ≡ false → now.todo ≡ (goes_on_by f.image p e todo).todo
  exact todo at quiet = ap (λ (r : Processor). r.todo) (exact-next f.image p e todo at quiet) ∙ same e.act
    where
      same : (act : FineAct) → (with_actor f.image (goes_on_by f.image p e todo) act).todo ≡ (goes_on_by f.image p e todo).todo
      same (FineAct.Shown v more) = refl
      same (FineAct.Unseen u) = refl

  paying-wakes : (ws : List (ThreadIx × Told)) → IsHand (wakes ws (Todo.paid ∷ []))
  paying-wakes [] = refl
  paying-wakes (w ∷ ws) = more ws
    where
      more : (ws : List (ThreadIx × Told)) → IsPaying (wakes ws (Todo.paid ∷ []))
      more [] = refl
      more (w ∷ ws) = more ws

  -- what is left of a mark is a list with that mark in a hand
  paying-hand : (todo : Todos) → IsPaying todo → IsHand (filled_up f.image p.context todo)
  paying-hand [] h = absurd h
  paying-hand (Todo.wake who told ∷ todo) h = h
  paying-hand (Todo.paid ∷ todo) h = h
  paying-hand (q ∷ todo) h = absurd h

  hand-quiet : (mark : Mark) → begins_cleaning (record e { act = or_void f.image p e.act (by_actor f.image p (marks_end f.image p mark e.act)) }) ≡ false
  hand-quiet (Mark.Thread who site) =
      elim (is_void e.act) as (λ b. begins_cleaning (record e { act = if b then FineAct.Unseen Unseen.Void else by_actor f.image p (Act.TimedOut who) }) ≡ false) [ true ↦ refl | false ↦ refl ]
  hand-quiet (Mark.Timer x) =
      elim (is_void e.act) as (λ b. begins_cleaning (record e { act = if b then FineAct.Unseen Unseen.Void else by_actor f.image p (marks_end f.image p (Mark.Timer x) e.act) }) ≡ false) [ true ↦ refl | false ↦ refl ]

  hand-on : (q : Todo) (todo : Todos) → p.todo ≡ q ∷ todo → times now.todo ≡ true → IsHand (q ∷ todo) → IsHand now.todo
  hand-on (Todo.handle deadline mark) todo at timed h =
      let quiet = ap (λ a. begins_cleaning (record e { act = a })) (made-says f m e law (Todo.handle deadline mark ∷ todo) at) ∙ hand-quiet mark in
      let ws = told_marked mark (woken_in (act_in e.act)) in
      subst IsHand (sym (exact (Todo.handle deadline mark ∷ todo) at quiet))
      (subst (λ (z : Todos). IsHand (if is_void e.act then z else wakes ws z)) (sym h)
      (elim (is_void e.act) as (λ b. IsHand (if b then Todo.paid ∷ [] else wakes ws (Todo.paid ∷ []))) [ true ↦ refl | false ↦ paying-wakes ws ]))
  hand-on (Todo.wake who told) todo at timed h =
      let quiet = ap (λ a. begins_cleaning (record e { act = a })) (made-says f m e law (Todo.wake who told ∷ todo) at) in
      subst IsHand (sym (exact (Todo.wake who told ∷ todo) at quiet)) (paying-hand todo h)
  hand-on Todo.paid todo at timed h =
      let some = times-some now.todo timed in
      let same = paid-tail Todo.paid todo at in
      let none = ap (counted is_paid) h in
      absurd (omega (arith, some, same, none))
  hand-on q todo at timed h = absurd h

  hand-now : times now.todo ≡ true → IsHand now.todo
  hand-now timed = by p.todo refl
    where
      taken : p.todo ≡ [] → IsHand now.todo
      taken at = which (idle-step f m law.rel p e law.by.may law.taken at)
        where
          none : (moved : Exchange) → e.moved ≡ moved → in_hand f.image is_paid paid-of moved ≡ 0 → IsHand now.todo
          none moved given nil =
              let is = taken-count f.image is_paid paid-of p e at (takes-free f.image is_paid paid-of (λ deadline mark. refl) e.moved) ∙ (ap (in_hand f.image is_paid paid-of) given ∙ nil) in
              let some = times-some now.todo timed in
              absurd (omega (arith, is, some))

          which : IdleStep f p e → IsHand now.todo
          which (turns site said ready moved) = by (scheduler f).ready ready moved
            where
              by : (list : List ℕ) → IsTrue (has_ready (scheduler f) list) → first_ready (scheduler f) list ≡ e.moved → IsHand now.todo
              by [] has moved = absurd (false≢true has)
              by (t ∷ list) has moved = none (first_ready (scheduler f) (t ∷ list)) (sym moved) refl
          which (gives x site said due moved) =
              subst IsHand (sym (exact [] at (ap (λ a. begins_cleaning (record e { act = a })) said) ∙ ap (λ (z : Exchange). (after_take f.image p z).todo) moved)) refl
          which (time_goes n site said next moved) = none Exchange.nothing moved refl

      by : (todo : Todos) → p.todo ≡ todo → IsHand now.todo
      by [] at = taken at
      by (q ∷ todo) at =
          let some = times-some now.todo timed in
          let same = paid-tail q todo at in
          let behind = counted-times todo (omega (arith, some, same)) in
          let before : times p.todo ≡ true = ap times at ∙ elim (is_paid q) as (λ b. (b || times todo) ≡ true) [ true ↦ refl | false ↦ behind ] in
          hand-on q todo at timed (subst IsHand at ((law.rel.processors e.cpu law.by.named).timer.hand before))

  abbrev IsTimer : Processor → Type 0
  IsTimer r = (0 < length f.image.boots → IsTrue (is_started (thread_at s (actor_or f.image r.actor)).life)) × (times r.todo ≡ true → IsHand r.todo)

  pub timer-part : (k : ℕ) → k < f.cpus → TimerIs later s k
  timer-part k l = let is = by (e.cpu == k) refl in record { actor = is.0; hand = is.1 }
    where
      by : (b : Bool) → (e.cpu == k) ≡ b → IsTimer (cond b (p_next f.image (f.processors k) e) (f.processors k))
      by true q = subst (λ j. IsTimer (p_next f.image (f.processors j) e)) (eqb-true e.cpu k q) (actor-now, hand-now)
      by false q = let was = (law.rel.processors k l).timer in (λ boots. stays (actor_or f.image (f.processors k).actor) (was.actor boots), was.hand)
