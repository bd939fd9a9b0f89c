-- Each thread that was started is in a domain of the image, in every state that a run of the access-matrix machine reaches.
use Rattle.um_refinement.proofs.Words.{Change, Effect, MayChoose, Next, Way, and_parts, went, wrote, ◌≡◌, ◌⊎◌, inl, inr, ℕ, zero, suc, ◌<◌, Bool, true, false, List, [], ◌∷◌, length, Option, Some, None, refl, sym, ap, ◌∙◌, subst, arith, ◌==◌, IsTrue, is_some, slice_get, slice_index_or, list_all, and_parts, eqb-false, eqb-true, false≢true, true≢false, length-set, Event, Boot, Image, IsLawful, is_lawful_boot, Partitions, Pending, Life, Thread, Steps, Offers, Runs, begins, blank, boot_thread, booted, booted_one, exits, goes, loaded, opening, skips_drops, skips_inherit, State, is_living, is_started, nobody, thread_at, with_thread, is_empty, at_set, THREADS, IsDescribed, Act, DomainDef, is_initialised, tends}
use Rattle.um_machine.specs.Joins.{has_ended}
use Rattle.um_machine.specs.Run.{leaves, stops}
use Rattle.um_machine.specs.Services.{without}
use Rattle.um_machine.specs.State.{is_to_resume, is_waiting, waiters_in, with_waiters}
use Rattle.um_machine.specs.Table as T
use Rattle.um_machine.specs.Writes.{Flag, cut, flagged, only}
use Rattle.um_refinement.proofs.Erased.{IsReachable}
use Rattle.um_refinement.proofs.FirstObjects.{opening-image}
use Rattle.um_refinement.proofs.FirstReady.{entry, threads-are}
use Rattle.um_refinement.proofs.FirstThreads.{loaded-threads, nobodies}
use Rattle.um_refinement.proofs.Reachable.{Any, makes-any, opening-wide}
use Rattle.um_refinement.proofs.Others.{others, starts_other}
use Rattle.um_refinement.proofs.ThreadLists.{set-else}
use Rattle.um_refinement.proofs.WordsKept.{NoWords, says-kept}
use Rattle.um_refinement.proofs.Writes.{after_saying, Keeping, Makes, Said, after-kept, reads-keeping}

-- in one of so many domains, or never started and at rest
abbrev pub Placed : ℕ → Thread → Type 0
Placed n th = (th.domain < n) ⊎ ((th.life ≡ Life.Unborn) × (th.pending ≡ []))

-- a thread that makes a step was started, so it is in one
offered-placed : (m : State) (n t : ℕ) (q : Pending) (rest : Steps) → Offers m t q rest → Placed n (thread_at m t) → (thread_at m t).domain < n
offered-placed m n t q rest offers (inl l) = l
offered-placed m n t q rest offers (inr quiet) = absurd (by offers)
  where
    empty : (steps : Steps) → (thread_at m t).pending ≡ steps → is_empty steps ≡ false → ⊥
    empty steps e h = true≢false (sym (ap is_empty quiet.1) ∙ (ap is_empty e ∙ h))

    unborn : is_started (thread_at m t).life ≡ false
    unborn = ap is_started quiet.0

    unlived : is_living (thread_at m t).life ≡ false
    unlived = ap is_living quiet.0

    by : {q : Pending} {rest : Steps} → Offers m t q rest → ⊥
    by (goes e) = empty _ e refl
    by (skips_inherit e due) = empty _ e refl
    by (skips_drops e due) = empty _ e refl
    by (begins e lives doomed there) = false≢true (sym unlived ∙ lives)
    by (exits e lives doomed there) = false≢true (sym unlived ∙ lives)
    by (stops e lives must) = false≢true (sym unlived ∙ lives)
    by (leaves ends) = false≢true (sym (ap has_ended quiet.0) ∙ (and_parts _ _ ends).0)
    by (tends is started) = false≢true (sym unborn ∙ started)

inside : (all : List (Option Partitions)) (d : ℕ) → is_some (slice_index_or all d None) ≡ true → d < length all
inside [] d h = absurd (false≢true h)
inside (p ∷ all) zero h = omega arith
inside (p ∷ all) (suc d) h = let l = inside all d h in omega (arith, l)

module _ (m : State) (n t x : ℕ) (all : (u : ℕ) → Placed n (thread_at m u)) (many : length m.domains ≡ n) where
  abbrev All : State → Type 0
  All s = (u : ℕ) → Placed n (thread_at s u)

  -- a thread of a state is written that is in a domain
  written : (s : State) (v : ℕ) (th : Thread) → Placed n th → All s → All (with_thread s v th)
  written s v th new old u = at_set (λ k (z : Thread). Placed n z) s.threads v u th nobody new (old u)

  -- one that is written leaves the domain of the thread that makes the step, if it is in one
  within : (s : State) (v : ℕ) (th : Thread) → th.domain < n → (thread_at s t).domain < n → (thread_at (with_thread s v th) t).domain < n
  within s v th new old = at_set (λ k (z : Thread). z.domain < n) s.threads v t th nobody new old

  beside : (q : Pending) (rest : Steps) → (thread_at m t).domain < n → Makes NoWords q → ((u : ℕ) → starts_other u q) → All (T.after m t x q rest)
  beside q rest here makes other u = by (t == u) refl (all u)
    where
      domain : (thread_at (T.after m t x q rest) u).domain ≡ (thread_at m u).domain
      domain = ap (λ (z : Said). z.domain) (says-kept m u t x q rest makes)

      by : (b : Bool) → (t == u) ≡ b → Placed n (thread_at m u) → Placed n (thread_at (T.after m t x q rest) u)
      by b e (inl l) = inl (subst (λ d. d < n) (sym domain) l)
      by true e (inr quiet) = inl (subst (λ d. d < n) (sym domain) (subst (λ k. (thread_at m k).domain < n) (eqb-true t u e) here))
      by false e (inr quiet) =
          let same = others m t u (eqb-false t u e) x q rest (other u) in
          inr (ap (λ (z : Thread). z.life) same ∙ quiet.0, ap (λ (z : Thread). z.pending) same ∙ quiet.1)

  -- a thread is written that is in the same domain, lives as long, and has the same steps left; and then the one that makes the step
  rewritten : (v : ℕ) (th : Thread) → th.domain ≡ (thread_at m v).domain → th.life ≡ (thread_at m v).life → th.pending ≡ (thread_at m v).pending → (thread_at m t).domain < n
      → All (with_thread m v th) × ((thread_at (with_thread m v th) t).domain < n)
  rewritten v th domain life pending here = (written m v th (same (all v)) all, kept (v == t) refl)
    where
      same : Placed n (thread_at m v) → Placed n th
      same (inl l) = inl (subst (λ d. d < n) (sym domain) l)
      same (inr quiet) = inr (life ∙ quiet.0, pending ∙ quiet.1)

      kept : (b : Bool) → (v == t) ≡ b → (thread_at (with_thread m v th) t).domain < n
      kept true e =
          at_set (λ k (z : Thread). z.domain < n) m.threads v t th nobody (subst (λ d. d < n) (sym domain) (subst (λ k. (thread_at m k).domain < n) (sym (eqb-true v t e)) here)) here
      kept false e = subst (λ (z : Thread). z.domain < n) (sym (set-else m.threads v t th (eqb-false v t e))) here

  -- a flag is set, or isn't
  flags-after : (b : Bool) (who : ℕ) (flag : Flag) (rest : Steps) → (thread_at m t).domain < n
      → All (went rest (wrote (only b (Effect.flags who flag) ∷ []) m) t (Next.on Change.nothing Way.rest))
  flags-after false who flag rest here = written m t _ (inl here) all
  flags-after true who flag rest here = let r = flag-written flag in written (with_thread m who (flagged flag (thread_at m who))) t _ (inl r.1) r.0
    where
      flag-written : (flag : Flag) → All (with_thread m who (flagged flag (thread_at m who))) × ((thread_at (with_thread m who (flagged flag (thread_at m who))) t).domain < n)
      flag-written Flag.aborted = rewritten who _ refl refl refl here
      flag-written (Flag.suspended on) = rewritten who _ refl refl refl here

  -- who is cut waits
  waiting : (th : Thread) → is_waiting th ≡ true → th.pending ≡ [] → ⊥
  waiting th w none = false≢true (sym (ap is_to_resume none) ∙ (and_parts (is_to_resume th.pending) _ w).0)

  pub placed-after : (q : Pending) (rest : Steps) → (thread_at m t).domain < n → MayChoose m t x q → All (T.after m t x q rest)
  placed-after Pending.Exit rest here chosen = written m t _ (inl here) all
  placed-after Pending.Killed rest here chosen = written m t _ (inl here) all
  placed-after (Pending.Abort who) rest here chosen = flags-after (is_living (thread_at m who.0).life) who.0 Flag.aborted rest here
  placed-after (Pending.Suspend who) rest here chosen = flags-after (is_living (thread_at m who.0).life) who.0 (Flag.suspended true) rest here
  placed-after (Pending.Continue who) rest here chosen = flags-after (is_living (thread_at m who.0).life) who.0 (Flag.suspended false) rest here
  placed-after (Pending.Cut who) rest here chosen = written (with_waiters m x (without who.0 (waiters_in m x))) who.0 (cut (thread_at m who.0)) (cut-placed (all who.0)) all
    where
      cut-placed : Placed n (thread_at m who.0) → Placed n (cut (thread_at m who.0))
      cut-placed (inl l) = inl l
      cut-placed (inr quiet) = absurd (waiting (thread_at m who.0) (and_parts _ _ (and_parts (thread_at m who.0).aborted _ chosen).1).0 quiet.1)
  placed-after (Pending.Fatal reason cause) rest here chosen = written m t _ (inl here) all
  placed-after (Pending.EnterUser script) rest here chosen = written m t _ (inl here) all
  placed-after (Pending.Dooms from) rest here chosen =
      let th = record (thread_at m from) { doomed = true } in
      let r = rewritten from th refl refl refl here in
      written (with_thread m from th) t _ (inl r.1) r.0
  placed-after (Pending.Start who script stack priority mode) rest here chosen =
      let th = T.newborn m (thread_at m t) who.0 script (Pending.Start who script stack priority mode) in
      written (with_thread m who.0 th) t _ (inl (within m who.0 th here here)) (written m who.0 th (inl here) all)
  placed-after (Pending.DomMove d who) rest here chosen = by (T.domain_at m d) refl
    where
      After : Option Partitions → State
      After parts = after_saying m t x (Pending.DomMove d who) (Act.DomMove d who (T.move_reply parts)) rest

      by : (parts : Option Partitions) → T.domain_at m d ≡ parts → All (After (T.domain_at m d))
      by None e = subst (λ (o : Option Partitions). All (After o)) (sym e) (written m t _ (inl here) all)
      by (Some parts) e =
          let l = inside m.domains d (ap is_some e) in
          let th = record (thread_at m who.0) { domain = d } in
          let few : d < n = subst (λ k. d < k) many l in
          subst (λ (o : Option Partitions). All (After o)) (sym e) (written (with_thread m who.0 th) t _ (inl (within m who.0 th few here)) (written m who.0 th (inl few) all))
  placed-after q rest here chosen = beside q rest here tt (λ u. tt)

-- Along a run.

module _ (n : ℕ) where
  abbrev Many : State → Type 0
  Many s = length s.domains ≡ n

  many-keeping : Keeping Any Many
  many-keeping = reads-keeping Any (λ s. length s.domains) n (λ s threads. refl) (λ s objects. refl) (λ s bytes. (refl, refl)) (λ may s u x there. refl) (λ may s left. refl) (λ may s d ps. length-set s.domains d ps) (λ may s joins futexes. refl) (λ may s now armed. refl)

  placed-run : (s : State) (events : List Event) (s2 : State) → Many s → ((u : ℕ) → Placed n (thread_at s u)) → Runs s events s2 → (u : ℕ) → Placed n (thread_at s2 u)
  placed-run s [] s2 many all run = subst (λ (z : State). (u : ℕ) → Placed n (thread_at z u)) (sym run) all
  placed-run s (event ∷ events) s2 many all (mid, step, rest) =
      let t = event.thread.0 in
      let here = offered-placed s n t step.step step.rest step.offered (all t) in
      placed-run mid events s2
      (subst Many (sym step.leaves) (after-kept Any Many many-keeping s t many step.row step.step step.rest (makes-any step.step)))
      (subst (λ (z : State). (u : ℕ) → Placed n (thread_at z u)) (sym step.leaves) (placed-after s n t step.row all many step.step step.rest here step.chosen)) rest

-- The opening.

defined : (all : List DomainDef) (d : ℕ) → is_initialised (slice_get all d) ≡ true → d < length all
defined [] d h = absurd (false≢true h)
defined (x ∷ all) zero h = omega arith
defined (x ∷ all) (suc d) h = let l = defined all d h in omega (arith, l)

boot-domain : (image : Image) (boot : Boot) → is_lawful_boot image boot ≡ true → boot.domain < length image.domains
boot-domain image boot h =
    defined image.domains boot.domain (and_parts _ (is_initialised (slice_get image.domains boot.domain)) (and_parts _ _ (and_parts _ _ h).0).0).1

placed-booted : (image : Image) (boots : List Boot) (s : State) → list_all (is_lawful_boot image) boots ≡ true → ((u : ℕ) → Placed (length image.domains) (thread_at s u))
    → (u : ℕ) → Placed (length image.domains) (thread_at (booted boots s) u)
placed-booted image [] s h all u = all u
placed-booted image (boot ∷ boots) s h all u =
    let parts = and_parts (is_lawful_boot image boot) (list_all (is_lawful_boot image) boots) h in
    placed-booted image boots (booted_one boot s) parts.1
    (λ v.
    subst (λ (xs : List Thread). Placed (length image.domains) (slice_index_or xs v nobody)) (sym (threads-are image boot s))
    (at_set (λ k (z : Thread). Placed (length image.domains) z) s.threads (entry s.image boot) v (boot_thread s.image boot) nobody (inl (boot-domain image boot parts.0)) (all v))) u

placed-opening : (image : Image) → IsLawful image → (u : ℕ) → Placed (length image.domains) (thread_at (opening image) u)
unfolding blank
placed-opening image lawful =
    placed-booted image image.boots (loaded image.partitions (blank image)) lawful.boots
    (λ u.
    subst (λ (xs : List Thread). Placed (length image.domains) (slice_index_or xs u nobody)) (sym (loaded-threads image.partitions (blank image)))
    (nobodies (λ me. Placed (length image.domains) me) THREADS u (inr (refl, refl))))

-- each thread that was started is in a domain of the image
pub started-placed : (image : Image) (cpus : ℕ) → IsDescribed image → (m : State) → IsReachable image cpus m → (t : ℕ) → IsTrue (is_started (thread_at m t).life)
    → (thread_at m t).domain < length image.domains
started-placed image cpus described m reach t started = by (placed-run (length image.domains) (opening image) reach.0 m many (placed-opening image described.lawful) reach.1 t)
  where
    many : length (opening image).domains ≡ length image.domains
    many = (opening-wide image described.few).domains ∙ ap (λ (i : Image). length i.domains) (opening-image image)

    by : Placed (length image.domains) (thread_at m t) → (thread_at m t).domain < length image.domains
    by (inl l) = l
    by (inr quiet) = absurd (false≢true (sym (ap is_started quiet.0) ∙ started))
