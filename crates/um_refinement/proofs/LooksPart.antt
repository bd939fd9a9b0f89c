-- Looks are for steps of words that were made, and who a look finds is aborted, after every lawful step.
use Rattle.um_refinement.proofs.Words.{Todos, allows, to_thread, ◌≡◌, ◌⊎◌, inl, inr, ℕ, ◌<◌, ◌≤◌, Bool, true, false, cond, Some, refl, sym, ap, ◌∙◌, subst, arith, ◌==◌, and_parts, if◌then◌else◌, eqb-true, true≢false, Act, THREADS, Pending, Steps, State, is_living, FineAct, More, Unseen, ThreadWord, thread_after, thread_after_act, Context, p_next, same_site, same-sound, FineStep, Site, Fine, word, is_over, IsOf}
use Rattle.um_base.specs.declared.names.Access.TheVariants as Access
use Rattle.um_refinement.specs.Stops.{LiesAt, Looking, LooksFit, asleep, parked, runs_it}
use Rattle.um_refinement.proofs.Erased.{around}
use Rattle.um_refinement.proofs.Leaves.{Beside, Lawful, Leaves, beside, cleans, cuts, drops, event, expires, leaves, nothing, passes, recycles, resumes, ticks, times_out}
use Rattle.um_refinement.proofs.LooksListed.{Ok, looks-now}
use Rattle.um_refinement.proofs.Lying.{Before, lay-before}
use Rattle.um_refinement.proofs.Offered.{IsStep, Shows, either-act, site-is}
use Rattle.um_refinement.proofs.PartsElsewhere.{starts-apart}
use Rattle.um_refinement.proofs.SleepFlags.{word-else, word-here}
use Rattle.um_refinement.proofs.StepsLeft.{rests-on}

-- The number of a word grows, and one that is aborted stays so until it starts anew.

number-kept : (w : ThreadWord) (act : FineAct) → (thread_after w act).number ≡ w.number
number-kept w (FineAct.Shown said more) = by said.act
  where
    flag : (b : Bool) (z : ThreadWord) → z.number ≡ w.number → (if b then z else w).number ≡ w.number
    flag true z k = k
    flag false z k = refl

    by : (act : Act) → (thread_after_act w more act).number ≡ w.number
    by (Act.Abort who done) = flag (is_living w.life) (record w { aborted = true }) refl
    by (Act.Suspend who done) = flag (is_living w.life) (record w { suspended = true }) refl
    by (Act.Continue who done) = flag (is_living w.life) (record w { suspended = false }) refl
    by act = refl
number-kept w (FineAct.Unseen Unseen.Hold) = refl
number-kept w (FineAct.Unseen Unseen.LetGo) = refl
number-kept w (FineAct.Unseen u) = refl

abbrev is_start : FineAct → Bool
is_start (FineAct.Shown said more) = elim said.act as (λ _. Bool) [ Act.Start who ↦ true | _ ↦ false ]
is_start (FineAct.Unseen u) = false

aborted-kept : (w : ThreadWord) (act : FineAct) → is_start act ≡ false → w.aborted ≡ true → (thread_after w act).aborted ≡ true
aborted-kept w (FineAct.Shown said more) off h = by said.act off
  where
    flag : (b : Bool) (z : ThreadWord) → z.aborted ≡ true → (if b then z else w).aborted ≡ true
    flag true z k = k
    flag false z k = h

    by : (act : Act) → (elim act as (λ _. Bool) [ Act.Start who ↦ true | _ ↦ false ]) ≡ false → (thread_after_act w more act).aborted ≡ true
    by (Act.Abort who done) off = flag (is_living w.life) (record w { aborted = true }) refl
    by (Act.Suspend who done) off = flag (is_living w.life) (record w { suspended = true }) h
    by (Act.Continue who done) off = flag (is_living w.life) (record w { suspended = false }) h
    by (Act.Start who) off = absurd (true≢false off)
    by act off = h
aborted-kept w (FineAct.Unseen Unseen.Hold) off h = h
aborted-kept w (FineAct.Unseen Unseen.LetGo) off h = h
aborted-kept w (FineAct.Unseen u) off h = h

module _ (f : Fine) (m : State) (e : FineStep) (law : Lawful f m e) (s : State) (how : Leaves f m e s) (t : ℕ) (few : t < THREADS) where
  open around f e use {later, processor as p, now}

  pub number-grows : (word f t).number ≤ (word later t).number
  number-grows = by (same_site e.site (Site.thread t)) refl
    where
      by : (b : Bool) → same_site e.site (Site.thread t) ≡ b → (word f t).number ≤ (word later t).number
      by true on =
          let is = ap (λ (w : ThreadWord). w.number) (word-here f m e law t few on) in
          let kept = number-kept (word f t) e.act in
          omega (arith, is, kept)
      by false off = let is = ap (λ (w : ThreadWord). w.number) (word-else f m e law t few off) in omega (arith, is)

  -- whose own part lies somewhere isn't started
  pub part-of : (d : Context) → LiesAt f t d → IsOf f m d × (is_over d ≡ false) × (d.thread ≡ t)
  part-of _ (runs_it k l running on) =
      let parts = and_parts _ _ running in ((law.rel.contexts.running k l parts.0).of on, on, eqb-true (f.processors k).context.thread t parts.1)
  part-of _ (parked c there) = let is = law.rel.contexts.parked t c there in (is.0, rests-on c is.2, is.1)
  part-of _ (asleep c there) = let is = law.rel.contexts.asleep t c there in (is.0, rests-on c is.2, is.1)

  unstarted : (d : Context) → LiesAt f t d → same_site e.site (Site.thread t) ≡ true → is_start e.act ≡ false
  unstarted d lies on = by s how
    where
      at : e.site ≡ Site.thread t
      at = same-sound e.site (Site.thread t) on

      thread_of : Site → ℕ
      thread_of (Site.thread u) = u
      thread_of i = 0

      shown : (q : Pending) (rest : Steps) (todo : Todos) (x : ℕ) → Shows f m e.cpu e q rest todo → IsStep f m e.cpu e x q → is_start e.act ≡ false
      shown (Pending.Start who script stack priority mode) rest todo x h is =
          let is-part = part-of d lies in
          absurd (starts-apart f m e law d is-part.0 is-part.1 (Pending.Start who script stack priority mode) rest todo h tt (ap thread_of (sym (site-is h) ∙ at) ∙ sym is-part.2))
      shown (Pending.Load to a n) rest todo x h is = ap is_start is.said ∙ either-act (λ act. is_start (FineAct.Shown (record { thread = to_thread p.context.thread; act = act }) More.Nothing)) false (allows f.image p Access.Read a.0 n) _ _ refl refl
      shown (Pending.Store a n value) rest todo x h is = ap is_start is.said ∙ either-act (λ act. is_start (FineAct.Shown (record { thread = to_thread p.context.thread; act = act }) More.Nothing)) false (allows f.image p Access.Write a.0 n) _ _ refl refl
      shown (Pending.Fetch a) rest todo x h is = ap is_start is.said ∙ either-act (λ act. is_start (FineAct.Shown (record { thread = to_thread p.context.thread; act = act }) More.Nothing)) false (allows f.image p Access.Exec a.0 4) _ _ refl refl
      shown q rest todo x h is = ap is_start is.said

      on-beside : (u x : ℕ) (q : Pending) → Beside f m e u x q → is_start e.act ≡ false
      on-beside _ _ _ (cuts who site before x todo there place inside said) = ap is_start said
      on-beside _ _ _ (times_out deadline site x who todo there place inside said) = ap is_start said
      on-beside _ _ _ (expires deadline x todo there inside said) = ap is_start said
      on-beside _ _ _ (ticks there said) = ap is_start said
      on-beside _ _ _ (leaves todo there said) = ap is_start said

      by : (z : State) → Leaves f m e z → is_start e.act ≡ false
      by _ (nothing u said) = ap is_start said
      by _ (event q rest todo x h made is) = shown q rest todo x h is
      by _ (resumes c told rest idle moved said) = ap is_start said
      by _ (passes who x rest todo h said) = ap is_start said
      by _ (drops from x rest todo h said) = ap is_start said
      by _ (cleans who x rest todo h said) = ap is_start said
      by _ (recycles x rest todo there l said chosen) = ap is_start said
      by _ (beside u x q made chosen started) = on-beside u x q made

  aborted-stays : (d : Context) → LiesAt f t d → (word f t).aborted ≡ true → (word later t).aborted ≡ true
  aborted-stays d lies h = by (same_site e.site (Site.thread t)) refl
    where
      by : (b : Bool) → same_site e.site (Site.thread t) ≡ b → (word later t).aborted ≡ true
      by true on = ap (λ (w : ThreadWord). w.aborted) (word-here f m e law t few on) ∙ aborted-kept (word f t) e.act (unstarted d lies on) h
      by false off = ap (λ (w : ThreadWord). w.aborted) (word-else f m e law t few off) ∙ h

  -- a look on some list stood there before, or is new
  come : (k site before : ℕ) → k < f.cpus → Looking (later.processors k).todo t site before
      → ((j : ℕ) × (j < f.cpus) × Looking (f.processors j).todo t site before) ⊎ ((before ≡ (word later t).number) × ((word later t).aborted ≡ true))
  come k site before l = by (e.cpu == k) refl
    where
      old : Ok f m e law t few site before → ((j : ℕ) × (j < f.cpus) × Looking (f.processors j).todo t site before) ⊎ ((before ≡ (word later t).number) × ((word later t).aborted ≡ true))
      old (inl h) = inl (e.cpu, law.by.named, h)
      old (inr new) = inr new

      by : (b : Bool) → (e.cpu == k) ≡ b → Looking (cond b (p_next f.image (f.processors k) e) (f.processors k)).todo t site before
          → ((j : ℕ) × (j < f.cpus) × Looking (f.processors j).todo t site before) ⊎ ((before ≡ (word later t).number) × ((word later t).aborted ≡ true))
      by true q h = old (looks-now f m e law t few s how site before (subst (λ j. Looking (p_next f.image (f.processors j) e).todo t site before) (sym (eqb-true e.cpu k q)) h))
      by false q h = inl (k, l, h)

  was : LooksFit f t
  was = (law.rel.threads t few).looks

  pub looks-part : LooksFit later t
  looks-part = record { made = made-now; aborted = aborted-now }
    where
      made-now : (k site before : ℕ) → k < f.cpus → Looking (later.processors k).todo t site before → before ≤ (word later t).number
      made-now k site before l h = by (come k site before l h)
        where
          by : ((j : ℕ) × (j < f.cpus) × Looking (f.processors j).todo t site before) ⊎ ((before ≡ (word later t).number) × ((word later t).aborted ≡ true)) → before ≤ (word later t).number
          by (inl (j, r, there)) = let old = was.made j site before r there in let grows = number-grows in omega (arith, old, grows)
          by (inr new) = let same = new.0 in omega (arith, same)

      aborted-now : (k site before n : ℕ) (c : Context) → k < f.cpus → Looking (later.processors k).todo t site before → LiesAt later t c → c.noted ≡ Some n → n < before → (word later t).aborted ≡ true
      aborted-now k site before n c l h lies noted less = by (come k site before l h)
        where
          by : ((j : ℕ) × (j < f.cpus) × Looking (f.processors j).todo t site before) ⊎ ((before ≡ (word later t).number) × ((word later t).aborted ≡ true)) → (word later t).aborted ≡ true
          by (inr new) = new.1
          by (inl (j, r, there)) = where-from (lay-before f m e law s how t few n c lies noted)
            where
              where-from : Before f m e law s how t few n → (word later t).aborted ≡ true
              where-from (inl (d, lay, same)) = aborted-stays d lay (was.aborted j site before n d r there lay same less)
              where-from (inr new) = let number = new.0 in let old = was.made j site before r there in let grows = number-grows in absurd (omega (arith, old, grows, number, less))
