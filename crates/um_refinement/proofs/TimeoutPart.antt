-- A thread that waits with a deadline has a mark of it, after every lawful step: where it begins to wait its list has that mark to settle, and the
-- mark stays until it is handled, which ends the wait.
use Rattle.um_refinement.proofs.Words.{◌≡◌, ◌⊎◌, inl, inr, ℕ, ◌+◌, ◌<◌, Bool, true, false, List, [], ◌∷◌, Option, Some, None, refl, sym, ap, ◌∙◌, subst, arith, ◌==◌, if◌then◌else◌, is_some, eqb-false, eqb-true, eq-eqb, and_from, true≢false, ltb-true, Ask, Addr, Answer, Waiter, ROWS, THREADS, Pending, Steps, Thread, to_thread, Act, State, thread_at, FineAct, Unseen, waits, Exchange, FineStep, Site, site_answers, Fine, Fits, Todo, Todos, behind_shown, counted, row_named}
use Rattle.um_base.specs.declared.limits.TheConstants.{FUTEX_CELL, JOIN_CELL}
use Rattle.um_machine.specs.declared.contents.Contents.{Contents}
use Rattle.um_machine.specs.Order.{to_row}
use Rattle.um_machine.specs.Services.{acted_by}
use Rattle.um_machine.specs.State.{waiters_in}
use Rattle.um_machine.specs.Table as T
use Rattle.um_words.specs.declared.fine.Mark.{Mark}
use Rattle.um_fine.specs.Answers.{is_void}
use Rattle.um_fine.specs.Asks.{by_actor}
use Rattle.um_fine.specs.Clock.{same_mark}
use Rattle.um_fine.specs.Places.{armed_for, is_timer_start, mark_for, settling}
use Rattle.um_fine.specs.Seeking.{is_number, stands_in}
use Rattle.um_refinement.specs.Fine.{clock}
use Rattle.um_refinement.specs.Stops.{cell_site}
use Rattle.um_refinement.specs.Timing.{IsToCome, TimeoutComes, settles}
use Rattle.um_refinement.proofs.CellSites.{site-of-cell, waiting_cell}
use Rattle.um_refinement.proofs.Erased.{Goes, GoesBy, around}
use Rattle.um_refinement.proofs.Leaves.{Beside, Lawful, Leaves, beside, cleans, cuts, drops, event, expires, leaves as tells_left, mine, nothing, passes, recycles, resumes, ticks as time_passes, times_out}
use Rattle.um_refinement.proofs.MarkFacts.{same-itself}
use Rattle.um_refinement.proofs.MemorySteps.{part-total}
use Rattle.um_refinement.proofs.Offered.{Shows, at-made, own-part, own-unless}
use Rattle.um_refinement.proofs.RowSteps.{named-row}
use Rattle.um_refinement.proofs.RowsPart.{named-below}
use Rattle.um_refinement.proofs.SchedulerSteps.{made-at, made-moves, made-says}
use Rattle.um_refinement.proofs.ToCome.{clock-kept, some-left, to-come-kept}
use Rattle.um_refinement.proofs.VoidLooks.{cell-void}
use Rattle.um_refinement.proofs.WaitersFound.{WaitersWait}
use Rattle.um_refinement.proofs.WaitersKnown.{UntilsAre, WaitersHold, key-left}
use Rattle.um_refinement.proofs.WaitSteps.{Begins, stood, timed-out-gone}

-- the start of a timer is answered at once
starts-now : (contents : Contents) (ws : List Waiter) (who : Waiter) (deadline : ℕ) → (acted_by contents ws who (Ask.TimerStart deadline)).answer ≡ Answer.Wait → ⊥
starts-now contents ws who deadline h = by contents h
  where
    is_now : Answer → Bool
    is_now (Answer.Now reply) = true
    is_now Answer.Wait = false

    now-waits : (answer : Answer) → is_now answer ≡ true → answer ≡ Answer.Wait → ⊥
    now-waits answer is h = true≢false (sym is ∙ ap is_now h)

    by : (contents : Contents) → (acted_by contents ws who (Ask.TimerStart deadline)).answer ≡ Answer.Wait → ⊥
    by (Contents.Sem count limit) h = now-waits _ refl h
    by (Contents.Mutex owner depth) h = now-waits _ refl h
    by (Contents.Msgq q) h = now-waits _ refl h
    by (Contents.Stack s) h = now-waits _ refl h
    by (Contents.Pipe p) h = now-waits _ refl h
    by (Contents.Stopped status) h = now-waits _ refl h
    by (Contents.Running until) h = now-waits _ refl h
    by contents h = now-waits _ refl h

-- the site of a row's cell, and that sites tell cells apart
pub row-site : (x : ℕ) → x < ROWS → cell_site x ≡ 168 + x
row-site x few = by (x == JOIN_CELL) refl (x == FUTEX_CELL) refl
  where
    by : (a : Bool) → (x == JOIN_CELL) ≡ a → (b : Bool) → (x == FUTEX_CELL) ≡ b → (if a then 308 else if b then 304 else 168 + x) ≡ 168 + x
    by true p b q = let at = eqb-true x JOIN_CELL p in absurd (omega (arith, few, at))
    by false p true q = let at = eqb-true x FUTEX_CELL q in absurd (omega (arith, few, at))
    by false p false q = refl

pub site-once : (x y : ℕ) → x < ROWS + 2 → y < ROWS + 2 → cell_site x ≡ cell_site y → x ≡ y
site-once x y inside within h = by (x == JOIN_CELL) refl (x == FUTEX_CELL) refl (y == JOIN_CELL) refl (y == FUTEX_CELL) refl h
  where
    by : (a : Bool) → (x == JOIN_CELL) ≡ a → (b : Bool) → (x == FUTEX_CELL) ≡ b → (c : Bool) → (y == JOIN_CELL) ≡ c → (d : Bool) → (y == FUTEX_CELL) ≡ d
        → (if a then 308 else if b then 304 else 168 + x) ≡ (if c then 308 else if d then 304 else 168 + y) → x ≡ y
    by true p b q true r d u h = eqb-true x JOIN_CELL p ∙ sym (eqb-true y JOIN_CELL r)
    by true p b q false r true u h = absurd (omega (arith, h))
    by true p b q false r false u h = let one = eqb-false y JOIN_CELL r in absurd (let two = eqb-false y FUTEX_CELL u in omega (arith, h, within, one, two))
    by false p true q true r d u h = absurd (omega (arith, h))
    by false p true q false r true u h = eqb-true x FUTEX_CELL q ∙ sym (eqb-true y FUTEX_CELL u)
    by false p true q false r false u h = let one = eqb-false y JOIN_CELL r in absurd (let two = eqb-false y FUTEX_CELL u in omega (arith, h, within, one, two))
    by false p false q true r d u h = let one = eqb-false x JOIN_CELL p in absurd (let two = eqb-false x FUTEX_CELL q in omega (arith, h, inside, one, two))
    by false p false q false r true u h = let one = eqb-false x JOIN_CELL p in absurd (let two = eqb-false x FUTEX_CELL q in omega (arith, h, inside, one, two))
    by false p false q false r false u h = omega (arith, h)

-- what a list handles first
abbrev first_handled : Todos → Option (ℕ × Mark)
first_handled (Todo.handle deadline mark ∷ todo) = Some (deadline, mark)
first_handled todo = None

abbrev is_unseen : FineAct → Bool
is_unseen (FineAct.Unseen u) = true
is_unseen (FineAct.Shown shown more) = false

module _ (f : Fine) (m : State) (e : FineStep) (law : Lawful f m e) (holding : WaitersHold m) (wait : WaitersWait m) (t : ℕ) (few : t < THREADS) (s : State) (left : Leaves f m e s) (goes : Goes m e s) (later-wait : WaitersWait s) where
  open around f e use {later, processor as p}

  -- its deadline stays
  until-same : (c : ℕ) → stands_in t (waiters_in s c) ≡ true → (thread_at s t).until ≡ (thread_at m t).until
  until-same c stands = by e.act goes
    where
      by : (act : FineAct) → GoesBy m act s → (thread_at s t).until ≡ (thread_at m t).until
      by (FineAct.Shown shown more) step =
          let kept = key-left m shown.thread.0 step.row wait step.step step.rest step.offered step.chosen (subst WaitersWait step.leaves later-wait) c t (subst (λ (z : State). stands_in t (waiters_in z c) ≡ true) step.leaves stands) in
          ap (λ (z : State). (thread_at z t).until) step.leaves ∙ λ i. (kept i).0
      by (FineAct.Unseen u) same = ap (λ (z : State). (thread_at z t).until) same

  module _ (c d : ℕ) (inside : c < ROWS + 2) (until : (thread_at m t).until ≡ Some d) where
    abbrev mark : Mark
    mark = Mark.Thread (to_thread t) (cell_site c)

    -- where the mark is to be settled, the clock has it
    settled : (q : Pending) (rest : Steps) (todo : Todos) → p.todo ≡ Todo.show q rest ∷ todo → 0 < counted (settles d mark) todo → IsToCome later d mark
    settled q rest todo at some =
        let part = part-total (λ j. counted (settles d mark) (f.processors j).todo) f.cpus e.cpu law.by.named in
        let opens = law.rel.marks.unsettled d mark in
        let there : counted (settles d mark) p.todo ≡ counted (settles d mark) todo = ap (counted (settles d mark)) at in
        clock-kept d mark f m e law (some-left d (clock f).now mark (clock f).marks law.rel.marks.given (omega (arith, some, part, opens, there)))

    settles-one : (q : Pending) (u : Option ℕ) → u ≡ Some d → mark_for f.image p.context.thread (q ∷ []) ≡ mark → 0 < counted (settles d mark) (settling f.image p.context u q)
    settles-one q u same is =
        let one : counted (settles d mark) (settling f.image p.context u q) ≡ 1 =
        ap (λ (o : Option ℕ). counted (settles d mark) (settling f.image p.context o q)) same
        ∙ ap (λ b. if b then 0 + 1 else 0) (and_from (d == d) (same_mark (mark_for f.image p.context.thread (q ∷ [])) mark) (eq-eqb d d refl) (ap (λ k. same_mark k mark) is ∙ same-itself mark)) in
        omega (arith, one)

    module _ (q : Pending) (rest : Steps) (todo : Todos) (h : Shows f m e.cpu e q rest todo) (same : t ≡ mine f m e) where
      own : p.context.until ≡ Some d
      own =
          let is = own-unless (own-part h) h.awake in
          ap (λ (z : Thread). z.until) is ∙ (ap (λ n. (thread_at m n).until) (sym same) ∙ until)

      behind : p.todo ≡ Todo.show q rest ∷ todo → todo ≡ behind_shown f.image p.context q
      behind at = (subst (Fits f.image p.context) at (law.rel.processors e.cpu law.by.named).list.fits).1

    asks-waiting : (a : Addr) (ask : Ask) → (T.work_of m (mine f m e) a ask).answer ≡ Answer.Wait → is_timer_start ask ≡ false
    asks-waiting a (Ask.TimerStart deadline) h = absurd (starts-now _ _ _ deadline h)
    asks-waiting a ask h = refl

    armed-same : (a : Addr) (ask : Ask) → is_timer_start ask ≡ false → armed_for f.image p.context (Pending.Work a ask) ≡ p.context.until
    armed-same a (Ask.TimerStart deadline) h = absurd (true≢false h)
    armed-same a ask h = refl

    -- a thread that begins to wait
    begun : (q : Pending) (rest : Steps) (todo : Todos) (x : ℕ) → Shows f m e.cpu e q rest todo → t ≡ mine f m e → Begins m (mine f m e) x q c → IsToCome later d mark
    begun (Pending.Work a ask) rest todo x h same (cell, waits) =
        let q = Pending.Work a ask in
        let off = asks-waiting a ask waits in
        let at = at-made h tt in
        let row : c ≡ row_named f.image a = cell ∙ named-row f m law.rel a in
        let is : mark_for f.image p.context.thread (q ∷ []) ≡ mark =
        ap (λ b. if b then Mark.Timer (to_row (row_named f.image a)) else Mark.Thread (to_thread p.context.thread) (168 + row_named f.image a)) off
        ∙ λ i. Mark.Thread (to_thread (sym same i)) (((ap (λ n. 168 + n) (sym row)) ∙ sym (row-site c (subst (λ n. n < ROWS) (sym row) (ltb-true (row_named f.image a) ROWS (named-below f m e law a))))) i) in
        settled q rest todo at
        (subst (λ (z : Todos). 0 < counted (settles d mark) z) (sym (behind q rest todo h same at))
        (settles-one q (armed_for f.image p.context q) (armed-same a ask off ∙ own q rest todo h same) is))
    begun (Pending.Join who timeout) rest todo x h same (cell, waits) =
        let q = Pending.Join who timeout in
        let at = at-made h tt in
        settled q rest todo at
        (subst (λ (z : Todos). 0 < counted (settles d mark) z) (sym (behind q rest todo h same at))
        (settles-one q p.context.until (own q rest todo h same) (λ i. Mark.Thread (to_thread (sym same i)) (cell_site (sym cell i)))))
    begun (Pending.FutexWait a value timeout) rest todo x h same (cell, waits) =
        let q = Pending.FutexWait a value timeout in
        let at = at-made h tt in
        settled q rest todo at
        (subst (λ (z : Todos). 0 < counted (settles d mark) z) (sym (behind q rest todo h same at))
        (settles-one q p.context.until (own q rest todo h same) (λ i. Mark.Thread (to_thread (sym same i)) (cell_site (sym cell i)))))
    begun q rest todo x h same starts = absurd starts

    abbrev Stood : State → Type 0
    Stood z = stands_in t (waiters_in z c) ≡ true

    -- a thread that waits now waited, or begins to
    before : (z : State) → Leaves f m e z → Stood z → Stood m ⊎ IsToCome later d mark
    before _ (nothing u said) h = inl h
    before _ (event q rest todo x shows shown is) h = by (stood m (mine f m e) x q rest t c h)
      where
        by : Stood m ⊎ ((t ≡ mine f m e) × Begins m (mine f m e) x q c) → Stood m ⊎ IsToCome later d mark
        by (inl was) = inl was
        by (inr (same, starts)) = inr (begun q rest todo x shows same starts)
    before _ (resumes o told rest idle moved said) h = by (stood m o.thread 0 Pending.Resume rest t c h)
      where
        by : Stood m ⊎ ((t ≡ o.thread) × Begins m o.thread 0 Pending.Resume c) → Stood m ⊎ IsToCome later d mark
        by (inl was) = inl was
        by (inr (same, starts)) = absurd starts
    before _ (passes who x rest todo v said) h = by (stood m (mine f m e) x (Pending.Inherit (to_thread who)) rest t c h)
      where
        by : Stood m ⊎ ((t ≡ mine f m e) × Begins m (mine f m e) x (Pending.Inherit (to_thread who)) c) → Stood m ⊎ IsToCome later d mark
        by (inl was) = inl was
        by (inr (same, starts)) = absurd starts
    before _ (drops from x rest todo v said) h = by (stood m (mine f m e) x (Pending.Drops from) rest t c h)
      where
        by : Stood m ⊎ ((t ≡ mine f m e) × Begins m (mine f m e) x (Pending.Drops from) c) → Stood m ⊎ IsToCome later d mark
        by (inl was) = inl was
        by (inr (same, starts)) = absurd starts
    before _ (cleans who x rest todo v said) h = by (stood m (mine f m e) x (Pending.CleanPair (to_thread who)) rest t c h)
      where
        by : Stood m ⊎ ((t ≡ mine f m e) × Begins m (mine f m e) x (Pending.CleanPair (to_thread who)) c) → Stood m ⊎ IsToCome later d mark
        by (inl was) = inl was
        by (inr (same, starts)) = absurd starts
    before _ (recycles x rest todo at inside said chosen) h = by (stood m (mine f m e) x Pending.Recycle rest t c h)
      where
        by : Stood m ⊎ ((t ≡ mine f m e) × Begins m (mine f m e) x Pending.Recycle c) → Stood m ⊎ IsToCome later d mark
        by (inl was) = inl was
        by (inr (same, starts)) = absurd starts
    before _ (beside who x q how chosen started) h = by (stood m who x q (thread_at m who).pending t c h)
      where
        quiet : {who x : ℕ} {q : Pending} → Beside f m e who x q → Begins m who x q c → ⊥
        quiet (cuts v site older x todo at same few said) starts = starts
        quiet (times_out deadline site x v todo at same few said) starts = starts
        quiet (expires deadline x todo at few said) starts = starts
        quiet (time_passes at said) starts = starts
        quiet (tells_left todo at said) starts = starts

        by : Stood m ⊎ ((t ≡ who) × Begins m who x q c) → Stood m ⊎ IsToCome later d mark
        by (inl was) = inl was
        by (inr (same, starts)) = absurd (quiet how starts)

    -- a mark that is handled ends the wait
    module _ (todo : Todos) (at : p.todo ≡ Todo.handle d mark ∷ todo) (was : Stood m) where
      says : e.act ≡ (if is_void e.act then FineAct.Unseen Unseen.Void else by_actor f.image p (Act.TimedOut (to_thread t)))
      says = made-says f m e law (Todo.handle d mark ∷ todo) at

      finds-none : is_void e.act ≡ true → ⊥
      finds-none void =
          let place : e.site ≡ waiting_cell c = made-at f m e law (Todo.handle d mark ∷ todo) at ∙ site-of-cell c inside in
          let moved : e.moved ≡ Exchange.mark d mark = made-moves f m e law (Todo.handle d mark ∷ todo) at in
          let said : e.act ≡ FineAct.Unseen Unseen.Void = says ∙ ap (λ b. if b then FineAct.Unseen Unseen.Void else by_actor f.image p (Act.TimedOut (to_thread t))) void in
          let answers = subst (λ (z : Site × FineAct × Exchange). site_answers f.image (f.sites z.0) z.2 z.1 ≡ z.1) (λ j. (place j, said j, moved j)) (ap (λ (s : FineStep). s.act) law.taken.filled_in) in
          let none = cell-void f m law.rel law.sound.wide.threads wait holding c t inside (Exchange.mark d mark) was (λ ws noted. refl) refl answers in
          let there = (law.rel.threads t few).timeout.until c inside was ∙ until in
          true≢false (sym (ap (is_number d) there ∙ eq-eqb d d refl) ∙ none)

      some-same : (d2 : ℕ) (k : Mark) → ◌≡◌ {A = Option (ℕ × Mark)} (Some (d, mark)) (Some (d2, k)) → mark ≡ k
      some-same d2 k h = ap unwrap h
        where
          unwrap : Option (ℕ × Mark) → Mark
          unwrap None = mark
          unwrap (Some pair) = pair.1

      abbrev thread_in : Mark → ℕ
      thread_in (Mark.Thread who site) = who.0
      thread_in (Mark.Timer x) = t

      abbrev site_in : Mark → ℕ
      site_in (Mark.Thread who site) = site
      site_in (Mark.Timer x) = cell_site c

      abbrev is_thread : Mark → Bool
      is_thread (Mark.Thread who site) = true
      is_thread (Mark.Timer x) = false

      not-handled : (list : Todos) → p.todo ≡ list → first_handled list ≡ None → ⊥
      not-handled list other none = true≢false (ap is_some (ap first_handled (sym at ∙ other) ∙ none))

      ends : (z : State) → Leaves f m e z → is_void e.act ≡ false → Stood z → ⊥
      ends _ (nothing u said) found h = true≢false (sym (ap is_unseen said) ∙ ap is_unseen (says ∙ ap (λ b. if b then FineAct.Unseen Unseen.Void else by_actor f.image p (Act.TimedOut (to_thread t))) found))
      ends _ (event q rest todo x shows shown is) found h = not-handled _ shows.at refl
      ends _ (resumes o told rest idle moved said) found h = not-handled _ idle refl
      ends _ (passes who x rest todo v said) found h = not-handled _ v.at refl
      ends _ (drops from x rest todo v said) found h = not-handled _ v.at refl
      ends _ (cleans who x rest todo v said) found h = not-handled _ v.at refl
      ends _ (recycles x rest todo there inside said chosen) found h = not-handled _ there refl
      ends _ (beside who x q how chosen started) found h = by how h
        where
          by : {who x : ℕ} {q : Pending} → Beside f m e who x q → Stood (T.after m who x q (thread_at m who).pending) → ⊥
          by (cuts v site older x left there same few said) h = not-handled _ there refl
          by (expires deadline x left there few said) h =
              true≢false (ap is_thread (some-same deadline (Mark.Timer x) (ap first_handled (sym at ∙ there))))
          by (time_passes there said) h = not-handled _ there refl
          by (tells_left left there said) h = not-handled _ there refl
          by {who = maker} (times_out deadline site x v left there same within said) h =
              let is = some-same deadline (Mark.Thread v site) (ap first_handled (sym at ∙ there)) in
              let one : t ≡ v.0 = ap thread_in is in
              let two : c ≡ x = site-once c x inside within (ap site_in is ∙ same) in
              timed-out-gone m maker x v (thread_at m maker).pending
              (subst (λ (z : ℕ × ℕ). stands_in z.0 (waiters_in (T.after m maker x (Pending.TimeOut v) (thread_at m maker).pending) z.1) ≡ true) (λ i. (one i, two i)) h)

    comes-by : Stood s → IsToCome later d mark
    comes-by h = by (before s left h)
      where
        handled : (was : Stood m) → (todo : Todos) → p.todo ≡ Todo.handle d mark ∷ todo → ⊥
        handled was todo at = which (is_void e.act) refl
          where
            which : (b : Bool) → is_void e.act ≡ b → ⊥
            which true void = finds-none todo at was void
            which false found = ends todo at was s left found h

        kept : (was : Stood m) → IsToCome later d mark ⊎ ((todo : Todos) × (p.todo ≡ Todo.handle d mark ∷ todo)) → IsToCome later d mark
        kept was (inl come) = come
        kept was (inr (todo, at)) = absurd (handled was todo at)

        by : Stood m ⊎ IsToCome later d mark → IsToCome later d mark
        by (inl was) = kept was (to-come-kept d mark f m e law ((law.rel.threads t few).timeout.comes c d inside was until))
        by (inr begins) = begins

  pub timeout-part : UntilsAre s → TimeoutComes later s t
  timeout-part untils =
      record {
        comes = λ c d inside stands until. comes-by c d inside (sym (until-same c stands) ∙ until) stands;
        until = λ c inside stands. untils c t stands;
      }
