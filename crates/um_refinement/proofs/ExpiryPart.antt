-- A timer that runs has a mark of its deadline, after every lawful step: where it starts, its caller's list has that mark to settle, and the mark stays
-- until it is handled, which stops the timer.
use Rattle.um_refinement.proofs.Words.{◌≡◌, ◌⊎◌, inl, inr, ℕ, zero, suc, ◌+◌, ◌<◌, Bool, true, false, List, [], ◌∷◌, length, Option, Some, None, refl, sym, ap, ◌∙◌, subst, arith, ◌==◌, ◌||◌, if◌then◌else◌, is_some, list_all, slice_index_or, slice_set, eqb-true, eq-eqb, and_from, and_parts, false≢true, true≢false, le-leb, Ask, Event, Waiter, ROWS, Pending, Steps, to_thread, Act, Next, State, vacant, object_at, thread_at, with_object, at_set, Effect, wrote, effects_of, next_of, FineAct, Unseen, More, Exchange, FineStep, Site, site_answers, Fine, Fits, Todo, Todos, address_of, act_in, woken_in, behind_shown, counted, is_recycle, is_wipe, one_if, recyclers, wipers, row_named, unwrap_or}
use Rattle.um_base.specs.declared.limits.TheConstants.{FUTEX_CELL, JOIN_CELL}
use Rattle.um_machine.proofs.AfterLemmas.{bytes-leave}
use Rattle.um_machine.proofs.EffectLemmas.{OfEach, all-wrote, woken-by}
use Rattle.um_machine.specs.declared.contents.Contents.{Contents}
use Rattle.um_machine.specs.declared.object.Object.{Object}
use Rattle.um_machine.specs.Goes.{went}
use Rattle.um_machine.specs.Order.{to_row}
use Rattle.um_machine.specs.Services.{in_order, runs_out}
use Rattle.um_machine.specs.State.{with_waiters}
use Rattle.um_machine.specs.Table as T
use Rattle.um_machine.specs.Writes.{Edit, Effects, edited, effect}
use Rattle.um_words.specs.declared.fine.Mark.{Mark}
use Rattle.um_fine.specs.Answers.{is_void}
use Rattle.um_fine.specs.Asks.{by_actor}
use Rattle.um_fine.specs.Clock.{same_mark}
use Rattle.um_refinement.specs.Fine.{clock}
use Rattle.um_refinement.specs.Timing.{ExpiryComes, IsToCome, settles}
use Rattle.um_refinement.proofs.CellSteps.{idle-count, takes-quiet, wipe-sum, wipers-few}
use Rattle.um_refinement.proofs.CleanersSteps.{rec-sum}
use Rattle.um_refinement.proofs.Erased.{around}
use Rattle.um_refinement.proofs.Leaves.{Beside, Lawful, Leaves, beside, cleans, cuts, drops, event, expires, leaves as tells_left, mine, nothing, passes, recycles, resumes, ticks as time_passes, times_out}
use Rattle.um_refinement.proofs.ListCounts.{recycles-of, takes-counts, wipes-of}
use Rattle.um_refinement.proofs.MarkFacts.{same-itself}
use Rattle.um_refinement.proofs.MemorySteps.{part-total}
use Rattle.um_refinement.proofs.Offered.{Shows, at-made}
use Rattle.um_refinement.proofs.RowSteps.{named-row}
use Rattle.um_refinement.proofs.SchedulerSteps.{made-at, made-moves, made-says}
use Rattle.um_refinement.proofs.StepReads.{reads-last}
use Rattle.um_refinement.proofs.FirstThreads.{one-most}
use Rattle.um_refinement.proofs.TimersMade.{is_running, timer-made}
use Rattle.um_refinement.proofs.ToCome.{clock-kept, some-left, to-come-kept}
use Rattle.um_refinement.proofs.VoidLooks.{timer-found, timer-void}

-- Which step leaves a timer that runs until a deadline.

abbrev Runs : ℕ → Contents → Type 0
Runs d contents = contents ≡ Contents.Running d

not-running : {A : Type 0} (d : ℕ) (contents : Contents) → is_running contents ≡ false → Runs d contents → A
not-running d contents off h = absurd (true≢false (sym (ap is_running h) ∙ off))

abbrev is_apart : Effect → Bool
is_apart (Effect.object x (Edit.works contents ws buffer)) = false
is_apart (Effect.object x (Edit.runs_out contents ws)) = false
is_apart e = true

abbrev are_apart : Effects → Bool
are_apart ws = list_all (λ (w : Bool × Effect). is_apart w.1) ws

module _ (s : State) (t x d y : ℕ) where
  -- the start of a timer
  abbrev pub Starts : Pending → Type 0
  Starts (Pending.Work a ask) = (y ≡ T.row_of s a) × (ask ≡ Ask.TimerStart d)
  Starts q = ⊥

  module _ (q : Pending) where
    Was : Type 0
    Was = Runs d (object_at s y).contents ⊎ Starts q

    abbrev Reads : State → Type 0
    Reads u = Runs d (object_at u y).contents → Was

    abbrev Leaves_it : Effect → Type 0
    Leaves_it (Effect.object z (Edit.works contents ws buffer)) = y ≡ z → Runs d contents → Was
    Leaves_it (Effect.object z (Edit.runs_out contents ws)) = y ≡ z → Runs d contents → Was
    Leaves_it e = Unit {0}

    set : (u : State) (z : ℕ) (o : Object) → (y ≡ z → Runs d o.contents → Was) → Reads u → Reads (with_object u z o)
    set u z o new was = at_set (λ n (o : Object). y ≡ n → Runs d o.contents → Was) u.objects z y o vacant new (λ same. was) refl

    edits : (u : State) (z : ℕ) (edit : Edit) → Leaves_it (Effect.object z edit) → Reads u → Reads (effect (Effect.object z edit) u)
    edits u z (Edit.works contents ws buffer) f was = set u z (edited (Edit.works contents ws buffer) (object_at u z)) f was
    edits u z (Edit.runs_out contents ws) f was = set u z (edited (Edit.runs_out contents ws) (object_at u z)) f was
    edits u z (Edit.named text) f was = set u z (edited (Edit.named text) (object_at u z)) (λ same h. not-running d (Contents.Named text) refl h) was
    edits u z (Edit.reserved kind cost) f was = set u z (edited (Edit.reserved kind cost) (object_at u z)) (λ same h. not-running d vacant.contents refl h) was
    edits u z Edit.vacates f was = set u z (edited Edit.vacates (object_at u z)) (λ same h. not-running d vacant.contents refl h) was
    edits u z edit f was = set u z (edited edit (object_at u z)) (λ same h. was (ap (λ n. (object_at u n).contents) same ∙ h)) was

    waiters-set : (u : State) (c : ℕ) (ws : List Waiter) → Reads u → Reads (with_waiters u c ws)
    waiters-set u c ws was = by (c == JOIN_CELL || c == FUTEX_CELL)
      where
        by : (b : Bool) → Runs d (slice_index_or (if b then u.objects else slice_set u.objects c (record (object_at u c) { waiters = ws })) y vacant).contents → Was
        by true h = was h
        by false h = at_set (λ n (o : Object). y ≡ n → Runs d o.contents → Was) u.objects c y (record (object_at u c) { waiters = ws }) vacant (λ same h. was (ap (λ n. (object_at u n).contents) same ∙ h)) (λ same. was) refl h

    keeps : (e : Effect) (u : State) → Leaves_it e → Reads u → Reads (effect e u)
    keeps (Effect.wakes woken) u f was = woken-by Reads (λ s v told r. r) woken u was
    keeps (Effect.object z edit) u f was = edits u z edit f was
    keeps (Effect.waiters c ws) u f was = waiters-set u c ws was
    keeps (Effect.bytes a bs) u f was = λ h. was (sym (bytes-leave (λ (z : State). (object_at z y).contents) (λ z b. refl) (λ z b. refl) u a bs) ∙ h)
    keeps e u f was = was

    apart-leaves : (e : Effect) → is_apart e ≡ true → Leaves_it e
    apart-leaves (Effect.object z (Edit.works contents ws buffer)) h = absurd (false≢true h)
    apart-leaves (Effect.object z (Edit.runs_out contents ws)) h = absurd (false≢true h)
    apart-leaves (Effect.object z edit) h = tt
    apart-leaves e h = tt

    all-apart : (ws : Effects) → are_apart ws ≡ true → OfEach Leaves_it ws
    all-apart [] h = tt
    all-apart ((b, e) ∷ ws) h = let parts = and_parts (is_apart e) (are_apart ws) h in (apart-leaves e parts.0, all-apart ws parts.1)

  runs-none : (order ws : List Waiter) → is_running (runs_out ws order).0 ≡ false
  runs-none [] ws = refl
  runs-none (first ∷ order) ws = refl

  wrote-step : (q : Pending) → Reads q (wrote (effects_of s t x q) s)
  unfolding Was
  wrote-step (Pending.Work a ask) =
      let q = Pending.Work a ask in
      let z = T.row_of s a in
      let o = object_at s z in
      let me = thread_at s t in
      all-wrote (Reads q) (Leaves_it q) (keeps q) (effects_of s t x q) s
      (λ same h. by same (timer-made (record { thread = to_thread t; priority = me.priority; ask = ask; bytes = T.bytes_given me.buffer ask; until = me.until }) o.waiters d o.contents ask h), (tt, tt)) (λ h. inl h)
    where
      by : y ≡ T.row_of s a → Runs d (object_at s (T.row_of s a)).contents ⊎ (ask ≡ Ask.TimerStart d) → Runs d (object_at s y).contents ⊎ Starts (Pending.Work a ask)
      by same (inl was) = inl (ap (λ n. (object_at s n).contents) same ∙ was)
      by same (inr start) = inr (same, start)
  wrote-step Pending.Expire =
      let o = object_at s x in
      all-wrote (Reads Pending.Expire) (Leaves_it Pending.Expire) (keeps Pending.Expire) (effects_of s t x Pending.Expire) s
      (λ same h. not-running d _ (runs-none (in_order o.waiters) o.waiters) h, (tt, tt)) (λ h. inl h)
  wrote-step q = all-wrote (Reads q) (Leaves_it q) (keeps q) (effects_of s t x q) s (all-apart q (effects_of s t x q) refl) (λ h. inl h)

  went-same : (rest : Steps) (u : State) (next : Next) → (object_at (went rest u t next) y).contents ≡ (object_at u y).contents
  went-same rest u Next.stays = refl
  went-same rest u (Next.begins None) = refl
  went-same rest u (Next.resumes None) = refl
  went-same rest u next = refl

  -- a timer that runs after a step ran, or the step starts it
  pub ran : (q : Pending) (rest : Steps) → Runs d (object_at (T.after s t x q rest) y).contents → Runs d (object_at s y).contents ⊎ Starts q
  unfolding Was
  ran q rest h = wrote-step q (sym (went-same rest (wrote (effects_of s t x q) s) (next_of s t x q)) ∙ h)

object-here : (xs : List Object) (x : ℕ) (o : Object) → x < length xs → slice_index_or (slice_set xs x o) x vacant ≡ o
object-here [] x o h = absurd (omega arith)
object-here (y ∷ ys) zero o h = refl
object-here (y ∷ ys) (suc x) o h = object-here ys x o (omega arith)

-- one that runs out, and one whose object goes, doesn't run
expired : (s : State) (t x d : ℕ) (rest : Steps) → x < length s.objects → Runs d (object_at (T.after s t x Pending.Expire rest) x).contents → ⊥
expired s t x d rest inside h =
    let o = object_at s x in
    let out = runs_out o.waiters (in_order o.waiters) in
    let u = with_object s x (edited (Edit.runs_out out.0 out.1) o) in
    let woken : (object_at (T.after s t x Pending.Expire rest) x).contents ≡ (object_at u x).contents =
    woken-by (λ (z : State). (object_at z x).contents ≡ (object_at u x).contents) (λ z v told e. e) out.2 u refl in
    not-running d out.0 (runs-none s t x d x (in_order o.waiters) o.waiters)
    (sym (ap (λ (o : Object). o.contents) (object-here s.objects x (edited (Edit.runs_out out.0 out.1) o) inside)) ∙ (sym woken ∙ h))

recycled : (s : State) (t x d : ℕ) (rest : Steps) → x < length s.objects → Runs d (object_at (T.after s t x Pending.Recycle rest) x).contents → ⊥
recycled s t x d rest inside h =
    not-running d vacant.contents refl (sym (ap (λ (o : Object). o.contents) (object-here s.objects x vacant inside)) ∙ h)

-- what a list handles first
abbrev is_handling : Todos → Bool
is_handling (Todo.handle deadline mark ∷ todo) = true
is_handling todo = false

abbrev timer_handled : Todos → Option ℕ
timer_handled (Todo.handle deadline (Mark.Timer x) ∷ todo) = Some x.0
timer_handled todo = None

abbrev recycled_first : Todos → Option ℕ
recycled_first (Todo.recycle x ∷ todo) = Some x
recycled_first todo = None

abbrev is_unseen : FineAct → Bool
is_unseen (FineAct.Unseen u) = true
is_unseen (FineAct.Shown shown more) = false

some-number : {a b : ℕ} → Some a ≡ Some b → a ≡ b
some-number {a} h = ap (λ (o : Option ℕ). unwrap_or o a) h

module _ (f : Fine) (m : State) (e : FineStep) (law : Lawful f m e) (x : ℕ) (few : x < ROWS) (s : State) (left : Leaves f m e s) where
  open around f e use {later, processor as p}

  inside : x < length m.objects
  inside = let long = law.sound.wide.objects in omega (arith, few, long)

  module _ (d : ℕ) where
    abbrev mark : Mark
    mark = Mark.Timer (to_row x)

    -- where the mark is to be settled, the clock has it
    settled : (q : Pending) (rest : Steps) (todo : Todos) → p.todo ≡ Todo.show q rest ∷ todo → 0 < counted (settles d mark) todo → IsToCome later d mark
    settled q rest todo at some =
        let part = part-total (λ j. counted (settles d mark) (f.processors j).todo) f.cpus e.cpu law.by.named in
        let opens = law.rel.marks.unsettled d mark in
        let there : counted (settles d mark) p.todo ≡ counted (settles d mark) todo = ap (counted (settles d mark)) at in
        clock-kept d mark f m e law (some-left d (clock f).now mark (clock f).marks law.rel.marks.given (omega (arith, some, part, opens, there)))

    begun : (q : Pending) (rest : Steps) (todo : Todos) (y : ℕ) → Shows f m e.cpu e q rest todo → Starts m (mine f m e) y d x q → IsToCome later d mark
    begun (Pending.Work a ask) rest todo y h (row, start) =
        let q = Pending.Work a (Ask.TimerStart d) in
        let at = at-made h tt ∙ λ i. Todo.show (Pending.Work a (start i)) rest ∷ todo in
        let behind : todo ≡ behind_shown f.image p.context q = (subst (Fits f.image p.context) at (law.rel.processors e.cpu law.by.named).list.fits).1 in
        let same : same_mark (Mark.Timer (to_row (row_named f.image a))) mark ≡ true =
        ap (λ n. same_mark (Mark.Timer (to_row n)) mark) (sym (named-row f m law.rel a) ∙ sym row) ∙ same-itself mark in
        let one : counted (settles d mark) todo ≡ 1 =
        ap (counted (settles d mark)) behind ∙ ap (λ b. if b then 0 + 1 else 0) (and_from (d == d) (same_mark (Mark.Timer (to_row (row_named f.image a))) mark) (eq-eqb d d refl) same) in
        settled q rest todo at (omega (arith, one))
    begun q rest todo y h starts = absurd starts

    abbrev RunsIn : State → Type 0
    RunsIn z = Runs d (object_at z x).contents

    before : (z : State) → Leaves f m e z → RunsIn z → RunsIn m ⊎ IsToCome later d mark
    before _ (nothing u said) h = inl h
    before _ (event q rest todo y shows shown is) h = by (ran m (mine f m e) y d x q rest h)
      where
        by : RunsIn m ⊎ Starts m (mine f m e) y d x q → RunsIn m ⊎ IsToCome later d mark
        by (inl was) = inl was
        by (inr starts) = inr (begun q rest todo y shows starts)
    before _ (resumes o told rest idle moved said) h = by (ran m o.thread 0 d x Pending.Resume rest h)
      where
        by : RunsIn m ⊎ Starts m o.thread 0 d x Pending.Resume → RunsIn m ⊎ IsToCome later d mark
        by (inl was) = inl was
        by (inr starts) = absurd starts
    before _ (passes who y rest todo v said) h = by (ran m (mine f m e) y d x (Pending.Inherit (to_thread who)) rest h)
      where
        by : RunsIn m ⊎ Starts m (mine f m e) y d x (Pending.Inherit (to_thread who)) → RunsIn m ⊎ IsToCome later d mark
        by (inl was) = inl was
        by (inr starts) = absurd starts
    before _ (drops from y rest todo v said) h = by (ran m (mine f m e) y d x (Pending.Drops from) rest h)
      where
        by : RunsIn m ⊎ Starts m (mine f m e) y d x (Pending.Drops from) → RunsIn m ⊎ IsToCome later d mark
        by (inl was) = inl was
        by (inr starts) = absurd starts
    before _ (cleans who y rest todo v said) h = by (ran m (mine f m e) y d x (Pending.CleanPair (to_thread who)) rest h)
      where
        by : RunsIn m ⊎ Starts m (mine f m e) y d x (Pending.CleanPair (to_thread who)) → RunsIn m ⊎ IsToCome later d mark
        by (inl was) = inl was
        by (inr starts) = absurd starts
    before _ (recycles y rest todo at within said chosen) h = by (ran m (mine f m e) y d x Pending.Recycle rest h)
      where
        by : RunsIn m ⊎ Starts m (mine f m e) y d x Pending.Recycle → RunsIn m ⊎ IsToCome later d mark
        by (inl was) = inl was
        by (inr starts) = absurd starts
    before _ (beside who y q how chosen started) h = by (ran m who y d x q (thread_at m who).pending h)
      where
        quiet : {who y : ℕ} {q : Pending} → Beside f m e who y q → Starts m who y d x q → ⊥
        quiet (cuts v site older z todo at same few said) starts = starts
        quiet (times_out deadline site z v todo at same few said) starts = starts
        quiet (expires deadline z todo at few said) starts = starts
        quiet (time_passes at said) starts = starts
        quiet (tells_left todo at said) starts = starts

        by : RunsIn m ⊎ Starts m who y d x q → RunsIn m ⊎ IsToCome later d mark
        by (inl was) = inl was
        by (inr starts) = absurd (quiet how starts)

    -- The cell wasn't cleared before.

    unseen-shown : (u : Unseen) (shown : Event) (more : More) → e.act ≡ FineAct.Unseen u → e.act ≡ FineAct.Shown shown more → ⊥
    unseen-shown u shown more one two = true≢false (sym (ap is_unseen one) ∙ ap is_unseen two)

    -- the object on the list isn't recycled by another step
    not-recycled : (list : Todos) → p.todo ≡ list → recycled_first list ≡ None → (todo : Todos) → p.todo ≡ Todo.recycle x ∷ todo → ⊥
    not-recycled list other none todo at = true≢false (ap is_some (ap recycled_first (sym at ∙ other) ∙ none))

    stops-there : (todo : Todos) → p.todo ≡ Todo.recycle x ∷ todo → (z : State) → Leaves f m e z → RunsIn z → ⊥
    stops-there todo at _ (nothing u said) h = unseen-shown u _ _ said (made-says f m e law (Todo.recycle x ∷ todo) at)
    stops-there todo at _ (event q rest left y shows shown is) h = not-recycled _ shows.at refl todo at
    stops-there todo at _ (resumes o told rest idle moved said) h = not-recycled _ idle refl todo at
    stops-there todo at _ (passes who y rest left v said) h = not-recycled _ v.at refl todo at
    stops-there todo at _ (drops from y rest left v said) h = not-recycled _ v.at refl todo at
    stops-there todo at _ (cleans who y rest left v said) h = not-recycled _ v.at refl todo at
    stops-there todo at _ (recycles y rest left there within said chosen) h =
        let same = some-number (ap recycled_first (sym at ∙ there)) in
        recycled m (mine f m e) x d rest inside (subst (λ n. Runs d (object_at (T.after m (mine f m e) n Pending.Recycle rest) x).contents) (sym same) h)
    stops-there todo at _ (beside who y q how chosen started) h = by how
      where
        by : {who y : ℕ} {q : Pending} → Beside f m e who y q → ⊥
        by (cuts v site older z left there same few said) = not-recycled _ there refl todo at
        by (times_out deadline site z v left there same few said) = not-recycled _ there refl todo at
        by (expires deadline z left there few said) = not-recycled _ there refl todo at
        by (time_passes there said) = not-recycled _ there refl todo at
        by (tells_left left there said) = not-recycled _ there refl todo at

    whole-before : wipers later x ≡ recyclers later x → RunsIn s → wipers f x ≡ recyclers f x
    whole-before whole runs = by p.todo refl
      where
        by : (list : Todos) → p.todo ≡ list → wipers f x ≡ recyclers f x
        by [] at =
            let quiet = takes-quiet f m e law x few at in
            let wipes = idle-count f m e law x few (is_wipe x) (takes-counts (is_wipe x) (wipes-of x) f.image p e at quiet) at in
            let recs = idle-count f m e law x few (is_recycle x) (takes-counts (is_recycle x) (recycles-of x) f.image p e at quiet) at in
            omega (arith, whole, wipes, recs)
        by (q ∷ todo) at = which (is_recycle x q) refl (is_wipe x q) refl
          where
            first : (q : Todo) → p.todo ≡ q ∷ todo → is_recycle x q ≡ true → p.todo ≡ Todo.recycle x ∷ todo
            first (Todo.recycle z) at h = at ∙ ap (λ n. Todo.recycle n ∷ todo) (sym (eqb-true x z h))
            first q at h = absurd (false≢true h)

            which : (r : Bool) → is_recycle x q ≡ r → (w : Bool) → is_wipe x q ≡ w → wipers f x ≡ recyclers f x
            which true r w k = absurd (stops-there todo (first q at r) s left runs)
            which false r w k =
                let last = reads-last f m e law q todo at in
                let wipes = wipe-sum f m e law x few q todo at last in
                let recs = rec-sum f m e law x few q todo at last in
                let none = ap one_if r in
                let most = wipers-few f m e law x few in
                let one = one-most (is_wipe x q) in
                omega (arith, whole, wipes, recs, none, most)

    -- A mark that is handled stops the timer.
    module _ (todo : Todos) (at : p.todo ≡ Todo.handle d mark ∷ todo) (whole : wipers f x ≡ recyclers f x) (was : RunsIn m) where
      says : e.act ≡ (if is_void e.act then FineAct.Unseen Unseen.Void else by_actor f.image p (Act.Expire (address_of f.image x) (woken_in (act_in e.act))))
      says = made-says f m e law (Todo.handle d mark ∷ todo) at

      finds-none : is_void e.act ≡ true → ⊥
      finds-none void =
          let place : e.site ≡ Site.object x = made-at f m e law (Todo.handle d mark ∷ todo) at in
          let moved : e.moved ≡ Exchange.mark d mark = made-moves f m e law (Todo.handle d mark ∷ todo) at in
          let said : e.act ≡ FineAct.Unseen Unseen.Void =
          says ∙ ap (λ b. if b then FineAct.Unseen Unseen.Void else by_actor f.image p (Act.Expire (address_of f.image x) (woken_in (act_in e.act)))) void in
          let answers = subst (λ (z : Site × FineAct × Exchange). site_answers f.image (f.sites z.0) z.2 z.1 ≡ z.1) (λ j. (place j, said j, moved j)) (ap (λ (s : FineStep). s.act) law.taken.filled_in) in
          let none = timer-void f m law.rel x d (to_row x) few answers in
          let there = timer-found f m law.rel x d (to_row x) few whole was in
          true≢false (sym (le-leb d d (omega arith)) ∙ (sym there ∙ none))

      not-handled : (list : Todos) → p.todo ≡ list → is_handling list ≡ false → ⊥
      not-handled list other none = true≢false (ap is_handling (sym at ∙ other) ∙ none)

      ends : (z : State) → Leaves f m e z → is_void e.act ≡ false → RunsIn z → ⊥
      ends _ (nothing u said) found h =
          unseen-shown u _ _ said (says ∙ ap (λ b. if b then FineAct.Unseen Unseen.Void else by_actor f.image p (Act.Expire (address_of f.image x) (woken_in (act_in e.act)))) found)
      ends _ (event q rest left y shows shown is) found h = not-handled _ shows.at refl
      ends _ (resumes o told rest idle moved said) found h = not-handled _ idle refl
      ends _ (passes who y rest left v said) found h = not-handled _ v.at refl
      ends _ (drops from y rest left v said) found h = not-handled _ v.at refl
      ends _ (cleans who y rest left v said) found h = not-handled _ v.at refl
      ends _ (recycles y rest left there within said chosen) found h = not-handled _ there refl
      ends _ (beside who y q how chosen started) found h = by how h
        where
          by : {who y : ℕ} {q : Pending} → Beside f m e who y q → RunsIn (T.after m who y q (thread_at m who).pending) → ⊥
          by (cuts v site older z left there same few said) h = not-handled _ there refl
          by (times_out deadline site z v left there same few said) h = true≢false (ap is_some (ap timer_handled (sym at ∙ there)))
          by {who = maker} (expires deadline z left there few said) h =
              let same = some-number (ap timer_handled (sym at ∙ there)) in
              expired m maker x d (thread_at m maker).pending inside
              (subst (λ n. Runs d (object_at (T.after m maker n Pending.Expire (thread_at m maker).pending) x).contents) (sym same) h)
          by (time_passes there said) h = not-handled _ there refl
          by (tells_left left there said) h = not-handled _ there refl

    comes-by : wipers later x ≡ recyclers later x → RunsIn s → IsToCome later d mark
    comes-by whole h = by (before s left h)
      where
        there : wipers f x ≡ recyclers f x
        there = whole-before whole h

        handled : (was : RunsIn m) → (todo : Todos) → p.todo ≡ Todo.handle d mark ∷ todo → ⊥
        handled was todo at = which (is_void e.act) refl
          where
            which : (b : Bool) → is_void e.act ≡ b → ⊥
            which true void = finds-none todo at there was void
            which false found = ends todo at there was s left found h

        kept : (was : RunsIn m) → IsToCome later d mark ⊎ ((todo : Todos) × (p.todo ≡ Todo.handle d mark ∷ todo)) → IsToCome later d mark
        kept was (inl come) = come
        kept was (inr (todo, at)) = absurd (handled was todo at)

        by : RunsIn m ⊎ IsToCome later d mark → IsToCome later d mark
        by (inl was) = kept was (to-come-kept d mark f m e law ((law.rel.rows x few).expiry.comes d there was))
        by (inr begins) = begins

  pub expiry-part : ExpiryComes later s x
  expiry-part = record { comes = comes-by }
