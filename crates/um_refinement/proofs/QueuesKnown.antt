-- In every state that a run of a described image reaches each initialised message queue has the contents of one, and so has each queue that a
-- call has checked as initialised, or filled; and as long as a call holds it, the size of its messages stays.
use Rattle.um_refinement.proofs.Words.{◌≡◌, ◌≢◌, ◌⊎◌, inl, inr, ℕ, zero, suc, ◌+◌, ◌<◌, ◌≤◌, Bool, true, false, List, [], ◌∷◌, length, Option, Some, None, refl, sym, ap, ◌∙◌, subst, arith, ◌==◌, ◌||◌, IsTrue, is_some, not, slice_get, slice_index_or, slice_set, unwrap_or, list_all, list_any, and_parts, eqb-false, eqb-true, false≢true, true≢false, get_or-set_same, Answer, Event, Ask, Waiter, Boot, Image, ObjectDef, Addr, Kind, Reply, IsLawful, is_lawful_boot, object_passes, Contents, Object, Status, Pending, Steps, MayChoose, Offers, Runs, objects_from, opening, queue, State, object_at, thread_at, vacant, Call, call_is, core_of, status_is, kind_in, row_kind, IsKnown, below_rows, row_is, IsDescribed, FineAct, More, Setup, Mpu, is_setup_of, is_stack, is_thread, boots_row, is_set_up, setup_contents, fills, is_standing, boot_parts, image_move, step_move}
use Rattle.um_machine.specs.Objects as Plain
use Rattle.um_machine.specs.Table as T
use Rattle.um_machine.specs.Time.{has_run_out}
use Rattle.um_invariants.proofs.StepMoves.{unchecked}
use Rattle.um_refinement.proofs.ContentsKept.{work-objects}
use Rattle.um_refinement.proofs.Erased.{IsReachable, reach-on}
use Rattle.um_refinement.proofs.FirstObjects.{Stood, opening-image, opening-objects, stood-or-none}
use Rattle.um_refinement.proofs.FirstThreads.{new-thread}
use Rattle.um_refinement.proofs.QueueSteps.{Queued, Suited}
use Rattle.um_refinement.proofs.QueuesAfter.{AreQueued, Fills, Holds, offered-queued, queued-after}
use Rattle.um_refinement.proofs.QueuesKept.{IsQueue, Spares, mark-kept, renews, size-kept, size_of}
use Rattle.um_refinement.proofs.Reachable.{IsSound, reachable-sound}
use Rattle.um_refinement.proofs.SuitsKnown.{works-known}
use Rattle.um_refinement.proofs.Writes.{reserved-objects}

-- What holds of queues: a call knows only queues to be some, and an initialised one is one.
pub record AreQueues (m : State) : Type 0 where
  pub calls : AreQueued m.image (λ x. IsQueue (object_at m x).contents) m
  pub marked : (x : ℕ) → row_kind m.image x ≡ Kind.Msgq → (object_at m x).init ≡ true → IsQueue (object_at m x).contents

is_error : Answer → Bool
is_error (Answer.Now (Reply.Fail e)) = true
is_error answer = false

-- what is filled is a queue
filled-queue : (size most : ℕ) (old : Contents) (ws : List Waiter) → (fills (queue size most []) old ws).answer ≡ Answer.Now (Reply.Num 0) → IsQueue (fills (queue size most []) old ws).contents
unfolding is_error
filled-queue size most Contents.Nothing ws e = refl
filled-queue size most old ws e = absurd (true≢false (ap is_error e))

suited-plain : (image : Image) (x : ℕ) (ask : Ask) → Suited image x ask → row_kind image x ≡ Kind.Msgq → renews ask ≡ false
suited-plain image x (Ask.SemInit count limit) h k = absurd (h k)
suited-plain image x Ask.MutexInit h k = absurd (h k)
suited-plain image x ask h k = refl

unmarked : (xs : List Object) (n : ℕ) (o : Object) → o.init ≡ false → (slice_index_or (slice_set xs n o) n vacant).init ≡ false
unmarked [] n o h = refl
unmarked (y ∷ ys) zero o h = h
unmarked (y ∷ ys) (suc n) o h = unmarked ys n o h

standing-used : (s : Status) → is_standing s ≡ true → Plain.is_free s ≡ true → ⊥
standing-used Status.Free h k = false≢true h
standing-used Status.Reserved h k = false≢true k
standing-used Status.Live h k = false≢true k
standing-used Status.Gone h k = false≢true k

live-used : (s : Status) → Plain.is_live s ≡ true → Plain.is_free s ≡ true → ⊥
live-used Status.Free h k = false≢true h
live-used Status.Reserved h k = false≢true k
live-used Status.Live h k = false≢true k
live-used Status.Gone h k = false≢true k

live-stays : (s : Status) → Plain.is_live s ≡ true → Plain.is_gone s ≡ true → ⊥
live-stays Status.Free h k = false≢true h
live-stays Status.Reserved h k = false≢true h
live-stays Status.Live h k = false≢true k
live-stays Status.Gone h k = false≢true h

not-held : (b : Bool) → IsTrue (not b) → b ≡ false
not-held true h = absurd (false≢true h)
not-held false h = refl

-- a queue is no timer
pub no-timer : (now : ℕ) (c : Contents) → IsQueue c → has_run_out now c ≡ true → ⊥
no-timer now (Contents.Running d) queue runs = false≢true queue
no-timer now c queue runs = false≢true runs

-- the step takes the row that it chooses
abbrev pub Takes : ℕ → Pending → Type 0
Takes n (Pending.Reserve kind) = (k : ℕ) × (n ≡ suc k)
Takes n Pending.Recycle = Unit {0}
Takes n q = ⊥

-- an object that is marked then stands at another row
marked-apart : (m : State) (t n : ℕ) (q : Pending) (rest : Steps) (y : ℕ) → (object_at (T.after m t n q rest) y).init ≡ true → Takes n q → n ≢ y
marked-apart m t zero (Pending.Reserve kind) rest y k takes = absurd (let e = takes.1 in omega (arith, e))
marked-apart m t (suc n) (Pending.Reserve kind) rest y k takes =
    λ at.
    true≢false
    (sym (ap (λ r. (object_at (T.after m t (suc n) (Pending.Reserve kind) rest) r).init) at ∙ k)
    ∙ (ap (λ (os : List Object). (slice_index_or os (suc n) vacant).init) (reserved-objects m t n kind rest) ∙ unmarked m.objects (suc n) _ refl))
marked-apart m t n Pending.Recycle rest y k takes =
    λ at. true≢false (sym (ap (λ r. (object_at (T.after m t n Pending.Recycle rest) r).init) at ∙ k) ∙ unmarked m.objects n vacant refl)
marked-apart m t n q rest y k takes = absurd takes

module _ (m : State) (sound : IsSound m) (queues : AreQueues m) (t n : ℕ) where
  abbrev Is : ℕ → Type 0
  Is x = IsQueue (object_at m x).contents

  -- an object that is live, or that a call holds
  abbrev pub IsKept : ℕ → Type 0
  IsKept y = (Plain.is_live (object_at m y).status ≡ true) ⊎ ((u : ℕ) × (slice_index_or (thread_at m u).checked y false ≡ true))

  -- is at another row than the one that a step takes
  pub kept-apart : (q : Pending) (y : ℕ) → MayChoose m t n q → IsKept y → Takes n q → n ≢ y
  kept-apart (Pending.Reserve kind) y chosen kept takes = by chosen kept
    where
      free : Plain.is_free (object_at m n).status ≡ true → IsKept y → n ≢ y
      free h (inl lives) = λ at. live-used (object_at m y).status lives (ap (λ r. Plain.is_free (object_at m r).status) (sym at) ∙ h)
      free h (inr held) =
          λ at.
          standing-used (object_at m y).status
          (ap is_standing (sym (status_is m y)) ∙ sound.known.reached.standing held.0 y (ap (λ (c : Call). slice_index_or c.checked y false) (call_is m held.0) ∙ held.1))
          (ap (λ r. Plain.is_free (object_at m r).status) (sym at) ∙ h)

      by : MayChoose m t n (Pending.Reserve kind) → IsKept y → n ≢ y
      by (inl pays) kept = free (and_parts _ (Plain.is_free (object_at m n).status) pays.1).1 kept
      by (inr none) kept = absurd (let z = none.0 in let e = takes.1 in omega (arith, z, e))
  kept-apart Pending.Recycle y chosen kept takes = by kept
    where
      by : IsKept y → n ≢ y
      by (inl lives) = λ at. live-stays (object_at m y).status lives (ap (λ r. Plain.is_gone (object_at m r).status) (sym at) ∙ chosen.0.0)
      by (inr held) =
          λ at.
          false≢true
          (sym (unchecked m.image n 0 m.threads (not-held (Plain.is_held m n) chosen.0.1) held.0)
          ∙ (ap (λ (c : Call). slice_index_or c.checked n false) (call_is m held.0) ∙ (ap (λ r. slice_index_or (thread_at m held.0).checked r false) at ∙ held.1)))
  kept-apart q y chosen kept takes = absurd takes

  -- a step writes no other contents at a row of queues
  spares : (q : Pending) (rest : Steps) (y : ℕ) → Offers m t q rest → MayChoose m t n q → Is y → row_kind m.image y ≡ Kind.Msgq → (Takes n q → n ≢ y) → Spares m n y q
  spares (Pending.Work a ask) rest y offers chosen is k apart =
      let h = (offered-queued m t n Is queues.calls (Pending.Work a ask) rest offers).steps in
      λ at. suited-plain m.image h.0 ask h.2 (ap (row_kind m.image) (sym (row_is m a h.0 h.1) ∙ at) ∙ k)
  spares (Pending.Named who) rest y offers chosen is k apart =
      let h = (offered-queued m t n Is queues.calls (Pending.Named who) rest offers).steps in λ at. h.0 (ap (row_kind m.image) at ∙ k)
  spares (Pending.Reserve kind) rest y offers chosen is k apart = λ j e. apart (j, e)
  spares Pending.Recycle rest y offers chosen is k apart = apart tt
  spares Pending.Expire rest y offers chosen is k apart = λ at. no-timer m.now (object_at m n).contents (ap (λ r. is_some (size_of (object_at m r).contents)) at ∙ is) chosen
  spares q rest y offers chosen is k apart = tt

  -- the size of a queue's messages stays where a call holds the object
  pub size-stays : (q : Pending) (rest : Steps) (y : ℕ) → Offers m t q rest → MayChoose m t n q → row_kind m.image y ≡ Kind.Msgq → IsKept y → Is y
      → size_of (object_at (T.after m t n q rest) y).contents ≡ size_of (object_at m y).contents
  size-stays q rest y offers chosen k kept is = size-kept m y t n q rest (spares q rest y offers chosen is k (kept-apart q y chosen kept)) is

  -- the step that fills a queue leaves it one
  filled : (q : Pending) (rest : Steps) → Offers m t q rest → (works : (a : Addr) (ask : Ask) → q ≡ Pending.Work a ask → slice_index_or (thread_at m t).checked (T.row_of m a) false ≡ true)
      → (y : ℕ) → row_kind m.image y ≡ Kind.Msgq → Fills m t y q → Holds m.image (λ x. IsQueue (object_at (T.after m t n q rest) x).contents) (thread_at m t).checked (Some y)
  filled (Pending.Work a (Ask.MsgqInit size most pool)) rest offers works y k fill = (held, k, ap (λ o. is_some (size_of o)) contents ∙ filled-queue size most (object_at m (T.row_of m a)).contents (object_at m (T.row_of m a)).waiters fill.1)
    where
      ask : Ask
      ask = Ask.MsgqInit size most pool

      held : slice_index_or (thread_at m t).checked y false ≡ true
      held = ap (λ r. slice_index_or (thread_at m t).checked r false) (sym fill.0) ∙ works a ask refl

      few : y < length m.objects
      few =
          let h = (offered-queued m t n Is queues.calls (Pending.Work a ask) rest offers).steps in
          let at : h.0 ≡ y = sym (row_is m a h.0 h.1) ∙ fill.0 in
          let l = below_rows m.image h.0 sound.known.reached.sited (sound.known.reached.sited.found a.0 h.0 h.1).0 in
          let long = sound.wide.objects in
          omega (arith, at, l, long)

      contents : (object_at (T.after m t n (Pending.Work a ask) rest) y).contents ≡ (T.work_of m t a ask).contents
      contents =
          ap (λ (os : List Object). (slice_index_or os y vacant).contents) (work-objects m t n a ask rest)
          ∙ (ap (λ r. (slice_index_or (slice_set m.objects r (record (object_at m (T.row_of m a)) { contents = (T.work_of m t a ask).contents; waiters = (T.work_of m t a ask).waiters; buffer = T.buffer_cost ask (T.work_of m t a ask).answer (object_at m (T.row_of m a)).buffer })) y vacant).contents) fill.0
          ∙ ap (λ (o : Object). o.contents) (get_or-set_same m.objects y (record (object_at m (T.row_of m a)) { contents = (T.work_of m t a ask).contents; waiters = (T.work_of m t a ask).waiters; buffer = T.buffer_cost ask (T.work_of m t a ask).answer (object_at m (T.row_of m a)).buffer }) vacant few))
  filled q rest offers works y k fill = absurd fill

  -- a queue that is marked after a step was one
  was-queue : (q : Pending) (rest : Steps) → Offers m t q rest → (y : ℕ) → row_kind m.image y ≡ Kind.Msgq → (object_at (T.after m t n q rest) y).init ≡ true → Is y
  was-queue (Pending.SetInit a strict undo) rest offers y k marked = by (T.row_of m a == y) refl
    where
      by : (b : Bool) → (T.row_of m a == y) ≡ b → Is y
      by true at =
          let h = offered-queued m t n Is queues.calls (Pending.SetInit a strict undo) rest offers in
          let row : h.steps.0 ≡ y = sym (row_is m a h.steps.0 h.steps.1) ∙ eqb-true (T.row_of m a) y at in
          let holds = subst (Holds m.image Is (thread_at m t).checked) (h.steps.2 (ap (row_kind m.image) row ∙ k)) h.holds in
          subst Is row holds.2
      by false off = queues.marked y k (mark-kept m y t n (Pending.SetInit a strict undo) rest (eqb-false (T.row_of m a) y off) marked)
  was-queue q rest offers y k marked = queues.marked y k (mark-kept m y t n q rest (λ none. none) marked)

  module _ (q : Pending) (rest : Steps) (offers : Offers m t q rest) (chosen : MayChoose m t n q)
      (works : (a : Addr) (ask : Ask) → q ≡ Pending.Work a ask → slice_index_or (thread_at m t).checked (T.row_of m a) false ≡ true)
      (same : (T.after m t n q rest).image ≡ m.image) where
    abbrev s : State
    s = T.after m t n q rest

    abbrev Is-next : ℕ → Type 0
    Is-next x = IsQueue (object_at s x).contents

    holds-next : (u : ℕ) (known : Option ℕ) → Holds m.image Is (thread_at m u).checked known → Holds m.image Is-next (thread_at m u).checked known
    holds-next u None h = tt
    holds-next u (Some y) h = (h.0, h.1, ap is_some (size-stays q rest y offers chosen h.1 (inr (u, h.0)) h.2) ∙ h.2)

    all-next : AreQueued m.image Is-next m
    all-next u = let was = queues.calls u in record { known = was.known; holds = holds-next u was.known was.holds; steps = was.steps }

    opened : (y : ℕ) → row_kind m.image y ≡ Kind.Msgq → Plain.is_live (object_at m y).status ≡ true → (object_at m y).init ≡ true → Is-next y
    opened y k lives marked = let is = queues.marked y k marked in ap is_some (size-stays q rest y offers chosen k (inl lives) is) ∙ is

    pub queues-next : AreQueues s
    queues-next =
        record {
          calls = subst (λ (i : Image). AreQueued i Is-next s) (sym same)
              (queued-after m t n Is-next all-next sound.known opened q rest (offered-queued m t n Is-next all-next q rest offers) (filled q rest offers works));
          marked = λ y k marked.
              let here : row_kind m.image y ≡ Kind.Msgq = ap (λ (i : Image). row_kind i y) (sym same) ∙ k in
              let is = was-queue q rest offers y here marked in
              ap is_some (size-kept m y t n q rest (spares q rest y offers chosen is here (marked-apart m t n q rest y marked)) is) ∙ is;
        }

-- The opening.

object-lawful : (test : ObjectDef → Bool) (os : List ObjectDef) → list_all test os ≡ true → (x : ℕ) (o : ObjectDef) → slice_get os x ≡ Some o → test o ≡ true
object-lawful test [] h x o e = absurd (false≢true (ap is_some e))
object-lawful test (d ∷ os) h zero o e = ap (λ (z : Option ObjectDef). test (unwrap_or z d)) (sym e) ∙ (and_parts _ _ h).0
object-lawful test (d ∷ os) h (suc x) o e = object-lawful test os (and_parts _ _ h).1 x o e

-- a queue is no thread and no stack, so no boot entry names it
not-passed : (test : ObjectDef → Bool) (objects : List ObjectDef) (x y : ℕ) (o : ObjectDef) → slice_get objects x ≡ Some o → test o ≡ false → object_passes test (slice_get objects y) ≡ true → (y == x) ≡ false
not-passed test objects x y o e none passes = by (y == x) refl
  where
    by : (b : Bool) → (y == x) ≡ b → b ≡ false
    by false k = refl
    by true k = absurd (false≢true (sym none ∙ (ap (object_passes test) (sym (ap (slice_get objects) (eqb-true y x k) ∙ e)) ∙ passes)))

not-booted : (image : Image) (boots : List Boot) → list_all (is_lawful_boot image) boots ≡ true → (x : ℕ) (o : ObjectDef) → slice_get image.objects x ≡ Some o → o.kind ≡ Kind.Msgq → list_any (boots_row x) boots ≡ false
not-booted image [] h x o e k = refl
not-booted image (boot ∷ boots) h x o e k =
    let here = boot_parts _ _ _ _ _ _ _ (and_parts _ _ h).0 in
    let thread = not-passed (λ z. is_thread z.kind) image.objects x boot.thread.0 o e (ap is_thread k) here.0 in
    let stack = not-passed (λ z. is_stack z.kind) image.objects x boot.stack.0 o e (ap is_stack k) here.2 in
    λ i. (thread i || stack i) || not-booted image boots (and_parts _ _ h).1 x o e k i

queue-set : (mpu : Mpu) (setup : Setup) (booted : Bool) → is_setup_of mpu Kind.Msgq setup ≡ true → (is_set_up setup || booted) ≡ true → booted ≡ false → IsQueue (setup_contents setup)
queue-set mpu (Setup.Msgq size most) booted h marked none = refl
queue-set mpu Setup.Bare booted h marked none = absurd (false≢true (sym none ∙ marked))
queue-set mpu (Setup.Thread index) booted h marked none = absurd (false≢true h)
queue-set mpu (Setup.ThreadStack range declared) booted h marked none = absurd (false≢true h)
queue-set mpu (Setup.Sem count limit) booted h marked none = absurd (false≢true h)
queue-set mpu Setup.Timer booted h marked none = absurd (false≢true h)
queue-set mpu Setup.Mutex booted h marked none = absurd (false≢true h)
queue-set mpu (Setup.Stack most) booted h marked none = absurd (false≢true h)
queue-set mpu (Setup.Pipe size) booted h marked none = absurd (false≢true h)

opening-marked : (image : Image) → IsLawful image → (x : ℕ) → row_kind image x ≡ Kind.Msgq → (object_at (opening image) x).init ≡ true → IsQueue (object_at (opening image) x).contents
opening-marked image lawful x k =
    subst (λ (os : List Object). (slice_index_or os x vacant).init ≡ true → IsQueue (slice_index_or os x vacant).contents) (sym (opening-objects image)) (by (stood-or-none image.boots 0 image.objects x))
  where
    by : Stood image.boots 0 image.objects x ⊎ ((slice_index_or (objects_from image.boots 0 image.objects) x vacant ≡ vacant) × (length image.objects ≤ x))
        → (slice_index_or (objects_from image.boots 0 image.objects) x vacant).init ≡ true → IsQueue (slice_index_or (objects_from image.boots 0 image.objects) x vacant).contents
    by (inl r) marked =
        let o = r.0 in
        let kind : o.kind ≡ Kind.Msgq = sym (ap (λ d. kind_in d x) r.1) ∙ k in
        let setup : is_setup_of image.mpu Kind.Msgq o.setup ≡ true =
        subst (λ (z : Kind). is_setup_of image.mpu z o.setup ≡ true) kind (object-lawful (λ d. is_setup_of image.mpu d.kind d.setup) image.objects lawful.objects x o r.1) in
        let at : 0 + x ≡ x = omega arith in
        let none : list_any (boots_row (0 + x)) image.boots ≡ false = ap (λ y. list_any (boots_row y) image.boots) at ∙ not-booted image image.boots lawful.boots x o r.1 kind in
        ap (λ (z : Object). is_some (size_of z.contents)) r.2
        ∙ queue-set image.mpu o.setup (list_any (boots_row (0 + x)) image.boots) setup (sym (ap (λ (z : Object). z.init) r.2) ∙ marked) none
    by (inr r) marked = absurd (false≢true (sym (ap (λ (z : Object). z.init) r.0) ∙ marked))

opening-queues : (image : Image) → IsLawful image → AreQueues (opening image)
opening-queues image lawful =
    record {
      calls = λ u. record { known = None; holds = tt; steps = subst (Queued (opening image).image None) (sym (new-thread image u).rests) tt };
      marked = λ x k. opening-marked image lawful x (ap (λ (i : Image). row_kind i x) (sym (opening-image image)) ∙ k);
    }

-- Along a run.

module _ (image : Image) (cpus : ℕ) (described : IsDescribed image) (known : IsKnown (core_of (opening image))) where
  queues-run : (s : State) → IsReachable image cpus s → (events : List Event) (s2 : State) → AreQueues s → Runs s events s2 → AreQueues s2
  queues-run s reach [] s2 queues run = subst AreQueues (sym run) queues
  queues-run s reach (event ∷ events) s2 queues (mid, step, rest) =
      let t = event.thread.0 in
      let sound = reachable-sound image cpus described.few s reach known in
      let same : mid.image ≡ s.image = image_move (core_of s) t event.act (core_of mid) (step_move s mid event sound.known step) in
      let next = queues-next s sound queues t step.row step.step step.rest step.offered step.chosen
      (λ a ask e. works-known image cpus described known s reach t a ask step.rest (subst (λ p. Offers s t p step.rest) e step.offered)) (ap (λ (z : State). z.image) (sym step.leaves) ∙ same) in
      queues-run mid (reach-on image cpus s mid (FineAct.Shown event More.Nothing) reach step) events s2 (subst AreQueues (sym step.leaves) next) rest

  pub queues-known : (m : State) → IsReachable image cpus m → AreQueues m
  queues-known m reach = queues-run (opening image) ([], refl) reach.0 m (opening-queues image described.lawful) reach.1
