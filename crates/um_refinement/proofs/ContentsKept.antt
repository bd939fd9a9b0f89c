-- What a step of the access-matrix machine leaves of the contents of objects: all of them, but of the object of a call's work, of a thread
-- object that gets a name, and of a row where an object is reserved or recycled; and which rows are free.
use Rattle.um_refinement.proofs.Words.{Waiter, ap, List, if◌then◌else◌, slice_index_or, slice_set, vacant, ◌≡◌, ℕ, Bool, true, false, Some, refl, ◌∙◌, slice_set, true≢false, Leftover, Ask, Addr, ThreadIx, Object, Status, Pending, Steps, Acted, State, object_at, with_object, cell_of, own_row, to_thread, false≢true, Edit, Effect, effect, wrote, bytes-leave, effects_of, next_of, woken-by, shared-went}
use Rattle.um_machine.specs.declared.contents.Contents.{Contents}
use Rattle.um_machine.specs.Table as T
use Rattle.um_refinement.proofs.ObjectsKept.{object-reads, set-kept}
use Rattle.um_refinement.proofs.Writes.{AreAll, Makes, Part, is_queue, after-kept, births, objects, reads-after, statuses, with_cleaner, with_left}

-- all that a step may write but objects
abbrev pub NoObjects : Part → Bool
NoObjects objects = false
NoObjects statuses = false
NoObjects births = false
NoObjects part = true

module _ (m : State) (y : ℕ) where
  -- a step that writes none of them leaves each object
  pub object-kept : (t x : ℕ) (q : Pending) (rest : Steps) → Makes NoObjects q → object_at (T.after m t x q rest) y ≡ object_at m y
  object-kept t x q rest h =
      after-kept NoObjects (λ s. object_at s y ≡ object_at m y) (object-reads NoObjects (λ o. o) y _ (λ may. absurd may) (λ may. absurd may) (λ may. may)) m t refl x q rest h

-- what status and marks leave of an object
pub record IsBeside {A : Type 0} (g : Object → A) : Type 0 where
  pub status : (o : Object) (status : Status) → g (record o { status = status }) ≡ g o
  pub public : (o : Object) → g (record o { public = true }) ≡ g o
  pub init : (o : Object) (init : Bool) → g (record o { init = init }) ≡ g o

pub cell-beside : (noted : List ℕ) → IsBeside (cell_of noted)
cell-beside noted = record { status = λ o status. refl; public = λ o. refl; init = λ o init. refl }

-- the steps that write more of objects
abbrev pub is_filling : Pending → Bool
is_filling (Pending.Work a ask) = true
is_filling (Pending.Named who) = true
is_filling (Pending.Reserve kind) = true
is_filling (Pending.CleanPair who) = true
is_filling Pending.Recycle = true
is_filling (Pending.TimeOut who) = true
is_filling Pending.Expire = true
is_filling (Pending.Cut who) = true
is_filling q = false

module _ {A : Type 0} (g : Object → A) (beside : IsBeside g) where
  abbrev leaves : Effect → Bool
  leaves (Effect.object x (Edit.inits init)) = true
  leaves (Effect.object x Edit.opens) = true
  leaves (Effect.object x (Edit.becomes status)) = true
  leaves (Effect.object x edit) = false
  leaves (Effect.waiters c ws) = is_queue c
  leaves e = true

  left-so : (y : ℕ) (a : A) (e : Effect) (s : State) → leaves e ≡ true → g (object_at s y) ≡ a → g (object_at (effect e s) y) ≡ a
  left-so y a (Effect.wakes woken) s h k = woken-by (λ (z : State). g (object_at z y) ≡ a) (λ z u told k. k) woken s k
  left-so y a (Effect.object x (Edit.inits init)) s h k = set-kept g s.objects x y _ (beside.init (object_at s x) init) ∙ k
  left-so y a (Effect.object x Edit.opens) s h k = set-kept g s.objects x y _ (beside.public (object_at s x)) ∙ k
  left-so y a (Effect.object x (Edit.becomes status)) s h k = set-kept g s.objects x y _ (beside.status (object_at s x) status) ∙ k
  left-so y a (Effect.object x edit) s h k = absurd (false≢true h)
  left-so y a (Effect.bytes b bs) s h k = bytes-leave (λ (z : State). g (object_at z y)) (λ z bytes. refl) (λ z bytes. refl) s b bs ∙ k
  left-so y a (Effect.waiters c ws) s h k =
      ap (λ b. g (slice_index_or (if b then s.objects else slice_set s.objects c (record (object_at s c) { waiters = ws })) y vacant)) h ∙ k
  left-so y a e s h k = k

  -- a permission is dropped
  pub drops-kept : (s : State) (y who x : ℕ) (l : Leftover) → g (object_at (with_left l s who x) y) ≡ g (object_at s y)
  drops-kept s y who x Leftover.NoPair = refl
  drops-kept s y who x Leftover.Kept = refl
  drops-kept s y who x Leftover.Gone = set-kept g s.objects x y _ (beside.status (object_at s x) Status.Gone)

  -- a step leaves what status and marks leave, but where it writes more
  pub beside-kept : (m : State) (y t x : ℕ) (q : Pending) (rest : Steps) → is_filling q ≡ false → g (object_at (T.after m t x q rest) y) ≡ g (object_at m y)
  beside-kept m y t x (Pending.Work a ask) rest h = absurd (true≢false h)
  beside-kept m y t x (Pending.Named who) rest h = absurd (true≢false h)
  beside-kept m y t x (Pending.Reserve kind) rest h = absurd (true≢false h)
  beside-kept m y t x (Pending.CleanPair who) rest h = absurd (true≢false h)
  beside-kept m y t x Pending.Recycle rest h = absurd (true≢false h)
  beside-kept m y t x (Pending.TimeOut who) rest h = absurd (true≢false h)
  beside-kept m y t x Pending.Expire rest h = absurd (true≢false h)
  beside-kept m y t x (Pending.Cut who) rest h = absurd (true≢false h)
  beside-kept m y t x q rest h = reads-after (λ (s : State). g (object_at s y)) leaves (left-so y) (λ s threads. refl) m t x q rest refl

  -- and so does the cleaning of an object, where it leaves who cleans
  pub clean-kept : ((o : Object) (by : ThreadIx) → g (record o { cleaner = Some by }) ≡ g o) → (m : State) (y t x : ℕ) (who : ThreadIx) (rest : Steps)
      → g (object_at (T.after m t x (Pending.CleanPair who) rest) y) ≡ g (object_at m y)
  clean-kept cleaner m y t x who rest =
      let z = own_row m.image who.0 in
      drops-kept (with_cleaner m t z) y who.0 x (T.dropped m who.0 x) ∙ set-kept g m.objects z y _ (cleaner (object_at m z) (to_thread t))

-- Work.

pub work-objects : (m : State) (t x : ℕ) (a : Addr) (ask : Ask) (rest : Steps) → let w = T.work_of m t a ask in let o = object_at m (T.row_of m a) in
    (T.after m t x (Pending.Work a ask) rest).objects
    ≡ slice_set m.objects (T.row_of m a) (record o { contents = w.contents; waiters = w.waiters; buffer = T.buffer_cost ask w.answer o.buffer })
work-objects m t x a ask rest =
    shared-went (λ (s : State). s.objects) (λ s threads. refl) rest (wrote (effects_of m t x (Pending.Work a ask)) m) t (next_of m t x (Pending.Work a ask))
    ∙ woken-by (λ (s : State). s.objects ≡ slice_set m.objects (T.row_of m a) (written (object_at m (T.row_of m a)))) (λ s u told k. k) w.woken (with_object m (T.row_of m a) (written (object_at m (T.row_of m a)))) refl
  where
    w : Acted
    w = T.work_of m t a ask

    written : Object → Object
    written o = record o { contents = w.contents; waiters = w.waiters; buffer = T.buffer_cost ask w.answer o.buffer }

-- what contents and waiters leave too stays where a mark's time has come, and where who waits is cut
module _ {A : Type 0} (g : Object → A) (beside : IsBeside g) (queues : (o : Object) (contents : Contents) (waiters : List Waiter) → g (record o { contents = contents; waiters = waiters }) ≡ g o) where
  abbrev leaves_beside : Effect → Bool
  leaves_beside (Effect.object x (Edit.inits init)) = true
  leaves_beside (Effect.object x Edit.opens) = true
  leaves_beside (Effect.object x (Edit.becomes status)) = true
  leaves_beside (Effect.object x (Edit.runs_out contents waiters)) = true
  leaves_beside (Effect.object x edit) = false
  leaves_beside e = true

  queue-so : (y : ℕ) (a : A) (e : Effect) (s : State) → leaves_beside e ≡ true → g (object_at s y) ≡ a → g (object_at (effect e s) y) ≡ a
  queue-so y a (Effect.wakes woken) s h k = woken-by (λ (z : State). g (object_at z y) ≡ a) (λ z u told k. k) woken s k
  queue-so y a (Effect.object x (Edit.inits init)) s h k = set-kept g s.objects x y _ (beside.init (object_at s x) init) ∙ k
  queue-so y a (Effect.object x Edit.opens) s h k = set-kept g s.objects x y _ (beside.public (object_at s x)) ∙ k
  queue-so y a (Effect.object x (Edit.becomes status)) s h k = set-kept g s.objects x y _ (beside.status (object_at s x) status) ∙ k
  queue-so y a (Effect.object x (Edit.runs_out contents waiters)) s h k = set-kept g s.objects x y _ (queues (object_at s x) contents waiters) ∙ k
  queue-so y a (Effect.object x edit) s h k = absurd (false≢true h)
  queue-so y a (Effect.bytes b bs) s h k = bytes-leave (λ (z : State). g (object_at z y)) (λ z bytes. refl) (λ z bytes. refl) s b bs ∙ k
  queue-so y a (Effect.waiters c ws) s h k = by (is_queue c) ∙ k
    where
      by : (b : Bool) → g (slice_index_or (if b then s.objects else slice_set s.objects c (record (object_at s c) { waiters = ws })) y vacant) ≡ g (object_at s y)
      by true = refl
      by false = set-kept g s.objects c y _ (queues (object_at s c) (object_at s c).contents ws)
  queue-so y a e s h k = k

  pub queues-kept : (m : State) (y t x : ℕ) (q : Pending) (rest : Steps) → AreAll leaves_beside (effects_of m t x q) → g (object_at (T.after m t x q rest) y) ≡ g (object_at m y)
  queues-kept m y t x q rest h = reads-after (λ (s : State). g (object_at s y)) leaves_beside (queue-so y) (λ s threads. refl) m t x q rest h
