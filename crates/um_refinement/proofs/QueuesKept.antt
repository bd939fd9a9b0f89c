-- What a step of the access-matrix machine leaves of message queues: each one that it doesn't free keeps the size of its messages; and which
-- objects it marks as initialised.
use Rattle.um_refinement.proofs.Words.{with_object, ◌≡◌, ◌≢◌, ℕ, zero, suc, Bool, true, false, List, [], ◌∷◌, ◌++◌, length, Option, Some, None, refl, sym, ap, ◌∙◌, ◌==◌, if◌then◌else◌, is_some, nat_lt, slice_index_or, slice_set, false≢true, true≢false, eqb-false, eqb-true, get_or-set_other, Ask, Waiter, Errno, own_row, Contents, Object, Pending, Steps, to_thread, Acted, acted, queue, State, object_at, thread_at, vacant, cell_of, ObjectCell, Edit, Effect, effect, bytes-leave, OfEach, effects_of, woken-by, filter, answers, blocks, in_order, is_getter, is_putter, msgq_get, msgq_peek, msgq_put, msgq_take}
use Rattle.um_base.specs.declared.names.Reply.TheVariants as Reply
use Rattle.um_base.specs.declared.names.Timeout.{Timeout}
use Rattle.um_machine.specs.Contents.{Queue}
use Rattle.um_machine.specs.Services as Services
use Rattle.um_machine.specs.State.{waiters_in, with_waiters}
use Rattle.um_machine.specs.Table as T
use Rattle.um_machine.specs.Time.{told_late}
use Rattle.um_refinement.proofs.ContentsKept.{beside-kept, cell-beside, clean-kept, work-objects}
use Rattle.um_refinement.proofs.ObjectsKept.{set-kept, waiters-kept}
use Rattle.um_refinement.proofs.Writes.{each-of, shared-after, reserved-objects}
use Rattle.um_machine.specs.Writes.{edited}

-- the size of a queue's messages, of no other contents
abbrev pub size_of : Contents → Option ℕ
size_of (Contents.Msgq q) = Some q.size
size_of contents = None

-- contents of a queue
abbrev pub IsQueue : Contents → Type 0
IsQueue contents = is_some (size_of contents) ≡ true

-- an act that makes a semaphore or a mutex
abbrev pub renews : Ask → Bool
renews (Ask.SemInit count limit) = true
renews Ask.MutexInit = true
renews ask = false

-- A queue's own acts.

block-size : (size most : ℕ) (messages : List (List ℕ)) (ws : List Waiter) (w : Waiter) (timeout : Timeout) (e : Errno)
    → size_of (blocks (queue size most messages) ws w timeout e).contents ≡ Some size
block-size size most messages ws w Timeout.NoWait e = refl
block-size size most messages ws w (Timeout.Ticks ticks) e = refl
block-size size most messages ws w Timeout.Forever e = refl

put-size : (size most : ℕ) (messages : List (List ℕ)) (ws : List Waiter) (w : Waiter) (message : List ℕ) (timeout : Timeout) (getters : List Waiter)
    → size_of (msgq_put size most messages ws w message timeout getters).contents ≡ Some size
put-size size most messages ws w message timeout (first ∷ getters) = refl
put-size size most messages ws w message timeout [] = by (nat_lt (length messages) most)
  where
    by : (b : Bool)
        → size_of (if b then answers (queue size most (messages ++ message ∷ [])) ws (Reply.Num 0) else blocks (queue size most messages) ws w timeout Errno.ENOMSG).contents ≡ Some size
    by true = refl
    by false = block-size size most messages ws w timeout Errno.ENOMSG

take-size : (size most : ℕ) (message : List ℕ) (rest : List (List ℕ)) (ws putters : List Waiter) → size_of (msgq_take size most message rest ws putters).contents ≡ Some size
take-size size most message rest ws [] = refl
take-size size most message rest ws (first ∷ putters) = refl

get-size : (size most : ℕ) (messages : List (List ℕ)) (ws : List Waiter) (w : Waiter) (timeout : Timeout) → size_of (msgq_get size most messages ws w timeout).contents ≡ Some size
get-size size most [] ws w timeout = block-size size most [] ws w timeout Errno.ENOMSG
get-size size most (message ∷ rest) ws w timeout = take-size size most message rest ws (in_order (filter is_putter ws))

peek-size : (size most : ℕ) (messages : List (List ℕ)) (ws : List Waiter) → size_of (msgq_peek size most messages ws).contents ≡ Some size
peek-size size most [] ws = refl
peek-size size most (message ∷ rest) ws = refl

-- an act on a queue keeps the size
acted-size : (q : Queue) (ws : List Waiter) (w : Waiter) (ask : Ask) → w.ask ≡ ask → renews ask ≡ false → size_of (acted (Contents.Msgq q) ws w).contents ≡ Some q.size
acted-size q ws w ask e plain = ap (λ a. size_of (Services.acted_by (Contents.Msgq q) ws w a).contents) e ∙ by ask plain
  where
    by : (ask : Ask) → renews ask ≡ false → size_of (Services.acted_by (Contents.Msgq q) ws w ask).contents ≡ Some q.size
    by (Ask.SemInit count limit) h = absurd (true≢false h)
    by Ask.MutexInit h = absurd (true≢false h)
    by (Ask.MsgqPut timeout) h = put-size q.size q.most q.messages ws w w.bytes timeout (in_order (filter is_getter ws))
    by (Ask.MsgqGet timeout) h = get-size q.size q.most q.messages ws w timeout
    by Ask.MsgqPeek h = peek-size q.size q.most q.messages ws
    by ask h = refl

queue-acted : (contents : Contents) (ws : List Waiter) (w : Waiter) → renews w.ask ≡ false → IsQueue contents → size_of (acted contents ws w).contents ≡ size_of contents
queue-acted (Contents.Msgq q) ws w plain h = acted-size q ws w w.ask refl plain
queue-acted contents ws w plain h = absurd (false≢true h)

-- A step of the machine.

-- the step writes no other contents at a row, and doesn't free it
abbrev pub Spares : State → ℕ → ℕ → Pending → Type 0
Spares m n y (Pending.Work a ask) = T.row_of m a ≡ y → renews ask ≡ false
Spares m n y (Pending.Named who) = own_row m.image who.0 ≢ y
Spares m n y (Pending.Reserve kind) = (k : ℕ) → n ≡ suc k → n ≢ y
Spares m n y Pending.Recycle = n ≢ y
Spares m n y Pending.Expire = n ≢ y
Spares m n y q = Unit {0}

module _ (m : State) (y t : ℕ) where
  abbrev Size : Object → Option ℕ
  Size o = size_of o.contents

  abbrev Same : State → Type 0
  Same s = Size (object_at s y) ≡ Size (object_at m y)

  other : (x : ℕ) (o : Object) → x ≢ y → Size (slice_index_or (slice_set m.objects x o) y vacant) ≡ Size (object_at m y)
  other x o apart = ap Size (get_or-set_other m.objects x y o vacant (λ e. apart (sym e)))

  pub size-kept : (n : ℕ) (q : Pending) (rest : Steps) → Spares m n y q → IsQueue (object_at m y).contents → Same (T.after m t n q rest)
  size-kept n (Pending.Work a ask) rest spares h = ap (λ (os : List Object). Size (slice_index_or os y vacant)) (work-objects m t n a ask rest) ∙ by (T.row_of m a == y) refl
    where
      w : Acted
      w = T.work_of m t a ask

      o : Object
      o = record (object_at m (T.row_of m a)) { contents = w.contents; waiters = w.waiters; buffer = T.buffer_cost ask w.answer (object_at m (T.row_of m a)).buffer }

      by : (b : Bool) → (T.row_of m a == y) ≡ b → Size (slice_index_or (slice_set m.objects (T.row_of m a) o) y vacant) ≡ Size (object_at m y)
      by false k = other (T.row_of m a) o (eqb-false (T.row_of m a) y k)
      by true k =
          let at = eqb-true (T.row_of m a) y k in
          set-kept Size m.objects (T.row_of m a) y o
          (queue-acted (object_at m (T.row_of m a)).contents (object_at m (T.row_of m a)).waiters
          (record { thread = to_thread t; priority = (thread_at m t).priority; ask = ask; bytes = T.bytes_given (thread_at m t).buffer ask; until = (thread_at m t).until }) (spares at)
          (ap (λ r. is_some (Size (object_at m r))) at ∙ h))
  size-kept n (Pending.Named who) rest spares h = other (own_row m.image who.0) _ spares
  size-kept zero (Pending.Reserve kind) rest spares h = refl
  size-kept (suc n) (Pending.Reserve kind) rest spares h = ap (λ (os : List Object). Size (slice_index_or os y vacant)) (reserved-objects m t n kind rest) ∙ other (suc n) _ (spares n refl)
  size-kept n (Pending.CleanPair who) rest spares h =
      ap (λ (c : ObjectCell). size_of c.contents) (clean-kept (cell_of []) (cell-beside []) (λ o by. refl) m y t n who rest)
  size-kept n Pending.Recycle rest spares h = other n vacant spares
  size-kept n Pending.Expire rest spares h =
      let o = object_at m n in
      let out = Services.runs_out o.waiters (in_order o.waiters) in
      woken-by Same (λ s u told k. k) out.2 (with_object m n (edited (Edit.runs_out out.0 out.1) o)) (other n _ spares)
  size-kept n (Pending.TimeOut who) rest spares h =
      woken-by Same (λ s u told k. k) (told_late who n) (with_waiters m n (Services.without who.0 (waiters_in m n))) (waiters-kept Size (λ o ws. refl) m n y _)
  size-kept n (Pending.Cut who) rest spares h = waiters-kept Size (λ o ws. refl) m n y (Services.without who.0 (waiters_in m n))
  size-kept n q rest spares h = ap (λ (c : ObjectCell). size_of c.contents) (beside-kept (cell_of []) (cell-beside []) m y t n q rest refl)

  -- An object that is marked was marked before, unless the step marks it.

  abbrev Marked : State → Type 0
  Marked s = (object_at s y).init ≡ true → (object_at m y).init ≡ true

  -- the mark that is written at a row is there, or none
  written : (xs : List Object) (x : ℕ) (o : Object) → (o.init ≡ true → (slice_index_or xs x vacant).init ≡ true) → (slice_index_or (slice_set xs x o) y vacant).init ≡ true → (slice_index_or xs y vacant).init ≡ true
  written xs x o h = by xs x y h
    where
      by : (xs : List Object) (x z : ℕ) → (o.init ≡ true → (slice_index_or xs x vacant).init ≡ true) → (slice_index_or (slice_set xs x o) z vacant).init ≡ true → (slice_index_or xs z vacant).init ≡ true
      by [] x z h k = k
      by (v ∷ vs) zero zero h k = h k
      by (v ∷ vs) zero (suc z) h k = k
      by (v ∷ vs) (suc x) zero h k = k
      by (v ∷ vs) (suc x) (suc z) h k = by vs x z h k

  -- the step marks the object of a row
  abbrev pub Marks : Pending → Type 0
  Marks (Pending.SetInit a strict undo) = T.row_of m a ≡ y
  Marks q = ⊥

  -- a write that doesn't mark it
  abbrev MarksNone : Effect → Type 0
  MarksNone (Effect.object x (Edit.inits true)) = x ≡ y → ⊥
  MarksNone e = Unit {0}

  abbrev no_mark : Effect → Bool
  no_mark (Effect.object x (Edit.inits true)) = false
  no_mark e = true

  none-marks : (e : Effect) → no_mark e ≡ true → MarksNone e
  none-marks (Effect.object x (Edit.inits true)) h = absurd (false≢true h)
  none-marks e h = tt

  mark-effect : (e : Effect) (s : State) → MarksNone e → Marked s → Marked (effect e s)
  mark-effect (Effect.wakes woken) s h k = woken-by Marked (λ z u told k. k) woken s k
  mark-effect (Effect.object x (Edit.inits true)) s h k =
      λ i. k (sym (ap (λ (o : Object). o.init) (get_or-set_other s.objects x y (edited (Edit.inits true) (object_at s x)) vacant (λ e. h (sym e)))) ∙ i)
  mark-effect (Effect.object x (Edit.inits false)) s h k = λ i. k (written s.objects x (edited (Edit.inits false) (object_at s x)) (λ h. absurd (false≢true h)) i)
  mark-effect (Effect.object x (Edit.reserved kind cost)) s h k = λ i. k (written s.objects x (edited (Edit.reserved kind cost) (object_at s x)) (λ h. absurd (false≢true h)) i)
  mark-effect (Effect.object x Edit.vacates) s h k = λ i. k (written s.objects x vacant (λ h. absurd (false≢true h)) i)
  mark-effect (Effect.object x edit) s h k = λ i. k (written s.objects x (edited edit (object_at s x)) (λ h. h) i)
  mark-effect (Effect.bytes a bs) s h k = λ i. k (sym (bytes-leave (λ (z : State). (object_at z y).init) (λ z bytes. refl) (λ z bytes. refl) s a bs) ∙ i)
  mark-effect (Effect.waiters c ws) s h k = λ i. k (sym (waiters-kept (λ (o : Object). o.init) (λ o ws. refl) s c y ws) ∙ i)
  mark-effect e s h k = k

  marks-none : (n : ℕ) (q : Pending) → (Marks q → ⊥) → OfEach MarksNone (effects_of m t n q)
  marks-none n (Pending.SetInit a strict undo) none = (none, tt)
  marks-none n q none = each-of no_mark MarksNone none-marks (effects_of m t n q) refl

  pub mark-kept : (n : ℕ) (q : Pending) (rest : Steps) → (Marks q → ⊥) → Marked (T.after m t n q rest)
  mark-kept n q rest none = shared-after Marked MarksNone mark-effect (λ s threads k. k) m t n q rest (marks-none n q none) (λ i. i)
