-- The size of a queue's messages that a processor has looked at is that of the machine, after every lawful step: its thread's call holds the
-- queue, so nobody frees it, and no act makes other contents of it.
use Rattle.um_refinement.proofs.Words.{thread_in, waits, MayChoose, is_some, runs, ◌≡◌, inr, ℕ, ◌<◌, Bool, true, false, cond, [], ◌∷◌, Option, Some, None, refl, sym, ap, ◌∙◌, subst, ◌==◌, if◌then◌else◌, slice_index_or, unwrap_or, eqb-true, false≢true, Image, ROWS, Addr, Kind, Contents, Amount, Pending, Thread, Steps, to_thread, State, object_at, thread_at, FineAct, Unseen, row_kind, below_rows, row_named, domain_in, is_word_read, begins_cleaning, Cell, Context, after_claim, after_show, goes_on_by, p_next, unless_loaded, with_cleaned, ObjectCell, Todo, Todos, Processor, is_of, key_of, SiteState, site_moves, Exchange, FineStep, Site, Fine, object, AreFramed, looked, Fits, IsOffered, message_size, size_in, queue_in, IsSized}
use Rattle.um_machine.specs.Table as T
use Rattle.um_fine.specs.Follows.{shown_step, with_actor}
use Rattle.um_fine.specs.Places.{put_away}
use Rattle.um_refinement.specs.Offers as O
use Rattle.um_refinement.proofs.Erased.{around}
use Rattle.um_refinement.proofs.HandReads.{looked-runs, offered-noted}
use Rattle.um_refinement.proofs.HeldRows.{checked-claimed, claimed-whole}
use Rattle.um_refinement.proofs.Leaves.{Beside, Lawful, Leaves, beside as beside_it, cleans, cuts, drops, event, expires, leaves as leaves_it, mine, nothing, passes, recycles, resumes, ticks, times_out}
use Rattle.um_refinement.proofs.ListGrowth.{ReadsLast, is_read_claim}
use Rattle.um_refinement.proofs.ListLooks.{known-behind, looked-reads}
use Rattle.um_refinement.proofs.ListTails.{adds-pass, quiet-next, tail-read, takes-read}
use Rattle.um_refinement.proofs.Offered.{own-unless, runs-first, shown-offers}
use Rattle.um_refinement.proofs.QueueSteps.{IsKnownAt, Queued}
use Rattle.um_refinement.proofs.QueuesAfter.{Holds}
use Rattle.um_refinement.proofs.QueuesKept.{IsQueue, size-kept, size_of}
use Rattle.um_refinement.proofs.QueuesKnown.{AreQueues, kept-apart, no-timer, size-stays}
use Rattle.um_refinement.proofs.ReplyPart.{none-some}
use Rattle.um_refinement.proofs.SchedulerSteps.{made-at, made-says}
use Rattle.um_refinement.proofs.StepReads.{is-behind}
use Rattle.um_refinement.proofs.StepsLeft.{is_first, offered-awake, offered-left, offered-on}
use Rattle.um_refinement.proofs.WorkSteps.{object-sort}

some-is : {a b : Addr} → Some a ≡ Some b → a ≡ b
some-is {a} {b} h = ap (λ (o : Option Addr). unwrap_or o a) h

-- the event of a message of the queue is offered to the thread
record LooksFor (image : Image) (c : Context) (a : Addr) : Type 0 where
  step : Pending
  rest : Steps
  offered : IsOffered image c step rest
  queue : queue_in step ≡ Some a

looks-for : (image : Image) (c : Context) (a : Addr) (todo : Todos) → Fits image c todo → AreFramed image todo → looked todo ≡ Some a → LooksFor image c a
looks-for image c a [] h f k = none-some k
looks-for image c a (Todo.show q rest ∷ todo) h f k = record { step = q; rest = rest; offered = h.0; queue = k }
looks-for image c a (Todo.size_look x ∷ todo) h f k = none-some k
looks-for image c a (Todo.pass who x ∷ todo) h f k = none-some (sym (ap looked h.0.behind ∙ (looked-reads image).expanded c h.0.step h.0.rest) ∙ k)
looks-for image c a (Todo.drop x ∷ todo) h f k = none-some (sym (ap looked h.behind ∙ (looked-reads image).expanded c h.step h.rest) ∙ k)
looks-for image c a (Todo.park ∷ todo) h f k = none-some (sym (ap looked h.2) ∙ k)
looks-for image c a (Todo.sleep ∷ todo) h f k = none-some (sym (ap looked h.2) ∙ k)
looks-for image c a (Todo.note site ∷ todo) h f k =
    let l = looks-for image (record c { noted = Some 0 }) a todo (h 0) f.1 k in record { step = l.step; rest = l.rest; offered = offered-noted image c 0 l.step l.rest l.offered; queue = l.queue }
looks-for image c a (Todo.leave ∷ todo) h f k = looks-for image c a todo h.1 f.1 k
looks-for image c a (Todo.add d ∷ todo) h f k = looks-for image c a todo h.1 f.1 k
looks-for image c a (q ∷ todo) h f k = looks-for image c a todo h f.1 k

-- the size of a queue's messages
message-size : (contents : Contents) → message_size contents ≡ unwrap_or (size_of contents) 0
message-size (Contents.Msgq q) = refl
message-size contents = refl

-- A processor keeps the size, but where it looks at one.

abbrev is_size_look : Todo → Bool
is_size_look (Todo.size_look x) = true
is_size_look q = false

show-size : (image : Image) (p : Processor) (e : FineStep) (q : Pending) (rest : Steps) (todo : Todos) (b : Bool)
    → (if b then record p { todo = put_away (thread_in e.word).doomed } else after_show image p e q rest todo).size ≡ p.size
show-size image p e q rest todo true = refl
show-size image p e q rest todo false = refl

claim-size : (p : Processor) (d : ℕ) (init : Bool) (todo : Todos) → (after_claim p d init 0 todo).size ≡ p.size
claim-size p d true todo = refl
claim-size p d false todo = refl

goes-size : (image : Image) (p : Processor) (e : FineStep) (q : Todo) (todo : Todos) → is_size_look q ≡ false → (goes_on_by image p e (q ∷ todo)).size ≡ p.size
goes-size image p e (Todo.show q rest) todo h = show-size image p e (shown_step image q e.act) rest todo (is_word_read e.act)
goes-size image p e (Todo.read_claim None) todo h = refl
goes-size image p e (Todo.read_claim (Some d)) todo h = claim-size p d (domain_in e.word).init todo
goes-size image p e (Todo.size_look x) todo h = absurd (false≢true (sym h))
goes-size image p e q todo h = refl

cleaned-size : (image : Image) (p : Processor) (e : FineStep) (b : Bool) → (with_cleaned image p e b).size ≡ p.size
cleaned-size image p e true = refl
cleaned-size image p e false = refl

acted-size : (image : Image) (p : Processor) (act : FineAct) → (with_actor image p act).size ≡ p.size
acted-size image p (FineAct.Shown made more) = refl
acted-size image p (FineAct.Unseen u) = refl

next-size : (image : Image) (p : Processor) (e : FineStep) (q : Todo) (todo : Todos) → p.todo ≡ q ∷ todo → is_size_look q ≡ false → (p_next image p e).size ≡ p.size
next-size image p e q todo at h =
    acted-size image (with_cleaned image (goes_on_by image p e p.todo) e (begins_cleaning e)) e.act
    ∙ (cleaned-size image (goes_on_by image p e p.todo) e (begins_cleaning e)
    ∙ (ap (λ (z : Todos). (goes_on_by image p e z).size) at ∙ goes-size image p e q todo h))

module _ (f : Fine) (m : State) (e : FineStep) (law : Lawful f m e) (queues : AreQueues m) where
  open around f e use {later, processor as p, now}
  open is-behind f m e law use {frame, last-shown}

  abbrev Is : ℕ → Type 0
  Is x = IsQueue (object_at m x).contents

  -- What a call that copies or probes a message knows of the queue.

  known-of : (known : Option ℕ) (q : Pending) (rest : Steps) (a : Addr) → Queued m.image known (q ∷ rest) → queue_in q ≡ Some a → IsKnownAt m.image known a
  known-of known (Pending.Probe b (Amount.MessageOf c)) rest a h k = subst (IsKnownAt m.image known) (some-is k) h.0
  known-of known (Pending.CopyIn b (Amount.MessageOf c)) rest a h k = subst (IsKnownAt m.image known) (some-is k) h.0
  known-of known (Pending.Probe b (Amount.Bytes n)) rest a h k = none-some k
  known-of known (Pending.CopyIn b (Amount.Bytes n)) rest a h k = none-some k
  known-of known q rest a h k = none-some k

  record Known (k : ℕ) (a : Addr) : Type 0 where
    few : row_named f.image a < ROWS
    on : O.is_over (f.processors k).context ≡ false
    held : slice_index_or (thread_at m (f.processors k).context.thread).checked (row_named f.image a) false ≡ true
    kind : row_kind m.image (row_named f.image a) ≡ Kind.Msgq
    is : Is (row_named f.image a)

  knows : (k : ℕ) (a : Addr) → k < f.cpus → runs (f.processors k) ≡ true → LooksFor f.image (f.processors k).context a → Known k a
  knows k a l running looks =
      record {
        few = subst (λ r. r < ROWS) row (below_rows m.image y law.sound.known.reached.sited (law.sound.known.reached.sited.found a.0 y at.1).0);
        on = over;
        held = ap (λ r. slice_index_or (thread_at m t).checked r false) (sym row) ∙ holds.0;
        kind = ap (row_kind m.image) (sym row) ∙ holds.1;
        is = subst Is row holds.2;
      }
    where
      t : ℕ
      t = (f.processors k).context.thread

      over : O.is_over (f.processors k).context ≡ false
      over = offered-on f.image (f.processors k).context looks.step looks.rest looks.offered

      awake : (q : Pending) → queue_in q ≡ Some a → waits (q ∷ looks.rest) ≡ false
      awake Pending.Resume queue = none-some queue
      awake q queue = refl

      same : (f.processors k).context.pending ≡ (thread_at m t).pending
      same =
          ap (λ (z : Thread). z.pending)
          (own-unless ((law.rel.contexts.running k l running).of over)
          (offered-awake f.image (f.processors k).context looks.step looks.rest looks.offered (awake looks.step looks.queue)))

      first-none : (q : Pending) → is_first q ≡ true → queue_in q ≡ Some a → ⊥
      first-none Pending.Begin is queue = none-some queue
      first-none Pending.Exit is queue = none-some queue
      first-none q is queue = false≢true is

      next : IsOffered f.image (f.processors k).context looks.step looks.rest → Queued m.image (queues.calls t).known (looks.step ∷ looks.rest)
      next offered =
          offered-left f.image (f.processors k).context (Queued m.image (queues.calls t).known) (λ who rest h. h) (λ from rest h. h) (subst (Queued m.image (queues.calls t).known) (sym same) (queues.calls t).steps)
          looks.step looks.rest (λ on is. absurd (first-none looks.step is looks.queue)) offered

      at : IsKnownAt m.image (queues.calls t).known a
      at = known-of (queues.calls t).known looks.step looks.rest a (next looks.offered) looks.queue

      y : ℕ
      y = at.0

      row : y ≡ row_named f.image a
      row = sym (ap (λ (i : Image). row_named i a) (sym law.rel.image) ∙ ap (λ o. unwrap_or o 0) at.1)

      holds : Holds m.image Is (thread_at m t).checked (Some y)
      holds = subst (Holds m.image Is (thread_at m t).checked) at.2 (queues.calls t).holds

  -- The size stays.

  size-same : (k : ℕ) (a : Addr) → Known k a → (s : State) → Leaves f m e s → message_size (object_at s (row_named f.image a)).contents ≡ message_size (object_at m (row_named f.image a)).contents
  size-same k a known s leaves = message-size (object_at s y).contents ∙ (ap (λ o. unwrap_or o 0) (by s leaves) ∙ sym (message-size (object_at m y).contents))
    where
      y : ℕ
      y = row_named f.image a

      t : ℕ
      t = (f.processors k).context.thread

      on-beside : (u x : ℕ) (q : Pending) → Beside f m e u x q → MayChoose m u x q → size_of (object_at (T.after m u x q (thread_at m u).pending) y).contents ≡ size_of (object_at m y).contents
      on-beside u x _ (cuts who site before c todo at place inside said) chosen = size-kept m y u x (Pending.Cut (to_thread who)) (thread_at m u).pending tt known.is
      on-beside u x _ (times_out deadline site c who todo at place inside said) chosen = size-kept m y u x (Pending.TimeOut who) (thread_at m u).pending tt known.is
      on-beside u x _ (expires deadline c todo at inside said) chosen =
          size-kept m y u x Pending.Expire (thread_at m u).pending (λ at. no-timer m.now (object_at m x).contents (ap (λ r. is_some (size_of (object_at m r).contents)) at ∙ known.is) chosen) known.is
      on-beside u x _ (ticks at said) chosen = size-kept m y u x Pending.Tick (thread_at m u).pending tt known.is
      on-beside u x _ (leaves_it todo at said) chosen = size-kept m y u x Pending.Left (thread_at m u).pending tt known.is

      by : (s : State) → Leaves f m e s → size_of (object_at s y).contents ≡ size_of (object_at m y).contents
      by _ (nothing u said) = refl
      by _ (event q rest todo n h shown is) = size-stays m law.sound queues (mine f m e) n q rest y (shown-offers h) is.chosen known.kind (inr (t, known.held)) known.is
      by _ (resumes c told rest idle moved said) = size-kept m y c.thread 0 Pending.Resume rest tt known.is
      by _ (passes who x rest todo h said) = size-kept m y (mine f m e) x (Pending.Inherit (to_thread who)) rest tt known.is
      by _ (drops from x rest todo h said) = size-kept m y (mine f m e) x (Pending.Drops from) rest tt known.is
      by _ (cleans who x rest todo h said) = size-kept m y (mine f m e) x (Pending.CleanPair (to_thread who)) rest tt known.is
      by _ (beside_it u x q how chosen started) = on-beside u x q how chosen
      by _ (recycles x rest todo at l said chosen) =
          size-kept m y (mine f m e) x Pending.Recycle rest (kept-apart m law.sound queues (mine f m e) x Pending.Recycle y chosen (inr (t, known.held)) tt) known.is

  knows-looked : (k : ℕ) (a : Addr) → k < f.cpus → looked (f.processors k).todo ≡ Some a → Known k a
  knows-looked k a l there =
      knows k a l (looked-runs law.rel l a there) (looks-for f.image (f.processors k).context a (f.processors k).todo (law.rel.processors k l).list.fits (law.rel.processors k l).frames there)

  stays-sized : (s : State) → Leaves f m e s → (k : ℕ) (a : Addr) → k < f.cpus → looked (f.processors k).todo ≡ Some a → (f.processors k).size ≡ message_size (object_at s (row_named f.image a)).contents
  stays-sized s leaves k a l there = (law.rel.processors k l).looks.size a there ∙ sym (size-same k a (knows-looked k a l there) s leaves)

  -- The processor that makes the step.

  size-mine : (s : State) → Leaves f m e s → (a : Addr) → looked now.todo ≡ Some a → now.size ≡ message_size (object_at s (row_named f.image a)).contents
  size-mine s leaves a there = by p.todo refl
    where
      -- what stands behind the step is read then
      behind : (q : Todo) (todo : Todos) → p.todo ≡ q ∷ todo → is_read_claim q ≡ false → ReadsLast e q todo → looked todo ≡ Some a
      behind q todo at free last = sym (tail-read f.image looked None (looked-reads f.image) p e q todo at free (adds-pass f.image looked None (looked-reads f.image) (λ c todo. refl) q) (frame q todo at) last) ∙ there

      goes-on : (q : Todo) (todo : Todos) → p.todo ≡ q ∷ todo → is_size_look q ≡ false → looked (q ∷ todo) ≡ Some a → now.size ≡ message_size (object_at s (row_named f.image a)).contents
      goes-on q todo at quiet was = next-size f.image p e q todo at quiet ∙ stays-sized s leaves e.cpu a law.by.named (ap looked at ∙ was)

      own-claim : (todo : Todos) → p.todo ≡ Todo.read_claim None ∷ todo → now.size ≡ message_size (object_at s (row_named f.image a)).contents
      own-claim todo at =
          let next = quiet-next f.image p e (Todo.read_claim None ∷ todo) Unseen.ReadClaim at (made-says f m e law (Todo.read_claim None ∷ todo) at) refl in
          goes-on (Todo.read_claim None) todo at refl
          (sym (unless (is_of (key_of (record p { version = (domain_in e.word).version })) p.table) todo) ∙ (sym (ap (λ (z : Processor). looked z.todo) next) ∙ there))
        where
          unless : (b : Bool) (left : Todos) → looked (unless_loaded b left) ≡ looked left
          unless true (Todo.region_load ∷ left) = refl
          unless b left = refl

      claim : (u : ℕ) (todo : Todos) → p.todo ≡ Todo.read_claim (Some u) ∷ todo → now.size ≡ message_size (object_at s (row_named f.image a)).contents
      claim u todo at =
          let h = frame (Todo.read_claim (Some u)) todo at in
          let next = quiet-next f.image p e (Todo.read_claim (Some u) ∷ todo) Unseen.ReadClaim at (made-says f m e law (Todo.read_claim (Some u) ∷ todo) at) refl in
          none-some (sym (ap (λ (z : Processor). looked z.todo) next ∙ (either (domain_in e.word).init ∙ ap looked h.2)) ∙ there)
        where
          either : (b : Bool) → looked (after_claim p u b 0 todo).todo ≡ looked todo
          either true = refl
          either false = refl

      look : (x : ℕ) (todo : Todos) → p.todo ≡ Todo.size_look x ∷ todo → now.size ≡ message_size (object_at s (row_named f.image a)).contents
      look x todo at =
          ap (λ (z : Processor). z.size) next
          ∙ (ap size_in (sym moved)
          ∙ (ap (λ (o : ObjectCell). message_size o.contents) ((law.rel.rows x few).contents.whole (claimed-whole f m law.rel x few (checked-claimed f m law.rel e.cpu x law.by.named few running known.on held)))
          ∙ (ap (λ r. message_size (object_at m r).contents) row ∙ sym (size-same e.cpu a known s leaves))))
        where
          said : e.act ≡ FineAct.Unseen Unseen.SizeLook
          said = made-says f m e law (Todo.size_look x ∷ todo) at

          next : now ≡ goes_on_by f.image p e (Todo.size_look x ∷ todo)
          next = quiet-next f.image p e (Todo.size_look x ∷ todo) Unseen.SizeLook at said refl

          left : looked todo ≡ Some a
          left = behind (Todo.size_look x) todo at refl tt

          running : runs p ≡ true
          running = runs-first law.rel law.by.named (Todo.size_look x) todo at (λ hand. hand)

          known : Known e.cpu a
          known =
              knows e.cpu a law.by.named running
              (looks-for f.image p.context a todo (subst (Fits f.image p.context) at (law.rel.processors e.cpu law.by.named).list.fits) (subst (AreFramed f.image) at (law.rel.processors e.cpu law.by.named).frames).1 left)

          -- the row that is looked at is the queue's
          row : x ≡ row_named f.image a
          row =
              let h = frame (Todo.size_look x) todo at in
              h.5 ∙ ap (row_named f.image) (some-is (sym h.4 ∙ (sym (ap looked h.3) ∙ left)))

          few : x < ROWS
          few = subst (λ r. r < ROWS) (sym row) known.few

          held : slice_index_or (thread_at m p.context.thread).checked x false ≡ true
          held = ap (λ r. slice_index_or (thread_at m p.context.thread).checked r false) row ∙ known.held

          cell : (n : ℕ) × (f.sites (Site.object x) ≡ SiteState.cell n (Cell.object (object f x)))
          cell = object-sort x (f.sites (Site.object x)) (law.rel.sorts (Site.object x))

          moved : Exchange.size (message_size (object f x).contents) ≡ e.moved
          moved =
              subst (λ (z : SiteState). site_moves f.image z (FineAct.Unseen Unseen.SizeLook) e.moved ≡ e.moved) cell.1
              (subst (λ (z : Site × FineAct). site_moves f.image (f.sites z.0) z.1 e.moved ≡ e.moved) (λ i. (made-at f m e law (Todo.size_look x ∷ todo) at i, said i)) (ap (λ (z : FineStep). z.moved) law.taken.filled_in))

      by : (todo : Todos) → p.todo ≡ todo → now.size ≡ message_size (object_at s (row_named f.image a)).contents
      by [] at = none-some (sym (takes-read f.image looked None (looked-reads f.image) p e at) ∙ there)
      by (Todo.show q rest ∷ todo) at =
          none-some
          (sym (ap looked (subst (Fits f.image p.context) at (law.rel.processors e.cpu law.by.named).list.fits).1 ∙ (known-behind f.image p.context q).1)
          ∙ behind (Todo.show q rest) todo at refl (last-shown q rest todo at))
      by (Todo.read_claim None ∷ todo) at = own-claim todo at
      by (Todo.read_claim (Some u) ∷ todo) at = claim u todo at
      by (Todo.size_look x ∷ todo) at = look x todo at
      by (q ∷ todo) at = goes-on q todo at refl (behind q todo at refl tt)

  pub sizes-part : (s : State) → Leaves f m e s → (k : ℕ) → k < f.cpus → IsSized later s k
  sizes-part s leaves k l a = by (e.cpu == k) refl
    where
      kth : Bool → Processor
      kth b = cond b (p_next f.image (f.processors k) e) (f.processors k)

      Right : Processor → Type 0
      Right z = looked z.todo ≡ Some a → z.size ≡ message_size (object_at s (row_named f.image a)).contents

      by : (b : Bool) → (e.cpu == k) ≡ b → Right (kth (e.cpu == k))
      by true q = subst Right (sym (ap kth q ∙ ap (λ (z : Processor). p_next f.image z e) (sym (ap f.processors (eqb-true e.cpu k q))))) (size-mine s leaves a)
      by false q = subst Right (sym (ap kth q)) (stays-sized s leaves k a l)
