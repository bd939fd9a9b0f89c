-- The steps of a call that has noted a cell: its next step leaves them so, unless it ends the call; and a call that notes a cell makes its act next,
-- behind which it ends.
use Rattle.um_refinement.proofs.Words.{◌≡◌, inl, inr, ℕ, false, true, List, [], ◌∷◌, Option, Some, refl, sym, subst, false≢true, true≢false, Act, Image, Next, Way, continues, gone_part, steps_by, way-left, HoldsOfWays, Ask, Exchange, Pending, Steps, Thread, State, thread_at, Context, as_thread, came_in, IsOffered, Offers, goes, skips_inherit, skips_drops, begins, exits, tends}
use Rattle.um_machine.specs.Run.{leaves, stops}
use Rattle.um_machine.specs.Table as T
use Rattle.um_fine.specs.Places.{noted_cell}
use Rattle.um_refinement.specs.Lists.{is_arm}
use Rattle.um_refinement.specs.Offers as O
use Rattle.um_refinement.specs.Stops.{ActsIn, Ends, HasNoted}
use Rattle.um_refinement.proofs.ArmsKnown.{armed, passed-drops, passed-inherit, timer-armed}
use Rattle.um_refinement.proofs.ArmSteps.{StartsTimer, Timed, Waiting}
use Rattle.um_refinement.proofs.First.{none-some}
use Rattle.um_refinement.proofs.NoteSteps.{is_final}
use Rattle.um_refinement.proofs.WordsKept.{IsShown}

ends-ways : HoldsOfWays Ends
ends-ways =
    record {
      call = (λ a left h. h, λ left h. h, λ a left h. h);
      runs_to = λ a before deadline left h. absurd h;
      replies = λ reply. refl;
      fails = λ reason cause. (tt, λ size. tt, λ a. tt);
    }

pub ends-left : (left : Steps) (way : Way) → Ends left → Ends (steps_by left way)
ends-left = way-left Ends ends-ways

module _ (image : Image) (site : ℕ) where
  -- What has to be known of a call that goes on so.
  abbrev Going : Steps → Next → Type 0
  Going left (Next.on change way) = HasNoted image site (steps_by left way)
  Going left (Next.checks x v way) = HasNoted image site (steps_by left way)
  Going left (Next.owns keeps) = HasNoted image site left
  Going left (Next.creates who) = HasNoted image site left
  Going left Next.starts = HasNoted image site left
  Going left next = ⊥

  gone-noted : (c : Context) (left : Steps) (next : Next) → Going left next → HasNoted image site (gone_part image left next c).pending
  gone-noted c left (Next.on change way) h = h
  gone-noted c left (Next.checks x v way) h = h
  gone-noted c left (Next.owns keeps) h = h
  gone-noted c left (Next.creates who) h = h
  gone-noted c left Next.starts h = h
  gone-noted c left next h = absurd h

  -- so of each step that doesn't end the call
  going : (t : ℕ) (me : Thread) (x : ℕ) (q : Pending) (rest : Steps) (act : Act) (came : List ℕ) → IsShown q → is_final q ≡ false → HasNoted image site (q ∷ rest)
      → Going rest (T.continues image t me x q act came)
  going t me x (Pending.Work a ask) rest act came shown more (inl h) = absurd h
  going t me x (Pending.Work a ask) rest act came shown more (inr h) = inl (ends-left rest _ h.1)
  going t me x (Pending.Join who timeout) rest act came shown more (inl h) = absurd h
  going t me x (Pending.Join who timeout) rest act came shown more (inr h) = inl (ends-left rest _ h.1)
  going t me x (Pending.FutexWait a value timeout) rest act came shown more (inl h) = absurd h
  going t me x (Pending.FutexWait a value timeout) rest act came shown more (inr h) = inl (ends-left rest _ h.1)
  going t me x (Pending.Arm ticks) rest act came shown more (inl h) = absurd h
  going t me x (Pending.Arm ticks) rest act came shown more (inr h) = inr h
  going t me x Pending.Exit rest act came shown more h = absurd (true≢false more)
  going t me x Pending.Killed rest act came shown more h = absurd (true≢false more)
  going t me x (Pending.Answer reply to) rest act came shown more h = absurd (true≢false more)
  going t me x (Pending.Fatal reason cause) rest act came shown more h = absurd (true≢false more)
  going t me x Pending.Begin rest act came shown more (inl h) = absurd h
  going t me x (Pending.ArmTimer ticks) rest act came shown more (inl h) = absurd h
  going t me x (Pending.Dooms from) rest act came shown more (inl h) = absurd h
  going t me x (Pending.EnterUser script) rest act came shown more (inl h) = absurd h
  going t me x Pending.Resume rest act came shown more (inl h) = absurd shown
  going t me x (Pending.Inherit who) rest act came shown more h = absurd shown
  going t me x (Pending.Drops from) rest act came shown more h = absurd shown
  going t me x (Pending.CleanPair who) rest act came shown more (inl h) = absurd shown
  going t me x Pending.Recycle rest act came shown more (inl h) = absurd shown
  going t me x Pending.Left rest act came shown more (inl h) = absurd shown
  going t me x Pending.Tick rest act came shown more (inl h) = absurd shown
  going t me x (Pending.TimeOut who) rest act came shown more (inl h) = absurd shown
  going t me x Pending.Expire rest act came shown more (inl h) = absurd shown
  going t me x (Pending.Cut who) rest act came shown more (inl h) = absurd shown
  going t me x (Pending.Check a kind want refusal) rest act came shown more (inl h) = inl (ends-left rest _ h)
  going t me x (Pending.Load to a n) rest act came shown more (inl h) = inl (ends-left rest _ h)
  going t me x (Pending.Store a n value) rest act came shown more (inl h) = inl (ends-left rest _ h)
  going t me x (Pending.Fetch a) rest act came shown more (inl h) = inl (ends-left rest _ h)
  going t me x (Pending.Probe a amount) rest act came shown more (inl h) = inl (ends-left rest _ h)
  going t me x (Pending.CopyIn a amount) rest act came shown more (inl h) = inl (ends-left rest _ h)
  going t me x (Pending.CopyOut a) rest act came shown more (inl h) = inl (ends-left rest _ h)
  going t me x (Pending.CopyStr a) rest act came shown more (inl h) = inl (ends-left rest _ h)
  going t me x (Pending.SetInit a strict undo) rest act came shown more (inl h) = inl (ends-left rest _ h)
  going t me x (Pending.Reserve kind) rest act came shown more (inl h) = inl (ends-left rest _ h)
  going t me x (Pending.Buffer size) rest act came shown more (inl h) = inl (ends-left rest _ h)
  going t me x (Pending.FutexWake a all) rest act came shown more (inl h) = inl (ends-left rest _ h)
  going t me x q rest act came shown more (inl h) = inl h
  going t me x q rest act came shown more (inr h) = absurd (none-some h.0)

  -- the step of a thread leaves the steps of its call so
  pub call-goes : (c : Context) (q : Pending) (rest : Steps) (act : Act) (moved : Exchange) → IsShown q → is_final q ≡ false → HasNoted image site (q ∷ rest)
      → HasNoted image site (continues image c 0 q rest act moved).pending
  call-goes c q rest act moved shown more h =
      gone-noted c rest (T.continues image c.thread (as_thread c) 0 q act (came_in q moved)) (going c.thread (as_thread c) 0 q rest act (came_in q moved) shown more h)

  -- what is so of all steps that are left, is so from the one that is made next
  pub offered-call : (m : State) (t : ℕ) (q : Pending) (rest : Steps) → IsShown q → HasNoted image site (thread_at m t).pending → Offers m t q rest → HasNoted image site (q ∷ rest)
  offered-call m t q rest shown h offers = by shown offers
    where
      at : {steps : Steps} → (thread_at m t).pending ≡ steps → HasNoted image site steps
      at e = subst (HasNoted image site) e h

      none : (thread_at m t).pending ≡ [] → ⊥
      none e = empty (at e)
        where
          empty : HasNoted image site [] → ⊥
          empty (inl h) = h
          empty (inr h) = h

      by : {q : Pending} {rest : Steps} → IsShown q → Offers m t q rest → HasNoted image site (q ∷ rest)
      by shown (goes e) = at e
      by shown (skips_inherit e due) = at e
      by shown (skips_drops e due) = at e
      by shown (begins e lives may there) = absurd (none e)
      by shown (exits e lives may there) = absurd (none e)
      by shown (stops e lives must) = absurd (none e)
      by shown (leaves ends) = absurd shown
      by shown (tends {p = Pending.CleanPair who} is started) = absurd shown
      by shown (tends {p = Pending.Recycle} is started) = absurd shown
      by shown (tends {p = Pending.Tick} is started) = absurd shown
      by shown (tends {p = Pending.TimeOut who} is started) = absurd shown
      by shown (tends {p = Pending.Expire} is started) = absurd shown
      by shown (tends {p = Pending.Cut who} is started) = absurd shown
      by shown (tends {p = q} is started) = absurd (false≢true is)

  -- an act that may wait does so in the cell that its call has noted
  pub acts-there : (q : Pending) (rest : Steps) (there : ℕ) → noted_cell image (q ∷ []) ≡ Some there → HasNoted image site (q ∷ rest) → noted_cell image (q ∷ []) ≡ Some site
  acts-there (Pending.Work a ask) rest there k (inl h) = absurd h
  acts-there (Pending.Work a ask) rest there k (inr h) = h.0
  acts-there (Pending.Join who timeout) rest there k (inl h) = absurd h
  acts-there (Pending.Join who timeout) rest there k (inr h) = h.0
  acts-there (Pending.FutexWait a value timeout) rest there k (inl h) = absurd h
  acts-there (Pending.FutexWait a value timeout) rest there k (inr h) = h.0
  acts-there q rest there k h = absurd (none-some k)

  -- Where a cell is noted.

  act-next : (until : Option ℕ) (q : Pending) (rest : Steps) → noted_cell image (q ∷ []) ≡ Some site → Timed until (q ∷ rest) → ActsIn image site (q ∷ rest)
  act-next until (Pending.Work a ask) rest k (inl (inl h)) = (k, h.1.1)
  act-next until (Pending.Work a ask) rest k (inl (inr h)) = absurd h
  act-next until (Pending.Work a ask) rest k (inr h) = (k, h)
  act-next until (Pending.Join who timeout) rest k (inl (inl h)) = (k, h.1)
  act-next until (Pending.Join who timeout) rest k (inl (inr h)) = absurd h
  act-next until (Pending.Join who timeout) rest k (inr h) = (k, h)
  act-next until (Pending.FutexWait a value timeout) rest k (inl (inl h)) = (k, h.1)
  act-next until (Pending.FutexWait a value timeout) rest k (inl (inr h)) = absurd h
  act-next until (Pending.FutexWait a value timeout) rest k (inr h) = (k, h)
  act-next until q rest k h = absurd (none-some k)

  waiting-next : (rest : Steps) → noted_cell image rest ≡ Some site → Waiting rest → ActsIn image site rest
  waiting-next (Pending.Work a ask ∷ rest) k h = (k, h.1)
  waiting-next (Pending.Join who timeout ∷ rest) k h = (k, h)
  waiting-next (Pending.FutexWait a value timeout ∷ rest) k h = (k, h)
  waiting-next rest k h = absurd h

  no-timer : (rest : Steps) → noted_cell image rest ≡ Some site → StartsTimer rest → ⊥
  no-timer (Pending.Work a (Ask.TimerStart deadline) ∷ rest) k h = none-some k
  no-timer rest k h = h

  arm-next : (until : Option ℕ) (q : Pending) (rest : Steps) → is_arm q ≡ true → noted_cell image rest ≡ Some site → Timed until (q ∷ rest) → ActsIn image site (q ∷ rest)
  arm-next until (Pending.Arm ticks) rest is k h = waiting-next rest k (armed until ticks rest h)
  arm-next until (Pending.ArmTimer ticks) rest is k h = absurd (no-timer rest k (timer-armed until ticks rest h))
  arm-next until q rest is k h = absurd (false≢true is)

  -- the steps that are left of a call whose next step this is
  module _ (c : Context) (until : Option ℕ) (all : Timed until c.pending) where
    abbrev Unless : Pending → Type 0
    Unless Pending.Begin = ⊥
    Unless Pending.Exit = ⊥
    Unless q = Unit {0}

    offered-next : (q : Pending) (rest : Steps) → Unless q → (Timed until (q ∷ rest) → ActsIn image site (q ∷ rest)) → IsOffered image c q rest → ActsIn image site c.pending
    offered-next q rest other next (O.goes e) = subst (ActsIn image site) (sym e) (next (subst (Timed until) e all))
    offered-next q rest other next (O.passed {who} e) = subst (ActsIn image site) (sym e) (next (passed-inherit until who (q ∷ rest) (subst (Timed until) e all)))
    offered-next q rest other next (O.dropped {from} e) = subst (ActsIn image site) (sym e) (next (passed-drops until from (q ∷ rest) (subst (Timed until) e all)))
    offered-next _ _ other next (O.begins e on i) = absurd other
    offered-next _ _ other next (O.exits e on i) = absurd other

    act-unless : (q : Pending) → noted_cell image (q ∷ []) ≡ Some site → Unless q
    act-unless Pending.Begin k = absurd (none-some k)
    act-unless Pending.Exit k = absurd (none-some k)
    act-unless q k = tt

    arm-unless : (q : Pending) → is_arm q ≡ true → Unless q
    arm-unless Pending.Begin is = absurd (false≢true is)
    arm-unless Pending.Exit is = absurd (false≢true is)
    arm-unless q is = tt

    pub acts-next : (q : Pending) (rest : Steps) → noted_cell image (q ∷ []) ≡ Some site → IsOffered image c q rest → ActsIn image site c.pending
    acts-next q rest k offered = offered-next q rest (act-unless q k) (act-next until q rest k) offered

    pub arms-next : (q : Pending) (rest : Steps) → is_arm q ≡ true → noted_cell image rest ≡ Some site → IsOffered image c q rest → ActsIn image site c.pending
    arms-next q rest is k offered = offered-next q rest (arm-unless q is) (arm-next until q rest is k) offered
