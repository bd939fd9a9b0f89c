-- Where a processor can't step, an event that is next moves a thread that is held: its site takes any other one.
use Rattle.um_refinement.proofs.EventFacts.{InImage, first-in, edit-in, either-taken, living, inside-objects}
use Rattle.um_refinement.proofs.Words.{are_orderly, waits, FineAct, More, ◌≡◌, inl, inr, ℕ, ◌<◌, Bool, true, false, [], ◌∷◌, length, Option, Some, None, refl, sym, ap, ◌∙◌, subst, arith, eq-eqb, ◌==◌, ◌&&◌, ◌||◌, ℤ, not, if◌then◌else◌, is_some, nat_lt, unwrap_or, list_all, list_any, and_parts, false≢true, lt-ltb, ltb-true, true≢false, or-true, Act, Image, Addr, ROWS, Kind, Mode, Reply, Row, ThreadIx, Want, own_row, row_at, Partitions, Status, Pending, Refusal, Thread, Steps, State, instruction_at, is_living, object_at, thread_at, Call, call_is, status_is, Guarded, IsStatic, behind_birth, Stage, is_cleaning, is_free, row_named, allows, check_site, Cell, newborn, Todo, Todos, fails, SiteState, Exchange, Site, reads, Fine, bytes, domain, one_if, row, word, edits, edits_step, has_claimed, has_held, is_hold, is_let_go, moves_to, moving, runs, is_reserved, recyclers, status_of, vacaters, Fits, IsOffered, is_over, Rel, IsHalted, IsOf, le-leb, DOMAINS, domain_at, move_reply, Names, bearing, all_behind}
use Rattle.um_base.specs.declared.names.Access.TheVariants as Access
use Rattle.um_machine.specs.Objects as Plain
use Rattle.um_machine.specs.Order.{to_thread}
use Rattle.um_words.specs.CellActs.{memory_takes}
use Rattle.um_fine.specs.Memory.{memory_says}
use Rattle.um_refinement.specs.Threads.{is_ending}
use Rattle.um_refinement.specs.Offers as O
use Rattle.um_refinement.proofs.CallSteps.{Proper}
use Rattle.um_refinement.proofs.CallsProper.{AreProper}
use Rattle.um_refinement.proofs.HeapSteps.{heap-sort}
use Rattle.um_refinement.proofs.IdleComplete.{past}
use Rattle.um_refinement.proofs.Kept.{clock-sort, joins-sort}
use Rattle.um_refinement.proofs.Offered.{own-unless, runs-first}
use Rattle.um_refinement.proofs.ListSingles.{AreSingle, is_single, shows_single}
use Rattle.um_refinement.proofs.MemoryPart.{InDomains}
use Rattle.um_refinement.proofs.MemorySteps.{memory-sort, part-total}
use Rattle.um_refinement.proofs.ObjectsKept.{found-below}
use Rattle.um_refinement.proofs.Reachable.{IsSound}
use Rattle.um_refinement.proofs.RowStands.{claimed-stands, held-claimed, live-stands}
use Rattle.um_refinement.proofs.RowSteps.{thread-sort}
use Rattle.um_refinement.proofs.StepsLeft.{is_first, offered-awake, offered-left, offered-on}
use Rattle.um_refinement.proofs.Stuck as S
use Rattle.um_refinement.proofs.Stuck.{HasRoom, domain-is, row-is}
use Rattle.um_refinement.proofs.WorkSteps.{object-sort}
use Rattle.um_refinement.proofs.Sums.{one-true}

-- What is asked of the events that are next: none is a resume, an inheritance or the drops of an end, and a mark that is cleared is of a row that
-- isn't free.
pub record EventsStand (f : Fine) : Type 0 where
  pub single : (k : ℕ) → k < f.cpus → AreSingle (f.processors k).todo
  pub clears : (k : ℕ) (a : Addr) (rest : Steps) (todo : Todos) → k < f.cpus → (f.processors k).todo ≡ Todo.show (Pending.ClearInit a) rest ∷ todo → is_free (row f (row_named f.image a)).stage ≡ false

-- in no thread's steps is the drops of an end in front of anything but a clearing
abbrev pub AreOrderly : State → Type 0
AreOrderly m = (t : ℕ) → are_orderly (thread_at m t).pending ≡ true

-- a thread that is held moves to a domain, by a step that is next
abbrev pub IsHeldMove : Fine → ℕ → Pending → Type 0
IsHeldMove f k (Pending.DomMove d who) = (fails (f.processors k).reply ≡ false) × ((word f who.0).held ≡ true)
IsHeldMove f k q = ⊥

module _ (f : Fine) (m : State) (rel : Rel f m) (proper : AreProper m.image m) (all : InDomains f m) (sound : IsSound m) (room : HasRoom f) (events : EventsStand f) (orderly : AreOrderly m) where
  -- At the word of the thread.

  own-word : (k : ℕ) → f.sites (Site.thread (f.processors k).context.thread) ≡ SiteState.thread (word f (f.processors k).context.thread)
  own-word k = thread-sort (f.processors k).context.thread (f.sites (Site.thread (f.processors k).context.thread)) (rel.sorts (Site.thread (f.processors k).context.thread))

  counted : (k : ℕ) → nat_lt (word f (f.processors k).context.thread).number 268435455 ≡ true
  counted k = S.counts f m rel room (Site.thread (f.processors k).context.thread) (SiteState.thread (word f (f.processors k).context.thread)) (own-word k)

  fits-at : (k : ℕ) (q : Pending) (rest : Steps) (todo : Todos) → IsHalted f k → (f.processors k).todo ≡ Todo.show q rest ∷ todo → IsOffered f.image (f.processors k).context q rest
  fits-at k q rest todo l at = (subst (Fits f.image (f.processors k).context) at (rel.processors k l.inside).list.fits).0

  run-at : (k : ℕ) (q : Pending) (rest : Steps) (todo : Todos) → IsHalted f k → (f.processors k).todo ≡ Todo.show q rest ∷ todo → runs (f.processors k) ≡ true
  run-at k q rest todo l at = runs-first rel l.inside (Todo.show q rest) todo at (λ hand. hand)

  is-of : (k : ℕ) (q : Pending) (rest : Steps) (todo : Todos) → IsHalted f k → (f.processors k).todo ≡ Todo.show q rest ∷ todo → IsOf f m (f.processors k).context
  is-of k q rest todo l at = (rel.contexts.running k l.inside (run-at k q rest todo l at)).of (offered-on f.image (f.processors k).context q rest (fits-at k q rest todo l at))

  awake-at : (k : ℕ) (q : Pending) (rest : Steps) (todo : Todos) → IsHalted f k → (f.processors k).todo ≡ Todo.show q rest ∷ todo → waits (q ∷ rest) ≡ false → waits (f.processors k).context.pending ≡ false
  awake-at k q rest todo l at awake = offered-awake f.image (f.processors k).context q rest (fits-at k q rest todo l at) awake

  proper-at : (k : ℕ) → IsOf f m (f.processors k).context → waits (f.processors k).context.pending ≡ false → (steps : Steps) → (f.processors k).context.pending ≡ steps → Proper m.image (thread_at m (f.processors k).context.thread).checked steps
  proper-at k of awake steps e =
      subst (Proper m.image (thread_at m (f.processors k).context.thread).checked) (sym (ap (λ (z : Thread). z.pending) (own-unless of awake)) ∙ e) (proper (f.processors k).context.thread).0

  -- the steps from one that is offered on
  proper-from : (k : ℕ) → IsOf f m (f.processors k).context → waits (f.processors k).context.pending ≡ false → (q : Pending) (rest : Steps) → IsOffered f.image (f.processors k).context q rest → is_first q ≡ false
      → Proper m.image (thread_at m (f.processors k).context.thread).checked (q ∷ rest)
  proper-from k of awake q rest offered other =
      offered-left f.image (f.processors k).context (Proper m.image (thread_at m (f.processors k).context.thread).checked) (λ who rest h. h.1) (λ from rest h. h)
      (proper-at k of awake (f.processors k).context.pending refl) q rest (λ on is. absurd (true≢false (sym is ∙ other))) offered

  proper-next : (k : ℕ) (q : Pending) (rest : Steps) (todo : Todos) → IsHalted f k → (f.processors k).todo ≡ Todo.show q rest ∷ todo → is_first q ≡ false → waits (q ∷ rest) ≡ false
      → Proper m.image (thread_at m (f.processors k).context.thread).checked (q ∷ rest)
  proper-next k q rest todo l at other awake = proper-from k (is-of k q rest todo l at) (awake-at k q rest todo l at awake) q rest (fits-at k q rest todo l at) other

  -- a thread that begins or exits is at rest, and hasn't ended
  begins-at : (k : ℕ) (rest : Steps) → IsOf f m (f.processors k).context → waits (f.processors k).context.pending ≡ false → IsOffered f.image (f.processors k).context Pending.Begin rest
      → ((f.processors k).context.ended ≡ false) × (is_some (instruction_at f.image (f.processors k).context.place) ≡ true)
  begins-at k rest of awake (O.goes e) = absurd (proper-at k of awake (Pending.Begin ∷ rest) e)
  begins-at k rest of awake (O.passed {who} e) = absurd (proper-at k of awake (Pending.Inherit who ∷ Pending.Begin ∷ rest) e).0
  begins-at k rest of awake (O.dropped {from} e) = absurd (proper-at k of awake (Pending.Drops from ∷ Pending.Begin ∷ rest) e)
  begins-at k _ of awake (O.begins e on i) = (on, i)

  exits-at : (k : ℕ) (rest : Steps) → IsOf f m (f.processors k).context → waits (f.processors k).context.pending ≡ false → IsOffered f.image (f.processors k).context Pending.Exit rest → (f.processors k).context.ended ≡ false
  exits-at k rest of awake (O.goes e) = absurd (proper-at k of awake (Pending.Exit ∷ rest) e)
  exits-at k rest of awake (O.passed {who} e) = absurd (proper-at k of awake (Pending.Inherit who ∷ Pending.Exit ∷ rest) e).0
  exits-at k rest of awake (O.dropped {from} e) = absurd (proper-at k of awake (Pending.Drops from ∷ Pending.Exit ∷ rest) e)
  exits-at k _ of awake (O.exits e on i) = on

  lives : (k : ℕ) → IsOf f m (f.processors k).context → (f.processors k).context.ended ≡ false → is_living (word f (f.processors k).context.thread).life ≡ true
  lives k of on =
      ap is_living (rel.threads (f.processors k).context.thread of.index).word.life
      ∙ living (thread_at m (f.processors k).context.thread).life of.started (sym of.ended ∙ on)

  -- the word of a thread with these flags
  flagged-word : (k : ℕ) (doomed aborted suspended : Bool) → (word f (f.processors k).context.thread).doomed ≡ doomed → (word f (f.processors k).context.thread).aborted ≡ aborted
      → (word f (f.processors k).context.thread).suspended ≡ suspended
      → f.sites (Site.thread (f.processors k).context.thread) ≡ SiteState.thread (record (word f (f.processors k).context.thread) { doomed = doomed; aborted = aborted; suspended = suspended })
  flagged-word k doomed aborted suspended e g h =
      own-word k ∙ (λ i. SiteState.thread (record (word f (f.processors k).context.thread) { doomed = e i; aborted = g i; suspended = h i }))

  begin : (k : ℕ) (rest : Steps) (todo : Todos) → IsHalted f k → (f.processors k).todo ≡ Todo.show Pending.Begin rest ∷ todo → ⊥
  begin k rest todo l at = by (word f t).doomed refl (word f t).aborted refl (word f t).suspended refl
    where
      t : ℕ
      t = (f.processors k).context.thread

      of : IsOf f m (f.processors k).context
      of = is-of k Pending.Begin rest todo l at

      facts : ((f.processors k).context.ended ≡ false) × (is_some (instruction_at f.image (f.processors k).context.place) ≡ true)
      facts = begins-at k rest of (awake-at k Pending.Begin rest todo l at refl) (fits-at k Pending.Begin rest todo l at)

      by : (d : Bool) → (word f t).doomed ≡ d → (a : Bool) → (word f t).aborted ≡ a → (s : Bool) → (word f t).suspended ≡ s → ⊥
      by true e a g s h = S.refused f m rel room k l at (flagged-word k true a s e g h) tt (λ i. counted k i && true) facts.1
      by false e true g s h = S.refused f m rel room k l at (flagged-word k false true s e g h) tt (λ i. counted k i && (lives k of facts.0 i && true)) facts.1
      by false e false g true h = S.refused f m rel room k l at (flagged-word k false false true e g h) tt (λ i. counted k i && true) facts.1
      by false e false g false h = S.refused f m rel room k l at (flagged-word k false false false e g h) tt (λ i. counted k i && (lives k of facts.0 i && true)) facts.1

  exit : (k : ℕ) (rest : Steps) (todo : Todos) → IsHalted f k → (f.processors k).todo ≡ Todo.show Pending.Exit rest ∷ todo → ⊥
  exit k rest todo l at = by (word f t).doomed refl (word f t).aborted refl (word f t).suspended refl
    where
      t : ℕ
      t = (f.processors k).context.thread

      of : IsOf f m (f.processors k).context
      of = is-of k Pending.Exit rest todo l at

      on : (f.processors k).context.ended ≡ false
      on = exits-at k rest of (awake-at k Pending.Exit rest todo l at refl) (fits-at k Pending.Exit rest todo l at)

      by : (d : Bool) → (word f t).doomed ≡ d → (a : Bool) → (word f t).aborted ≡ a → (s : Bool) → (word f t).suspended ≡ s → ⊥
      by true e a g s h = S.refused f m rel room k l at (flagged-word k true a s e g h) tt (λ i. counted k i && true) refl
      by false e true g s h = S.refused f m rel room k l at (flagged-word k false true s e g h) tt (λ i. counted k i && (lives k of on i && true)) refl
      by false e false g true h = S.refused f m rel room k l at (flagged-word k false false true e g h) tt (λ i. counted k i && true) refl
      by false e false g false h = S.refused f m rel room k l at (flagged-word k false false false e g h) tt (λ i. counted k i && (lives k of on i && true)) refl

  -- A check, at the word of a row or, where no object has that address, at its own.
  check : (k : ℕ) (a : Addr) (kind : Option Kind) (want : Want) (refusal : Refusal) (rest : Steps) (todo : Todos) → IsHalted f k
      → (f.processors k).todo ≡ Todo.show (Pending.Check a kind want refusal) rest ∷ todo → ⊥
  check k a kind want refusal rest todo l at = by (row_at f.image a.0) refl
    where
      holds : nat_lt (length (f.processors k).context.claims) 2 ≡ true
      holds = lt-ltb (length (f.processors k).context.claims) 2 (room.checks k a kind want refusal rest todo l.inside at)

      by : (o : Option ℕ) → row_at f.image a.0 ≡ o → ⊥
      by None e =
          S.refused f m rel room k l at (ap (λ o. f.sites (check_site f.image (f.processors k) o)) e ∙ own-word k) tt (λ i. counted k i && true) holds
      by (Some x) e =
          let is = row-is x (f.sites (Site.row x)) (rel.sorts (Site.row x)) in
          let few = lt-ltb (row f x).claims 127 (room.claims x (found-below m sound a.0 x (ap (λ (i : Image). row_at i a.0) rel.image ∙ e))) in
          S.refused f m rel room k l at (ap (λ o. f.sites (check_site f.image (f.processors k) o)) e ∙ is) tt
          (λ i. S.counts f m rel room (Site.row x) (SiteState.row (row f x)) is i && few i) holds

  -- Domains.

  -- the domain that an offered step names
  pub offered-in : (k : ℕ) (q : Pending) (rest : Steps) → IsHalted f k → runs (f.processors k) ≡ true → IsOffered f.image (f.processors k).context q rest → InImage (length f.image.domains) q
  offered-in k q rest l run offered = subst (λ (i : Image). InImage (length i.domains) q) rel.image (by q rest offered)
    where
      of : IsOf f m (f.processors k).context
      of = (rel.contexts.running k l.inside run).of (offered-on f.image (f.processors k).context q rest offered)

      by : (q : Pending) (rest : Steps) → IsOffered f.image (f.processors k).context q rest → InImage (length m.image.domains) q
      by Pending.Begin rest o = tt
      by Pending.Exit rest o = tt
      by Pending.Resume rest o = tt
      by q rest o = first-in m.image (thread_at m (f.processors k).context.thread).checked q rest (proper-from k of (offered-awake f.image (f.processors k).context q rest o refl) q rest o refl)

  -- that of a thread which is held
  pub own-domain : (k : ℕ) → IsHalted f k → runs (f.processors k) ≡ true → has_held (f.processors k) ≡ true → (f.processors k).domain < length f.image.domains
  own-domain k l run held =
      let t = (f.processors k).context.thread in
      let is = rel.contexts.running k l.inside run in
      let below = all t is.index is.started in
      subst (λ n. n < length f.image.domains) (sym ((rel.processors k l.inside).domain.kept held ∙ (rel.threads t is.index).word.domain)) below

  domain-word : (d : ℕ) → f.sites (Site.domain d) ≡ SiteState.domain (domain f d)
  domain-word d = domain-is d (f.sites (Site.domain d)) (rel.sorts (Site.domain d))

  -- who edits a domain is its writer
  edits-it : (k d : ℕ) (q : Pending) (rest : Steps) (todo : Todos) → IsHalted f k → (f.processors k).todo ≡ Todo.show q rest ∷ todo → edits_step d q ≡ true
      → (nat_lt (domain f d).number 268435455 && ((domain f d).writer && nat_lt (domain f d).version 1048575)) ≡ true
  edits-it k d q rest todo l at h =
      let few = edit-in (length f.image.domains) d q h (offered-in k q rest l (run-at k q rest todo l at) (fits-at k q rest todo l at)) in
      let part = part-total (λ j. one_if (edits d (f.processors j).todo)) f.cpus k l.inside in
      let mine : one_if (edits d (f.processors k).todo) ≡ 1 = ap (λ (z : Todos). one_if (edits d z)) at ∙ ap one_if h in
      let sum = (rel.domains d few).writers in
      let writer = one-true (domain f d).writer (omega (arith, part, mine, sum)) in
      let version = lt-ltb (domain f d).version 1048575 (room.counts.versions d few) in
      let number = S.counts f m rel room (Site.domain d) (SiteState.domain (domain f d)) (domain-word d) in
      λ i. number i && (writer i && version i)

  -- A move that fails is made at the domain, which is claimed, and any other one at the thread.
  move : (k d : ℕ) (who : ThreadIx) (rest : Steps) (todo : Todos) → IsHalted f k → (f.processors k).todo ≡ Todo.show (Pending.DomMove d who) rest ∷ todo → IsHeldMove f k (Pending.DomMove d who)
  move k d who rest todo l at = by (fails (f.processors k).reply) refl (word f who.0).held refl
    where
      few : d < length f.image.domains
      few = offered-in k (Pending.DomMove d who) rest l (run-at k (Pending.DomMove d who) rest todo l at) (fits-at k (Pending.DomMove d who) rest todo l at)

      none-if : (o : Option Partitions) (reply : Reply) → reply ≡ move_reply o → fails reply ≡ true → is_some o ≡ false
      none-if None reply e h = refl
      none-if (Some ps) reply e h = absurd (true≢false (sym h ∙ ap fails e))

      vain : fails (f.processors k).reply ≡ true → (nat_lt 0 (domain f d).readers && not (domain f d).init) ≡ true
      vain h =
          let moves : moves_to d (f.processors k).reply (f.processors k).todo ≡ true = ap (moves_to d (f.processors k).reply) at ∙ (λ i. h i && eq-eqb d d refl i) in
          let claims : reads d (f.processors k) ≡ true =
          ap (λ b. (has_claimed (f.processors k) && ((f.processors k).domain == d)) || b) moves ∙ or-true (has_claimed (f.processors k) && ((f.processors k).domain == d)) in
          let part = part-total (λ j. one_if (reads d (f.processors j))) f.cpus k l.inside in
          let mine : one_if (reads d (f.processors k)) ≡ 1 = ap one_if claims in
          let sum = (rel.domains d few).readers in
          let some = lt-ltb 0 (domain f d).readers (omega (arith, part, mine, sum)) in
          let reply = (rel.processors k l.inside).looks.reply d (ap moving at) in
          let init : (domain f d).init ≡ false = (rel.domains d few).init ∙ none-if (domain_at m d) (f.processors k).reply reply h in
          λ i. some i && not (init i)

      by : (b : Bool) → fails (f.processors k).reply ≡ b → (c : Bool) → (word f who.0).held ≡ c → IsHeldMove f k (Pending.DomMove d who)
      by false e true h = (e, h)
      by false e false h =
          let is = thread-sort who.0 (f.sites (Site.thread who.0)) (rel.sorts (Site.thread who.0)) in
          let most = room.domains in
          let below = lt-ltb d DOMAINS (omega (arith, few, most)) in
          absurd
          (S.refused f m rel room k l at (ap (λ b. f.sites (if b then Site.domain d else Site.thread who.0)) e ∙ is) tt (λ i. S.counts f m rel room (Site.thread who.0) (SiteState.thread (word f who.0)) is i && (not (h i) && below i)) refl)
      by true e c h =
          absurd
          (S.refused f m rel room k l at (ap (λ b. f.sites (if b then Site.domain d else Site.thread who.0)) e ∙ domain-word d) tt (λ i. S.counts f m rel room (Site.domain d) (SiteState.domain (domain f d)) (domain-word d) i && vain e i) refl)

  -- A thread is started at its word, with the domain of the one that starts it.
  start : (k : ℕ) (who : ThreadIx) (script : ℕ) (stack : Row) (priority : ℤ) (mode : Mode) (rest : Steps) (todo : Todos) → IsHalted f k
      → (f.processors k).todo ≡ Todo.show (Pending.Start who script stack priority mode) rest ∷ todo → ⊥
  start k who script stack priority mode rest todo l at =
      let p = f.processors k in
      let q = Pending.Start who script stack priority mode in
      let behind = (subst (Fits f.image p.context) at (rel.processors k l.inside).list.fits).1 in
      let list : p.todo ≡ Todo.show q rest ∷ Todo.let_go ∷ Todo.add (newborn f.image p.context q) ∷ [] = at ∙ ap (λ (z : Todos). Todo.show q rest ∷ z) behind in
      let held : has_held p ≡ true = ap (λ (z : Todos). list_any is_let_go z && not (list_any is_hold z)) list in
      let few = own-domain k l (run-at k q rest todo l at) held in
      let most = room.domains in
      let below = lt-ltb p.domain DOMAINS (omega (arith, few, most)) in
      let is = thread-sort who.0 (f.sites (Site.thread who.0)) (rel.sorts (Site.thread who.0)) in
      S.refused f m rel room k l at is tt
      (λ i. S.counts f m rel room (Site.thread who.0) _ is i && below i) refl

  -- Rows: a permission is given of an object that the call holds, or that is static; one that is published or marked as initialised is held
  -- too; and an object is born at a row that was reserved.

  guarded-at : (k : ℕ) → IsOf f m (f.processors k).context → waits (f.processors k).context.pending ≡ false → (steps : Steps) → (f.processors k).context.pending ≡ steps
      → Guarded m.image (thread_at m (f.processors k).context.thread).checked (behind_birth steps)
  guarded-at k of awake steps e =
      let t = (f.processors k).context.thread in
      subst (λ (z : Steps). Guarded m.image (thread_at m t).checked (behind_birth z)) (sym (ap (λ (z : Thread). z.pending) (own-unless of awake)) ∙ e)
      (subst (λ (call : Call). Guarded m.image call.checked (behind_birth call.pending)) (call_is m t) (sound.known.reached.guarded t))

  guarded-next : (k : ℕ) (q : Pending) (rest : Steps) (todo : Todos) → IsHalted f k → (f.processors k).todo ≡ Todo.show q rest ∷ todo → is_first q ≡ false → waits (q ∷ rest) ≡ false
      → Guarded m.image (thread_at m (f.processors k).context.thread).checked (behind_birth (q ∷ rest))
  guarded-next k q rest todo l at other awake =
      let checked = (thread_at m (f.processors k).context.thread).checked in
      offered-left f.image (f.processors k).context (λ steps. Guarded m.image checked (behind_birth steps)) (λ who rest h. all_behind m.image checked rest h) (λ from rest h. all_behind m.image checked rest h)
      (guarded-at k (is-of k q rest todo l at) (awake-at k q rest todo l at awake) (f.processors k).context.pending refl) q rest (λ on is. absurd (true≢false (sym is ∙ other))) (fits-at k q rest todo l at)

  born-next : (k : ℕ) (a : Addr) (rest : Steps) → IsOf f m (f.processors k).context → waits (f.processors k).context.pending ≡ false → IsOffered f.image (f.processors k).context (Pending.Born a) rest
      → bearing (thread_at m (f.processors k).context.thread).pending ≡ Some a.0
  born-next k a rest of awake (O.goes e) = ap bearing (sym (ap (λ (z : Thread). z.pending) (own-unless of awake)) ∙ e)
  born-next k a rest of awake (O.passed {who = w} e) = absurd (proper-at k of awake (Pending.Inherit w ∷ Pending.Born a ∷ rest) e).0
  born-next k a rest of awake (O.dropped {from} e) = absurd (guarded-at k of awake (Pending.Drops from ∷ Pending.Born a ∷ rest) e)

  -- the row of a reserved object is free
  reserved-free : (x : ℕ) → x < ROWS → (object_at m x).status ≡ Status.Reserved → is_free (row f x).stage ≡ true
  reserved-free x few is = by (nat_lt (vacaters f x) (recyclers f x)) refl
    where
      stage : (s : Stage) (r : Bool) → is_reserved (status_of s r) ≡ true → is_free s ≡ true
      stage Stage.Free r h = refl
      stage Stage.Live r h = absurd (false≢true h)
      stage Stage.Dying r h = absurd (false≢true h)
      stage Stage.Cleaning r h = absurd (false≢true h)

      by : (b : Bool) → nat_lt (vacaters f x) (recyclers f x) ≡ b → is_free (row f x).stage ≡ true
      by true e = absurd (false≢true (ap is_reserved (sym ((rel.rows x few).status.vacated (ltb-true (vacaters f x) (recyclers f x) e)).1 ∙ is)))
      by false e =
          let order = (rel.rows x few).cleaners.order in
          let least = past (vacaters f x) (recyclers f x) e in
          let status = (rel.rows x few).status.status (omega (arith, order, least)) in
          stage (row f x).stage (is_reserved (object_at m x).status) (ap is_reserved (sym status ∙ is))

  row-word : (x : ℕ) → f.sites (Site.row x) ≡ SiteState.row (row f x)
  row-word x = row-is x (f.sites (Site.row x)) (rel.sorts (Site.row x))

  row-counted : (x : ℕ) → nat_lt (row f x).number 1048575 ≡ true
  row-counted x = S.counts f m rel room (Site.row x) (SiteState.row (row f x)) (row-word x)

  named-row : (a : Addr) (x : ℕ) → row_at m.image a.0 ≡ Some x → row_named f.image a ≡ x
  named-row a x e = ap (λ (i : Image). row_named i a) (sym rel.image) ∙ ap (λ o. unwrap_or o 0) e

  on-of : (k : ℕ) (q : Pending) (rest : Steps) (todo : Todos) → IsHalted f k → (f.processors k).todo ≡ Todo.show q rest ∷ todo → is_over (f.processors k).context ≡ false
  on-of k q rest todo l at = offered-on f.image (f.processors k).context q rest (fits-at k q rest todo l at)

  -- the row of an object that the call holds isn't free
  held-row : (k : ℕ) (q : Pending) (rest : Steps) (todo : Todos) → IsHalted f k → (f.processors k).todo ≡ Todo.show q rest ∷ todo → (a : Addr)
      → Names m.image (thread_at m (f.processors k).context.thread).checked a.0
      → (x : ℕ) × (f.sites (Site.row (row_named f.image a)) ≡ SiteState.row (row f x)) × ((nat_lt (row f x).number 1048575 && not (is_free (row f x).stage)) ≡ true)
  held-row k q rest todo l at a names =
      let x = names.0 in
      let claimed = held-claimed f m rel sound k l.inside (run-at k q rest todo l at) (on-of k q rest todo l at) x names.2 in
      let stands = claimed-stands f m rel sound x claimed.0 claimed.1 in
      (x, ap (λ n. f.sites (Site.row n)) (named-row a x names.1) ∙ row-word x, λ i. row-counted x i && not (stands.0 i))

  own : (k : ℕ) (who : ThreadIx) (rest : Steps) (todo : Todos) → IsHalted f k → (f.processors k).todo ≡ Todo.show (Pending.Own who) rest ∷ todo → ⊥
  own k who rest todo l at = by (guarded-next k (Pending.Own who) rest todo l at refl refl).0
    where
      refused : (x : ℕ) → x < ROWS → own_row f.image who.0 ≡ x → (is_free (row f x).stage ≡ false) × (is_cleaning (row f x).stage ≡ false) → ⊥
      refused x low same stands =
          let few = lt-ltb (row f x).claims 127 (room.claims x low) in
          S.refused f m rel room k l at (ap (λ n. f.sites (Site.row n)) same ∙ row-word x) tt (λ i. row-counted x i && ((few i && not (stands.0 i)) && not (stands.1 i))) refl

      same-own : own_row f.image who.0 ≡ own_row m.image who.0
      same-own = ap (λ (i : Image). own_row i who.0) (sym rel.image)

      by : IsStatic m.image (thread_at m (f.processors k).context.thread).checked (own_row m.image who.0) → ⊥
      by (inl static) =
          let some = sound.known.reached.sited.few in
          let few : own_row m.image who.0 < ROWS = omega (arith, static, some) in
          refused (own_row m.image who.0) few same-own
          (live-stands f m rel sound (own_row m.image who.0) few (ap Plain.is_live (sym (status_is m (own_row m.image who.0))) ∙ sound.known.reached.static (own_row m.image who.0) static))
      by (inr held) =
          let claimed = held-claimed f m rel sound k l.inside (run-at k (Pending.Own who) rest todo l at) (on-of k (Pending.Own who) rest todo l at) (own_row m.image who.0) held.1 in
          refused (own_row m.image who.0) claimed.0 same-own (claimed-stands f m rel sound (own_row m.image who.0) claimed.0 claimed.1)

  born : (k : ℕ) (a : Addr) (rest : Steps) (todo : Todos) → IsHalted f k → (f.processors k).todo ≡ Todo.show (Pending.Born a) rest ∷ todo → ⊥
  born k a rest todo l at =
      let t = (f.processors k).context.thread in
      let next = born-next k a rest (is-of k (Pending.Born a) rest todo l at) (awake-at k (Pending.Born a) rest todo l at refl) (fits-at k (Pending.Born a) rest todo l at) in
      let reserved = sound.known.reached.reserved t a.0 (ap (λ (call : Call). bearing call.pending) (call_is m t) ∙ next) in
      let x = reserved.0 in
      let is : (object_at m x).status ≡ Status.Reserved = sym (status_is m x) ∙ reserved.2 in
      let many = sound.wide.objects in
      let below = inside-objects m.objects x (ap is_reserved is) in
      let free = reserved-free x (omega (arith, below, many)) is in
      S.refused f m rel room k l at (ap (λ n. f.sites (Site.row n)) (named-row a x reserved.1) ∙ row-word x) tt (λ i. row-counted x i && free i) refl

  -- At cells.

  abbrev at-memory : (n : ℕ) × (f.sites Site.memory ≡ SiteState.cell n (Cell.memory (bytes f)))
  at-memory = memory-sort (f.sites Site.memory) (rel.sorts Site.memory)

  -- what it takes of an act of a processor's thread
  abbrev at-taken : ℕ → Act → Bool
  at-taken k act =
      memory_takes (memory_says f.image (bytes f) Exchange.nothing (FineAct.Shown (record { thread = to_thread (f.processors k).context.thread; act = act }) More.Nothing))

  on-memory : nat_lt at-memory.0 268435455 ≡ true
  on-memory = S.counts f m rel room Site.memory (SiteState.cell at-memory.0 (Cell.memory (bytes f))) at-memory.1

  on-heap : nat_lt (heap-sort (f.sites Site.heap) (rel.sorts Site.heap)).0 268435455 ≡ true
  on-heap = let is = heap-sort (f.sites Site.heap) (rel.sorts Site.heap) in S.counts f m rel room Site.heap _ is.1

  on-object : (x : ℕ) → nat_lt (object-sort x (f.sites (Site.object x)) (rel.sorts (Site.object x))).0 268435455 ≡ true
  on-object x = let is = object-sort x (f.sites (Site.object x)) (rel.sorts (Site.object x)) in S.counts f m rel room (Site.object x) _ is.1

  on-clock : nat_lt (clock-sort (f.sites Site.clock) (rel.sorts Site.clock)).0 268435455 ≡ true
  on-clock = let is = clock-sort (f.sites Site.clock) (rel.sorts Site.clock) in S.counts f m rel room Site.clock _ is.1

  on-joins : nat_lt (joins-sort (f.sites Site.joins) (rel.sorts Site.joins)).0 268435455 ≡ true
  on-joins = let is = joins-sort (f.sites Site.joins) (rel.sorts Site.joins) in S.counts f m rel room Site.joins _ is.1

  -- the word of another thread
  other-word : (t : ℕ) → f.sites (Site.thread t) ≡ SiteState.thread (word f t)
  other-word t = thread-sort t (f.sites (Site.thread t)) (rel.sorts (Site.thread t))

  other-counted : (t : ℕ) → nat_lt (word f t).number 268435455 ≡ true
  other-counted t = S.counts f m rel room (Site.thread t) (SiteState.thread (word f t)) (other-word t)

  -- who is killed lives, and is aborted
  killed : (k : ℕ) (rest : Steps) (todo : Todos) → IsHalted f k → (f.processors k).todo ≡ Todo.show Pending.Killed rest ∷ todo → ⊥
  killed k rest todo l at = S.refused f m rel room k l at (own-word k) tt (λ i. counted k i && (lives k of on i && aborted i)) refl
    where
      of : IsOf f m (f.processors k).context
      of = is-of k Pending.Killed rest todo l at

      awake : waits (f.processors k).context.pending ≡ false
      awake = awake-at k Pending.Killed rest todo l at refl

      pending : (f.processors k).context.pending ≡ Pending.Killed ∷ []
      pending = by rest (fits-at k Pending.Killed rest todo l at)
        where
          by : (rest : Steps) → IsOffered f.image (f.processors k).context Pending.Killed rest → (f.processors k).context.pending ≡ Pending.Killed ∷ []
          by rest (O.goes e) = e ∙ ap (λ z. Pending.Killed ∷ z) (proper-at k of awake (Pending.Killed ∷ rest) e)
          by rest (O.passed {who} e) = absurd (proper-at k of awake (Pending.Inherit who ∷ Pending.Killed ∷ rest) e).0
          by rest (O.dropped {from} e) =
              absurd (false≢true (sym (ap are_orderly (sym (ap (λ (z : Thread). z.pending) (own-unless of awake)) ∙ e)) ∙ orderly (f.processors k).context.thread))

      on : (f.processors k).context.ended ≡ false
      on = which (f.processors k).context.ended refl
        where
          which : (b : Bool) → (f.processors k).context.ended ≡ b → b ≡ false
          which false e = refl
          which true e = absurd (false≢true (sym (ap (list_all is_ending) pending) ∙ (rel.processors k l.inside).domain.ends e))

      aborted : (word f (f.processors k).context.thread).aborted ≡ true
      aborted = (rel.threads (f.processors k).context.thread of.index).cut.aborted (sym (ap (λ (z : Thread). z.pending) (own-unless of awake)) ∙ pending)

  clear : (k : ℕ) (a : Addr) (rest : Steps) (todo : Todos) → IsHalted f k → (f.processors k).todo ≡ Todo.show (Pending.ClearInit a) rest ∷ todo → ⊥
  clear k a rest todo l at =
      let x = row_named f.image a in
      let stands = events.clears k a rest todo l.inside at in
      S.refused f m rel room k l at (row-word x) tt
      (λ i. row-counted x i && not (stands i)) refl

  never : (k : ℕ) (q : Pending) (rest : Steps) (todo : Todos) → IsHalted f k → (f.processors k).todo ≡ Todo.show q rest ∷ todo → is_single q ≡ false → ⊥
  never k q rest todo l at h = true≢false (sym (and_parts (is_single q) _ (sym (ap (list_all shows_single) at) ∙ events.single k l.inside)).0 ∙ h)

  -- an event that is next is such a move
  pub guarded : (k : ℕ) (q : Pending) (rest : Steps) (todo : Todos) → IsHalted f k → (f.processors k).todo ≡ Todo.show q rest ∷ todo → IsHeldMove f k q
  guarded k Pending.Begin rest todo l at = absurd (begin k rest todo l at)
  guarded k Pending.Exit rest todo l at = absurd (exit k rest todo l at)
  guarded k (Pending.Check a kind want refusal) rest todo l at = absurd (check k a kind want refusal rest todo l at)
  guarded k (Pending.Load to a n) rest todo l at =
      absurd
      (S.refused f m rel room k l at at-memory.1 tt
      (λ i. on-memory i && either-taken (at-taken k) (Act.Load a n 0) (Act.Fault Access.Read a n) (allows f.image (f.processors k) Access.Read a.0 n) refl refl i)
      (le-leb n 4 (room.loads k to a n rest todo l.inside at)))
  guarded k (Pending.Store a n value) rest todo l at =
      absurd
      (S.refused f m rel room k l at at-memory.1 tt
      (λ i. on-memory i && either-taken (at-taken k) (Act.Store a n value) (Act.Fault Access.Write a n) (allows f.image (f.processors k) Access.Write a.0 n) refl refl i) refl)
  guarded k (Pending.Fetch a) rest todo l at =
      absurd
      (S.refused f m rel room k l at at-memory.1 tt
      (λ i. on-memory i && either-taken (at-taken k) (Act.Fetch a) (Act.Fault Access.Exec a 4) (allows f.image (f.processors k) Access.Exec a.0 4) refl refl i) refl)
  guarded k (Pending.Probe a amount) rest todo l at = absurd (S.refused f m rel room k l at at-memory.1 tt (λ i. on-memory i && true) refl)
  guarded k (Pending.CopyIn a amount) rest todo l at = absurd (S.refused f m rel room k l at at-memory.1 tt (λ i. on-memory i && true) refl)
  guarded k (Pending.CopyOut a) rest todo l at = absurd (S.refused f m rel room k l at at-memory.1 tt (λ i. on-memory i && true) refl)
  guarded k (Pending.CopyStr a) rest todo l at = absurd (S.refused f m rel room k l at at-memory.1 tt (λ i. on-memory i && true) refl)
  guarded k (Pending.Erase stack) rest todo l at = absurd (S.refused f m rel room k l at at-memory.1 tt (λ i. on-memory i && true) refl)
  guarded k (Pending.Work a ask) rest todo l at =
      let x = row_named f.image a in
      absurd (S.refused f m rel room k l at (object-sort x (f.sites (Site.object x)) (rel.sorts (Site.object x))).1 tt (λ i. on-object x i && true) refl)
  guarded k (Pending.Named who) rest todo l at =
      let x = own_row f.image who.0 in
      absurd (S.refused f m rel room k l at (object-sort x (f.sites (Site.object x)) (rel.sorts (Site.object x))).1 tt (λ i. on-object x i && true) refl)
  guarded k (Pending.Answer reply to) rest todo l at = absurd (S.refused f m rel room k l at (own-word k) tt (λ i. counted k i && true) refl)
  guarded k (Pending.EnterUser script) rest todo l at = absurd (S.refused f m rel room k l at (own-word k) tt (λ i. counted k i && true) refl)
  guarded k (Pending.Fatal reason cause) rest todo l at = absurd (S.refused f m rel room k l at (own-word k) tt (λ i. counted k i && true) refl)
  guarded k (Pending.Dooms from) rest todo l at =
      let is = thread-sort from (f.sites (Site.thread from)) (rel.sorts (Site.thread from)) in
      absurd (S.refused f m rel room k l at is tt (λ i. S.counts f m rel room (Site.thread from) _ is i && true) refl)
  guarded k (Pending.DropPair who a) rest todo l at =
      let x = row_named f.image a in
      let is = row-is x (f.sites (Site.row x)) (rel.sorts (Site.row x)) in
      absurd (S.refused f m rel room k l at is tt (λ i. S.counts f m rel room (Site.row x) _ is i && true) refl)
  guarded k (Pending.Reserve kind) rest todo l at = absurd (S.refused f m rel room k l at (heap-sort (f.sites Site.heap) (rel.sorts Site.heap)).1 tt (λ i. on-heap i && true) refl)
  guarded k (Pending.Buffer size) rest todo l at = absurd (S.refused f m rel room k l at (heap-sort (f.sites Site.heap) (rel.sorts Site.heap)).1 tt (λ i. on-heap i && true) refl)
  guarded k (Pending.Unbuffer size) rest todo l at = absurd (S.refused f m rel room k l at (heap-sort (f.sites Site.heap) (rel.sorts Site.heap)).1 tt (λ i. on-heap i && true) refl)
  guarded k (Pending.DomInit d parts) rest todo l at =
      absurd (S.refused f m rel room k l at (domain-word d) tt (edits-it k d (Pending.DomInit d parts) rest todo l at (eq-eqb d d refl)) refl)
  guarded k (Pending.DomAdd d range attr) rest todo l at =
      absurd (S.refused f m rel room k l at (domain-word d) tt (edits-it k d (Pending.DomAdd d range attr) rest todo l at (eq-eqb d d refl)) refl)
  guarded k (Pending.DomRemove d range attr) rest todo l at =
      absurd (S.refused f m rel room k l at (domain-word d) tt (edits-it k d (Pending.DomRemove d range attr) rest todo l at (eq-eqb d d refl)) refl)
  guarded k (Pending.DomMove d who) rest todo l at = move k d who rest todo l at
  guarded k (Pending.Start who script stack priority mode) rest todo l at = absurd (start k who script stack priority mode rest todo l at)
  guarded k (Pending.Grant who a) rest todo l at =
      let row = held-row k (Pending.Grant who a) rest todo l at a (guarded-next k (Pending.Grant who a) rest todo l at refl refl).0 in absurd (S.refused f m rel room k l at row.1 tt row.2 refl)
  guarded k (Pending.Own who) rest todo l at = absurd (own k who rest todo l at)
  guarded k (Pending.Publish a) rest todo l at =
      let row = held-row k (Pending.Publish a) rest todo l at a (proper-next k (Pending.Publish a) rest todo l at refl refl).0 in absurd (S.refused f m rel room k l at row.1 tt row.2 refl)
  guarded k (Pending.SetInit a strict undo) rest todo l at =
      let row = held-row k (Pending.SetInit a strict undo) rest todo l at a (proper-next k (Pending.SetInit a strict undo) rest todo l at refl refl).0 in absurd (S.refused f m rel room k l at row.1 tt row.2 refl)
  guarded k (Pending.Born a) rest todo l at = absurd (born k a rest todo l at)
  guarded k (Pending.Arm ticks) rest todo l at = absurd (S.refused f m rel room k l at (clock-sort (f.sites Site.clock) (rel.sorts Site.clock)).1 tt (λ i. on-clock i && true) refl)
  guarded k (Pending.ArmTimer ticks) rest todo l at = absurd (S.refused f m rel room k l at (clock-sort (f.sites Site.clock) (rel.sorts Site.clock)).1 tt (λ i. on-clock i && true) refl)
  guarded k (Pending.Abort who) rest todo l at = absurd (S.refused f m rel room k l at (other-word who.0) tt (λ i. other-counted who.0 i && true) refl)
  guarded k (Pending.Suspend who) rest todo l at = absurd (S.refused f m rel room k l at (other-word who.0) tt (λ i. other-counted who.0 i && true) refl)
  guarded k (Pending.Continue who) rest todo l at = absurd (S.refused f m rel room k l at (other-word who.0) tt (λ i. other-counted who.0 i && true) refl)
  guarded k Pending.Killed rest todo l at = absurd (killed k rest todo l at)
  guarded k (Pending.Join who timeout) rest todo l at = absurd (S.refused f m rel room k l at (joins-sort (f.sites Site.joins) (rel.sorts Site.joins)).1 tt (λ i. on-joins i && true) refl)
  guarded k (Pending.FutexWait a value timeout) rest todo l at = absurd (S.refused f m rel room k l at at-memory.1 tt (λ i. on-memory i && true) refl)
  guarded k (Pending.FutexWake a every) rest todo l at = absurd (S.refused f m rel room k l at at-memory.1 tt (λ i. on-memory i && true) refl)
  guarded k Pending.Left rest todo l at = absurd (proper-next k Pending.Left rest todo l at refl refl)
  guarded k Pending.Tick rest todo l at = absurd (proper-next k Pending.Tick rest todo l at refl refl)
  guarded k (Pending.TimeOut who) rest todo l at = absurd (proper-next k (Pending.TimeOut who) rest todo l at refl refl)
  guarded k Pending.Expire rest todo l at = absurd (proper-next k Pending.Expire rest todo l at refl refl)
  guarded k (Pending.Cut who) rest todo l at = absurd (proper-next k (Pending.Cut who) rest todo l at refl refl)
  guarded k (Pending.CleanPair who) rest todo l at = absurd (proper-next k (Pending.CleanPair who) rest todo l at refl refl)
  guarded k Pending.Recycle rest todo l at = absurd (proper-next k Pending.Recycle rest todo l at refl refl)
  guarded k (Pending.ClearInit a) rest todo l at = absurd (clear k a rest todo l at)
  guarded k Pending.Resume rest todo l at = absurd (never k Pending.Resume rest todo l at refl)
  guarded k (Pending.Inherit who) rest todo l at = absurd (never k (Pending.Inherit who) rest todo l at refl)
  guarded k (Pending.Drops from) rest todo l at = absurd (never k (Pending.Drops from) rest todo l at refl)
