-- Where a processor can't step, it waits with nothing, a claim of a domain, or an event: a hold is never refused, a claim waits for one that writes or reads its domain, a
-- move for one that holds its thread. Where none that has a list can step, no processor has a step left to make: those have steps to make that wait for
-- nobody.
use Rattle.um_refinement.proofs.Words.{Addr, Image, ROWS, row_at, row_named, unwrap_or, is_some, ◌≡◌, ◌⊎◌, inl, inr, ℕ, zero, suc, ◌+◌, ◌<◌, ◌≤◌, Bool, true, false, [], ◌∷◌, length, Option, Some, None, refl, sym, ap, ◌∙◌, subst, arith, eq-eqb, ◌==◌, ◌&&◌, ◌||◌, not, nat_lt, list_any, and_parts, eqb-true, false≢true, lt-ltb, ltb-true, true≢false, or-true, THREADS, Reply, ThreadIx, Pending, Steps, is_empty, State, Context, ByOneOf, Todo, Todos, fails, SiteState, Exchange, Site, reads, Fine, domain, one_if, over_processors, word, AreFramed, Behind, access_over, adders, edits, edits_step, has_claimed, has_held, has_steps, is_hold, is_let_go, is_own_claim, is_own_done, moves_step, moves_to, of_thread, runs, runs_thread, Fits, behind_shown, is_over, Rel, IsHalted, IsStuck, runs_on, ⊎_elim, claimed_domain}
use Rattle.um_words.specs.declared.fine.Mark.{Mark}
use Rattle.um_words.specs.declared.kind.TheConstants.{SITES}
use Rattle.um_fine.specs.Places.{if_patient, is_patient, may_wait, noted_cell}
use Rattle.um_refinement.specs.Frames.{IsNoted, IsWaitOver, accesses, acts, arming, both, nothing, rereads, settled}
use Rattle.um_refinement.proofs.ObjectsKept.{found-below}
use Rattle.um_refinement.proofs.CallsProper.{AreProper}
use Rattle.um_refinement.proofs.DomainReads.{memory-edits-none, memory-moves-none}
use Rattle.um_refinement.proofs.HeldRows.{some-part}
use Rattle.um_refinement.proofs.MemoryPart.{InDomains}
use Rattle.um_refinement.proofs.MemorySteps.{part-total}
use Rattle.um_refinement.proofs.Reachable.{IsSound}
use Rattle.um_refinement.proofs.RowSteps.{thread-sort}
use Rattle.um_refinement.proofs.DomainFacts.{two-parts}
use Rattle.um_refinement.proofs.StepsLeft.{offered-on}
use Rattle.um_refinement.proofs.Stuck as S
use Rattle.um_refinement.proofs.EventFacts.{edit-in}
use Rattle.um_refinement.proofs.StuckEvents.{AreOrderly, EventsStand, IsHeldMove, guarded, offered-in, own-domain}
use Rattle.um_refinement.proofs.Stuck.{HasRoom, domain-is}
use Rattle.um_refinement.proofs.Sums.{one-true}

-- a grip that hasn't ended: its end is on the list, and its beginning isn't
abbrev is_between : (Todo → Bool) → (Todo → Bool) → Todos → Bool
is_between ends begins todo = list_any ends todo && not (list_any begins todo)

-- what isn't a mark to settle or the own word to read again isn't behind an act that is over
over-lacks : (test : Todo → Bool) → ((deadline : ℕ) (mark : Mark) → test (Todo.settle deadline mark) ≡ false) → ((site : ℕ) → test (Todo.reread site) ≡ false) → {over : Todos} → IsWaitOver over
    → list_any test over ≡ false
over-lacks test one two nothing = refl
over-lacks test one two (settled {deadline} {mark}) = ap (λ b. b || false) (one deadline mark)
over-lacks test one two (rereads {site}) = ap (λ b. b || false) (two site)
over-lacks test one two (both {deadline} {mark} {site}) = λ i. one deadline mark i || (two site i || false)

-- an edit is no move
edits-moves-none : (e d : ℕ) (reply : Reply) (q : Pending) → edits_step e q ≡ true → moves_step d reply q ≡ false
edits-moves-none e d reply (Pending.DomMove u who) h = absurd (false≢true h)
edits-moves-none e d reply q h = refl

-- What a processor waits with: nothing, an event, or a claim of a domain.
abbrev pub Waits : Todos → Type 0
Waits [] = Unit {0}
Waits (Todo.show q rest ∷ todo) = Unit {0}
Waits (Todo.read_claim d ∷ todo) = Unit {0}
Waits (Todo.write_claim d ∷ todo) = Unit {0}
Waits todo = ⊥

module _ (f : Fine) (m : State) (rel : Rel f m) (proper : AreProper m.image m) (all : InDomains f m) (sound : IsSound m) (room : HasRoom f) (events : EventsStand f) (orderly : AreOrderly m) where
  fits-at : (k : ℕ) (todo : Todos) → k < f.cpus → (f.processors k).todo ≡ todo → Fits f.image (f.processors k).context todo
  fits-at k todo l at = subst (Fits f.image (f.processors k).context) at (rel.processors k l).list.fits

  frames-at : (k : ℕ) (todo : Todos) → k < f.cpus → (f.processors k).todo ≡ todo → AreFramed f.image todo
  frames-at k todo l at = subst (AreFramed f.image) at (rel.processors k l).frames

  -- A hold isn't refused: no other processor runs the thread.

  not-over : (k : ℕ) → k < f.cpus → has_held (f.processors k) ≡ true → is_over (f.processors k).context ≡ false
  not-over k l held = ap (λ b. b && is_empty (f.processors k).context.pending) ((rel.processors k l).domain.lives held)

  abbrev lies : ℕ → ℕ → ℕ
  lies t k = one_if (runs_on t (f.processors k)) + of_thread t (adders (f.processors k).todo)

  lies-with : (t k : ℕ) → runs (f.processors k) ≡ true → (f.processors k).context.thread ≡ t → is_over (f.processors k).context ≡ false → 1 ≤ lies t k
  lies-with t k run same on =
      let one : one_if (runs_on t (f.processors k)) ≡ 1 = λ i. one_if ((run i && eq-eqb (f.processors k).context.thread t same i) && not (on i)) in omega (arith, one)

  lies-once : (t k j : ℕ) → t < THREADS → k < f.cpus → j < f.cpus → (k ≡ j → ⊥) → 1 ≤ lies t k → 1 ≤ lies t j → ⊥
  lies-once t k j few lk lj ne hk hj =
      let two = two-parts (lies t) f.cpus k j lk lj ne in
      let once = rel.contexts.once t few in
      omega (arith, two, once, hk, hj)

  holder : (t : ℕ) → t < THREADS → (word f t).held ≡ true → (j : ℕ) × (j < f.cpus) × (runs_thread t (f.processors j) ≡ true) × (has_held (f.processors j) ≡ true)
  holder t few held =
      let sum : over_processors f (λ p. one_if (runs_thread t p && has_held p)) ≡ 1 = sym (rel.threads t few).held.held ∙ ap one_if held in
      let one = some-part (λ j. one_if (runs_thread t (f.processors j) && has_held (f.processors j))) f.cpus (omega (arith, sum)) in
      let parts = and_parts (runs_thread t (f.processors one.0)) (has_held (f.processors one.0)) (one-true _ one.2) in
      (one.0, one.1, parts.0, parts.1)

  offered-behind : (c : Context) (rest : Todos) → Behind f.image Todo.hold rest → Fits f.image c rest → is_over c ≡ false
  offered-behind c rest (inl (access, e, (q, steps, over, at, on, done))) fit =
      offered-on f.image c q steps (subst (Fits f.image c) (e ∙ ap (λ (z : Todos). Todo.read_claim None ∷ Todo.region_load ∷ z) at) fit).0
  offered-behind c rest (inr (who, start, e, (q, steps, d, at, one))) fit = offered-on f.image c q steps (subst (Fits f.image c) (e ∙ ap (λ (z : Todos). Todo.unshut who ∷ z) at) fit).0

  hold : (k : ℕ) (rest : Todos) → IsHalted f k → (f.processors k).todo ≡ Todo.hold ∷ rest → ⊥
  hold k rest l at = by (word f (f.processors k).context.thread).held refl
    where
      run : runs (f.processors k) ≡ true
      run = S.running f m rel room k l.inside Todo.hold rest at (λ hand. hand)

      few : (f.processors k).context.thread < THREADS
      few = (rel.contexts.running k l.inside run).index

      on : is_over (f.processors k).context ≡ false
      on = offered-behind (f.processors k).context rest (frames-at k (Todo.hold ∷ rest) l.inside at).0 (fits-at k (Todo.hold ∷ rest) l.inside at)

      holds-none : has_held (f.processors k) ≡ true → ⊥
      holds-none h =
          let parts = and_parts (list_any is_let_go (f.processors k).todo) (not (list_any is_hold (f.processors k).todo)) h in
          false≢true (sym (ap (λ (z : Todos). not (list_any is_hold z)) at) ∙ parts.1)

      is : f.sites (Site.thread (f.processors k).context.thread) ≡ SiteState.thread (word f (f.processors k).context.thread)
      is = thread-sort (f.processors k).context.thread (f.sites (Site.thread (f.processors k).context.thread)) (rel.sorts (Site.thread (f.processors k).context.thread))

      by : (b : Bool) → (word f (f.processors k).context.thread).held ≡ b → ⊥
      by false e =
          S.not-taken f m rel room k (Todo.hold ∷ rest) _ (S.plain f m rel room) Exchange.nothing l at is tt
          (λ i. S.counts f m rel room (Site.thread (f.processors k).context.thread) _ is i && not (e i)) refl
      by true e =
          let one = holder (f.processors k).context.thread few e in
          let parts = and_parts (runs (f.processors one.0)) _ one.2 in
          lies-once (f.processors k).context.thread k one.0 few l.inside one.1 (λ same. holds-none (ap (λ n. has_held (f.processors n)) same ∙ one.3))
          (lies-with (f.processors k).context.thread k run refl on)
          (lies-with (f.processors k).context.thread one.0 parts.0 (eqb-true (f.processors one.0).context.thread _ parts.1) (not-over one.0 one.1 one.3))

  -- Claims of domains.

  -- who reads a domain
  reader-counts : (k d : ℕ) → k < f.cpus → d < length f.image.domains → reads d (f.processors k) ≡ true → 0 < (domain f d).readers
  reader-counts k d l few h =
      let part = part-total (λ j. one_if (reads d (f.processors j))) f.cpus k l in
      let one : one_if (reads d (f.processors k)) ≡ 1 = ap one_if h in
      let sum = (rel.domains d few).readers in
      omega (arith, part, one, sum)

  ends-read : (k d : ℕ) (which : Option ℕ) (rest : Todos) → IsHalted f k → (f.processors k).todo ≡ Todo.read_done which ∷ rest → claimed_domain f.image (f.processors k) which ≡ d
      → d < length f.image.domains → reads d (f.processors k) ≡ true → ⊥
  ends-read k d which rest l at same few h =
      let is : f.sites (Site.domain (claimed_domain f.image (f.processors k) which)) ≡ SiteState.domain (domain f d) =
      ap (λ n. f.sites (Site.domain n)) same ∙ domain-is d (f.sites (Site.domain d)) (rel.sorts (Site.domain d)) in
      let some = lt-ltb 0 (domain f d).readers (reader-counts k d l.inside few h) in
      S.not-taken f m rel room k (Todo.read_done which ∷ rest) _ (S.plain f m rel room) Exchange.nothing l at is tt
      (λ i. S.counts f m rel room (Site.domain (claimed_domain f.image (f.processors k) which)) _ is i && some i) refl

  read-done : (k : ℕ) (which : Option ℕ) (rest : Todos) → IsHalted f k → (f.processors k).todo ≡ Todo.read_done which ∷ rest → ⊥
  read-done k None rest l at =
      let p = f.processors k in
      let (over, behind, done) = (frames-at k (Todo.read_done None ∷ rest) l.inside at).0 in
      let list : p.todo ≡ Todo.read_done None ∷ Todo.let_go ∷ over = at ∙ ap (λ (z : Todos). Todo.read_done None ∷ z) behind in
      let held : has_held p ≡ true = ap (λ (z : Todos). list_any is_let_go z && not (list_any is_hold z)) list ∙ ap not (over-lacks is_hold (λ deadline mark. refl) (λ site. refl) done) in
      let claimed : has_claimed p ≡ true = ap (is_between is_own_done is_own_claim) list ∙ ap not (over-lacks is_own_claim (λ deadline mark. refl) (λ site. refl) done) in
      ends-read k p.domain None rest l at refl (own-domain f m rel proper all sound room events orderly k l (S.running f m rel room k l.inside (Todo.read_done None) rest at (λ hand. hand)) held)
      (λ i. (claimed i && eq-eqb p.domain p.domain refl i) || moves_to p.domain p.reply p.todo)
  read-done k (Some d) rest l at =
      let p = f.processors k in
      let move = (frames-at k (Todo.read_done (Some d) ∷ rest) l.inside at).0 in
      let offered = (subst (Fits f.image p.context) move.2 (fits-at k (Todo.read_done (Some d) ∷ rest) l.inside at)).0 in
      let moves : moves_to d p.reply p.todo ≡ true = ap (moves_to d p.reply) at ∙ eq-eqb d d refl in
      ends-read k d (Some d) rest l at refl
      (offered-in f m rel proper all sound room events orderly k (Pending.DomMove d move.0) move.1 l (S.running f m rel room k l.inside (Todo.read_done (Some d)) rest at (λ hand. hand)) offered)
      (ap (λ b. (has_claimed p && (p.domain == d)) || b) moves ∙ or-true (has_claimed p && (p.domain == d)))

  -- A note is of a cell in which threads wait.

  row-few : (a : Addr) → row_named f.image a < ROWS
  row-few a = by (row_at f.image a.0) refl
    where
      by : (o : Option ℕ) → row_at f.image a.0 ≡ o → unwrap_or o 0 < ROWS
      by None e = omega arith
      by (Some x) e = found-below m sound a.0 x (ap (λ (i : Image). row_at i a.0) rel.image ∙ e)

  some-site : {a b : ℕ} → Some a ≡ Some b → a ≡ b
  some-site {a} h = ap (λ (o : Option ℕ). unwrap_or o a) h

  patient-few : (b : Bool) (n site : ℕ) → if_patient b n ≡ Some site → n < SITES → site < SITES
  patient-few true n site h few = subst (λ z. z < SITES) (some-site h) few
  patient-few false n site h few = absurd (false≢true (ap is_some h))

  noted-few : (steps : Steps) (site : ℕ) → noted_cell f.image steps ≡ Some site → site < SITES
  noted-few (Pending.Work a ask ∷ rest) site h = let few = row-few a in patient-few (may_wait ask) (168 + row_named f.image a) site h (omega (arith, few))
  noted-few (Pending.Join who timeout ∷ rest) site h = patient-few (is_patient timeout) 308 site h (omega arith)
  noted-few (Pending.FutexWait a value timeout ∷ rest) site h = patient-few (is_patient timeout) 304 site h (omega arith)
  noted-few steps site h = absurd (false≢true (ap is_some h))

  note : (k site : ℕ) (rest : Todos) → IsHalted f k → (f.processors k).todo ≡ Todo.note site ∷ rest → ⊥
  note k site rest l at =
      let t = (f.processors k).context.thread in
      let is = thread-sort t (f.sites (Site.thread t)) (rel.sorts (Site.thread t)) in
      let few = lt-ltb site SITES (by (frames-at k (Todo.note site ∷ rest) l.inside at).0) in
      S.not-taken f m rel room k (Todo.note site ∷ rest) _ (S.plain f m rel room) Exchange.nothing l at is tt (λ i. S.counts f m rel room (Site.thread t) _ is i && few i) refl
    where
      by : {todo : Todos} → IsNoted f.image site todo → site < SITES
      by (acts {q} h) = noted-few (q ∷ []) site h
      by (accesses {q} h) = noted-few (q ∷ []) site h
      by (arming {rest} is h) = noted-few rest site h

  -- so nobody waits with any other step
  pub only : (k : ℕ) (todo : Todos) → IsHalted f k → (f.processors k).todo ≡ todo → Waits todo
  only k [] l at = tt
  only k (Todo.show q rest ∷ todo) l at = tt
  only k (Todo.read_claim d ∷ todo) l at = tt
  only k (Todo.write_claim d ∷ todo) l at = tt
  only k (Todo.hold ∷ todo) l at = hold k todo l at
  only k (Todo.let_go ∷ todo) l at = S.let-go f m rel room k todo l at
  only k (Todo.read_done d ∷ todo) l at = read-done k d todo l at
  only k (Todo.region_load ∷ todo) l at = S.region-load f m rel room k todo l at
  only k (Todo.edit d q ∷ todo) l at = S.edit f m rel room k d q todo l at
  only k (Todo.size_look x ∷ todo) l at = S.size-look f m rel room k x todo l at
  only k (Todo.end_call x ∷ todo) l at = S.end-call f m rel room k x todo l at
  only k (Todo.wake who told ∷ todo) l at = S.wake f m rel room k who told todo l at
  only k (Todo.add c ∷ todo) l at = S.add f m rel room k c todo l at
  only k (Todo.pass who x ∷ todo) l at = S.pass f m rel room k who x todo l at
  only k (Todo.drop x ∷ todo) l at = S.drop f m rel room k x todo l at
  only k (Todo.clean_pair who x ∷ todo) l at = S.clean-pair f m rel room k who x todo l at
  only k (Todo.wipe x ∷ todo) l at = S.wipe f m rel room k x todo l at
  only k (Todo.vacate x ∷ todo) l at = S.vacate f m rel room k x todo l at
  only k (Todo.recycle x ∷ todo) l at = S.recycle f m rel room k x todo l at
  only k (Todo.note site ∷ todo) l at = note k site todo l at
  only k (Todo.owe ∷ todo) l at = S.owe f m rel room k todo l at
  only k (Todo.settle deadline mark ∷ todo) l at = S.settle f m rel room k deadline mark todo l at
  only k (Todo.reread site ∷ todo) l at = S.reread f m rel room k site todo l at
  only k (Todo.look who site before ∷ todo) l at = S.look f m rel room k who site before todo l at
  only k (Todo.tell_cut who ∷ todo) l at = S.tell-cut f m rel room k who todo l at
  only k (Todo.rouse who ∷ todo) l at = S.rouse f m rel room k who todo l at
  only k (Todo.sleep ∷ todo) l at = S.sleep f m rel room k todo l at
  only k (Todo.reread_asleep ∷ todo) l at = S.reread-asleep f m rel room k todo l at
  only k (Todo.unshut who ∷ todo) l at = S.unshut f m rel room k who todo l at
  only k (Todo.leave ∷ todo) l at = S.leave f m rel room k todo l at
  only k (Todo.handle deadline mark ∷ todo) l at = S.handle f m rel room k deadline mark todo l at
  only k (Todo.paid ∷ todo) l at = S.paid f m rel room k todo l at
  only k (Todo.park ∷ todo) l at = S.park f m rel room k todo l at
  only k (Todo.done ∷ todo) l at = S.done f m rel room k todo l at

  -- A claim to read a domain is refused where someone writes it, and one to write where someone writes or reads it.

  claims-read : (k d : ℕ) (which : Option ℕ) (rest : Todos) → IsHalted f k → (f.processors k).todo ≡ Todo.read_claim which ∷ rest → claimed_domain f.image (f.processors k) which ≡ d
      → d < length f.image.domains → (domain f d).writer ≡ true
  claims-read k d which rest l at same few = by (domain f d).writer refl
    where
      by : (b : Bool) → (domain f d).writer ≡ b → b ≡ true
      by true free = refl
      by false free =
          let is : f.sites (Site.domain (claimed_domain f.image (f.processors k) which)) ≡ SiteState.domain (domain f d) =
          ap (λ n. f.sites (Site.domain n)) same ∙ domain-is d (f.sites (Site.domain d)) (rel.sorts (Site.domain d)) in
          let some = lt-ltb (domain f d).readers 127 (room.readers d few) in
          absurd
          (S.not-taken f m rel room k (Todo.read_claim which ∷ rest) _ (S.plain f m rel room) Exchange.nothing l at is tt
          (λ i. S.counts f m rel room (Site.domain (claimed_domain f.image (f.processors k) which)) _ is i && (not (free i) && some i)) refl)

  pub read-waits : (k : ℕ) (which : Option ℕ) (rest : Todos) → IsHalted f k → (f.processors k).todo ≡ Todo.read_claim which ∷ rest
      → (claimed_domain f.image (f.processors k) which < length f.image.domains) × ((domain f (claimed_domain f.image (f.processors k) which)).writer ≡ true)
  read-waits k None rest l at =
      let p = f.processors k in
      let (access, behind, (q, steps, over, there, on, done)) = (frames-at k (Todo.read_claim None ∷ rest) l.inside at).0 in
      let list : p.todo ≡ Todo.read_claim None ∷ Todo.region_load ∷ Todo.show q steps ∷ access_over over =
      at ∙ (ap (λ (z : Todos). Todo.read_claim None ∷ z) behind ∙ ap (λ (z : Todos). Todo.read_claim None ∷ Todo.region_load ∷ z) there) in
      let held : has_held p ≡ true = ap (λ (z : Todos). list_any is_let_go z && not (list_any is_hold z)) list ∙ ap not (over-lacks is_hold (λ deadline mark. refl) (λ site. refl) done) in
      let few = own-domain f m rel proper all sound room events orderly k l (S.running f m rel room k l.inside (Todo.read_claim None) rest at (λ hand. hand)) held in
      (few, claims-read k p.domain None rest l at refl few)
  read-waits k (Some d) rest l at =
      let p = f.processors k in
      let move = (frames-at k (Todo.read_claim (Some d) ∷ rest) l.inside at).0 in
      let offered = (subst (Fits f.image p.context) move.2 (fits-at k (Todo.read_claim (Some d) ∷ rest) l.inside at)).0 in
      let few =
      offered-in f m rel proper all sound room events orderly k (Pending.DomMove d move.0) move.1 l (S.running f m rel room k l.inside (Todo.read_claim (Some d)) rest at (λ hand. hand)) offered in
      (few, claims-read k d (Some d) rest l at refl few)

  pub write-waits : (k d : ℕ) (rest : Todos) → IsHalted f k → (f.processors k).todo ≡ Todo.write_claim d ∷ rest
      → (d < length f.image.domains) × (((domain f d).writer ≡ true) ⊎ (0 < (domain f d).readers))
  write-waits k d rest l at = (few, by (domain f d).writer refl (domain f d).readers refl)
    where
      few : d < length f.image.domains
      few =
          let p = f.processors k in
          let frame = (frames-at k (Todo.write_claim d ∷ rest) l.inside at).0 in
          let offered = (subst (Fits f.image p.context) frame.2 (fits-at k (Todo.write_claim d ∷ rest) l.inside at)).0 in
          edit-in (length f.image.domains) d frame.0 frame.3 (offered-in f m rel proper all sound room events orderly k frame.0 frame.1 l (S.running f m rel room k l.inside (Todo.write_claim d) rest at (λ hand. hand)) offered)

      is : f.sites (Site.domain d) ≡ SiteState.domain (domain f d)
      is = domain-is d (f.sites (Site.domain d)) (rel.sorts (Site.domain d))

      by : (b : Bool) → (domain f d).writer ≡ b → (n : ℕ) → (domain f d).readers ≡ n → (b ≡ true) ⊎ (0 < n)
      by true free n none = inl refl
      by false free (suc n) none = inr (omega arith)
      by false free zero none =
          absurd
          (S.not-taken f m rel room k (Todo.write_claim d ∷ rest) _ (S.plain f m rel room) Exchange.nothing l at is tt
          (λ i. S.counts f m rel room (Site.domain d) _ is i && (not (free i) && eq-eqb (domain f d).readers 0 none i)) refl)

-- no processor with a list can step
abbrev pub IsHalting : Fine → Type 0
IsHalting f = (k : ℕ) → k < f.cpus → has_steps (f.processors k).todo ≡ true → IsHalted f k

-- where none can step, each one can't
pub halts : (f : Fine) → IsStuck f → (k : ℕ) → k < f.cpus → IsHalted f k
halts f stuck k l = record { inside = l; stuck = λ e same may taken. stuck e (subst (λ (n : ℕ). ByOneOf f.image f.cpus (f.processors n) e) (sym same) may) taken }

module _ (f : Fine) (m : State) (rel : Rel f m) (proper : AreProper m.image m) (all : InDomains f m) (sound : IsSound m) (room : HasRoom f) (events : EventsStand f) (orderly : AreOrderly m) (halting : IsHalting f) where
  halted : (k : ℕ) (todo : Todos) → k < f.cpus → (f.processors k).todo ≡ todo → Waits todo
  halted k [] l at = tt
  halted k (q ∷ todo) l at = only f m rel proper all sound room events orderly k (q ∷ todo) (halting k l (ap has_steps at)) at

  -- An event that is next moves a thread that is held.
  no-event : (k : ℕ) (q : Pending) (rest : Steps) (todo : Todos) → k < f.cpus → (f.processors k).todo ≡ Todo.show q rest ∷ todo → (IsHeldMove f k q → ⊥) → ⊥
  no-event k q rest todo l at other = other (guarded f m rel proper all sound room events orderly k q rest todo (halting k l (ap has_steps at)) at)

  -- Nobody writes a domain: who does has an event next.

  edits-held : (k d : ℕ) (q : Pending) → edits_step d q ≡ true → IsHeldMove f k q → ⊥
  edits-held k d (Pending.DomMove e who) h held = false≢true h
  edits-held k d q h held = held

  no-edit : (k d : ℕ) (todo : Todos) → k < f.cpus → (f.processors k).todo ≡ todo → Waits todo → edits d todo ≡ true → ⊥
  no-edit k d [] l at w h = false≢true h
  no-edit k d (Todo.show q rest ∷ todo) l at w h = no-event k q rest todo l at (edits-held k d q h)
  no-edit k d (Todo.read_claim None ∷ todo) l at w h =
      let (access, behind, (q, steps, over, there, on, done)) = (frames-at f m rel proper all sound room events orderly k (Todo.read_claim None ∷ todo) l at).0 in
      true≢false (sym h ∙ (ap (edits d) (behind ∙ ap (λ (z : Todos). Todo.region_load ∷ z) there) ∙ memory-edits-none d q on))
  no-edit k d (Todo.read_claim (Some e) ∷ todo) l at w h = false≢true (sym (ap (edits d) (frames-at f m rel proper all sound room events orderly k (Todo.read_claim (Some e) ∷ todo) l at).0.2) ∙ h)
  no-edit k d (Todo.write_claim e ∷ todo) l at w h = false≢true h
  no-edit k d todo l at w h = absurd w

  no-writer : (d : ℕ) → d < length f.image.domains → (domain f d).writer ≡ false
  no-writer d few = by (domain f d).writer refl
    where
      by : (b : Bool) → (domain f d).writer ≡ b → b ≡ false
      by false e = refl
      by true e =
          let sum : over_processors f (λ p. one_if (edits d p.todo)) ≡ 1 = sym (rel.domains d few).writers ∙ ap one_if e in
          let one = some-part (λ j. one_if (edits d (f.processors j).todo)) f.cpus (omega (arith, sum)) in
          absurd (no-edit one.0 d (f.processors one.0).todo one.1 refl (halted one.0 (f.processors one.0).todo one.1 refl) (one-true _ one.2))

  -- Nobody reads a domain: who does has an event next.

  -- an event behind which a grip ends is no move
  gripped-other : (ends begins : Todo → Bool) (k : ℕ) (c : Context)
      → ((d : ℕ) (who : ThreadIx) (rest : Steps) → is_between ends begins (Todo.show (Pending.DomMove d who) rest ∷ behind_shown f.image c (Pending.DomMove d who)) ≡ false)
      → (q : Pending) (rest : Steps) (todo : Todos) → todo ≡ behind_shown f.image c q → is_between ends begins (Todo.show q rest ∷ todo) ≡ true → IsHeldMove f k q → ⊥
  gripped-other ends begins k c none (Pending.DomMove d who) rest todo behind h held =
      false≢true (sym (ap (λ (z : Todos). is_between ends begins (Todo.show (Pending.DomMove d who) rest ∷ z)) behind ∙ none d who rest) ∙ h)
  gripped-other ends begins k c none q rest todo behind h held = held

  no-claim : (k : ℕ) (todo : Todos) → k < f.cpus → (f.processors k).todo ≡ todo → Waits todo → is_between is_own_done is_own_claim todo ≡ true → ⊥
  no-claim k [] l at w h = false≢true h
  no-claim k (Todo.show q rest ∷ todo) l at w h =
      no-event k q rest todo l at (gripped-other is_own_done is_own_claim k (f.processors k).context (λ d who more. refl) q rest todo (fits-at f m rel proper all sound room events orderly k (Todo.show q rest ∷ todo) l at).1 h)
  no-claim k (Todo.read_claim None ∷ todo) l at w h = false≢true (and_parts (list_any is_own_done todo) false h).1
  no-claim k (Todo.read_claim (Some e) ∷ todo) l at w h =
      false≢true (sym (ap (is_between is_own_done is_own_claim) (frames-at f m rel proper all sound room events orderly k (Todo.read_claim (Some e) ∷ todo) l at).0.2) ∙ h)
  no-claim k (Todo.write_claim e ∷ todo) l at w h =
      false≢true (sym (ap (is_between is_own_done is_own_claim) (frames-at f m rel proper all sound room events orderly k (Todo.write_claim e ∷ todo) l at).0.2) ∙ h)
  no-claim k todo l at w h = absurd w

  fails-held : (k d : ℕ) (q : Pending) → moves_step d (f.processors k).reply q ≡ true → IsHeldMove f k q → ⊥
  fails-held k d (Pending.DomMove e who) h held = true≢false (sym (and_parts (fails (f.processors k).reply) (d == e) h).0 ∙ held.0)
  fails-held k d q h held = held

  no-move : (k d : ℕ) (todo : Todos) → k < f.cpus → (f.processors k).todo ≡ todo → Waits todo → moves_to d (f.processors k).reply todo ≡ true → ⊥
  no-move k d [] l at w h = false≢true h
  no-move k d (Todo.show q rest ∷ todo) l at w h = no-event k q rest todo l at (fails-held k d q h)
  no-move k d (Todo.read_claim None ∷ todo) l at w h =
      let (access, behind, (q, steps, over, there, on, done)) = (frames-at f m rel proper all sound room events orderly k (Todo.read_claim None ∷ todo) l at).0 in
      true≢false (sym h ∙ (ap (moves_to d (f.processors k).reply) (behind ∙ ap (λ (z : Todos). Todo.region_load ∷ z) there) ∙ memory-moves-none d (f.processors k).reply q on))
  no-move k d (Todo.read_claim (Some e) ∷ todo) l at w h = false≢true h
  no-move k d (Todo.write_claim e ∷ todo) l at w h =
      let list = (frames-at f m rel proper all sound room events orderly k (Todo.write_claim e ∷ todo) l at).0 in
      true≢false (sym h ∙ (ap (moves_to d (f.processors k).reply) list.2 ∙ edits-moves-none e d (f.processors k).reply list.0 list.3))
  no-move k d todo l at w h = absurd w

  no-reader : (d : ℕ) → d < length f.image.domains → (domain f d).readers ≡ 0
  no-reader d few = by (domain f d).readers refl
    where
      here : (k : ℕ) → k < f.cpus → reads d (f.processors k) ≡ true → ⊥
      here k l h = by (has_claimed (f.processors k) && ((f.processors k).domain == d)) refl h
        where
          waits : Waits (f.processors k).todo
          waits = halted k (f.processors k).todo l refl

          by : (b : Bool) → (has_claimed (f.processors k) && ((f.processors k).domain == d)) ≡ b → (b || moves_to d (f.processors k).reply (f.processors k).todo) ≡ true → ⊥
          by true e h = no-claim k (f.processors k).todo l refl waits (and_parts (has_claimed (f.processors k)) _ e).0
          by false e h = no-move k d (f.processors k).todo l refl waits h

      by : (n : ℕ) → (domain f d).readers ≡ n → n ≡ 0
      by zero e = refl
      by (suc n) e =
          let sum = (rel.domains d few).readers in
          let one = some-part (λ j. one_if (reads d (f.processors j))) f.cpus (omega (arith, sum, e)) in absurd (here one.0 one.1 (one-true _ one.2))

  -- So no claim is refused.

  read-claim : (k : ℕ) (which : Option ℕ) (rest : Todos) → k < f.cpus → (f.processors k).todo ≡ Todo.read_claim which ∷ rest → ⊥
  read-claim k which rest l at =
      let waits = read-waits f m rel proper all sound room events orderly k which rest (halting k l (ap has_steps at)) at in
      true≢false (sym waits.1 ∙ no-writer (claimed_domain f.image (f.processors k) which) waits.0)

  write-claim : (k d : ℕ) (rest : Todos) → k < f.cpus → (f.processors k).todo ≡ Todo.write_claim d ∷ rest → ⊥
  write-claim k d rest l at =
      let waits = write-waits f m rel proper all sound room events orderly k d rest (halting k l (ap has_steps at)) at in
      ⊎_elim (λ writes. true≢false (sym writes ∙ no-writer d waits.0)) (λ some. let none = no-reader d waits.0 in omega (arith, some, none)) waits.1

  -- Nobody holds a thread: who does has an event next, and no move.

  no-holder : (k : ℕ) (todo : Todos) → k < f.cpus → (f.processors k).todo ≡ todo → Waits todo → is_between is_let_go is_hold todo ≡ true → ⊥
  no-holder k [] l at w h = false≢true h
  no-holder k (Todo.show q rest ∷ todo) l at w h =
      no-event k q rest todo l at (gripped-other is_let_go is_hold k (f.processors k).context (λ d who more. refl) q rest todo (fits-at f m rel proper all sound room events orderly k (Todo.show q rest ∷ todo) l at).1 h)
  no-holder k (Todo.read_claim which ∷ todo) l at w h = read-claim k which todo l at
  no-holder k (Todo.write_claim d ∷ todo) l at w h = write-claim k d todo l at
  no-holder k todo l at w h = absurd w

  no-held : (k : ℕ) (q : Pending) → IsHeldMove f k q → ⊥
  no-held k (Pending.DomMove d who) h =
      let one = holder f m rel proper all sound room events orderly who.0 (inside (nat_lt who.0 THREADS) refl) h.1 in
      no-holder one.0 (f.processors one.0).todo one.1 refl (halted one.0 (f.processors one.0).todo one.1 refl) one.3
    where
      inside : (b : Bool) → nat_lt who.0 THREADS ≡ b → who.0 < THREADS
      inside true e = ltb-true who.0 THREADS e
      inside false e = absurd (true≢false (sym h.1 ∙ room.inside who.0 e))
  no-held k q h = h

  -- no processor has a step left to make
  pub stuck-empty : (k : ℕ) → k < f.cpus → (f.processors k).todo ≡ []
  stuck-empty k l = by (f.processors k).todo refl (halted k (f.processors k).todo l refl)
    where
      by : (todo : Todos) → (f.processors k).todo ≡ todo → Waits todo → todo ≡ []
      by [] at w = refl
      by (Todo.show q rest ∷ todo) at w = absurd (no-event k q rest todo l at (no-held k q))
      by (Todo.read_claim which ∷ todo) at w = absurd (read-claim k which todo l at)
      by (Todo.write_claim d ∷ todo) at w = absurd (write-claim k d todo l at)
      by todo at w = absurd w
