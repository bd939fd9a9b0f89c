-- The site of a processor's next step exists, and so do the threads that it wakes, cuts or adds. Where it looks threads wait.
use Rattle.std.proofs.Common.{◌≡◌, inl, ℕ, ◌+◌, ◌-◌, ◌<◌, ◌≤◌, Bool, true, false, List, [], ◌∷◌, length, Option, Some, None, refl, sym, ap, ◌∙◌, subst, arith, eq-eqb}
use Rattle.std.specs.Prelude.{◌==◌, ◌&&◌, ◌||◌, not, IsTrue, if◌then◌else◌, is_some, nat_lt, position, unwrap_or}
use Rattle.std.specs.List.{list_all, list_any}
use Rattle.std.proofs.lemmas.Bool.Decides.{nat_tests}
use Rattle.std.proofs.lemmas.Bool.{and_parts, false≢true, lt-ltb, ltb-true}
use Rattle.std.proofs.lemmas.List.Quantifiers.{position-Some}
use Rattle.um_base.specs.declared.ask.Told.{Told}
use Rattle.um_base.specs.declared.image.Image.{Image}
use Rattle.um_base.specs.declared.image.ObjectDef.{ObjectDef}
use Rattle.um_base.specs.declared.limits.TheConstants.{DOMAINS, ROWS, STATIC_ROWS, STATIC_THREADS, THREADS}
use Rattle.um_base.specs.declared.names.Addr.{Addr}
use Rattle.um_base.specs.declared.names.ThreadIx.{ThreadIx}
use Rattle.um_base.specs.Places.{is_thread_index, own_row, row_at}
use Rattle.um_machine.specs.declared.pending.Pending.{Pending}
use Rattle.um_machine.specs.declared.thread.Thread.{Thread}
use Rattle.um_machine.specs.Order.{Steps}
use Rattle.um_machine.specs.State.{State, thread_at}
use Rattle.um_fine.specs.Addresses.{row_named}
use Rattle.um_fine.specs.Answers.{is_due_act, is_tick}
use Rattle.um_fine.specs.Asks.{check_site, mark_site, next_site, site_at, site_by, site_of_step}
use Rattle.um_fine.specs.Context.{Context, as_thread}
use Rattle.um_fine.specs.Scheduler.{waits}
use Rattle.um_fine.specs.Places.{Todo, Todos}
use Rattle.um_fine.specs.Processor.{Processor, fails}
use Rattle.um_fine.specs.Sites.{is_site, site_numbered}
use Rattle.um_fine.specs.Steps.{Site}
use Rattle.um_refinement.specs.Fine.{Fine}
use Rattle.um_refinement.specs.Frames.{AreFramed, IsWaitOver, both, nothing, rereads, settled}
use Rattle.um_refinement.specs.Lists.{Adds, counted, has_held, has_steps, is_cut_told, is_hold, is_let_go, names_row, runs, times}
use Rattle.um_refinement.specs.Offers as O
use Rattle.um_refinement.specs.Offers.{Fits, IsOffered}
use Rattle.um_refinement.specs.Stops as R
use Rattle.um_refinement.specs.Stops.{is_waiting_site}
use Rattle.um_refinement.specs.Threads.{IsOf, as_cut}
use Rattle.um_refinement.specs.Timing.{IsHand}
use Rattle.um_refinement.proofs.Bounds.{AreThreads}
use Rattle.um_refinement.proofs.CallSteps.{Proper}
use Rattle.um_refinement.proofs.ListWakes.{wakers}
use Rattle.um_refinement.proofs.Offered.{not-cut}
use Rattle.um_refinement.proofs.MemorySteps.{part-total}
use Rattle.um_processor.specs.Processors.{looks_well}
use Rattle.um_tables.specs.Looks.{is_waited_at}
use Rattle.um_words.specs.declared.fine.FineAct.{FineAct}
use Rattle.um_words.specs.declared.fine.Mark.{Mark}
use Rattle.um_refinement.proofs.ObjectsKept.{found-below}
use Rattle.um_refinement.proofs.StepsLeft.{offered-on}
use Rattle.um_refinement.proofs.EventFacts.{InImage, edit-in, first-in}
use Rattle.um_core.proofs.LeftKnown.{IsLeft}
use Rattle.um_core.proofs.NamedSteps.{AreNamed, names_thread}

-- the row of a thread's own object
position-below : (test : ObjectDef → Bool) (objects : List ObjectDef) → length objects ≤ STATIC_ROWS → (x : ℕ) → position test objects ≡ Some x → x < ROWS
position-below test [] few x e = absurd (false≢true (ap is_some e))
position-below test (d ∷ objects) few x e = let l = (position-Some test (d ∷ objects) x d e).0 in omega (arith, l, few)

own-below : (image : Image) → length image.objects ≤ STATIC_ROWS → (t : ℕ) → nat_lt t THREADS ≡ true → own_row image t < ROWS
own-below image few t h = by (nat_lt t STATIC_THREADS)
  where
    found : (o : Option ℕ) → position (is_thread_index t) image.objects ≡ o → unwrap_or o 0 < ROWS
    found None e = omega arith
    found (Some x) e = position-below (is_thread_index t) image.objects few x e

    by : (b : Bool) → (if b then unwrap_or (position (is_thread_index t) image.objects) 0 else STATIC_ROWS + (t - STATIC_THREADS)) < ROWS
    by true = found (position (is_thread_index t) image.objects) refl
    by false = let l = ltb-true t THREADS h in omega (arith, l)

-- each number is that of a site
abbrev past_parts : ℕ → Site
past_parts n = if n == 304 then Site.memory else if n == 305 then Site.heap else if n == 306 then Site.scheduler else if n == 307 then Site.clock else Site.joins

abbrev past_objects : ℕ → Site
past_objects n = if nat_lt n 304 then Site.parts (n - 296) else past_parts n

abbrev past_domains : ℕ → Site
past_domains n = if nat_lt n 296 then Site.object (n - 168) else past_objects n

abbrev past_threads : ℕ → Site
past_threads n = if nat_lt n 168 then Site.domain (n - 160) else past_domains n

abbrev past_rows : ℕ → Site
past_rows n = if nat_lt n 160 then Site.thread (n - 128) else past_threads n

either-site : (b : Bool) (x y : Site) → (b ≡ true → is_site x ≡ true) → is_site y ≡ true → is_site (if b then x else y) ≡ true
either-site true x y h k = h refl
either-site false x y h k = k

numbered-there : (n : ℕ) → is_site (site_numbered n) ≡ true
numbered-there n =
    either-site (nat_lt n 128) (Site.row n) (past_rows n) (λ h. h)
    (either-site (nat_lt n 160) (Site.thread (n - 128)) (past_threads n) (λ h. let l = ltb-true n 160 h in lt-ltb (n - 128) THREADS (omega (arith, l)))
    (either-site (nat_lt n 168) (Site.domain (n - 160)) (past_domains n) (λ h. let l = ltb-true n 168 h in lt-ltb (n - 160) DOMAINS (omega (arith, l)))
    (either-site (nat_lt n 296) (Site.object (n - 168)) (past_objects n) (λ h. let l = ltb-true n 296 h in lt-ltb (n - 168) ROWS (omega (arith, l)))
    (either-site (nat_lt n 304) (Site.parts (n - 296)) (past_parts n) (λ h. let l = ltb-true n 304 h in lt-ltb (n - 296) DOMAINS (omega (arith, l)))
    (either-site (n == 304) Site.memory (if n == 305 then Site.heap else if n == 306 then Site.scheduler else if n == 307 then Site.clock else Site.joins) (λ h. refl)
    (either-site (n == 305) Site.heap (if n == 306 then Site.scheduler else if n == 307 then Site.clock else Site.joins) (λ h. refl)
    (either-site (n == 306) Site.scheduler (if n == 307 then Site.clock else Site.joins) (λ h. refl) (either-site (n == 307) Site.clock Site.joins (λ h. refl) refl))))))))

-- where a call's note is, a look may be
waits-as : (site : ℕ) → is_waiting_site site ≡ true → is_waited_at site ≡ true
waits-as site h = grind (arith, nat_tests)

module _ (f : Fine) (m : State) (is : IsLeft f m) (k : ℕ) (l : k < f.cpus) where
  abbrev p : Processor
  p = f.processors k

  abbrev c : Context
  c = (f.processors k).context

  pub fits-at : (todo : Todos) → p.todo ≡ todo → Fits f.image c todo
  fits-at todo at = subst (Fits f.image c) at (is.rel.processors k l).list.fits

  frames-at : (todo : Todos) → p.todo ≡ todo → AreFramed f.image todo
  frames-at todo at = subst (AreFramed f.image) at (is.rel.processors k l).frames

  -- a processor runs its thread, unless it has a mark in its hand
  pub run-at : (q : Todo) (todo : Todos) → p.todo ≡ q ∷ todo → (IsHand (q ∷ todo) → ⊥) → runs p ≡ true
  run-at q todo at none = by (times p.todo) refl
    where
      by : (b : Bool) → times p.todo ≡ b → runs p ≡ true
      by true h = absurd (none (subst IsHand at ((is.rel.processors k l).timer.hand h)))
      by false h = λ i. ap has_steps at i && not (h i)

  -- Rows, domains and threads that a list names.

  row-at-list : (x : ℕ) (q : Todo) (todo : Todos) → p.todo ≡ q ∷ todo → names_row q ≡ nat_lt x ROWS → nat_lt x ROWS ≡ true
  row-at-list x q todo at same = sym same ∙ (and_parts _ _ (sym (ap (list_all names_row) at) ∙ (is.rel.processors k l).rows)).0

  found-row : (a : Addr) (x : ℕ) → row_at f.image a.0 ≡ Some x → x < ROWS
  found-row a x e = found-below m is.sound a.0 x (ap (λ (i : Image). row_at i a.0) is.rel.image ∙ e)

  named-row : (a : Addr) → nat_lt (row_named f.image a) ROWS ≡ true
  named-row a = by (row_at f.image a.0) refl
    where
      by : (o : Option ℕ) → row_at f.image a.0 ≡ o → nat_lt (unwrap_or o 0) ROWS ≡ true
      by None e = refl
      by (Some x) e = lt-ltb x ROWS (found-row a x e)

  pub own-thread : runs p ≡ true → nat_lt c.thread THREADS ≡ true
  own-thread run = lt-ltb c.thread THREADS (is.rel.contexts.running k l run).index

  domain-there : (d : ℕ) → d < length f.image.domains → nat_lt d DOMAINS ≡ true
  domain-there d below = let most = is.domains in lt-ltb d DOMAINS (omega (arith, below, most))

  -- the domain of a thread that is held
  own-domain : runs p ≡ true → has_held p ≡ true → nat_lt p.domain DOMAINS ≡ true
  own-domain run held =
      let index = (is.rel.contexts.running k l run).index in
      let below = is.placed c.thread index (is.rel.contexts.running k l run).started in
      domain-there p.domain (subst (λ n. n < length f.image.domains) (sym ((is.rel.processors k l).domain.kept held ∙ (is.rel.threads c.thread index).word.domain)) below)

  -- Events that are next.

  module _ (run : runs p ≡ true) (q : Pending) (rest : Steps) (offered : IsOffered f.image c q rest) where
    of : IsOf f m c
    of = (is.rel.contexts.running k l run).of (offered-on f.image c q rest offered)

    -- of one that waits the machine may have left only that it is killed
    left : (steps : Steps) → c.pending ≡ steps → waits steps ≡ false → (thread_at m c.thread).pending ≡ steps
    left steps e awake =
        sym (ap (λ (z : Thread). z.pending) of.own) ∙ (ap (λ n. (as_thread (as_cut n c)).pending) (not-cut of (ap waits e ∙ awake)) ∙ e)

    named-at : (steps : Steps) → c.pending ≡ steps → waits steps ≡ false → AreNamed steps
    named-at steps e awake = subst AreNamed (left steps e awake) (is.named c.thread)

    proper-at : (steps : Steps) → c.pending ≡ steps → waits steps ≡ false → Proper m.image (thread_at m c.thread).checked steps
    proper-at steps e awake = subst (Proper m.image (thread_at m c.thread).checked) (left steps e awake) (is.proper c.thread).0

  resumes-named : (q : Pending) (rest : Steps) → waits (q ∷ rest) ≡ true → names_thread q ≡ true
  resumes-named Pending.Resume rest h = refl
  resumes-named q rest h = absurd (false≢true h)

  resumes-in : (n : ℕ) (q : Pending) (rest : Steps) → waits (q ∷ rest) ≡ true → InImage n q
  resumes-in n Pending.Resume rest h = tt
  resumes-in n q rest h = absurd (false≢true h)

  pub names-one : runs p ≡ true → (q : Pending) (rest : Steps) → IsOffered f.image c q rest → names_thread q ≡ true
  names-one run q rest (O.goes e) = by (waits (q ∷ rest)) refl
    where
      by : (b : Bool) → waits (q ∷ rest) ≡ b → names_thread q ≡ true
      by true h = resumes-named q rest h
      by false h = (and_parts _ _ (named-at run q rest (O.goes e) (q ∷ rest) e h)).0
  names-one run q rest (O.passed {who} e) = (and_parts _ _ (named-at run q rest (O.passed e) (Pending.Inherit who ∷ q ∷ rest) e refl)).0
  names-one run q rest (O.dropped {from} e) = (and_parts _ _ (named-at run q rest (O.dropped e) (Pending.Drops from ∷ q ∷ rest) e refl)).0
  names-one run _ _ (O.begins e on i) = refl
  names-one run _ _ (O.exits e on i) = refl

  names-domain : runs p ≡ true → (q : Pending) (rest : Steps) → IsOffered f.image c q rest → InImage (length f.image.domains) q
  names-domain run q rest offered = subst (λ (i : Image). InImage (length i.domains) q) is.rel.image (by q rest offered)
    where
      by : (q : Pending) (rest : Steps) → IsOffered f.image c q rest → InImage (length m.image.domains) q
      by q rest (O.goes e) = awake (waits (q ∷ rest)) refl
        where
          awake : (b : Bool) → waits (q ∷ rest) ≡ b → InImage (length m.image.domains) q
          awake true h = resumes-in (length m.image.domains) q rest h
          awake false h = first-in m.image _ q rest (proper-at run q rest (O.goes e) (q ∷ rest) e h)
      by q rest (O.passed {who} e) = first-in m.image _ q rest (proper-at run q rest (O.passed e) (Pending.Inherit who ∷ q ∷ rest) e refl).1
      by q rest (O.dropped {from} e) = first-in m.image _ q rest (proper-at run q rest (O.dropped e) (Pending.Drops from ∷ q ∷ rest) e refl)
      by _ _ (O.begins e on i) = tt
      by _ _ (O.exits e on i) = tt

  own-row-there : (who : ThreadIx) → nat_lt who.0 THREADS ≡ true → nat_lt (own_row f.image who.0) ROWS ≡ true
  own-row-there who h = lt-ltb (own_row f.image who.0) ROWS (own-below f.image is.objects who.0 h)

  check-there : runs p ≡ true → (a : Addr) → IsTrue (is_site (check_site f.image p (row_at f.image a.0)))
  check-there run a = by (row_at f.image a.0) refl
    where
      by : (o : Option ℕ) → row_at f.image a.0 ≡ o → IsTrue (is_site (check_site f.image p o))
      by None e = own-thread run
      by (Some x) e = lt-ltb x ROWS (found-row a x e)

  event-there : runs p ≡ true → (q : Pending) → names_thread q ≡ true → InImage (length f.image.domains) q → IsTrue (is_site (site_of_step f.image p q))
  event-there run Pending.Begin named inside = own-thread run
  event-there run Pending.Exit named inside = own-thread run
  event-there run (Pending.Check a kind want refusal) named inside = check-there run a
  event-there run (Pending.Work a ask) named inside = named-row a
  event-there run (Pending.Answer reply to) named inside = own-thread run
  event-there run (Pending.Grant who a) named inside = named-row a
  event-there run (Pending.Own who) named inside = own-row-there who named
  event-there run (Pending.DropPair who a) named inside = named-row a
  event-there run (Pending.Publish a) named inside = named-row a
  event-there run (Pending.SetInit a strict undo) named inside = named-row a
  event-there run (Pending.ClearInit a) named inside = named-row a
  event-there run (Pending.Named who) named inside = own-row-there who named
  event-there run (Pending.Born a) named inside = named-row a
  event-there run (Pending.DomInit d parts) named inside = domain-there d inside
  event-there run (Pending.DomAdd d range attr) named inside = domain-there d inside
  event-there run (Pending.DomRemove d range attr) named inside = domain-there d inside
  event-there run (Pending.DomMove d who) named inside =
      elim (fails p.reply) as (λ b. IsTrue (is_site (if b then Site.domain d else Site.thread who.0))) [ true ↦ domain-there d inside | false ↦ named ]
  event-there run (Pending.Start who script stack priority mode) named inside = named
  event-there run (Pending.EnterUser script) named inside = own-thread run
  event-there run (Pending.Fatal reason cause) named inside = own-thread run
  event-there run (Pending.Dooms from) named inside = named
  event-there run (Pending.Abort who) named inside = named
  event-there run (Pending.Suspend who) named inside = named
  event-there run (Pending.Continue who) named inside = named
  event-there run Pending.Killed named inside = own-thread run
  event-there run q named inside = refl

  -- A claim of the thread's own domain, its end, and the load of its table stand where it is held.

  holds : (todo : Todos) → p.todo ≡ todo → (list_any is_let_go todo && not (list_any is_hold todo)) ≡ true → has_held p ≡ true
  holds todo at h = ap (λ (z : Todos). list_any is_let_go z && not (list_any is_hold z)) at ∙ h

  over-waits : {over : Todos} → IsWaitOver over → not (list_any is_hold over) ≡ true
  over-waits nothing = refl
  over-waits settled = refl
  over-waits rereads = refl
  over-waits both = refl

  claim-there : (todo : Todos) → p.todo ≡ Todo.read_claim None ∷ todo → nat_lt p.domain DOMAINS ≡ true
  claim-there todo at =
      let behind = (frames-at (Todo.read_claim None ∷ todo) at).0 in
      let access = behind.2 in
      own-domain (run-at (Todo.read_claim None) todo at (λ hand. hand))
      (holds _ (at ∙ (ap (λ (z : Todos). Todo.read_claim None ∷ z) behind.1 ∙ ap (λ (z : Todos). Todo.read_claim None ∷ Todo.region_load ∷ z) access.3)) (over-waits access.5))

  claim-over : (todo : Todos) → p.todo ≡ Todo.read_done None ∷ todo → nat_lt p.domain DOMAINS ≡ true
  claim-over todo at =
      let behind = (frames-at (Todo.read_done None ∷ todo) at).0 in
      own-domain (run-at (Todo.read_done None) todo at (λ hand. hand)) (holds _ (at ∙ ap (λ (z : Todos). Todo.read_done None ∷ z) behind.1) (over-waits behind.2))

  load-there : (todo : Todos) → p.todo ≡ Todo.region_load ∷ todo → nat_lt p.domain DOMAINS ≡ true
  load-there todo at =
      let behind = (frames-at (Todo.region_load ∷ todo) at).0 in
      own-domain (run-at Todo.region_load todo at (λ hand. hand)) (holds _ (at ∙ ap (λ (z : Todos). Todo.region_load ∷ z) behind.3) (over-waits behind.5))

  -- a domain that is claimed for a later event
  behind-there : (q : Pending) (rest : Steps) → runs p ≡ true → IsOffered f.image c q rest → (d : ℕ) → (InImage (length f.image.domains) q → d < length f.image.domains) → nat_lt d DOMAINS ≡ true
  behind-there q rest run offered d inside = domain-there d (inside (names-domain run q rest offered))

  move-claimed : (d : ℕ) (todo : Todos) → p.todo ≡ Todo.read_claim (Some d) ∷ todo → nat_lt d DOMAINS ≡ true
  move-claimed d todo at =
      let behind = (frames-at (Todo.read_claim (Some d) ∷ todo) at).0 in
      behind-there (Pending.DomMove d behind.0) behind.1 (run-at (Todo.read_claim (Some d)) todo at (λ hand. hand)) (subst (Fits f.image c) behind.2 (fits-at (Todo.read_claim (Some d) ∷ todo) at)).0 d (λ inside. inside)

  move-over : (d : ℕ) (todo : Todos) → p.todo ≡ Todo.read_done (Some d) ∷ todo → nat_lt d DOMAINS ≡ true
  move-over d todo at =
      let behind = (frames-at (Todo.read_done (Some d) ∷ todo) at).0 in
      behind-there (Pending.DomMove d behind.0) behind.1 (run-at (Todo.read_done (Some d)) todo at (λ hand. hand)) (subst (Fits f.image c) behind.2 (fits-at (Todo.read_done (Some d) ∷ todo) at)).0 d (λ inside. inside)

  write-there : (d : ℕ) (todo : Todos) → p.todo ≡ Todo.write_claim d ∷ todo → nat_lt d DOMAINS ≡ true
  write-there d todo at =
      let behind = (frames-at (Todo.write_claim d ∷ todo) at).0 in
      behind-there behind.0 behind.1 (run-at (Todo.write_claim d) todo at (λ hand. hand)) (subst (Fits f.image c) behind.2 (fits-at (Todo.write_claim d ∷ todo) at)).0 d
      (λ inside. edit-in (length f.image.domains) d behind.0 behind.3 inside)

  edit-there : (d : ℕ) (q : Pending) (todo : Todos) → p.todo ≡ Todo.edit d q ∷ todo → nat_lt d DOMAINS ≡ true
  edit-there d q todo at =
      let behind = (frames-at (Todo.edit d q ∷ todo) at).0 in
      behind-there q behind.0 (run-at (Todo.edit d q) todo at (λ hand. hand)) (subst (Fits f.image c) behind.1 (fits-at (Todo.edit d q ∷ todo) at)).0 d
      (λ inside. edit-in (length f.image.domains) d q behind.2 inside)

  look-there : (x : ℕ) (todo : Todos) → p.todo ≡ Todo.size_look x ∷ todo → nat_lt x ROWS ≡ true
  look-there x todo at =
      let behind = (frames-at (Todo.size_look x ∷ todo) at).0 in subst (λ n. nat_lt n ROWS ≡ true) (sym behind.5) (named-row behind.2)

  look-waits : (who site before : ℕ) (todo : Todos) → p.todo ≡ Todo.look who site before ∷ todo → is_waiting_site site ≡ true
  look-waits who site before todo at = (and_parts _ _ (sym (ap (list_all R.looks_well) at) ∙ (is.rel.processors k l).look)).0

  mark-there : (deadline : ℕ) (mark : Mark) (todo : Todos) → p.todo ≡ Todo.handle deadline mark ∷ todo → IsTrue (is_site (mark_site f.image p mark))
  mark-there deadline (Mark.Thread who site) todo at = numbered-there site
  mark-there deadline (Mark.Timer x) todo at = (is.rel.marks.hands k deadline (Mark.Timer x) todo l at).1

  there : (q : Todo) (todo : Todos) → p.todo ≡ q ∷ todo → IsTrue (is_site (site_at f.image p (q ∷ todo)))
  there (Todo.show q rest) todo at =
      let run : runs p ≡ true = run-at (Todo.show q rest) todo at (λ hand. hand) in
      let offered = (fits-at (Todo.show q rest ∷ todo) at).0 in event-there run q (names-one run q rest offered) (names-domain run q rest offered)
  there Todo.hold todo at = own-thread (run-at Todo.hold todo at (λ hand. hand))
  there Todo.let_go todo at = own-thread (run-at Todo.let_go todo at (λ hand. hand))
  there (Todo.note site) todo at = own-thread (run-at (Todo.note site) todo at (λ hand. hand))
  there (Todo.reread site) todo at = own-thread (run-at (Todo.reread site) todo at (λ hand. hand))
  there Todo.reread_asleep todo at = own-thread (run-at Todo.reread_asleep todo at (λ hand. hand))
  there (Todo.look who site before) todo at = numbered-there site
  there (Todo.handle deadline mark) todo at = mark-there deadline mark todo at
  there Todo.owe todo at = refl
  there (Todo.settle deadline mark) todo at = refl
  there (Todo.tell_cut who) todo at = refl
  there (Todo.rouse who) todo at = refl
  there Todo.sleep todo at = refl
  there (Todo.unshut who) todo at = refl
  there Todo.leave todo at = refl
  there Todo.paid todo at = refl
  there (Todo.read_claim None) todo at = claim-there todo at
  there (Todo.read_claim (Some d)) todo at = move-claimed d todo at
  there (Todo.read_done None) todo at = claim-over todo at
  there (Todo.read_done (Some d)) todo at = move-over d todo at
  there Todo.region_load todo at = load-there todo at
  there (Todo.write_claim d) todo at = write-there d todo at
  there (Todo.edit d q) todo at = edit-there d q todo at
  there (Todo.size_look x) todo at = look-there x todo at
  there (Todo.end_call x) todo at = row-at-list x (Todo.end_call x) todo at refl
  there (Todo.wake who told) todo at = refl
  there (Todo.add d) todo at = refl
  there (Todo.pass who x) todo at = row-at-list x (Todo.pass who x) todo at refl
  there (Todo.drop x) todo at = row-at-list x (Todo.drop x) todo at refl
  there (Todo.clean_pair who x) todo at = row-at-list x (Todo.clean_pair who x) todo at refl
  there (Todo.wipe x) todo at = row-at-list x (Todo.wipe x) todo at refl
  there (Todo.vacate x) todo at = row-at-list x (Todo.vacate x) todo at refl
  there (Todo.recycle x) todo at = refl
  there Todo.park todo at = refl
  there Todo.done todo at = refl

  pub next-there : (act : FineAct) → IsTrue (is_site (next_site f.image p act))
  next-there act = by p.todo refl
    where
      by : (todo : Todos) → p.todo ≡ todo → IsTrue (is_site (site_by f.image p todo act))
      by [] at = elim (is_due_act act || is_tick act) as (λ b. IsTrue (is_site (if b then Site.clock else Site.scheduler))) [ true ↦ refl | false ↦ refl ]
      by (q ∷ todo) at = there q todo at

  pub woken-there : (who : ℕ) (told : Told) (todo : Todos) → p.todo ≡ Todo.wake who told ∷ todo → who < THREADS
  woken-there who told todo at = ltb-true who THREADS (and_parts _ _ (subst (λ (z : Todos). AreThreads (wakers z)) at (is.bounds.wakes k l))).0

  pub added-there : (d : Context) (todo : Todos) → p.todo ≡ Todo.add d ∷ todo → d.thread < THREADS
  added-there d todo at = (is.rel.contexts.added k d l (subst (Adds d) (sym at) (inl refl))).0.index

  pub cut-there : (who : ℕ) (todo : Todos) → p.todo ≡ Todo.tell_cut who ∷ todo → who < THREADS
  cut-there who todo at = by (nat_lt who THREADS) refl
    where
      one : counted (is_cut_told who) p.todo ≡ counted (is_cut_told who) todo + 1
      one = ap (counted (is_cut_told who)) at ∙ ap (λ b. if b then counted (is_cut_told who) todo + 1 else counted (is_cut_told who) todo) (eq-eqb who who refl)

      by : (b : Bool) → nat_lt who THREADS ≡ b → who < THREADS
      by true h = ltb-true who THREADS h
      by false h =
          let none = is.bounds.uncut who h in
          let part = part-total (λ j. counted (is_cut_told who) (f.processors j).todo) f.cpus k l in
          let some = one in
          absurd (omega (arith, none, part, some))

  -- where it looks threads wait
  pub looks-there : looks_well p.todo ≡ true
  looks-there = by p.todo refl
    where
      by : (todo : Todos) → p.todo ≡ todo → looks_well todo ≡ true
      by (Todo.look who site before ∷ todo) at = waits-as site (look-waits who site before todo at)
      by (Todo.handle deadline (Mark.Thread who site) ∷ todo) at = waits-as site (is.rel.marks.hands k deadline (Mark.Thread who site) todo l at).1
      by (Todo.handle deadline (Mark.Timer x) ∷ todo) at = refl
      by todo at = refl
