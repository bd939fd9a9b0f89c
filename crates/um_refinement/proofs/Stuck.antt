-- Where a processor can't step, its list doesn't begin with a step that its site takes whatever stands there: each step that no trace shows, but
-- claims of domains, is such a step. Bounds on words and lists are asked for by name, and known of fine runs (RoomKnown).
use Rattle.um_refinement.proofs.Words.{Row, act_in, address_of, woken_in, Act, ThreadIx, Event, bytes, object, Some, ◌≡◌, inl, inr, ℕ, ◌+◌, ◌-◌, ◌<◌, ◌≤◌, Bool, true, false, ◌∷◌, length, Option, refl, sym, ap, ◌∙◌, subst, arith, eq-eqb, ◌==◌, ◌&&◌, ◌||◌, not, IsTrue, if◌then◌else◌, nat_lt, list_all, list_any, and_parts, false≢true, lt-ltb, ltb-true, Leftover, ROWS, STATIC_ROWS, THREADS, Told, Image, Addr, Kind, Want, Pending, Refusal, Steps, State, object_at, FineAct, More, Unseen, RowWord, Stage, has, is_cleaning, is_dying, is_last, left_of, begins_cleaning, is_dropped, moves, says, site_at, Cell, Context, Todo, Todos, cleanings, Processor, SiteMay, SiteState, is_sort, site_takes, Exchange, FineStep, Site, Fine, domain, domain_state, one_if, parts_state, row, row_state, scheduler, word, counted, has_held, is_end_call, is_hold, is_let_go, is_vacate, names_row, runs, runs_thread, AreFramed, Behind, is_reserved, recyclers, status_of, vacaters, Rel, CanCount, IsHalted, ByOneOf, DOMAINS, no_event, no_row, fits_step, made_by, filled, Word, has_number}
use Rattle.um_machine.specs.Objects as Plain
use Rattle.um_base.specs.declared.limits.TheConstants.{FUTEX_CELL, JOIN_CELL}
use Rattle.um_machine.specs.Order.{to_thread}
use Rattle.um_machine.specs.Table.{replies_of}
use Rattle.um_machine.specs.Time.{has_run_out}
use Rattle.um_words.specs.CellActs.{join_takes, memory_takes, object_takes}
use Rattle.um_words.specs.declared.fine.Mark.{Mark}
use Rattle.um_fine.specs.Asks.{site_by}
use Rattle.um_fine.specs.Joins.{all_joined, is_joined, join_finds, left_or_shut, sleeps}
use Rattle.um_fine.specs.Objects.{object_finds, object_says_act}
use Rattle.um_fine.specs.Places.{is_paid}
use Rattle.um_fine.specs.Processor.{actor_or}
use Rattle.um_fine.specs.Seeking.{finds, looked_for}
use Rattle.um_fine.specs.Sites.{site_numbered}
use Rattle.um_refinement.specs.Fine.{joins}
use Rattle.um_refinement.specs.Frames.{IsWaitOver, both, nothing, rereads, settled}
use Rattle.um_refinement.specs.Stops.{cell_site, is_waiting_site, looks_well}
use Rattle.um_refinement.specs.Timing.{IsHand, arms}
use Rattle.um_refinement.proofs.CellSites.{site-of-cell}
use Rattle.um_refinement.proofs.Offered.{runs-first}
use Rattle.um_refinement.proofs.SearchSteps.{cell-there}
use Rattle.um_fine.proofs.Filled.{filled-twice}
use Rattle.um_fine.proofs.Made.{IsSettled, as-made}
use Rattle.um_refinement.proofs.FirstThreads.{one-most}
use Rattle.um_refinement.proofs.HeapSteps.{heap-sort}
use Rattle.um_refinement.proofs.HeldRows.{call-claimed}
use Rattle.um_refinement.proofs.Kept.{clock-sort, joins-sort, scheduler-sort}
use Rattle.um_refinement.proofs.MemorySteps.{memory-sort, part-total}
use Rattle.um_refinement.proofs.RowSteps.{thread-sort}
use Rattle.um_refinement.proofs.WorkSteps.{object-sort}
use Rattle.um_refinement.proofs.Sums.{one-true}

-- whether a step may put a thread into the ready list
abbrev pub readies : Todo → Bool
readies (Todo.wake who told) = true
readies (Todo.tell_cut who) = true
readies (Todo.add c) = true
readies Todo.park = true
readies q = false

-- Words and lists have room for the next step: they can count it, and one reader, version or claim more; the ready list can hold a thread more where
-- one is put there next, and the list of a processor that begins to clean an object can hold that one. A call that checks holds one
-- object at most, and a load is of four bytes at most. There are words for all domains, and no other thread is held than those that there are.
pub record HasRoom (f : Fine) : Type 0 where
  pub counts : CanCount f
  pub readers : (d : ℕ) → d < length f.image.domains → (domain f d).readers < 127
  pub domains : length f.image.domains ≤ DOMAINS
  pub inside : (t : ℕ) → nat_lt t THREADS ≡ false → (word f t).held ≡ false
  pub claims : (x : ℕ) → x < ROWS → (row f x).claims < 127
  pub checks : (k : ℕ) (a : Addr) (kind : Option Kind) (want : Want) (refusal : Refusal) (rest : Steps) (todo : Todos) → k < f.cpus
      → (f.processors k).todo ≡ Todo.show (Pending.Check a kind want refusal) rest ∷ todo → length (f.processors k).context.claims < 2
  pub loads : (k to : ℕ) (a : Addr) (n : ℕ) (rest : Steps) (todo : Todos) → k < f.cpus → (f.processors k).todo ≡ Todo.show (Pending.Load to a n) rest ∷ todo → n ≤ 4
  pub ready : (k : ℕ) (q : Todo) (rest : Todos) → k < f.cpus → (f.processors k).todo ≡ q ∷ rest → readies q ≡ true → length (scheduler f).ready < THREADS
  pub cleaned : (k : ℕ) (e : FineStep) → k < f.cpus → made_by f.image (f.processors k) e ≡ e → SiteMay f.image (f.sites e.site) e → begins_cleaning e ≡ true
      → cleanings (f.processors k).todo < ROWS - STATIC_ROWS

-- The sort of a site.

pub row-is : (x : ℕ) (s : SiteState) → IsTrue (is_sort (Site.row x) s) → s ≡ SiteState.row (row_state s)
row-is x (SiteState.row w) h = refl
row-is x s h = absurd (false≢true h)

pub domain-is : (d : ℕ) (s : SiteState) → IsTrue (is_sort (Site.domain d) s) → s ≡ SiteState.domain (domain_state s)
domain-is d (SiteState.domain w) h = refl
domain-is d s h = absurd (false≢true h)

parts-is : (d : ℕ) (s : SiteState) → IsTrue (is_sort (Site.parts d) s) → (n : ℕ) × (s ≡ SiteState.cell n (Cell.parts (parts_state s)))
parts-is d (SiteState.cell n (Cell.parts p)) h = (n, refl)
parts-is d s h = absurd (false≢true h)

-- an event that drops a permission which is there
drops-some : (w : RowWord) (who : ℕ) → has w who ≡ true → is_dropped (left_of w who) ≡ true
drops-some w who h = ap (λ b. is_dropped (if not b then Leftover.NoPair else if is_last w who then Leftover.Gone else Leftover.Kept)) h ∙ by (is_last w who)
  where
    by : (b : Bool) → is_dropped (if b then Leftover.Gone else Leftover.Kept) ≡ true
    by true = refl
    by false = refl

-- behind the end of a hold none begins
no-hold-behind : (image : Image) (rest : Todos) → Behind image Todo.let_go rest → list_any is_hold rest ≡ false
no-hold-behind image rest (inl over) = by over
  where
    by : {rest : Todos} → IsWaitOver rest → list_any is_hold rest ≡ false
    by nothing = refl
    by settled = refl
    by rereads = refl
    by both = refl
no-hold-behind image rest (inr (c, e)) = ap (list_any is_hold) e

module _ (f : Fine) (m : State) (rel : Rel f m) (room : HasRoom f) where
  -- a processor with this list
  abbrev pub with_list : ℕ → Todos → Processor
  with_list k todo = record (f.processors k) { todo = todo }

  -- what it asks for is filled in from this act, and with this exchange
  abbrev pub asked : ℕ → FineAct → Exchange → FineStep
  asked k act moved = record { cpu = k; site = Site.scheduler; act = act; word = Word.row no_row; moved = moved }

  -- a step that the processor makes, and that its site takes
  pub record IsLawfulOf (k : ℕ) (todo : Todos) (made : FineStep) : Type 0 where
    pub by : ByOneOf f.image f.cpus (f.processors k) made
    pub taken : SiteMay f.image (f.sites made.site) made
    pub there : site_by f.image (with_list k todo) todo made.act ≡ made.site

  -- what it asks for is lawful, if its site takes that and the word that is left fits
  pub is-lawful : (k : ℕ) (todo : Todos) (s : SiteState) (act : FineAct) (moved : Exchange) → k < f.cpus → (f.processors k).todo ≡ todo → f.sites (site_by f.image (with_list k todo) todo act) ≡ s
      → IsSettled f.image (with_list k todo) todo s moved → let made = filled f.image s (made_by f.image (with_list k todo) (asked k act moved)) in
      site_takes s made.act ≡ true → fits_step f.image (with_list k todo) todo made ≡ true → IsLawfulOf k todo made
  is-lawful k todo s act moved inside at site is takes fit =
      record { by = record { may = record { makes = makes; fit = λ i. fit-here i && may-clean i }; named = inside }; taken = taken; there = all.2 }
    where
      p : Processor
      p = f.processors k

      same : with_list k todo ≡ p
      same = λ i. record p { todo = sym at i }

      made : FineStep
      made = filled f.image s (made_by f.image (with_list k todo) (asked k act moved))

      all : (says f.image (with_list k todo) todo made.act made.moved ≡ made.act) × (moves f.image (with_list k todo) todo made.act made.moved ≡ made.moved)
          × (site_by f.image (with_list k todo) todo made.act ≡ made.site)
      all =
          as-made f.image (with_list k todo) todo s act moved
          (subst (λ z. IsTrue (is_sort (site_by f.image (with_list k todo) todo act) z)) site (rel.sorts (site_by f.image (with_list k todo) todo act))) is takes

      makes : made_by f.image p made ≡ made
      makes = subst (λ (q : Processor). made_by f.image q made ≡ made) same (λ i. record made { site = all.2 i; act = all.0 i; moved = all.1 i })

      taken : SiteMay f.image (f.sites made.site) made
      taken =
          subst (λ z. SiteMay f.image z made) (sym site)
          (record { takes = takes; filled_in = filled-twice f.image s (made_by f.image (with_list k todo) (asked k act moved)) })

      fit-here : fits_step f.image p p.todo made ≡ true
      fit-here = subst (λ (q : Processor). fits_step f.image q q.todo made ≡ true) same fit

      may-clean : (not (begins_cleaning made) || nat_lt (cleanings p.todo) (ROWS - STATIC_ROWS)) ≡ true
      may-clean = by (begins_cleaning made) refl
        where
          by : (b : Bool) → begins_cleaning made ≡ b → (not b || nat_lt (cleanings p.todo) (ROWS - STATIC_ROWS)) ≡ true
          by false e = refl
          by true e = lt-ltb (cleanings p.todo) (ROWS - STATIC_ROWS) (room.cleaned k made inside makes taken e)

  -- so its site doesn't take that, or the word that is left doesn't fit, where it can't step
  pub not-taken : (k : ℕ) (todo : Todos) (s : SiteState) (act : FineAct) (moved : Exchange) → IsHalted f k → (f.processors k).todo ≡ todo → f.sites (site_by f.image (with_list k todo) todo act) ≡ s
      → IsSettled f.image (with_list k todo) todo s moved → let made = filled f.image s (made_by f.image (with_list k todo) (asked k act moved)) in
      site_takes s made.act ≡ true → fits_step f.image (with_list k todo) todo made ≡ true → ⊥
  not-taken k todo s act moved l at site is takes fit =
      let lawful = is-lawful k todo s act moved l.inside at site is takes fit in l.stuck (filled f.image s (made_by f.image (with_list k todo) (asked k act moved))) refl lawful.by lawful.taken

  abbrev pub plain : FineAct
  plain = FineAct.Unseen Unseen.Visit

  -- what a site of this state can count
  pub counts : (i : Site) (s : SiteState) → f.sites i ≡ s → has_number s ≡ true
  counts i s e = subst (λ z. has_number z ≡ true) e (room.counts.numbers i)

  -- the same of an event, of which the site gives nothing
  pub refused : {q : Pending} {rest : Steps} {todo : Todos} {s : SiteState} (k : ℕ) → IsHalted f k → (f.processors k).todo ≡ Todo.show q rest ∷ todo
      → let p = with_list k (Todo.show q rest ∷ todo) in f.sites (site_at f.image p p.todo) ≡ s → IsSettled f.image p p.todo s Exchange.nothing
      → let made = filled f.image s (made_by f.image p (asked k plain Exchange.nothing)) in site_takes s made.act ≡ true → fits_step f.image p p.todo made ≡ true → ⊥
  refused {q} {rest} {todo} {s} k = not-taken k (Todo.show q rest ∷ todo) s plain Exchange.nothing

  pub running : (k : ℕ) → k < f.cpus → (q : Todo) (rest : Todos) → (f.processors k).todo ≡ q ∷ rest → (IsHand (q ∷ rest) → ⊥) → runs (f.processors k) ≡ true
  running k l q rest at other = runs-first rel l q rest at other

  -- Cells of objects, domains and the heap.

  pub region-load : (k : ℕ) (rest : Todos) → IsHalted f k → (f.processors k).todo ≡ Todo.region_load ∷ rest → ⊥
  region-load k rest l at =
      let d = (f.processors k).domain in
      let is = parts-is d (f.sites (Site.parts d)) (rel.sorts (Site.parts d)) in
      not-taken k (Todo.region_load ∷ rest) (SiteState.cell is.0 (Cell.parts (parts_state (f.sites (Site.parts d))))) plain Exchange.nothing l at is.1 tt (λ i. counts (Site.parts d) _ is.1 i && true) refl

  pub edit : (k d : ℕ) (q : _) (rest : Todos) → IsHalted f k → (f.processors k).todo ≡ Todo.edit d q ∷ rest → ⊥
  edit k d q rest l at =
      let is = parts-is d (f.sites (Site.parts d)) (rel.sorts (Site.parts d)) in
      let had = parts_state (f.sites (Site.parts d)) in
      not-taken k (Todo.edit d q ∷ rest) (SiteState.cell is.0 (Cell.parts had)) plain (Exchange.edited had had) l at is.1 refl (λ i. counts (Site.parts d) _ is.1 i && true) refl

  pub size-look : (k x : ℕ) (rest : Todos) → IsHalted f k → (f.processors k).todo ≡ Todo.size_look x ∷ rest → ⊥
  size-look k x rest l at =
      let is = object-sort x (f.sites (Site.object x)) (rel.sorts (Site.object x)) in
      not-taken k (Todo.size_look x ∷ rest) _ plain Exchange.nothing l at is.1 tt (λ i. counts (Site.object x) _ is.1 i && true) refl

  pub wipe : (k x : ℕ) (rest : Todos) → IsHalted f k → (f.processors k).todo ≡ Todo.wipe x ∷ rest → ⊥
  wipe k x rest l at =
      let is = object-sort x (f.sites (Site.object x)) (rel.sorts (Site.object x)) in
      not-taken k (Todo.wipe x ∷ rest) _ plain Exchange.nothing l at is.1 tt (λ i. counts (Site.object x) _ is.1 i && true) refl

  pub recycle : (k x : ℕ) (rest : Todos) → IsHalted f k → (f.processors k).todo ≡ Todo.recycle x ∷ rest → ⊥
  recycle k x rest l at =
      let is = heap-sort (f.sites Site.heap) (rel.sorts Site.heap) in
      not-taken k (Todo.recycle x ∷ rest) _ plain Exchange.nothing l at is.1 tt (λ i. counts Site.heap _ is.1 i && true) refl

  -- The scheduler.

  has-place : (k : ℕ) (q : Todo) (rest : Todos) → IsHalted f k → (f.processors k).todo ≡ q ∷ rest → readies q ≡ true → nat_lt (length (scheduler f).ready) THREADS ≡ true
  has-place k q rest l at puts = lt-ltb (length (scheduler f).ready) THREADS (room.ready k q rest l.inside at puts)

  some-run : (k : ℕ) (q : Todo) (rest : Todos) → IsHalted f k → (f.processors k).todo ≡ q ∷ rest → (IsHand (q ∷ rest) → ⊥) → nat_lt 0 (scheduler f).running ≡ true
  some-run k q rest l at other =
      let part = part-total (λ j. one_if (runs (f.processors j))) f.cpus k l.inside in
      let one : one_if (runs (f.processors k)) ≡ 1 = ap one_if (running k l.inside q rest at other) in
      let all = rel.running.running in
      lt-ltb 0 (scheduler f).running (omega (arith, part, one, all))

  pub wake : (k who : ℕ) (told : Told) (rest : Todos) → IsHalted f k → (f.processors k).todo ≡ Todo.wake who told ∷ rest → ⊥
  wake k who told rest l at =
      let is = scheduler-sort (f.sites Site.scheduler) (rel.sorts Site.scheduler) in
      let place = has-place k (Todo.wake who told) rest l at refl in
      not-taken k (Todo.wake who told ∷ rest) _ plain Exchange.nothing l at is.1 tt (λ i. counts Site.scheduler _ is.1 i && place i) refl

  pub tell-cut : (k who : ℕ) (rest : Todos) → IsHalted f k → (f.processors k).todo ≡ Todo.tell_cut who ∷ rest → ⊥
  tell-cut k who rest l at =
      let is = scheduler-sort (f.sites Site.scheduler) (rel.sorts Site.scheduler) in
      let place = has-place k (Todo.tell_cut who) rest l at refl in
      not-taken k (Todo.tell_cut who ∷ rest) _ plain Exchange.nothing l at is.1 tt (λ i. counts Site.scheduler _ is.1 i && place i) refl

  pub owe : (k : ℕ) (rest : Todos) → IsHalted f k → (f.processors k).todo ≡ Todo.owe ∷ rest → ⊥
  owe k rest l at =
      let is = scheduler-sort (f.sites Site.scheduler) (rel.sorts Site.scheduler) in
      let few = lt-ltb (scheduler f).owed 524287 room.counts.owed in
      not-taken k (Todo.owe ∷ rest) _ plain Exchange.nothing l at is.1 tt (λ i. counts Site.scheduler _ is.1 i && few i) refl

  -- a mark in a hand is owed
  pub paid : (k : ℕ) (rest : Todos) → IsHalted f k → (f.processors k).todo ≡ Todo.paid ∷ rest → ⊥
  paid k rest l at =
      let is = scheduler-sort (f.sites Site.scheduler) (rel.sorts Site.scheduler) in
      let part = part-total (λ j. one_if (arms (f.processors j).todo) + counted is_paid (f.processors j).todo) f.cpus k l.inside in
      let here = ap (counted is_paid) at in
      let all = rel.owed.owed in
      let some = lt-ltb 0 (scheduler f).owed (omega (arith, part, here, all)) in
      not-taken k (Todo.paid ∷ rest) _ plain Exchange.nothing l at is.1 tt (λ i. counts Site.scheduler _ is.1 i && some i) refl

  -- The clock, and the joins.

  pub settle : (k deadline : ℕ) (mark : Mark) (rest : Todos) → IsHalted f k → (f.processors k).todo ≡ Todo.settle deadline mark ∷ rest → ⊥
  settle k deadline mark rest l at =
      let is = clock-sort (f.sites Site.clock) (rel.sorts Site.clock) in
      not-taken k (Todo.settle deadline mark ∷ rest) _ plain Exchange.nothing l at is.1 tt (λ i. counts Site.clock _ is.1 i && true) refl

  pub rouse : (k who : ℕ) (rest : Todos) → IsHalted f k → (f.processors k).todo ≡ Todo.rouse who ∷ rest → ⊥
  rouse k who rest l at =
      let is = joins-sort (f.sites Site.joins) (rel.sorts Site.joins) in
      let takes : (b : Bool) → sleeps (joins f) who ≡ b → join_takes (if b then FineAct.Unseen (Unseen.Rouse (to_thread who)) else FineAct.Unseen Unseen.Void) ≡ true = λ b e.
      elim b as (λ b. join_takes (if b then FineAct.Unseen (Unseen.Rouse (to_thread who)) else FineAct.Unseen Unseen.Void) ≡ true) [ true ↦ refl | false ↦ refl ] in
      not-taken k (Todo.rouse who ∷ rest) _ plain Exchange.nothing l at is.1 tt (λ i. counts Site.joins _ is.1 i && takes (sleeps (joins f) who) refl i) refl

  pub sleep : (k : ℕ) (rest : Todos) → IsHalted f k → (f.processors k).todo ≡ Todo.sleep ∷ rest → ⊥
  sleep k rest l at =
      let is = joins-sort (f.sites Site.joins) (rel.sorts Site.joins) in
      not-taken k (Todo.sleep ∷ rest) _ plain Exchange.nothing l at is.1 tt (λ i. counts Site.joins _ is.1 i && true) refl

  pub unshut : (k who : ℕ) (rest : Todos) → IsHalted f k → (f.processors k).todo ≡ Todo.unshut who ∷ rest → ⊥
  unshut k who rest l at =
      let is = joins-sort (f.sites Site.joins) (rel.sorts Site.joins) in
      not-taken k (Todo.unshut who ∷ rest) _ plain Exchange.nothing l at is.1 tt (λ i. counts Site.joins _ is.1 i && true) refl

  pub leave : (k : ℕ) (rest : Todos) → IsHalted f k → (f.processors k).todo ≡ Todo.leave ∷ rest → ⊥
  leave k rest l at =
      let is = joins-sort (f.sites Site.joins) (rel.sorts Site.joins) in
      not-taken k (Todo.leave ∷ rest) _ plain Exchange.nothing l at is.1 tt (λ i. counts Site.joins _ is.1 i && ended i) refl
    where
      t : ℕ
      t = (f.processors k).context.thread

      ended : join_takes (left_or_shut (joins f) (to_thread t)) ≡ true
      ended =
          elim (is_joined (joins f) t) as (λ b. join_takes (if b then FineAct.Shown (record { thread = to_thread t; act = Act.Left (to_thread t) (replies_of (all_joined (joins f) t)) }) More.Nothing else FineAct.Unseen (Unseen.Shut (to_thread t))) ≡ true) [
            | true ↦ refl
            | false ↦ refl
          ]

  -- A look in the cell in which a thread waits, and a mark in a hand: they find who they are for, or nothing.

  finds-or-not : (takes : FineAct → Bool) (b : Bool) (act : Event) (more : More) → takes (FineAct.Shown act more) ≡ true → takes (FineAct.Unseen Unseen.Void) ≡ true → takes (looked_for b (FineAct.Shown act more)) ≡ true
  finds-or-not takes true act more one two = one
  finds-or-not takes false act more one two = two

  abbrev is_for_waiters : Todo → Bool
  is_for_waiters (Todo.look who site before) = true
  is_for_waiters (Todo.handle deadline (Mark.Thread who site)) = true
  is_for_waiters q = false

  abbrev cuts : ℕ → ℕ → Event
  cuts k who = record { thread = to_thread (f.processors k).context.thread; act = Act.Cut (to_thread who) }

  abbrev late : ℕ → ThreadIx → Event
  late k who = record { thread = to_thread (actor_or f.image (f.processors k).actor); act = Act.TimedOut who }

  looks-in : (k site : ℕ) (q : Todo) (rest : Todos) → IsHalted f k → (f.processors k).todo ≡ q ∷ rest → is_for_waiters q ≡ true → site_at f.image (with_list k (q ∷ rest)) (q ∷ rest) ≡ site_numbered site → is_waiting_site site ≡ true → ⊥
  looks-in k site q rest l at waits there is = by (cell-there site is)
    where
      by : (x : ℕ) × (site ≡ cell_site x) × (x < ROWS + 2) → ⊥
      by (x, same, inside) = which (x == JOIN_CELL) refl (x == FUTEX_CELL) refl
        where
          place : (a b : Bool) → (x == JOIN_CELL) ≡ a → (x == FUTEX_CELL) ≡ b → site_at f.image (with_list k (q ∷ rest)) (q ∷ rest) ≡ (if a then Site.joins else if b then Site.memory else Site.object x)
          place a b e g =
              there ∙ (ap site_numbered same ∙ (site-of-cell x inside ∙ λ i. if e i then Site.joins else if g i then Site.memory else Site.object x))

          join-made : (q : Todo) → is_for_waiters q ≡ true → (f.processors k).todo ≡ q ∷ rest → site_at f.image (with_list k (q ∷ rest)) (q ∷ rest) ≡ Site.joins → ⊥
          join-made (Todo.look who s before) waits at e =
              let sort = joins-sort (f.sites Site.joins) (rel.sorts Site.joins) in
              not-taken k (Todo.look who s before ∷ rest) _ plain Exchange.nothing l at (ap f.sites e ∙ sort.1) tt
              (λ i. counts Site.joins _ sort.1 i && finds-or-not join_takes (join_finds (joins f) (Exchange.sought (to_thread who) (Some before))) (cuts k who) More.Nothing refl refl i) refl
          join-made (Todo.handle deadline (Mark.Thread who s)) waits at e =
              let sort = joins-sort (f.sites Site.joins) (rel.sorts Site.joins) in
              not-taken k (Todo.handle deadline (Mark.Thread who s) ∷ rest) _ plain Exchange.nothing l at (ap f.sites e ∙ sort.1) tt
              (λ i. counts Site.joins _ sort.1 i && finds-or-not join_takes (join_finds (joins f) (Exchange.mark deadline (Mark.Thread who s))) (late k who) More.Nothing refl refl i) refl
          join-made q waits at e = absurd (false≢true waits)

          memory-made : (q : Todo) → is_for_waiters q ≡ true → (f.processors k).todo ≡ q ∷ rest → site_at f.image (with_list k (q ∷ rest)) (q ∷ rest) ≡ Site.memory → ⊥
          memory-made (Todo.look who s before) waits at e =
              let sort = memory-sort (f.sites Site.memory) (rel.sorts Site.memory) in
              not-taken k (Todo.look who s before ∷ rest) _ plain Exchange.nothing l at (ap f.sites e ∙ sort.1) tt
              (λ i. counts Site.memory _ sort.1 i && finds-or-not memory_takes (finds (bytes f).futexes (bytes f).noted (Exchange.sought (to_thread who) (Some before))) (cuts k who) More.Nothing refl refl i) refl
          memory-made (Todo.handle deadline (Mark.Thread who s)) waits at e =
              let sort = memory-sort (f.sites Site.memory) (rel.sorts Site.memory) in
              not-taken k (Todo.handle deadline (Mark.Thread who s) ∷ rest) _ plain Exchange.nothing l at (ap f.sites e ∙ sort.1) tt
              (λ i. counts Site.memory _ sort.1 i && finds-or-not memory_takes (finds (bytes f).futexes (bytes f).noted (Exchange.mark deadline (Mark.Thread who s))) (late k who) More.Nothing refl refl i) refl
          memory-made q waits at e = absurd (false≢true waits)

          object-made : (q : Todo) → is_for_waiters q ≡ true → (f.processors k).todo ≡ q ∷ rest → site_at f.image (with_list k (q ∷ rest)) (q ∷ rest) ≡ Site.object x → ⊥
          object-made (Todo.look who s before) waits at e =
              let sort = object-sort x (f.sites (Site.object x)) (rel.sorts (Site.object x)) in
              not-taken k (Todo.look who s before ∷ rest) _ plain Exchange.nothing l at (ap f.sites e ∙ sort.1) tt
              (λ i. counts (Site.object x) _ sort.1 i && finds-or-not object_takes (object_finds (object f x) (Exchange.sought (to_thread who) (Some before))) (cuts k who) More.Nothing refl refl i) refl
          object-made (Todo.handle deadline (Mark.Thread who s)) waits at e =
              let sort = object-sort x (f.sites (Site.object x)) (rel.sorts (Site.object x)) in
              not-taken k (Todo.handle deadline (Mark.Thread who s) ∷ rest) _ plain Exchange.nothing l at (ap f.sites e ∙ sort.1) tt
              (λ i. counts (Site.object x) _ sort.1 i && finds-or-not object_takes (object_finds (object f x) (Exchange.mark deadline (Mark.Thread who s))) (late k who) More.Nothing refl refl i) refl
          object-made q waits at e = absurd (false≢true waits)

          which : (a : Bool) → (x == JOIN_CELL) ≡ a → (b : Bool) → (x == FUTEX_CELL) ≡ b → ⊥
          which true e b g = join-made q waits at (place true b e g)
          which false e true g = memory-made q waits at (place false true e g)
          which false e false g = object-made q waits at (place false false e g)

  pub look : (k who site before : ℕ) (rest : Todos) → IsHalted f k → (f.processors k).todo ≡ Todo.look who site before ∷ rest → ⊥
  look k who site before rest l at =
      looks-in k site (Todo.look who site before) rest l at refl refl
      (and_parts _ _ (subst (λ (z : Todos). list_all looks_well z ≡ true) at (rel.processors k l.inside).look)).0

  abbrev expiry : ℕ → Row → ℕ → Event
  expiry k x deadline =
      record {
        thread = to_thread (actor_or f.image (f.processors k).actor);
        act = object_says_act (object f x.0) (Exchange.mark deadline (Mark.Timer x)) (Act.Expire (address_of f.image x.0) (woken_in (act_in plain)));
      }

  pub handle : (k deadline : ℕ) (mark : Mark) (rest : Todos) → IsHalted f k → (f.processors k).todo ≡ Todo.handle deadline mark ∷ rest → ⊥
  handle k deadline (Mark.Thread who site) rest l at =
      looks-in k site (Todo.handle deadline (Mark.Thread who site)) rest l at refl refl (rel.marks.hands k deadline (Mark.Thread who site) rest l.inside at).1
  handle k deadline (Mark.Timer x) rest l at =
      let sort = object-sort x.0 (f.sites (Site.object x.0)) (rel.sorts (Site.object x.0)) in
      not-taken k (Todo.handle deadline (Mark.Timer x) ∷ rest) _ plain Exchange.nothing l at sort.1 tt
      (λ i. counts (Site.object x.0) _ sort.1 i && finds-or-not object_takes (has_run_out deadline (object f x.0).contents) (expiry k x deadline) More.Nothing refl refl i) refl

  pub add : (k : ℕ) (c : Context) (rest : Todos) → IsHalted f k → (f.processors k).todo ≡ Todo.add c ∷ rest → ⊥
  add k c rest l at =
      let is = scheduler-sort (f.sites Site.scheduler) (rel.sorts Site.scheduler) in
      let place = has-place k (Todo.add c) rest l at refl in
      not-taken k (Todo.add c ∷ rest) _ plain Exchange.nothing l at is.1 tt (λ i. counts Site.scheduler _ is.1 i && place i) refl

  pub park : (k : ℕ) (rest : Todos) → IsHalted f k → (f.processors k).todo ≡ Todo.park ∷ rest → ⊥
  park k rest l at =
      let is = scheduler-sort (f.sites Site.scheduler) (rel.sorts Site.scheduler) in
      let place = has-place k Todo.park rest l at refl in
      let run = some-run k Todo.park rest l at (λ hand. hand) in
      not-taken k (Todo.park ∷ rest) _ plain Exchange.nothing l at is.1 tt (λ i. counts Site.scheduler _ is.1 i && (run i && place i)) refl

  pub done : (k : ℕ) (rest : Todos) → IsHalted f k → (f.processors k).todo ≡ Todo.done ∷ rest → ⊥
  done k rest l at =
      let is = scheduler-sort (f.sites Site.scheduler) (rel.sorts Site.scheduler) in
      let run = some-run k Todo.done rest l at (λ hand. hand) in
      not-taken k (Todo.done ∷ rest) _ plain Exchange.nothing l at is.1 tt (λ i. counts Site.scheduler _ is.1 i && run i) refl

  -- Rows.

  named : (k : ℕ) (q : Todo) (rest : Todos) → IsHalted f k → (f.processors k).todo ≡ q ∷ rest → names_row q ≡ true
  named k q rest l at = (and_parts _ _ (sym (ap (list_all names_row) at) ∙ (rel.processors k l.inside).rows)).0

  pub end-call : (k x : ℕ) (rest : Todos) → IsHalted f k → (f.processors k).todo ≡ Todo.end_call x ∷ rest → ⊥
  end-call k x rest l at =
      let is = row-is x (f.sites (Site.row x)) (rel.sorts (Site.row x)) in
      let few = ltb-true x ROWS (named k (Todo.end_call x) rest l at) in
      let here : counted (is_end_call x) (f.processors k).todo ≡ counted (is_end_call x) rest + 1 =
      ap (counted (is_end_call x)) at ∙ ap (λ b. if b then counted (is_end_call x) rest + 1 else counted (is_end_call x) rest) (eq-eqb x x refl) in
      let claimed = lt-ltb 0 (row f x).claims (call-claimed f m rel k x l.inside few (omega (arith, here))) in
      not-taken k (Todo.end_call x ∷ rest) _ plain Exchange.nothing l at is tt (λ i. counts (Site.row x) _ is i && claimed i) refl

  -- A visit makes its event where there is a permission to pass on or to drop.

  abbrev event : FineAct
  event = FineAct.Shown no_event More.Nothing

  pub pass : (k who x : ℕ) (rest : Todos) → IsHalted f k → (f.processors k).todo ≡ Todo.pass who x ∷ rest → ⊥
  pass k who x rest l at = by (has (row f x) (f.processors k).context.thread && not (has (row f x) who)) refl
    where
      is : f.sites (Site.row x) ≡ SiteState.row (row f x)
      is = row-is x (f.sites (Site.row x)) (rel.sorts (Site.row x))

      by : (b : Bool) → (has (row f x) (f.processors k).context.thread && not (has (row f x) who)) ≡ b → ⊥
      by true e = not-taken k (Todo.pass who x ∷ rest) _ event Exchange.nothing l at is tt (λ i. counts (Site.row x) _ is i && e i) refl
      by false e = not-taken k (Todo.pass who x ∷ rest) _ plain Exchange.nothing l at is tt (λ i. counts (Site.row x) _ is i && true) (ap not e)

  pub drop : (k x : ℕ) (rest : Todos) → IsHalted f k → (f.processors k).todo ≡ Todo.drop x ∷ rest → ⊥
  drop k x rest l at = by (has (row f x) (f.processors k).context.thread) refl
    where
      is : f.sites (Site.row x) ≡ SiteState.row (row f x)
      is = row-is x (f.sites (Site.row x)) (rel.sorts (Site.row x))

      by : (b : Bool) → has (row f x) (f.processors k).context.thread ≡ b → ⊥
      by true e = not-taken k (Todo.drop x ∷ rest) _ event Exchange.nothing l at is tt (λ i. counts (Site.row x) _ is i && true) (drops-some (row f x) (f.processors k).context.thread e)
      by false e = not-taken k (Todo.drop x ∷ rest) _ plain Exchange.nothing l at is tt (λ i. counts (Site.row x) _ is i && true) (ap not e)

  pub clean-pair : (k who x : ℕ) (rest : Todos) → IsHalted f k → (f.processors k).todo ≡ Todo.clean_pair who x ∷ rest → ⊥
  clean-pair k who x rest l at = by (has (row f x) who) refl
    where
      is : f.sites (Site.row x) ≡ SiteState.row (row f x)
      is = row-is x (f.sites (Site.row x)) (rel.sorts (Site.row x))

      by : (b : Bool) → has (row f x) who ≡ b → ⊥
      by true e = not-taken k (Todo.clean_pair who x ∷ rest) _ event Exchange.nothing l at is tt (λ i. counts (Site.row x) _ is i && true) (drops-some (row f x) who e)
      by false e = not-taken k (Todo.clean_pair who x ∷ rest) _ plain Exchange.nothing l at is tt (λ i. counts (Site.row x) _ is i && true) (ap not e)

  -- The row of an object that is vacated is in cleaning, and isn't claimed.

  pub vacate : (k x : ℕ) (rest : Todos) → IsHalted f k → (f.processors k).todo ≡ Todo.vacate x ∷ rest → ⊥
  vacate k x rest l at = not-taken k (Todo.vacate x ∷ rest) _ plain Exchange.nothing l at is tt (λ i. counts (Site.row x) _ is i && (cleaning i && unclaimed i)) refl
    where
      is : f.sites (Site.row x) ≡ SiteState.row (row f x)
      is = row-is x (f.sites (Site.row x)) (rel.sorts (Site.row x))

      few : x < ROWS
      few = ltb-true x ROWS (named k (Todo.vacate x) rest l at)

      some : 0 < vacaters f x
      some =
          let part = part-total (λ j. counted (is_vacate x) (f.processors j).todo) f.cpus k l.inside in
          let here : counted (is_vacate x) (f.processors k).todo ≡ counted (is_vacate x) rest + 1 =
          ap (counted (is_vacate x)) at ∙ ap (λ b. if b then counted (is_vacate x) rest + 1 else counted (is_vacate x) rest) (eq-eqb x x refl) in
          omega (arith, part, here)

      count : recyclers f x ≡ one_if (Plain.is_gone (object_at m x).status && not (is_dying (row f x).stage))
      count = (rel.rows x few).cleaners.cleaner

      same : vacaters f x ≡ recyclers f x
      same =
          let order = (rel.rows x few).cleaners.order in
          let most = one-most (Plain.is_gone (object_at m x).status && not (is_dying (row f x).stage)) in
          let some-here = some in
          let count-here = count in omega (arith, some-here, order, count-here, most)

      gone : (Plain.is_gone (object_at m x).status && not (is_dying (row f x).stage)) ≡ true
      gone = let some-here = some in let count-here = count in let same-here = same in one-true _ (omega (arith, some-here, count-here, same-here))

      in-cleaning : (s : Stage) (r : Bool) → (Plain.is_gone (status_of s r) && not (is_dying s)) ≡ true → s ≡ Stage.Cleaning
      in-cleaning Stage.Free true h = absurd (false≢true h)
      in-cleaning Stage.Free false h = absurd (false≢true h)
      in-cleaning Stage.Live r h = absurd (false≢true h)
      in-cleaning Stage.Dying r h = absurd (false≢true h)
      in-cleaning Stage.Cleaning r h = refl

      stage : (row f x).stage ≡ Stage.Cleaning
      stage =
          let status = (rel.rows x few).status.status same in
          in-cleaning (row f x).stage (is_reserved (object_at m x).status) (ap (λ z. Plain.is_gone z && not (is_dying (row f x).stage)) (sym status) ∙ gone)

      cleaning : is_cleaning (row f x).stage ≡ true
      cleaning = ap is_cleaning stage

      unclaimed : ((row f x).claims == 0) ≡ true
      unclaimed = eq-eqb (row f x).claims 0 ((rel.rows x few).cleaners.unclaimed stage)

  -- Threads that are held.

  -- a processor that holds its thread has marked its word
  pub marks-held : (k : ℕ) → k < f.cpus → runs (f.processors k) ≡ true → has_held (f.processors k) ≡ true → (word f (f.processors k).context.thread).held ≡ true
  marks-held k l run held =
      let t = (f.processors k).context.thread in
      let few = (rel.contexts.running k l run).index in
      let part = part-total (λ j. one_if (runs_thread t (f.processors j) && has_held (f.processors j))) f.cpus k l in
      let mine : one_if (runs_thread t (f.processors k) && has_held (f.processors k)) ≡ 1 = λ i. one_if ((run i && eq-eqb t t refl i) && held i) in
      let all = (rel.threads t few).held.held in
      one-true _ (omega (arith, part, mine, all))

  -- its word is read once more
  pub reread : (k site : ℕ) (rest : Todos) → IsHalted f k → (f.processors k).todo ≡ Todo.reread site ∷ rest → ⊥
  reread k site rest l at =
      let t = (f.processors k).context.thread in
      let is = thread-sort t (f.sites (Site.thread t)) (rel.sorts (Site.thread t)) in
      not-taken k (Todo.reread site ∷ rest) _ plain Exchange.nothing l at is tt (λ i. counts (Site.thread t) _ is i && true) refl

  pub reread-asleep : (k : ℕ) (rest : Todos) → IsHalted f k → (f.processors k).todo ≡ Todo.reread_asleep ∷ rest → ⊥
  reread-asleep k rest l at =
      let t = (f.processors k).context.thread in
      let is = thread-sort t (f.sites (Site.thread t)) (rel.sorts (Site.thread t)) in
      not-taken k (Todo.reread_asleep ∷ rest) _ plain Exchange.nothing l at is tt (λ i. counts (Site.thread t) _ is i && true) refl

  pub let-go : (k : ℕ) (rest : Todos) → IsHalted f k → (f.processors k).todo ≡ Todo.let_go ∷ rest → ⊥
  let-go k rest l at =
      let t = (f.processors k).context.thread in
      let is = thread-sort t (f.sites (Site.thread t)) (rel.sorts (Site.thread t)) in
      let frames = (subst (AreFramed f.image) at (rel.processors k l.inside).frames).0 in
      let held : has_held (f.processors k) ≡ true = ap (λ (z : Todos). list_any is_let_go z && not (list_any is_hold z)) at ∙ ap not (no-hold-behind f.image rest frames) in
      let marked = marks-held k l.inside (running k l.inside Todo.let_go rest at (λ hand. hand)) held in
      not-taken k (Todo.let_go ∷ rest) _ plain Exchange.nothing l at is tt (λ i. counts (Site.thread t) _ is i && marked i) refl
