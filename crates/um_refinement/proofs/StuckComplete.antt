-- Where no processor can step, the access-matrix machine has no step: the events of the run are then a complete run. Asked for is that words can
-- count one step more.
use Rattle.um_refinement.proofs.Words.{Act, More, Bool, not, ◌≡◌, ℕ, ◌+◌, ◌<◌, false, true, List, [], ◌∷◌, Option, Some, None, refl, sym, ap, ◌∙◌, arith, eq-eqb, ◌&&◌, if◌then◌else◌, is_some, nat_lt, unwrap_or, list_all, and_parts, false≢true, lt-ltb, ltb-true, Told, Image, THREADS, to_thread, IsComplete, opening, State, core_of, IsKnown, IsDescribed, FineAct, Unseen, Cell, Context, no_context, Processor, Scheduler, first_ready, has_ready, parked_at, sched_takes, told_at, SiteState, Exchange, Site, Fine, one_if, scheduler, has_steps, runs, Rel, CanCount, CanRun, IsHalted, IsStuck, is_ready_there, occurs, takes_turn, turn_in}
use Rattle.um_fine.specs.Answers.{is_tick}
use Rattle.um_fine.specs.Asks.{made_by}
use Rattle.um_fine.specs.Clock.{first_due, later as next_time}
use Rattle.um_fine.specs.Scheduler.{is_cut, to_kill}
use Rattle.um_fine.specs.Sites.{filled}
use Rattle.um_fine.specs.Steps.{FineStep}
use Rattle.um_refinement.specs.Fine.{clock}
use Rattle.um_refinement.specs.Lists.{times}
use Rattle.um_refinement.proofs.Bounds.{AreBounded, ReadyThreads}
use Rattle.um_refinement.proofs.ChildrenKnown.{children-known}
use Rattle.um_refinement.proofs.DomainsKnown.{started-placed}
use Rattle.um_refinement.proofs.Erased.{IsReachable, fine}
use Rattle.um_refinement.proofs.HeldRows.{total-zero}
use Rattle.um_refinement.proofs.IdleComplete.{IsIdle, idle-complete}
use Rattle.um_refinement.proofs.Kept.{clock-sort, scheduler-sort}
use Rattle.um_refinement.proofs.Reachable.{reachable-sound, reachable-wide}
use Rattle.um_refinement.proofs.RoomKnown.{events-stand, has-room}
use Rattle.um_refinement.proofs.Stuck as S
use Rattle.um_refinement.proofs.Stuck.{HasRoom}
use Rattle.um_refinement.proofs.StuckLists.{halts, stuck-empty}
use Rattle.um_refinement.proofs.SuitsKnown.{kept-known, proper-known, tells-known}
use Rattle.um_refinement.proofs.Sums.{one-true}

-- a first thread is taken where it is parked, and another one can be counted
takes-first : (s : Scheduler) (c : Context) (told : Option Told) → sched_takes s (takes_turn c told) ≡ has_ready s s.ready
takes-first s c None = refl
takes-first s c (Some told) = refl

is-parked : (o : Option Context) (told : Option Told) (cut : Bool) → is_ready_there o told cut ≡ true → is_some o ≡ true
is-parked None told cut h = absurd (false≢true h)
is-parked (Some c) told cut h = refl

module _ (f : Fine) (m : State) (rel : Rel f m) (room : HasRoom f) (threads : ReadyThreads f) where
  -- what it takes from the scheduler is lawful for a processor without a thread, where one is ready
  pub first-lawful : (k : ℕ) → k < f.cpus → (f.processors k).todo ≡ [] → (scheduler f).running < 255 → (t : ℕ) (ready : List ℕ) → (scheduler f).ready ≡ t ∷ ready
      → (e : FineStep) × (e.cpu ≡ k) × (e.site ≡ Site.scheduler) × S.IsLawfulOf f m rel room k [] e
  first-lawful k inside at running t ready e = (
    filled f.image (SiteState.cell is.0 cell) (made_by f.image (S.with_list f m rel room k []) (S.asked f m rel room k (S.plain f m rel room) Exchange.nothing)),
    refl,
    refl,
    S.is-lawful f m rel room k [] (SiteState.cell is.0 cell) (S.plain f m rel room) Exchange.nothing inside at is.1 tt
        (λ i. S.counts f m rel room Site.scheduler _ is.1 i && taken i) refl,
  )
    where
      few : t < THREADS
      few = ltb-true t THREADS (and_parts _ _ (sym (ap (list_all (λ t. nat_lt t THREADS)) e) ∙ threads)).0

      is : (n : ℕ) × (f.sites Site.scheduler ≡ SiteState.cell n (Cell.scheduler (scheduler f)))
      is = scheduler-sort (f.sites Site.scheduler) (rel.sorts Site.scheduler)

      cell : Cell
      cell = Cell.scheduler (scheduler f)

      parked : is_some (parked_at (scheduler f) t) ≡ true
      parked =
          let once : occurs t (scheduler f).ready ≡ occurs t ready + 1 = ap (occurs t) e ∙ ap (λ b. if b then occurs t ready + 1 else occurs t ready) (eq-eqb t t refl) in
          let count = (rel.threads t few).ready.ready in
          is-parked (parked_at (scheduler f) t) (told_at (scheduler f) t) (is_cut (scheduler f) t) (one-true _ (omega (arith, once, count)))

      counts : nat_lt (scheduler f).running 255 ≡ true
      counts = lt-ltb (scheduler f).running 255 running

      taken : sched_takes (scheduler f) (turn_in (FineAct.Unseen (Unseen.Next (to_thread (f.processors k).context.thread))) (first_ready (scheduler f) (scheduler f).ready)) ≡ true
      taken =
          ap (λ z. sched_takes (scheduler f) (turn_in (FineAct.Unseen (Unseen.Next (to_thread (f.processors k).context.thread))) (first_ready (scheduler f) z))) e
          ∙ (takes-first (scheduler f) (to_kill (is_cut (scheduler f) t) (unwrap_or (parked_at (scheduler f) t) no_context)) (told_at (scheduler f) t)
          ∙ (ap (has_ready (scheduler f)) e ∙ (λ i. parked i && counts i)))

  -- so one that can't step would take the first one that is ready
  first-taken : (k : ℕ) → IsHalted f k → (f.processors k).todo ≡ [] → (scheduler f).running < 255 → (t : ℕ) (ready : List ℕ) → (scheduler f).ready ≡ t ∷ ready → ⊥
  first-taken k l at running t ready e = let first = first-lawful k l.inside at running t ready e in l.stuck first.0 first.1 first.3.by first.3.taken

  pub none-ready : (k : ℕ) → IsHalted f k → (f.processors k).todo ≡ [] → (scheduler f).running < 255 → (scheduler f).ready ≡ []
  none-ready k l at running = by (scheduler f).ready refl
    where
      by : (ready : List ℕ) → (scheduler f).ready ≡ ready → ready ≡ []
      by [] e = refl
      by (t ∷ ready) e = absurd (first-taken k l at running t ready e)

  -- A processor without a list that can't step would take a mark that is due, or let time go on.

  pub none-there : {A : Type 0} (o : Option A) → (is_some o ≡ true → ⊥) → o ≡ None
  none-there None h = refl
  none-there (Some a) h = absurd (h refl)

  pub due-lawful : (k : ℕ) → k < f.cpus → (f.processors k).todo ≡ [] → is_some (first_due (clock f).now (clock f).marks) ≡ true
      → (e : FineStep) × (e.cpu ≡ k) × (is_tick e.act ≡ false) × S.IsLawfulOf f m rel room k [] e
  due-lawful k inside at some =
      let is = clock-sort (f.sites Site.clock) (rel.sorts Site.clock) in
      let cell = SiteState.cell is.0 (Cell.clock (clock f)) in (
        filled f.image cell (made_by f.image (S.with_list f m rel room k []) (S.asked f m rel room k (FineAct.Unseen Unseen.Due) Exchange.nothing)),
        refl,
        refl,
        S.is-lawful f m rel room k [] cell (FineAct.Unseen Unseen.Due) Exchange.nothing inside at is.1 tt (λ i. S.counts f m rel room Site.clock _ is.1 i && some i) refl,
      )

  pub none-due : (k : ℕ) → IsHalted f k → (f.processors k).todo ≡ [] → first_due (clock f).now (clock f).marks ≡ None
  none-due k l at = none-there (first_due (clock f).now (clock f).marks) (λ some. let due = due-lawful k l.inside at some in l.stuck due.0 due.1 due.3.by due.3.taken)

  pub none-next : (k : ℕ) → IsHalted f k → (f.processors k).todo ≡ [] → next_time (clock f) ≡ None
  none-next k l at =
      let is = clock-sort (f.sites Site.clock) (rel.sorts Site.clock) in
      none-there (next_time (clock f))
      (λ some.
      S.not-taken f m rel room k [] _ (FineAct.Shown (record { thread = to_thread 0; act = Act.Tick 0 }) More.Nothing) Exchange.nothing l at is.1 tt
      (λ i. S.counts f m rel room Site.clock _ is.1 i && some i) refl)

  -- nobody is ready where no processor can step and none has a step left
  pub stuck-idle : IsStuck f → 0 < f.cpus → ((k : ℕ) → k < f.cpus → (f.processors k).todo ≡ []) → IsIdle f
  stuck-idle stuck some empty =
      let none = rel.running.running ∙ total-zero (λ k. one_if (runs (f.processors k))) f.cpus (λ k l. ap (λ todo. one_if (has_steps todo && not (times todo))) (empty k l)) in
      let ready = none-ready 0 (halts f stuck 0 some) (empty 0 some) (omega (arith, none)) in
      record {
        lists = empty;
        ready = λ t few. ap (occurs t) ready;
        due = none-due 0 (halts f stuck 0 some) (empty 0 some);
        next = none-next 0 (halts f stuck 0 some) (empty 0 some);
      }

-- What a fine run leaves, and a state that its events reach: where no processor can step, the events are a complete run.
pub stuck-complete : (image : Image) (cpus : ℕ) → IsDescribed image → IsKnown (core_of (opening image)) → CanRun image cpus
    → (ps : ℕ → Processor) (ss : Site → SiteState) (m : State)
    → let f = fine image cpus ps ss in Rel f m → IsReachable image cpus m → AreBounded f → CanCount f → IsStuck f → IsComplete m
stuck-complete image cpus described known can ps ss m rel reach bounds counts stuck =
    let f = fine image cpus ps ss in
    let proper = proper-known image cpus described known m reach in
    let sound = reachable-sound image cpus described.few m reach known in
    let children = children-known image cpus m reach in
    let room = has-room f m rel proper sound bounds (tells-known image cpus described known m reach) children can counts in
    let empty = stuck-empty f m rel proper (λ t l started. started-placed image cpus described m reach t started) sound room (events-stand f m rel proper sound bounds) (λ t. ((kept-known image cpus described known m reach).orderly t).steps) (λ k l some. halts f stuck k l) in
    idle-complete f m rel (stuck-idle f m rel room bounds.ready stuck can.some empty) (reachable-wide image cpus described.few m reach) children
