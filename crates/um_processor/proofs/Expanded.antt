-- A processor goes on to the first fine step of its thread's next step.
use Rattle.std.proofs.Common.{◌≡◌, ℕ, Bool, true, false, [], ◌∷◌, drop, refl, sym, ap, ◌∙◌}
use Rattle.std.specs.Prelude.{nat_lt, if◌then◌else◌}
use Rattle.std.proofs.lemmas.Bool.{false≢true}
use Rattle.um_base.specs.declared.ask.Ask.{Ask}
use Rattle.um_base.specs.declared.image.Image.{Image}
use Rattle.um_base.specs.declared.names.Addr.{Addr}
use Rattle.um_machine.specs.declared.pending.Pending.{Pending}
use Rattle.um_machine.specs.Order.{Steps}
use Rattle.um_base.specs.declared.limits.TheConstants.{ROWS}
use Rattle.um_base.specs.declared.names.ThreadIx.{ThreadIx}
use Rattle.um_base.specs.Places.{own_row}
use Rattle.um_fine.specs.Context.{Context}
use Rattle.um_fine.specs.Follows.{filled_up}
use Rattle.um_fine.specs.Places.{Todo, Todos, but, drops, fine_steps, next_steps, passes}
use Rattle.um_processor.specs.declared.phase.Phase.{Phase}
use Rattle.um_processor.specs.declared.running.Running.{Running}
use Rattle.um_processor.specs.Phases.{behind_phase, first_of, first_phase, has_visits, is_direct, is_over, is_own, is_untimed, passed_to}
use Rattle.um_tables.specs.Contexts.{steps_behind}
use Rattle.um_processor.specs.Processors.{Ready, behind_errand, processor_of, ready_for, ready_of, refilled, todo_in, visiting, with_todo}
use Rattle.um_processor.proofs.Phased.{dropped, first-own, full, own-is, passed, places, readied, untimed-shows}

module _ (image : Image) (r : Running) (rest : Steps) where
  -- the fine steps of a direct step are those from its first phase on, whatever is ready
  direct-places : (p : Pending) → is_direct p ≡ true → (k : Ready)
      → todo_in (first_phase image r.context.value p Pending.Resume) (p ∷ rest) k ≡ next_steps image r.context.value (p ∷ rest)
  direct-places (Pending.Work a ask) h k = absurd (false≢true h)
  direct-places Pending.Resume h k = absurd (false≢true h)
  direct-places (Pending.Inherit who) h k = absurd (false≢true h)
  direct-places (Pending.Drops from) h k = absurd (false≢true h)
  direct-places (Pending.Probe a amount) h k = absurd (false≢true h)
  direct-places (Pending.CopyIn a amount) h k = absurd (false≢true h)
  direct-places (Pending.Start who script stack priority mode) h k = absurd (false≢true h)
  direct-places (Pending.Arm ticks) h k = absurd (false≢true h)
  direct-places (Pending.FutexWait a value timeout) h k = absurd (false≢true h)
  direct-places (Pending.Join who timeout) h k = absurd (false≢true h)
  direct-places (Pending.ClearInit a) h k = absurd (false≢true h)
  direct-places p h k = refl

  -- a processor goes on in a phase from which the steps are those of the thread's next step
  goes-on : (phase : Phase) (p : Pending) → is_own phase ≡ true → r.context.value.pending ≡ p ∷ rest
      → ((k : Ready) → todo_in phase (p ∷ rest) k ≡ next_steps image r.context.value (p ∷ rest))
      → processor_of (record r { visited = false; phase = phase }) ≡ refilled image r
  goes-on phase p own at steps =
      own-is phase (record r { visited = false; phase = phase }) own
      ∙ ap (λ (s : Steps). with_todo r (todo_in phase s (ready_of r))) at
      ∙ ap (with_todo r) (steps (ready_of r))
      ∙ ap (λ (s : Steps). with_todo r (next_steps image r.context.value s)) (sym at)

  pub direct-goes : (p : Pending) → r.context.value.pending ≡ p ∷ rest → is_direct p ≡ true
      → processor_of (record r { visited = false; phase = first_phase image r.context.value p Pending.Resume }) ≡ refilled image r
  direct-goes p at h =
      goes-on (first_phase image r.context.value p Pending.Resume) p (first-own image r.context.value p Pending.Resume) at (direct-places p h)

  pub untimed-goes : (a : Addr) (ask : Ask) → r.context.value.pending ≡ Pending.Work a ask ∷ rest → is_untimed r.context.value ask ≡ true
      → processor_of (record r { visited = false; phase = Phase.Show }) ≡ refilled image r
  untimed-goes a ask at h = goes-on Phase.Show (Pending.Work a ask) refl at (λ (k : Ready). untimed-shows image r.context.value rest a ask h)

plain-next : (image : Image) (c : Context) (p : Pending) (rest : Steps) → has_visits p ≡ false → next_steps image c (p ∷ rest) ≡ fine_steps image c p rest
plain-next image c Pending.Resume rest h = absurd (false≢true (sym h))
plain-next image c (Pending.Inherit who) rest h = absurd (false≢true (sym h))
plain-next image c (Pending.Drops from) rest h = absurd (false≢true (sym h))
plain-next image c p rest h = refl

-- a processor that is made ready for a step, and what of it the step reads
abbrev pub made_ready : Image → Bool → Pending → Pending → Running → Running → Running
made_ready image visited p later r z =
    record r {
      queue = z.queue;
      newborn = z.newborn;
      cell = z.cell;
      settles = z.settles;
      deadline = z.deadline;
      mark = z.mark;
      rereads = false;
      visited = visited;
      next = first_phase image r.context.value p later;
      phase = first_phase image r.context.value p later;
    }

module _ (image : Image) (r z : Running) where
  -- before a step without visits
  ready-goes : (p : Pending) (rest : Steps) → ready_of z ≡ ready_for image r.context.value p (first_of rest)
      → z ≡ made_ready image false p (first_of rest) r z → r.context.value.pending ≡ p ∷ rest
      → processor_of z ≡ with_todo r (fine_steps image r.context.value p rest)
  ready-goes p rest ready at steps =
      let y = made_ready image false p (first_of rest) r z in
      ap processor_of at ∙ readied image y p rest refl (ap ready_of (sym at) ∙ ready) steps

  pub plain_goes : (p later : Pending) → later ≡ first_of (drop 1 r.context.value.pending) → r.context.value.pending ≡ p ∷ drop 1 r.context.value.pending
      → has_visits p ≡ false → ready_of z ≡ ready_for image r.context.value p later → z ≡ made_ready image false p later r z
      → processor_of z ≡ refilled image r
  plain_goes p later is steps plain ready at =
      let c = r.context.value in
      let rest = drop 1 c.pending in
      ready-goes p rest (ready ∙ ap (ready_for image c p) is) (at ∙ ap (λ (b : Pending). made_ready image false p b r z) is) steps
      ∙ ap (with_todo r) (sym (plain-next image c p rest plain) ∙ ap (next_steps image c) (sym steps))

  -- a step that has rows visited before no step is like any other
  pub alone_passes : (who : ThreadIx) → r.context.value.pending ≡ Pending.Inherit who ∷ drop 1 r.context.value.pending → drop 1 r.context.value.pending ≡ []
      → ready_of z ≡ ready_for image r.context.value (Pending.Inherit who) Pending.Resume → z ≡ made_ready image false (Pending.Inherit who) Pending.Resume r z
      → processor_of z ≡ refilled image r
  alone_passes who steps none ready at =
      let c = r.context.value in
      let alone : c.pending ≡ Pending.Inherit who ∷ [] = steps ∙ ap (λ (rest : Steps). Pending.Inherit who ∷ rest) none in
      ready-goes (Pending.Inherit who) [] ready at alone ∙ ap (λ (s : Steps). with_todo r (next_steps image c s)) (sym alone)

  pub alone_drops : (from : ℕ) → r.context.value.pending ≡ Pending.Drops from ∷ drop 1 r.context.value.pending → drop 1 r.context.value.pending ≡ []
      → ready_of z ≡ ready_for image r.context.value (Pending.Drops from) Pending.Resume → z ≡ made_ready image false (Pending.Drops from) Pending.Resume r z
      → processor_of z ≡ refilled image r
  alone_drops from steps none ready at =
      let c = r.context.value in
      let alone : c.pending ≡ Pending.Drops from ∷ [] = steps ∙ ap (λ (rest : Steps). Pending.Drops from ∷ rest) none in
      ready-goes (Pending.Drops from) [] ready at alone ∙ ap (λ (s : Steps). with_todo r (next_steps image c s)) (sym alone)

  -- what stands behind the visits
  behind-visits : (p later : Pending) → later ≡ first_of (drop 2 r.context.value.pending) → drop 1 r.context.value.pending ≡ p ∷ drop 2 r.context.value.pending
      → ready_of z ≡ ready_for image r.context.value p later → z ≡ made_ready image true p later r z
      → todo_in (first_phase image r.context.value p later) (drop 1 r.context.value.pending) (ready_of (made_ready image true p later r z))
      ≡ fine_steps image r.context.value p (drop 2 r.context.value.pending)
  behind-visits p later is steps ready at =
      let c = r.context.value in
      (λ i. todo_in (first_phase image c p (is i)) (steps i) ((ap ready_of (sym at) ∙ ready) i))
      ∙ ap (λ (b : Pending). todo_in (first_phase image c p (first_of (drop 2 c.pending))) (p ∷ drop 2 c.pending) (ready_for image c p b)) is
      ∙ places image c (drop 2 c.pending) p

  filled : (b : Bool) (q : Todo) (c : Context) (phase : Phase) (steps : Steps) (k : Ready)
      → filled_up image c (if b then q ∷ todo_in phase steps k else todo_in phase steps k) ≡ (if b then q ∷ todo_in phase steps k else todo_in phase steps k)
  filled true q c phase steps k = refl
  filled false q c phase steps k = full image c phase steps k

  pub passes_goes : (who : ThreadIx) (p later : Pending) (row : ℕ) → r.context.value.pending ≡ Pending.Inherit who ∷ drop 1 r.context.value.pending
      → drop 1 r.context.value.pending ≡ p ∷ drop 2 r.context.value.pending → later ≡ first_of (drop 2 r.context.value.pending)
      → ready_of z ≡ ready_for image r.context.value p later → z ≡ made_ready image true p later r z
      → row ≡ but (own_row image r.context.value.thread) 0
      → processor_of (visiting row Phase.Pass z) ≡ refilled image r
  passes_goes who p later row first steps is ready at where_ =
      let c = r.context.value in
      let y = made_ready image true p later r z in
      let rest = drop 2 c.pending in
      let phase = first_phase image c p later in
      let all : c.pending ≡ Pending.Inherit who ∷ p ∷ rest = first ∙ ap (λ (s : Steps). Pending.Inherit who ∷ s) steps in
      ap (λ (k : Running). processor_of (visiting row Phase.Pass k)) at
      ∙ passed image y row
      ∙ ap (with_todo r) (filled (nat_lt row ROWS) (Todo.pass (passed_to c.pending) row) c phase (drop 1 c.pending) (ready_of y))
      ∙ (λ i. with_todo r (passes (passed_to (all i)) (where_ i) (behind-visits p later is steps ready at i)))
      ∙ ap (λ (s : Steps). with_todo r (next_steps image c s)) (sym all)

  pub drops_goes : (from : ℕ) (p later : Pending) → r.context.value.pending ≡ Pending.Drops from ∷ drop 1 r.context.value.pending
      → drop 1 r.context.value.pending ≡ p ∷ drop 2 r.context.value.pending → later ≡ first_of (drop 2 r.context.value.pending)
      → ready_of z ≡ ready_for image r.context.value p later → z ≡ made_ready image true p later r z
      → processor_of (visiting from Phase.Drop z) ≡ refilled image r
  drops_goes from p later first steps is ready at =
      let c = r.context.value in
      let y = made_ready image true p later r z in
      let rest = drop 2 c.pending in
      let phase = first_phase image c p later in
      let all : c.pending ≡ Pending.Drops from ∷ p ∷ rest = first ∙ ap (λ (s : Steps). Pending.Drops from ∷ s) steps in
      ap (λ (k : Running). processor_of (visiting from Phase.Drop k)) at
      ∙ dropped image y from
      ∙ ap (with_todo r) (filled (nat_lt from ROWS) (Todo.drop from) c phase (drop 1 c.pending) (ready_of y))
      ∙ ap (λ (t : Todos). with_todo r (drops from t)) (behind-visits p later is steps ready at)
      ∙ ap (λ (s : Steps). with_todo r (next_steps image c s)) (sym all)

-- behind an errand comes what was next, or the thread's next step
behind-by : (image : Image) (phase : Phase) (r : Running) → is_over phase ≡ false
    → processor_of (record r { phase = behind_phase phase }) ≡ with_todo r (filled_up image r.context.value (behind_errand phase r))
behind-by image Phase.Open r h = absurd (false≢true (sym h))
behind-by image Phase.Idle r h = absurd (false≢true (sym h))
behind-by image Phase.Look r h = refl
behind-by image Phase.TellCut r h = refl
behind-by image Phase.Rouse r h = refl
behind-by image Phase.AddRoused r h = refl
behind-by image Phase.Handle r h = refl
behind-by image Phase.Paid r h = refl
behind-by image Phase.Pass r h = refl
behind-by image Phase.Drop r h = refl
behind-by image phase r h = ap (with_todo r) (sym (full image r.context.value phase (steps_behind r.visited r.context.value.pending) (ready_of r)))

pub behind_goes : (image : Image) (r : Running) → is_over r.after ≡ false
    → processor_of (record r { phase = behind_phase r.after }) ≡ with_todo r (filled_up image r.context.value (behind_errand r.after r))
behind_goes image r h = behind-by image r.after r h

over-by : (image : Image) (phase : Phase) (r : Running) → is_over phase ≡ true
    → refilled image r ≡ with_todo r (filled_up image r.context.value (behind_errand phase r))
over-by image Phase.Open r h = refl
over-by image Phase.Idle r h = refl
over-by image phase r h = absurd (false≢true h)

pub over_goes : (image : Image) (r : Running) → is_over r.after ≡ true
    → refilled image r ≡ with_todo r (filled_up image r.context.value (behind_errand r.after r))
over_goes image r h = over-by image r.after r h
