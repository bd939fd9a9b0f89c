-- The opening: what the sites keep of a state in which nobody runs, and a processor that has no thread.
use Rattle.std.specs.Prelude.{ℕ, ◌+◌, Bool, true, false, not, nat_le, List, [], ◌∷◌, map, replicate, Option, Some, None, is_some, slice_index_or}
use Rattle.um_base.specs.declared.image.Boot.{Boot}
use Rattle.um_base.specs.declared.image.Image.{Image}
use Rattle.um_base.specs.declared.limits.TheConstants.{STATIC_ROWS, THREADS}
use Rattle.um_base.specs.Places.{own_row, thread_of_row}
use Rattle.um_machine.specs.declared.object.Object.{Object}
use Rattle.um_machine.specs.declared.thread.Thread.{Thread}
use Rattle.um_machine.specs.State.{State, thread_at, object_at, is_living}
use Rattle.um_machine.specs.Objects.{thread_holds}
use Rattle.um_machine.specs.Objects as Objects
use Rattle.um_machine.specs.Run.{index_or, opening}
use Rattle.um_machine.specs.Table.{domain_at}
use Rattle.um_words.specs.declared.row_word.Stage.{Stage}
use Rattle.um_fine.specs.Context.{Context, context_of}
use Rattle.um_fine.specs.Steps.{Site}
use Rattle.um_fine.specs.Cells.{Cell}
use Rattle.um_fine.specs.Sites.{SiteState}

abbrev pub count : List Bool → ℕ
count [] = 0
count (true ∷ bs) = count bs + 1
count (false ∷ bs) = count bs

-- what stands in a list, each with its number from i on
abbrev pub indexed : {A B : Type 0} → (ℕ → A → B) → ℕ → List A → List B
indexed f i [] = []
indexed f i (x ∷ xs) = f i x ∷ indexed f (i + 1) xs

abbrev pub stage_of : Object → Stage
stage_of o = elim (Objects.is_live o.status) as (λ _. Stage) [ true ↦ Stage.Live | false ↦ Stage.Free ]

abbrev pub parked_if : Bool → Context → Option Context
parked_if true c = Some c
parked_if false c = None

abbrev pub no_notes : List ℕ
no_notes = replicate THREADS 0

-- a cell that has taken no step
abbrev pub new_cell : Cell → SiteState
new_cell c = SiteState.cell 0 c

module _ (s : State) where
  -- a thread holds its own object, and a claim stands for it; dynamic objects come later
  abbrev pub row_state : ℕ → SiteState
  row_state x =
      let o = object_at s x in
      SiteState.row
      (record {
        permissions = slice_index_or s.pairs x [];
        init = o.init;
        public = o.public;
        dynamic = false;
        stage = stage_of o;
        claims = count (indexed (thread_holds s.image x) 0 s.threads);
        number = 0;
      })

  abbrev pub thread_state : ℕ → SiteState
  thread_state t =
      let me = thread_at s t in
      SiteState.thread
      (record {
        life = me.life;
        doomed = me.doomed;
        held = false;
        mode = me.mode;
        domain = me.domain;
        aborted = false;
        suspended = false;
        note = None;
        number = 0;
      })

  abbrev pub domain_state : ℕ → SiteState
  domain_state d =
      SiteState.domain (record { init = is_some (domain_at s d); writer = false; readers = 0; version = 0; number = 0 })

  abbrev pub object_cell : ℕ → Cell
  object_cell x = let o = object_at s x in Cell.object (record { contents = o.contents; waiters = o.waiters; noted = no_notes; buffer = o.buffer })

  -- the addresses of the dynamic rows are free
  abbrev pub heap_cell : Cell
  heap_cell =
      Cell.heap
      (record {
        pools = s.pools;
        free = indexed (λ x (o : Object). nat_le STATIC_ROWS x) 0 s.objects;
        costs = map (λ (o : Object). o.cost) s.objects;
      })

  -- the boot threads are ready, in their order
  abbrev pub boot_index : Boot → ℕ
  boot_index boot = index_or (thread_of_row s.image boot.thread.0)

  abbrev pub scheduler_cell : Cell
  scheduler_cell =
      Cell.scheduler
      (record {
        ready = map boot_index s.image.boots;
        parked = indexed (λ t (me : Thread). parked_if (is_living me.life) (context_of t me)) 0 s.threads;
        told = replicate THREADS None;
        priorities = map (λ (me : Thread). me.priority) s.threads;
        cuts = replicate THREADS false;
        running = 0;
        owed = 0;
      })

  -- nobody joins a thread whose object isn't initialised
  abbrev pub is_shut_at : ℕ → Thread → Bool
  is_shut_at t me = not (object_at s (own_row s.image t)).init

  abbrev pub joins_cell : Cell
  joins_cell =
      Cell.joins
      (record {
        waiters = [];
        noted = no_notes;
        shut = indexed is_shut_at 0 s.threads;
        asleep = replicate THREADS None;
      })

  abbrev pub site_state : Site → SiteState
  site_state (Site.row x) = row_state x
  site_state (Site.thread t) = thread_state t
  site_state (Site.domain d) = domain_state d
  site_state (Site.object x) = new_cell (object_cell x)
  site_state (Site.parts d) = new_cell (Cell.parts (domain_at s d))
  site_state Site.memory = new_cell (Cell.memory (record { memory = s.memory; stacks = s.stacks; futexes = []; noted = no_notes }))
  site_state Site.heap = new_cell heap_cell
  site_state Site.scheduler = new_cell scheduler_cell
  site_state Site.clock = new_cell (Cell.clock (record { now = 0; marks = [] }))
  site_state Site.joins = new_cell joins_cell

-- the sites of an image
abbrev pub s_start : Image → Site → SiteState
s_start image = site_state (opening image)
