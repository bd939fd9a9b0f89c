-- The sites as tables keep them, with a log of events; what comes of a step there, and what a site says of it.
use Rattle.std.specs.Prelude.{◌≡◌, ◌<◌, ◌≤◌, ◌&&◌, ℕ, List, [], ◌∷◌, ◌++◌, None, Option, Some, true, not, length, slice_index_or, slice_set}
use Rattle.um_base.specs.declared.act.Act.{Act}
use Rattle.um_base.specs.declared.act.Event.{Event}
use Rattle.um_base.specs.declared.image.Image.{Image}
use Rattle.um_base.specs.declared.limits.TheConstants.{DOMAINS, ROWS, THREADS}
use Rattle.um_base.specs.declared.names.ThreadIx.{ThreadIx}
use Rattle.um_words.specs.declared.fine.FineAct.{FineAct}
use Rattle.um_words.specs.declared.row_word.RowWord.{RowWord}
use Rattle.um_words.specs.declared.thread_word.ThreadWord.{ThreadWord}
use Rattle.um_words.specs.declared.dom_word.DomWord.{DomWord}
use Rattle.um_words.specs.Rows.{has}
use Rattle.um_fine.specs.Answers.{no_domain, no_row, no_thread}
use Rattle.um_fine.specs.Cells.{Cell}
use Rattle.um_fine.specs.Clock.{Clock}
use Rattle.um_fine.specs.Heap.{Heap}
use Rattle.um_fine.specs.Joins.{Joins}
use Rattle.um_fine.specs.Memory.{Bytes}
use Rattle.um_fine.specs.Scheduler.{Scheduler}
use Rattle.um_fine.specs.Steps.{FineStep, Site}
use Rattle.um_fine.specs.Sites.{SiteMay, SiteState, filled, s_next}
use Rattle.um_tables.specs.Asked.{Refuses, event_of}
use Rattle.um_tables.specs.declared.domain_cell.DomainCell.{DomainCell}
use Rattle.um_tables.specs.declared.object_cell.ObjectCell.{ObjectCell}
use Rattle.um_tables.specs.ObjectCells.{cleared, kept_in}
use Rattle.um_tables.specs.declared.said.Said.{Said}

-- the words of all rows, thread indices and domains, the cells of domains and of objects, and those of memory, the heap, the scheduler, the clock and the joins with the steps that they have taken;
-- the events of all steps so far, in their order, and how many the log has room for
pub record Sited : Type 0 where
  pub rows : List RowWord
  pub threads : List ThreadWord
  pub domains : List DomWord
  pub domain_cells : List DomainCell
  pub objects : List ObjectCell
  pub rodata : List ℕ
  pub memory : Bytes
  pub memory_steps : ℕ
  pub heap : Heap
  pub heap_steps : ℕ
  pub scheduler : Scheduler
  pub scheduler_steps : ℕ
  pub clock : Clock
  pub clock_steps : ℕ
  pub joins : Joins
  pub joins_steps : ℕ
  pub log : List Event
  pub most : ℕ

-- there is a word for each row, thread index and domain, and a cell for each domain and each object
pub record IsSized (s : Sited) : Type 0 where
  pub rows : length s.rows ≡ ROWS
  pub threads : length s.threads ≡ THREADS
  pub domains : length s.domains ≡ DOMAINS
  pub domain_cells : length s.domain_cells ≡ DOMAINS
  pub objects : length s.objects ≡ ROWS

-- the word of a thread names a domain
abbrev pub in_domains : ThreadWord → Type 0
in_domains w = w.domain < DOMAINS

-- the cell of a domain that isn't initialised
abbrev pub no_domain_cell : DomainCell
no_domain_cell = record { parts = None; steps = 0 }

abbrev pub domain_cell_state : DomainCell → SiteState
domain_cell_state c = SiteState.cell c.steps (Cell.parts c.parts)

abbrev pub object_state : ObjectCell → SiteState
object_state c = SiteState.cell c.steps (Cell.object (kept_in c))

-- what stands at a site; past the last site of a sort, an empty state
abbrev pub state_at : Sited → Site → SiteState
state_at s (Site.row x) = SiteState.row (slice_index_or s.rows x no_row)
state_at s (Site.thread t) = SiteState.thread (slice_index_or s.threads t no_thread)
state_at s (Site.domain d) = SiteState.domain (slice_index_or s.domains d no_domain)
state_at s (Site.parts d) = domain_cell_state (slice_index_or s.domain_cells d no_domain_cell)
state_at s (Site.object x) = object_state (slice_index_or s.objects x (cleared 0))
state_at s Site.memory = SiteState.cell s.memory_steps (Cell.memory s.memory)
state_at s Site.heap = SiteState.cell s.heap_steps (Cell.heap s.heap)
state_at s Site.scheduler = SiteState.cell s.scheduler_steps (Cell.scheduler s.scheduler)
state_at s Site.clock = SiteState.cell s.clock_steps (Cell.clock s.clock)
state_at s Site.joins = SiteState.cell s.joins_steps (Cell.joins s.joins)

abbrev pub with_state : Sited → Site → SiteState → Sited
with_state s (Site.row x) (SiteState.row w) = record s { rows = slice_set s.rows x w }
with_state s (Site.thread t) (SiteState.thread w) = record s { threads = slice_set s.threads t w }
with_state s (Site.domain d) (SiteState.domain w) = record s { domains = slice_set s.domains d w }
with_state s (Site.parts d) (SiteState.cell n (Cell.parts parts)) =
    record s { domain_cells = slice_set s.domain_cells d (record { parts = parts; steps = n }) }
with_state s (Site.object x) (SiteState.cell n (Cell.object o)) =
    record s { objects = slice_set s.objects x (record { contents = o.contents; waiters = o.waiters; noted = o.noted; buffer = o.buffer; steps = n }) }
with_state s Site.memory (SiteState.cell n (Cell.memory m)) = record s { memory = m; memory_steps = n }
with_state s Site.heap (SiteState.cell n (Cell.heap h)) = record s { heap = h; heap_steps = n }
with_state s Site.scheduler (SiteState.cell n (Cell.scheduler t)) = record s { scheduler = t; scheduler_steps = n }
with_state s Site.clock (SiteState.cell n (Cell.clock c)) = record s { clock = c; clock_steps = n }
with_state s Site.joins (SiteState.cell n (Cell.joins j)) = record s { joins = j; joins_steps = n }
with_state s site state = s

-- the log with this event appended
abbrev pub logged : List Event → Option Event → List Event
logged log None = log
logged log (Some event) = log ++ event ∷ []

-- the step's event is in the log
abbrev pub noted : Sited → FineStep → Sited
noted s e = record s { log = logged s.log (event_of e.act) }

-- the step was made: its site took it, its event was appended to the log, and all else is as before
pub record WasMade (image : Image) (old : Sited) (e : FineStep) (new : Sited) : Type 0 where
  pub may : SiteMay image (state_at old e.site) e
  pub leaves : new ≡ with_state (noted old e) e.site (s_next image (state_at old e.site) e)

-- the log has no room for another event
abbrev pub IsFull : Sited → Type 0
IsFull s = s.most ≤ length s.log

-- a thread passes a permission on that it has and the other one hasn't
abbrev pub IsDueTo : RowWord → ThreadIx → Act → Type 0
IsDueTo w t (Act.Inherit who a) = (has w t.0 && not (has w who.0)) ≡ true
IsDueTo w t act = Unit {0}

abbrev pub IsDue : RowWord → FineAct → Type 0
IsDue w (FineAct.Shown event more) = IsDueTo w event.thread event.act
IsDue w (FineAct.Unseen unseen) = Unit {0}

-- whoever looks at the site may ask for the step. At a row, an inheritance is asked for only if it is due
abbrev pub IsSeen : SiteState → FineAct → Type 0
IsSeen (SiteState.row w) act = IsDue w act
IsSeen state act = Unit {0}

-- the site refuses the step, as it would be made there
pub record IsShut (image : Image) (s : SiteState) (e : FineStep) : Type 0 where
  pub refuses : Refuses s e
  pub filled_in : filled image s e ≡ e
  pub seen : IsSeen s e.act

abbrev pub MatchSaid : {A : Type 0} → Said A → (A → Type 0) → Type 0 → Type 0 → Type 0
MatchSaid (Said.Made said) made busy changed = made said
MatchSaid Said.Busy made busy changed = busy
MatchSaid Said.Changed made busy changed = changed

abbrev pub IfMade : {A : Type 0} → Said A → (A → Type 0) → Type 0
IfMade (Said.Made said) made = made said
IfMade _ made = Unit {0}
