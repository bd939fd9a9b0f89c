-- The processors and the sites of a fine run at one moment, and what each site keeps.
use Rattle.std.specs.Prelude.{ℕ, zero, suc, ◌+◌, Bool, true, false, [], Option, None}
use Rattle.um_base.specs.declared.image.Image.{Image}
use Rattle.um_base.specs.Regions.{Partitions}
use Rattle.um_machine.specs.declared.contents.Contents.TheVariants as Contents
use Rattle.um_words.specs.declared.row_word.RowWord.{RowWord}
use Rattle.um_words.specs.declared.thread_word.ThreadWord.{ThreadWord}
use Rattle.um_words.specs.declared.dom_word.DomWord.{DomWord}
use Rattle.um_fine.specs.Steps.{Site}
use Rattle.um_fine.specs.Answers.{domain_in, row_in, thread_in}
use Rattle.um_fine.specs.Objects.{ObjectCell}
use Rattle.um_fine.specs.Memory.{Bytes}
use Rattle.um_fine.specs.Heap.{Heap}
use Rattle.um_fine.specs.Scheduler.{Scheduler}
use Rattle.um_fine.specs.Cells.{Cell}
use Rattle.um_fine.specs.Clock.{Clock}
use Rattle.um_fine.specs.Joins.{Joins}
use Rattle.um_fine.specs.Sites.{SiteState, word_of}
use Rattle.um_fine.specs.Processor.{Processor}

pub record Fine : Type 0 where
  pub image : Image
  pub cpus : ℕ  -- how many processors there are
  pub processors : ℕ → Processor
  pub sites : Site → SiteState

-- What a state of a site keeps, by its sort.

abbrev pub row_state : SiteState → RowWord
row_state s = row_in (word_of s)

abbrev pub thread_state : SiteState → ThreadWord
thread_state s = thread_in (word_of s)

abbrev pub domain_state : SiteState → DomWord
domain_state s = domain_in (word_of s)

abbrev pub object_state : SiteState → ObjectCell
object_state (SiteState.cell n (Cell.object o)) = o
object_state _ = record { contents = Contents.Nothing; waiters = []; noted = []; buffer = None }

abbrev pub parts_state : SiteState → Option Partitions
parts_state (SiteState.cell n (Cell.parts d)) = d
parts_state _ = None

abbrev pub bytes_state : SiteState → Bytes
bytes_state (SiteState.cell n (Cell.memory m)) = m
bytes_state _ = record { memory = []; stacks = []; futexes = []; noted = [] }

abbrev pub heap_state : SiteState → Heap
heap_state (SiteState.cell n (Cell.heap h)) = h
heap_state _ = record { pools = []; free = []; costs = [] }

abbrev pub scheduler_state : SiteState → Scheduler
scheduler_state (SiteState.cell n (Cell.scheduler s)) = s
scheduler_state _ = record { ready = []; parked = []; told = []; priorities = []; cuts = []; running = 0; owed = 0 }

abbrev pub clock_state : SiteState → Clock
clock_state (SiteState.cell n (Cell.clock c)) = c
clock_state _ = record { now = 0; marks = [] }

abbrev pub joins_state : SiteState → Joins
joins_state (SiteState.cell n (Cell.joins j)) = j
joins_state _ = record { waiters = []; noted = []; shut = []; asleep = [] }

-- What stands at the sites.

abbrev pub row : Fine → ℕ → RowWord
row f x = row_state (f.sites (Site.row x))

abbrev pub word : Fine → ℕ → ThreadWord
word f t = thread_state (f.sites (Site.thread t))

abbrev pub domain : Fine → ℕ → DomWord
domain f d = domain_state (f.sites (Site.domain d))

abbrev pub object : Fine → ℕ → ObjectCell
object f x = object_state (f.sites (Site.object x))

abbrev pub parts : Fine → ℕ → Option Partitions
parts f d = parts_state (f.sites (Site.parts d))

abbrev pub bytes : Fine → Bytes
bytes f = bytes_state (f.sites Site.memory)

abbrev pub heap : Fine → Heap
heap f = heap_state (f.sites Site.heap)

abbrev pub scheduler : Fine → Scheduler
scheduler f = scheduler_state (f.sites Site.scheduler)

abbrev pub clock : Fine → Clock
clock f = clock_state (f.sites Site.clock)

abbrev pub joins : Fine → Joins
joins f = joins_state (f.sites Site.joins)

-- A number of each of n things, added up.

abbrev pub one_if : Bool → ℕ
one_if true = 1
one_if false = 0

abbrev pub total : (ℕ → ℕ) → ℕ → ℕ
total f zero = 0
total f (suc n) = total f n + f n

-- a number of each processor, added up
abbrev pub over_processors : Fine → (Processor → ℕ) → ℕ
over_processors f count = total (λ k. count (f.processors k)) f.cpus
