-- What holds of the state at an image's opening, and the words and cells that stand for it.
use Rattle.std.specs.Prelude.{◌≡◌, ◌<◌, ◌≤◌, ◌-◌, ◌++◌, ℕ, true, false, List, Option, None, Some, length, replicate, slice_index_or}
use Rattle.std.specs.List.{All}
use Rattle.um_base.specs.declared.image.Boot.{Boot}
use Rattle.um_base.specs.declared.image.ObjectDef.{ObjectDef}
use Rattle.um_base.specs.declared.image.Setup.{Setup}
use Rattle.um_base.specs.declared.limits.TheConstants.{DOMAINS, ROWS, STATIC_ROWS, THREADS}
use Rattle.um_machine.specs.declared.object.Object.{Object}
use Rattle.um_machine.specs.declared.thread.Thread.{Thread}
use Rattle.um_machine.specs.Run.{objects_from, opening_object, setup_contents}
use Rattle.um_machine.specs.State.{State, vacant}
use Rattle.um_machine.specs.Table.{domain_at}
use Rattle.um_words.specs.declared.row_word.RowWord.{RowWord}
use Rattle.um_words.specs.declared.thread_word.ThreadWord.{ThreadWord}
use Rattle.um_words.specs.declared.dom_word.DomWord.{DomWord}
use Rattle.um_fine.specs.Answers.{no_domain, no_row, no_thread}
use Rattle.um_fine.specs.Cells.{Cell}
use Rattle.um_fine.specs.Heap.{Heap}
use Rattle.um_fine.specs.Opening.{boot_index, domain_state, new_cell, no_notes, row_state, thread_state}
use Rattle.um_fine.specs.Sites.{SiteState}
use Rattle.um_tables.specs.Contexts.{rests}
use Rattle.um_tables.specs.ObjectCells.{cleared}
use Rattle.um_tables.specs.Sited.{domain_cell_state, no_domain_cell}
use Rattle.um_tables.specs.declared.domain_cell.DomainCell.{DomainCell}
use Rattle.um_tables.specs.declared.object_cell.ObjectCell.{ObjectCell}

-- its domain is one that there can be
abbrev pub in_a_domain : Thread → Type 0
in_a_domain me = me.domain < DOMAINS

-- Nobody has run: each thread is at rest, in a domain, those of the boot entries have an index, and objects are as they were described.
pub record IsFresh (s : State) : Type 0 where
  pub rest : All rests s.threads
  pub named : length s.domains ≤ DOMAINS → All in_a_domain s.threads
  pub boots : All (λ (boot : Boot). boot_index s boot < THREADS) s.image.boots
  pub objects : s.objects ≡ objects_from s.image.boots 0 s.image.objects

-- the cell of an object, which has taken no step
abbrev pub kept_by : Object → ObjectCell
kept_by o = record { contents = o.contents; waiters = o.waiters; noted = no_notes; buffer = o.buffer; steps = 0 }

-- the cell of an object that was set up so
abbrev pub opened : Setup → ObjectCell
opened setup = record (cleared 0) { contents = setup_contents setup }

-- the object that stands at a row, by its description
abbrev pub object_of : List Boot → ℕ → Option ObjectDef → Object
object_of boots x None = vacant
object_of boots x (Some o) = opening_object boots x o

-- these pools, all dynamic addresses free, and no object that cost anything
abbrev pub heap_of : List ℕ → Heap
heap_of pools =
    record {
      pools = pools;
      free = replicate STATIC_ROWS false ++ replicate (ROWS - STATIC_ROWS) true;
      costs = replicate ROWS None;
    }

module _ (s : State) (n : ℕ) where
  -- the first n words of rows are as in a state
  abbrev pub AreRows : List RowWord → Type 0
  AreRows words = (x : ℕ) → x < n → SiteState.row (slice_index_or words x no_row) ≡ row_state s x

  -- those of threads
  abbrev pub AreThreads : List ThreadWord → Type 0
  AreThreads words = (t : ℕ) → t < n → SiteState.thread (slice_index_or words t no_thread) ≡ thread_state s t

  -- those of domains
  abbrev pub AreDomains : List DomWord → Type 0
  AreDomains words = (d : ℕ) → d < n → SiteState.domain (slice_index_or words d no_domain) ≡ domain_state s d

  -- and the first n cells of domains
  abbrev pub AreParts : List DomainCell → Type 0
  AreParts cells = (d : ℕ) → d < n → domain_cell_state (slice_index_or cells d no_domain_cell) ≡ new_cell (Cell.parts (domain_at s d))
