-- The state of the access-matrix machine that is read off the sites, once no processor has a thread.
use Rattle.std.specs.Prelude.{ℕ, ℤ, pos, Bool, ◌&&◌, not, nat_le, if◌then◌else◌, false, List, length, map, Option, None, slice_index_or}
use Rattle.std.specs.List.{range_with_len}
use Rattle.um_base.specs.declared.image.Image.{Image}
use Rattle.um_base.specs.declared.limits.TheConstants.{ROWS, STATIC_ROWS, THREADS}
use Rattle.um_base.specs.Regions.{Partitions}
use Rattle.um_machine.specs.declared.object.Object.{Object}
use Rattle.um_machine.specs.declared.object.Status.{Status}
use Rattle.um_machine.specs.declared.thread.Thread.{Thread}
use Rattle.um_machine.specs.Objects.{is_free}
use Rattle.um_machine.specs.State.{State, nobody}
use Rattle.um_words.specs.declared.row_word.RowWord.{RowWord}
use Rattle.um_words.specs.declared.thread_word.ThreadWord.{ThreadWord}
use Rattle.um_fine.specs.Clock.{deadlines}
use Rattle.um_fine.specs.Heap.{Heap, cost_at}
use Rattle.um_fine.specs.Objects.{ObjectCell}
use Rattle.um_fine.specs.Processor.{kind_of}
use Rattle.um_fine.specs.Sites.{SiteState}
use Rattle.um_fine.specs.Steps.{FineStep, Site}
use Rattle.um_refinement.specs.After.{left_by}
use Rattle.um_refinement.specs.Fine.{bytes_state, clock_state, heap_state, joins_state, object_state, parts_state, row_state, scheduler_state, thread_state}
use Rattle.um_refinement.specs.Objects.{status_of}

-- the numbers below n, ascending
unfoldable pub numbers : ℕ → List ℕ
numbers n = range_with_len 0 n

-- a thread by its word, with this priority
abbrev pub thread_off : ThreadWord → ℤ → Thread
thread_off w priority = record nobody { life = w.life; doomed = w.doomed; mode = w.mode; domain = w.domain; priority = priority }

-- the status of a row: a dynamic one that is free has a reserved object where the heap doesn't have its address
abbrev pub status_off : ℕ → RowWord → Heap → Status
status_off x w h = status_of w.stage (nat_le STATIC_ROWS x && not (slice_index_or h.free x false))

-- the object of a row by its word, its cell and the heap
abbrev pub object_off : Image → ℕ → RowWord → ObjectCell → Heap → Object
object_off image x w cell h =
    record {
      kind = if is_free (status_off x w h) then None else kind_of image x;
      status = status_off x w h;
      public = w.public;
      init = w.init;
      contents = cell.contents;
      waiters = cell.waiters;
      cost = cost_at h x;
      buffer = cell.buffer;
      cleaner = None;
    }

module _ (sites : Site → SiteState) where
  -- the priority that the scheduler's cell has noted for a thread index
  abbrev pub priority_there : ℕ → ℤ
  priority_there t = slice_index_or (scheduler_state (sites Site.scheduler)).priorities t (pos 0)

  abbrev pub thread_there : ℕ → Thread
  thread_there t = thread_off (thread_state (sites (Site.thread t))) (priority_there t)

  abbrev pub pairs_there : ℕ → List Bool
  pairs_there x = (row_state (sites (Site.row x))).permissions

  abbrev pub parts_there : ℕ → Option Partitions
  parts_there d = parts_state (sites (Site.parts d))

module _ (image : Image) (sites : Site → SiteState) where
  abbrev pub object_there : ℕ → Object
  object_there x =
      object_off image x (row_state (sites (Site.row x))) (object_state (sites (Site.object x))) (heap_state (sites Site.heap))

  abbrev pub read_off : State
  read_off =
      record {
        image = image;
        threads = map (thread_there sites) (numbers THREADS);
        objects = map object_there (numbers ROWS);
        pairs = map (pairs_there sites) (numbers ROWS);
        domains = map (parts_there sites) (numbers (length image.domains));
        memory = (bytes_state (sites Site.memory)).memory;
        stacks = (bytes_state (sites Site.memory)).stacks;
        pools = (heap_state (sites Site.heap)).pools;
        now = (clock_state (sites Site.clock)).now;
        armed = deadlines (clock_state (sites Site.clock)).marks;
        joins = (joins_state (sites Site.joins)).waiters;
        futexes = (bytes_state (sites Site.memory)).futexes;
      }

-- the state read off after these steps of so many processors
abbrev pub closing_state : Image → ℕ → List FineStep → State
closing_state image cpus steps = read_off image (left_by image cpus steps).sites
