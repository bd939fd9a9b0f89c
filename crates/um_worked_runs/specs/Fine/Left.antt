-- What the sites stand for at the end of a worked run: a state of the access-matrix machine, as far as a dump shows it.
use Rattle.std.specs.Prelude.{ℕ, Bool, List, [], map, length, Option, None, pos}
use Rattle.um_base.specs.declared.ask.Waiter.{Waiter}
use Rattle.um_base.specs.declared.image.Image.{Image}
use Rattle.um_base.specs.declared.limits.TheConstants.{ROWS, THREADS}
use Rattle.um_base.specs.Regions.{Partitions}
use Rattle.um_machine.specs.declared.object.Object.{Object}
use Rattle.um_machine.specs.declared.object.Status.TheVariants as Status
use Rattle.um_machine.specs.declared.thread.Thread.{Thread}
use Rattle.um_machine.specs.State.{State, nobody, vacant}
use Rattle.um_words.specs.declared.row_word.RowWord.{RowWord}
use Rattle.um_words.specs.declared.row_word.Stage.{Stage}
use Rattle.um_fine.specs.Steps.{Site}
use Rattle.um_fine.specs.Answers.{no_row}
use Rattle.um_fine.specs.Memory.{Bytes}
use Rattle.um_fine.specs.Clock.{Clock, deadlines}
use Rattle.um_fine.specs.Cells.{Cell}
use Rattle.um_fine.specs.Sites.{SiteState}
use Rattle.um_fine.specs.Processor.{kind_of}
use Rattle.um_worked_runs.specs.Evaluate.{numbers}
use Rattle.um_worked_runs.specs.Dump.{Dump, ThreadLine, unborn, started, dump_of}
use Rattle.um_worked_runs.specs.Fine.Evaluate.{Board, site_in}

abbrev pub row_at_site : SiteState → RowWord
row_at_site (SiteState.row w) = w
row_at_site _ = no_row

-- of a thread what its word has
abbrev pub thread_at_site : SiteState → Thread
thread_at_site (SiteState.thread w) = record nobody { life = w.life; doomed = w.doomed; mode = w.mode; domain = w.domain }
thread_at_site _ = nobody

abbrev pub parts_at_site : SiteState → Option Partitions
parts_at_site (SiteState.cell n (Cell.parts d)) = d
parts_at_site _ = None

abbrev pub bytes_at_site : SiteState → Bytes
bytes_at_site (SiteState.cell n (Cell.memory m)) = m
bytes_at_site _ = record { memory = []; stacks = []; futexes = []; noted = [] }

abbrev pub joins_at_site : SiteState → List Waiter
joins_at_site (SiteState.cell n (Cell.joins j)) = j.waiters
joins_at_site _ = []

abbrev pub clock_at_site : SiteState → Clock
clock_at_site (SiteState.cell n (Cell.clock c)) = c
clock_at_site _ = record { now = 0; marks = [] }

abbrev pub pools_at_site : SiteState → List ℕ
pools_at_site (SiteState.cell n (Cell.heap h)) = h.pools
pools_at_site _ = []

abbrev pub status_of : Stage → Status.the_data
status_of Stage.Free = Status.Free
status_of Stage.Live = Status.Live
status_of _ = Status.Gone

abbrev pub object_of : Image → ℕ → SiteState → SiteState → Object
object_of image x (SiteState.row w) (SiteState.cell n (Cell.object o)) =
    record vacant {
      kind = kind_of image x;
      status = status_of w.stage;
      public = w.public;
      init = w.init;
      contents = o.contents;
      waiters = o.waiters;
    }
object_of image x _ _ = vacant

module _ (image : Image) (b : Board) where
  abbrev pub thread_of : ℕ → Thread
  thread_of t = thread_at_site (site_in b (Site.thread t))

  abbrev pub row_object : ℕ → Object
  row_object x = object_of image x (site_in b (Site.row x)) (site_in b (Site.object x))

  abbrev pub holders_of : ℕ → List Bool
  holders_of x = (row_at_site (site_in b (Site.row x))).permissions

  abbrev pub parts_of : ℕ → Option Partitions
  parts_of d = parts_at_site (site_in b (Site.parts d))

  abbrev pub stands_for : State
  stands_for =
      record {
        image = image;
        threads = map thread_of (numbers 0 THREADS);
        objects = map row_object (numbers 0 ROWS);
        pairs = map holders_of (numbers 0 ROWS);
        domains = map parts_of (numbers 0 (length image.domains));
        memory = (bytes_at_site (site_in b Site.memory)).memory;
        stacks = (bytes_at_site (site_in b Site.memory)).stacks;
        pools = pools_at_site (site_in b Site.heap);
        now = (clock_at_site (site_in b Site.clock)).now;
        armed = deadlines (clock_at_site (site_in b Site.clock)).marks;
        joins = joins_at_site (site_in b Site.joins);
        futexes = (bytes_at_site (site_in b Site.memory)).futexes;
      }

-- a thread's line with no priority
abbrev pub without_priority : ThreadLine → ThreadLine
without_priority (unborn t) = unborn t
without_priority (started t standing mode priority domain) = started t standing mode (pos 0) domain

abbrev pub without_priorities : Dump → Dump
without_priorities d = record d { threads = map without_priority d.threads }

-- the dump of what is left, without priorities
abbrev pub left_dump : Image → Board → Dump
left_dump image b = without_priorities (dump_of (stands_for image b))
