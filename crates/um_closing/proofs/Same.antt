-- Where the same stands at every site that there is, the same state is read off.
use Rattle.std.specs.Prelude.{IsTrue}
use Rattle.std.specs.Prelude.{pos, slice_index_or}
use Rattle.std.proofs.Common.{◌≡◌, ◌≤◌, arith, length, map, refl}
use Rattle.std.proofs.lemmas.Bool.{lt-ltb}
use Rattle.um_base.specs.declared.image.Image.{Image}
use Rattle.um_base.specs.declared.limits.TheConstants.{DOMAINS, ROWS, THREADS}
use Rattle.um_fine.specs.Clock.{deadlines}
use Rattle.um_fine.specs.Sites.{SiteState, is_site}
use Rattle.um_fine.specs.Steps.{Site}
use Rattle.um_refinement.specs.Fine.{bytes_state, clock_state, heap_state, joins_state, object_state, parts_state, row_state, scheduler_state, thread_state}
use Rattle.um_closing.specs.ReadOff.{numbers, object_off, object_there, pairs_there, parts_there, read_off, thread_off, thread_there}
use Rattle.um_closing.proofs.Numbers.{same_numbers}

pub read-same : (image : Image) (one two : Site → SiteState) → length image.domains ≤ DOMAINS → ((i : Site) → IsTrue (is_site i) → one i ≡ two i)
    → read_off image one ≡ read_off image two
read-same image one two few same = λ i.
    record {
      image = image;
      threads = threads i;
      objects = objects i;
      pairs = pairs i;
      domains = domains i;
      memory = (bytes_state (same Site.memory refl i)).memory;
      stacks = (bytes_state (same Site.memory refl i)).stacks;
      pools = (heap_state (same Site.heap refl i)).pools;
      now = (clock_state (same Site.clock refl i)).now;
      armed = deadlines (clock_state (same Site.clock refl i)).marks;
      joins = (joins_state (same Site.joins refl i)).waiters;
      futexes = (bytes_state (same Site.memory refl i)).futexes;
    }
  where
    threads : map (thread_there one) (numbers THREADS) ≡ map (thread_there two) (numbers THREADS)
    threads =
        same_numbers (thread_there one) (thread_there two) THREADS
        (λ t l i. thread_off (thread_state (same (Site.thread t) (lt-ltb t THREADS l) i)) (slice_index_or (scheduler_state (same Site.scheduler refl i)).priorities t (pos 0)))

    objects : map (object_there image one) (numbers ROWS) ≡ map (object_there image two) (numbers ROWS)
    objects =
        same_numbers (object_there image one) (object_there image two) ROWS
        (λ x l i. object_off image x (row_state (same (Site.row x) (lt-ltb x ROWS l) i)) (object_state (same (Site.object x) (lt-ltb x ROWS l) i)) (heap_state (same Site.heap refl i)))

    pairs : map (pairs_there one) (numbers ROWS) ≡ map (pairs_there two) (numbers ROWS)
    pairs = same_numbers (pairs_there one) (pairs_there two) ROWS (λ x l i. (row_state (same (Site.row x) (lt-ltb x ROWS l) i)).permissions)

    domains : map (parts_there one) (numbers (length image.domains)) ≡ map (parts_there two) (numbers (length image.domains))
    domains =
        same_numbers (parts_there one) (parts_there two) (length image.domains)
        (λ d l i. parts_state (same (Site.parts d) (lt-ltb d DOMAINS (omega (arith, l, few))) i))
