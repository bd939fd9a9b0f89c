-- The relation holds at the opening of an image whose objects fit the static rows, whose boot entries have a thread each, and in which
-- the object of each boot thread stands and is marked.
use Rattle.um_refinement.proofs.Words.{true, ℕ, ◌≤◌, [], length, Image, STATIC_ROWS, opening, Rel}
use Rattle.um_refinement.proofs.First.{blocks-first, cleaning-first, domains-first, first, held-first, idle-first, kept-first, lists-first, looks-first, running-first, sorts-along, tables-first}
use Rattle.um_refinement.proofs.FirstObjects.{OwnStands, claims-first, cleaner-first, cleaners-first, contents-first, heap-first, opening-image, pairs-all-first, status-first}
use Rattle.um_refinement.proofs.FirstReady.{OneEach, ready-first}
use Rattle.um_refinement.proofs.FirstStops.{HasActor, OwnKept, OwnMarked, clock-first, cut-comes-first, cut-first, expiry-first, joins-first, look-there-first, looks-fit-first, marks-first, note-first, notes-first, owed-first, shut-first, sleep-first, timeout-first, timer-first, unarmed-first}
use Rattle.um_refinement.proofs.FirstThreads.{away-first, contexts-first, dues-first, memory-first, scheduler-first, told-first, words-first}

pub opens : (image : Image) (cpus : ℕ) → length image.objects ≤ STATIC_ROWS → OneEach image cpus → OwnStands image cpus → OwnMarked image → OwnKept image → HasActor image → Rel (first image cpus) (opening image)
opens image cpus few one stands marked kept acts =
    record {
      image = opening-image image;
      sorts = sorts-along image [];
      contexts = contexts-first image cpus;
      running = running-first image cpus;
      scheduler = scheduler-first image cpus;
      threads = λ t l.
          record {
            word = words-first image cpus t;
            away = away-first image cpus t;
            told = told-first image cpus t;
            held = held-first image cpus t;
            ready = ready-first image cpus one t l;
            note = note-first image cpus t;
            cut = cut-first image cpus t;
            cut_comes = cut-comes-first image cpus t;
            looks = looks-fit-first image cpus t;
            sleep = sleep-first image cpus t;
            shut = shut-first image cpus marked kept t l;
            timeout = timeout-first image cpus t;
          };
      rows = λ x l.
          record {
            pairs = pairs-all-first image cpus few x;
            status = status-first image cpus x;
            contents = contents-first image cpus x;
            claims = claims-first image cpus stands x;
            cleaners = cleaners-first image cpus x;
            cleaner = cleaner-first image cpus x;
            expiry = expiry-first image cpus x;
          };
      domains = λ d l. domains-first image cpus d;
      processors = λ k l.
          record {
            list = lists-first image cpus k;
            idle = idle-first image cpus k;
            timer = timer-first image cpus acts k;
            unarmed = unarmed-first image cpus k;
            look = look-there-first image cpus k;
            domain = kept-first image cpus k;
            dues = dues-first image cpus k;
            table = tables-first image cpus k;
            looks = looks-first image cpus k;
            blocks = blocks-first image cpus k;
            frames = tt;
            rows = λ i. true;
            cleaning = λ x few. cleaning-first image cpus k x;
          };
      memory = memory-first image cpus;
      heap = heap-first image cpus few;
      joins = joins-first image cpus;
      notes = notes-first image cpus;
      clock = clock-first image cpus;
      owed = owed-first image cpus;
      marks = marks-first image cpus;
    }
