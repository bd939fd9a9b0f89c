-- The fine machine by evaluation: a run from a list of processors, with tests for what its relations say.
use Rattle.std.specs.Prelude.{ℕ, zero, suc, Bool, true, false, ◌&&◌, not, nat_lt, List, [], ◌∷◌, length, map, replicate, Option, Some, None, slice_index_or, slice_set, is_some}
use Rattle.std.specs.List.{list_any, range_with_len}
use Rattle.um_base.specs.declared.image.Image.{Image}
use Rattle.um_words.specs.declared.fine.FineAct.{FineAct}
use Rattle.um_words.specs.declared.fine.More.{More}
use Rattle.um_words.specs.declared.fine.Unseen.{Unseen}
use Rattle.um_fine.specs.Steps.{Site, Word, Exchange, FineStep}
use Rattle.um_fine.specs.Answers.{no_event}
use Rattle.um_fine.specs.Cells.{Cell, quiet_word}
use Rattle.um_fine.specs.Sites.{SiteState, filled, is_site, is_sort, site_number, site_numbered, s_next, same_site, site_takes}
use Rattle.um_fine.specs.Processor.{Processor, idle}
use Rattle.um_fine.specs.Asks.{fits, made_by, site_at}
use Rattle.um_fine.specs.Places.{Todo, Todos}
use Rattle.um_base.specs.declared.act.Act.{Act}
use Rattle.um_fine.specs.Follows.{p_next}
use Rattle.um_fine.specs.Opening.{new_cell, s_start}
use Rattle.um_worked_runs.specs.Evaluate.{numbers}

-- all processors by number, and all sites by number
pub record Board : Type 0 where
  pub processors : List Processor
  pub sites : List SiteState

abbrev pub no_site : SiteState
no_site = new_cell (Cell.parts None)

abbrev pub site_in : Board → Site → SiteState
site_in b i = slice_index_or b.sites (site_number i) no_site

abbrev pub processor_in : Board → ℕ → Processor
processor_in b k = slice_index_or b.processors k idle

-- how many sites there are
abbrev pub SITES : ℕ
SITES = 309

-- a step without answers, of which comes a read of a word, a visit or an event
abbrev pub seed : ℕ → FineAct → FineStep
seed cpu act = record { cpu = cpu; site = Site.memory; act = act; word = Word.cell (quiet_word 0 0 0 0); moved = Exchange.nothing }

abbrev pub seeds : ℕ → List FineStep
seeds cpu =
    seed cpu (FineAct.Unseen Unseen.WordRead) ∷ seed cpu (FineAct.Unseen Unseen.Visit) ∷ seed cpu (FineAct.Unseen Unseen.Void)
    ∷ seed cpu (FineAct.Shown no_event More.Nothing) ∷ []

-- what a processor without a thread may do at the clock
abbrev pub due_seed : ℕ → FineStep
due_seed cpu = seed cpu (FineAct.Unseen Unseen.Due)

abbrev pub tick_seed : ℕ → FineStep
tick_seed cpu = seed cpu (FineAct.Shown (record no_event { act = Act.Tick 0 }) More.Nothing)

module _ (image : Image) where
  -- the processor asks, and the site answers
  abbrev pub asked : Processor → SiteState → FineStep → FineStep
  asked p s e = filled image s (made_by image p e)

  -- nobody is looked for at the scheduler
  abbrev pub is_apart : SiteState → Bool
  is_apart (SiteState.cell n (Cell.scheduler s)) = false
  is_apart s = true

  abbrev pub looks_rightly : Todos → SiteState → Bool
  looks_rightly (Todo.look who site before ∷ todo) s = is_apart s
  looks_rightly (Todo.handle deadline mark ∷ todo) s = is_apart s
  looks_rightly todo s = true

  -- the step is one of this site, which has that state
  abbrev pub may : Processor → Site → SiteState → FineStep → Bool
  may p i s e = same_site e.site i && (is_sort e.site s && (looks_rightly p.todo s && (site_takes s e.act && fits image p p.todo e)))

  abbrev pub first_of : Processor → Site → SiteState → List FineStep → Option FineStep
  first_of p i s [] = None
  first_of p i s (e ∷ es) =
      let made = asked p s (asked p s e) in elim (may p i s made) as (λ _. Option FineStep) [ true ↦ Some made | false ↦ first_of p i s es ]

  -- where a processor is, and a site
  abbrev pub only_there : Bool → Option FineStep → Option FineStep
  only_there true made = made
  only_there false made = None

  abbrev pub next_at : Board → ℕ → List FineStep → Site → Option FineStep
  next_at b k es i = only_there (is_site i) (first_of (processor_in b k) i (site_in b i) es)

  -- one that has no thread takes the first that is ready. Where none is, and marks are owed, it takes a due one, and else, where no thread
  -- runs, it lets time go on
  abbrev pub running_in : Board → ℕ
  running_in b = elim (site_in b Site.scheduler) as (λ _. ℕ) [ SiteState.cell n (Cell.scheduler s) ↦ s.running | _ ↦ 0 ]

  abbrev pub or_else : Option FineStep → Option FineStep → Option FineStep
  or_else (Some e) other = Some e
  or_else None other = other

  abbrev pub ticks_if : Board → ℕ → ℕ → Option FineStep
  ticks_if b k zero = next_at b k (tick_seed k ∷ []) Site.clock
  ticks_if b k (suc n) = None

  abbrev pub tends : Board → ℕ → Option FineStep
  tends b k = or_else (next_at b k (due_seed k ∷ []) Site.clock) (ticks_if b k (running_in b))

  abbrev pub next_by : Board → ℕ → Todos → Option FineStep
  next_by b k [] = or_else (next_at b k (seeds k) Site.scheduler) (tends b k)
  next_by b k (q ∷ todo) = next_at b k (seeds k) (site_at image (processor_in b k) (q ∷ todo))

  -- the next step of a processor, where its site takes it now
  abbrev pub next_made : Board → ℕ → Option FineStep
  next_made b k = only_there (nat_lt k (length b.processors)) (next_by b k (processor_in b k).todo)

  -- what comes of a list of processors
  pub record FineCourse : Type 0 where
    pub made : List FineStep
    pub is_lawful : Bool  -- each could make a step
    pub last : Board

  abbrev pub stepped : Board → FineStep → Board
  stepped b e =
      record {
        processors = slice_set b.processors e.cpu (p_next image (processor_in b e.cpu) e);
        sites = slice_set b.sites (site_number e.site) (s_next image (site_in b e.site) e);
      }

  abbrev pub fine_course_by : Board → (Board → FineCourse) → Option FineStep → FineCourse
  fine_course_by b go None = record { made = []; is_lawful = false; last = b }
  fine_course_by b go (Some e) =
      let rest = go (stepped b e) in record { made = e ∷ rest.made; is_lawful = rest.is_lawful; last = rest.last }

  abbrev pub fine_course : List ℕ → Board → FineCourse
  fine_course [] b = record { made = []; is_lawful = true; last = b }
  fine_course (k ∷ ks) b = fine_course_by b (fine_course ks) (next_made b k)

  -- one processor alone, for as long as it can make a step, and for at most so many steps
  abbrev pub alone_by : Board → (Board → FineCourse) → Option FineStep → FineCourse
  alone_by b go None = record { made = []; is_lawful = true; last = b }
  alone_by b go (Some e) = fine_course_by b go (Some e)

  abbrev pub alone : ℕ → Board → FineCourse
  alone zero b = record { made = []; is_lawful = false; last = b }
  alone (suc n) b = alone_by b (alone n) (next_made b 0)

  abbrev pub can_step : Board → ℕ → Bool
  can_step b k = is_some (next_made b k)

  -- whether no processor, of so many, can make a step
  abbrev pub is_still : ℕ → Board → Bool
  is_still cpus b = not (list_any (can_step b) (numbers 0 cpus))

  -- so many processors, and the sites of the image
  abbrev pub opening_board : ℕ → Board
  opening_board cpus =
      record { processors = replicate cpus idle; sites = map (λ n. s_start image (site_numbered n)) (range_with_len 0 SITES) }
