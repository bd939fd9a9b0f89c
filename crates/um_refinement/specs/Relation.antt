-- The relation between the processors and sites of a fine run, and the state of the access-matrix machine after the events that the
-- run has shown.
use Rattle.std.specs.Prelude.{◌≡◌, ℕ, ◌<◌, IsTrue, length, true}
use Rattle.um_base.specs.declared.limits.TheConstants.{ROWS, THREADS}
use Rattle.um_machine.specs.State.{State}
use Rattle.um_fine.specs.Steps.{Site}
use Rattle.um_fine.specs.Sites.{is_sort}
use Rattle.std.specs.List.{list_all}
use Rattle.um_refinement.specs.Fine.{Fine}
use Rattle.um_refinement.specs.Lists.{names_row}
use Rattle.um_refinement.specs.Threads.{AwayIs, ContextsAre, DomainKept, HeldIs, ReadyIs, RunningIs, SchedulerIs, ToldIs, WordIs}
use Rattle.um_refinement.specs.Claims.{ClaimsAre, IdleIs}
use Rattle.um_refinement.specs.Objects.{ContentsAre, PairsAre, StatusIs}
use Rattle.um_refinement.specs.Cleaning.{AreBlocks, CleanerIs, CleanersAre, CleaningIs}
use Rattle.um_refinement.specs.Dues.{DuesAre}
use Rattle.um_refinement.specs.Looks.{LooksAre}
use Rattle.um_refinement.specs.Frames.{AreFramed}
use Rattle.um_refinement.specs.Offers.{ListIs}
use Rattle.um_refinement.specs.Stops.{CutComes, CutIs, JoinsAre, LookThere, LooksFit, NoteIs, NotesAre, ShutIs, SleepIs}
use Rattle.um_refinement.specs.Timing.{ClockIs, ExpiryComes, IsUnarmed, MarksAre, OwedIs, TimeoutComes, TimerIs}
use Rattle.um_refinement.specs.Domains.{DomainIs, TableIs}
use Rattle.um_refinement.specs.Resources.{HeapIs, MemoryIs}

-- of each thread index
pub record ThreadIs (f : Fine) (m : State) (t : ℕ) : Type 0 where
  pub word : WordIs f m t
  pub away : AwayIs f m t
  pub told : ToldIs f m t
  pub held : HeldIs f t
  pub ready : ReadyIs f t
  pub note : NoteIs f m t
  pub cut : CutIs f m t
  pub cut_comes : CutComes f m t
  pub looks : LooksFit f t
  pub sleep : SleepIs f t
  pub shut : ShutIs f m t
  pub timeout : TimeoutComes f m t

-- of each row
pub record RowIs (f : Fine) (m : State) (x : ℕ) : Type 0 where
  pub pairs : PairsAre f m x
  pub status : StatusIs f m x
  pub contents : ContentsAre f m x
  pub claims : ClaimsAre f m x
  pub cleaners : CleanersAre f m x
  pub cleaner : CleanerIs f m x
  pub expiry : ExpiryComes f m x

-- of each processor
pub record ProcessorIs (f : Fine) (m : State) (k : ℕ) : Type 0 where
  pub list : ListIs f.image (f.processors k)
  pub idle : IdleIs f k
  pub timer : TimerIs f m k
  pub unarmed : IsUnarmed f k
  pub look : LookThere f k
  pub domain : DomainKept f k
  pub dues : DuesAre f m k
  pub table : TableIs f m k
  pub looks : LooksAre f m k
  pub blocks : AreBlocks f.image (f.processors k).todo
  pub frames : AreFramed f.image (f.processors k).todo
  pub rows : list_all names_row (f.processors k).todo ≡ true
  pub cleaning : (x : ℕ) → x < ROWS → CleaningIs f m k x

pub record Rel (f : Fine) (m : State) : Type 0 where
  pub image : m.image ≡ f.image
  pub sorts : (i : Site) → IsTrue (is_sort i (f.sites i))
  pub contexts : ContextsAre f m
  pub running : RunningIs f
  pub scheduler : SchedulerIs f
  pub threads : (t : ℕ) → t < THREADS → ThreadIs f m t
  pub rows : (x : ℕ) → x < ROWS → RowIs f m x
  pub domains : (d : ℕ) → d < length f.image.domains → DomainIs f m d
  pub processors : (k : ℕ) → k < f.cpus → ProcessorIs f m k
  pub memory : MemoryIs f m
  pub heap : HeapIs f m
  pub joins : JoinsAre f m
  pub notes : NotesAre f
  pub clock : ClockIs f m
  pub owed : OwedIs f
  pub marks : MarksAre f
