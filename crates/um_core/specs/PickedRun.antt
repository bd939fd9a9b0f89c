-- The fine run of an order of processors: at each turn the first that has a chosen step makes it, from the preferred one on.
use Rattle.std.specs.Prelude.{◌≡◌, ℕ, ◌+◌, ◌%◌, ◌<◌, List, [], ◌∷◌, ◌++◌, length, Option}
use Rattle.um_base.specs.declared.image.Image.{Image}
use Rattle.um_fine.specs.FineRun.{ByOneOf, cpu_of, p_start, same_cpu, site_of}
use Rattle.um_fine.specs.Follows.{p_next}
use Rattle.um_fine.specs.Opening.{s_start}
use Rattle.um_fine.specs.Processor.{Processor}
use Rattle.um_fine.specs.Runs.{state_at}
use Rattle.um_fine.specs.Sites.{SiteMay, SiteState, s_next, same_site}
use Rattle.um_fine.specs.Steps.{FineStep, Site}
use Rattle.um_refinement.specs.After.{left_by}
use Rattle.um_refinement.specs.Choice.{IsChosen}
use Rattle.um_core.specs.Order.{preferred}

-- what steps leave of a processor, and of a site
abbrev pub processor_after : Image → List FineStep → ℕ → Processor
processor_after image done k = state_at same_cpu cpu_of (p_next image) p_start done k

abbrev pub site_after : Image → List FineStep → Site → SiteState
site_after image done i = state_at same_site site_of (s_next image) (s_start image) done i

-- This step may follow those: its processor, one of this many, makes it, and its site takes it.
pub record MayFollow (image : Image) (cpus : ℕ) (done : List FineStep) (e : FineStep) : Type 0 where
  pub makes : ByOneOf image cpus (processor_after image done e.cpu) e
  pub takes : SiteMay image (site_after image done e.site) e

-- It may follow, and is chosen: a thread that is ready comes before a mark that is due, and time goes on only where none is due and no thread runs.
pub record IsNext (image : Image) (cpus : ℕ) (done : List FineStep) (e : FineStep) : Type 0 where
  pub follows : MayFollow image cpus done e
  pub chosen : IsChosen (left_by image cpus done) e

-- no step of this processor is next
abbrev pub NoneIsNext : Image → ℕ → List FineStep → ℕ → Type 0
NoneIsNext image cpus done k = (e : FineStep) → e.cpu ≡ k → IsNext image cpus done e → ⊥

-- The run is over: no step of any processor may follow.
abbrev pub IsOver : Image → ℕ → List FineStep → Type 0
IsOver image cpus done = (e : FineStep) → MayFollow image cpus done e → ⊥

-- the processor that comes this many places after one, going round
abbrev pub behind : ℕ → ℕ → ℕ → ℕ
behind cpus first n = (first + n) % cpus

-- It is a step of the first processor that has one that is next, from the preferred one on.
pub record IsPicked (image : Image) (cpus first : ℕ) (done : List FineStep) (e : FineStep) : Type 0 where
  pub next : IsNext image cpus done e
  pub turn : ℕ  -- how far that processor is behind the preferred one
  pub within : turn < cpus
  pub made_by : e.cpu ≡ behind cpus first turn
  pub others : (n : ℕ) (g : FineStep) → n < turn → g.cpu ≡ behind cpus first n → IsNext image cpus done g → ⊥

-- each of these steps is picked after those before it, given which processors are preferred
abbrev pub ArePicked : Image → ℕ → List FineStep → List ℕ → List FineStep → Type 0
ArePicked image cpus done [] [] = Unit {0}
ArePicked image cpus done [] (e ∷ steps) = ⊥
ArePicked image cpus done (first ∷ firsts) [] = ⊥
ArePicked image cpus done (first ∷ firsts) (e ∷ steps) = IsPicked image cpus first done e × ArePicked image cpus (done ++ e ∷ []) firsts steps

-- The steps of this many processors, which are preferred round-robin or as a pick draws them, until none can make another.
pub record IsPickedRun (image : Image) (cpus : ℕ) (pick : Option ℕ) (steps : List FineStep) : Type 0 where
  pub picked : ArePicked image cpus [] (preferred cpus pick (length steps)) steps
  pub over : IsOver image cpus steps
