-- What tables have at each site, by their lists.
use Rattle.std.proofs.Common.{◌≡◌, ap, ◌∙◌, arith}
use Rattle.std.specs.Prelude.{IsTrue, List, [], map, slice_index_or}
use Rattle.std.proofs.lemmas.Bool.Decides.{nat_tests}
use Rattle.um_base.specs.declared.limits.TheConstants.{DOMAINS, ROWS, THREADS}
use Rattle.um_machine.specs.State.{State}
use Rattle.um_fine.specs.Opening.{heap_cell, joins_cell, new_cell, no_notes, scheduler_cell, site_state}
use Rattle.um_fine.specs.Cells.{Cell}
use Rattle.um_fine.specs.Sites.{is_site}
use Rattle.um_fine.specs.Steps.{Site}
use Rattle.um_tables.specs.ObjectCells.{cleared}
use Rattle.um_tables.specs.Sited.{Sited, object_state, state_at}
use Rattle.um_tables.specs.declared.object_cell.ObjectCell.{ObjectCell}
use Rattle.um_opening.specs.Opened.{AreDomains, AreParts, AreRows, AreThreads, kept_by}
use Rattle.um_opening.proofs.Lists.{kept-at}

-- each list is as in a state, and no cell has taken a step
pub record Keeps (s : State) (t : Sited) : Type 0 where
  pub rows : AreRows s ROWS t.rows
  pub threads : AreThreads s THREADS t.threads
  pub domains : AreDomains s DOMAINS t.domains
  pub parts : AreParts s DOMAINS t.domain_cells
  pub objects : t.objects ≡ map kept_by s.objects
  pub memory : state_at t Site.memory ≡ new_cell (Cell.memory (record { memory = s.memory; stacks = s.stacks; futexes = []; noted = no_notes }))
  pub heap : state_at t Site.heap ≡ new_cell (heap_cell s)
  pub scheduler : state_at t Site.scheduler ≡ new_cell (scheduler_cell s)
  pub clock : state_at t Site.clock ≡ new_cell (Cell.clock (record { now = 0; marks = [] }))
  pub joins : state_at t Site.joins ≡ new_cell (joins_cell s)

pub sites-are : (s : State) (t : Sited) → Keeps s t → (i : Site) → IsTrue (is_site i) → state_at t i ≡ site_state s i
sites-are s t k (Site.row x) there = k.rows x (grind (arith, nat_tests))
sites-are s t k (Site.thread n) there = k.threads n (grind (arith, nat_tests))
sites-are s t k (Site.domain d) there = k.domains d (grind (arith, nat_tests))
sites-are s t k (Site.parts d) there = k.parts d (grind (arith, nat_tests))
sites-are s t k (Site.object x) there =
    ap (λ (cs : List ObjectCell). object_state (slice_index_or cs x (cleared 0))) k.objects ∙ ap object_state (kept-at s.objects x)
sites-are s t k Site.memory there = k.memory
sites-are s t k Site.heap there = k.heap
sites-are s t k Site.scheduler there = k.scheduler
sites-are s t k Site.clock there = k.clock
sites-are s t k Site.joins there = k.joins
