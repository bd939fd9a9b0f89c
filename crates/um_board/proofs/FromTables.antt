-- What tables have at each site at the opening, by their lists.
use Rattle.std.proofs.Common.{◌≡◌, ◌<◌, ℕ, [], refl, arith}
use Rattle.std.specs.Prelude.{IsTrue, slice_index_or}
use Rattle.std.proofs.lemmas.Bool.Decides.{nat_tests}
use Rattle.um_base.specs.declared.image.Image.{Image}
use Rattle.um_base.specs.declared.limits.TheConstants.{DOMAINS, ROWS, THREADS}
use Rattle.um_machine.specs.Run.{opening}
use Rattle.um_fine.specs.Cells.{Cell}
use Rattle.um_fine.specs.Opening.{heap_cell, joins_cell, no_notes, s_start, scheduler_cell}
use Rattle.um_fine.specs.Sites.{SiteState, is_site}
use Rattle.um_fine.specs.Steps.{Site}
use Rattle.um_tables.specs.ObjectCells.{cleared}
use Rattle.um_tables.specs.Sited.{Sited, object_state, state_at}
use Rattle.um_opening.specs.Opened.{AreDomains, AreParts, AreRows, AreThreads}
use Rattle.um_board.proofs.FirstCells.{opened}

module _ (image : Image) (t : Sited) (sites : (i : Site) → IsTrue (is_site i) → state_at t i ≡ s_start image i) where
  pub rows-are : AreRows (opening image) ROWS t.rows
  rows-are x low = sites (Site.row x) (grind (arith, nat_tests))

  pub threads-are : AreThreads (opening image) THREADS t.threads
  threads-are n low = sites (Site.thread n) (grind (arith, nat_tests))

  pub domains-are : AreDomains (opening image) DOMAINS t.domains
  domains-are d low = sites (Site.domain d) (grind (arith, nat_tests))

  pub parts-are : AreParts (opening image) DOMAINS t.domain_cells
  parts-are d low = sites (Site.parts d) (grind (arith, nat_tests))

  pub objects-are : (x : ℕ) → x < ROWS → object_state (slice_index_or t.objects x (cleared 0)) ≡ s_start image (Site.object x)
  objects-are x low = sites (Site.object x) (grind (arith, nat_tests))

  pub memory-is : s_start image Site.memory ≡ SiteState.cell 0 (Cell.memory t.memory)
  memory-is = opened (s_start image Site.memory) t.memory_steps (Cell.memory t.memory) (Cell.memory (record { memory = (opening image).memory; stacks = (opening image).stacks; futexes = []; noted = no_notes })) refl (sites Site.memory refl)

  pub heap-is : s_start image Site.heap ≡ SiteState.cell 0 (Cell.heap t.heap)
  heap-is = opened (s_start image Site.heap) t.heap_steps (Cell.heap t.heap) (heap_cell (opening image)) refl (sites Site.heap refl)

  pub scheduler-is : s_start image Site.scheduler ≡ SiteState.cell 0 (Cell.scheduler t.scheduler)
  scheduler-is = opened (s_start image Site.scheduler) t.scheduler_steps (Cell.scheduler t.scheduler) (scheduler_cell (opening image)) refl (sites Site.scheduler refl)

  pub joins-is : s_start image Site.joins ≡ SiteState.cell 0 (Cell.joins t.joins)
  joins-is = opened (s_start image Site.joins) t.joins_steps (Cell.joins t.joins) (joins_cell (opening image)) refl (sites Site.joins refl)
