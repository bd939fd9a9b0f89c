use Rattle.std.proofs.Common.{◌+◌, List, sym, ap, ◌∙◌, subst}
use Rattle.std.specs.Prelude.{slice_index_or}
use Rattle.um_base.specs.declared.image.Image.{Image}
use Rattle.um_base.specs.declared.limits.TheConstants.{DOMAINS, ROWS, THREADS}
use Rattle.um_machine.specs.Run.{opening}
use Rattle.um_words.specs.declared.row_word.RowWord.{RowWord}
use Rattle.um_words.specs.declared.thread_word.ThreadWord.{ThreadWord}
use Rattle.um_words.specs.declared.dom_word.DomWord.{DomWord}
use Rattle.um_site.specs.declared.view.View.{View}
use Rattle.um_fine.specs.Cells.{Cell}
use Rattle.um_fine.specs.Clock.{Clock}
use Rattle.um_fine.specs.Heap.{Heap}
use Rattle.um_fine.specs.Joins.{Joins}
use Rattle.um_fine.specs.Memory.{Bytes}
use Rattle.um_fine.specs.Scheduler.{Scheduler}
use Rattle.um_fine.specs.Sites.{SiteState}
use Rattle.um_tables.specs.ObjectCells.{cleared}
use Rattle.um_tables.specs.Sited.{object_state}
use Rattle.um_tables.specs.declared.domain_cell.DomainCell.{DomainCell}
use Rattle.um_tables.specs.declared.object_cell.ObjectCell.{ObjectCell}
use Rattle.um_opening.specs.Opened.{AreDomains, AreParts, AreRows, AreThreads}
use Rattle.um_board.specs.Contents.{Opens}
use Rattle.um_board.proofs.FromTables.{domains-are, heap-is, joins-is, memory-is, objects-are, parts-are, rows-are, scheduler-is, threads-are}
use Rattle.um_board.proofs.first_board.opening.Goals as goal

pub first_words-requires-clause-rows : goal.first_words-requires-clause-rows
first_words-requires-clause-rows c =
    subst (λ (xs : List RowWord). AreRows (opening c.args.image.now) ROWS xs) (sym (c.as_slice.ensures.value ∙ c.into_parts-rows.ensures.rows))
    (rows-are c.args.image.now c.in_ok-tables.tables c.in_ok-tables.ensures.sites)

pub first_words-requires-clause-threads : goal.first_words-requires-clause-threads
first_words-requires-clause-threads c =
    subst (λ (xs : List ThreadWord). AreThreads (opening c.args.image.now) THREADS xs) (sym (c.as_slice-2.ensures.value ∙ c.into_parts-rows.ensures.threads))
    (threads-are c.args.image.now c.in_ok-tables.tables c.in_ok-tables.ensures.sites)

pub first_words-requires-clause-domains : goal.first_words-requires-clause-domains
first_words-requires-clause-domains c =
    subst (λ (xs : List DomWord). AreDomains (opening c.args.image.now) DOMAINS xs) (sym (c.as_slice-3.ensures.value ∙ c.into_parts-rows.ensures.domains))
    (domains-are c.args.image.now c.in_ok-tables.tables c.in_ok-tables.ensures.sites)

pub first_contents-requires-clause-objects : goal.first_contents-requires-clause-objects
first_contents-requires-clause-objects c x low =
    ap (λ (xs : List ObjectCell). object_state (slice_index_or xs x (cleared 0))) c.into_parts-rows.ensures.objects
    ∙ objects-are c.args.image.now c.in_ok-tables.tables c.in_ok-tables.ensures.sites x low

pub first_contents-requires-clause-parts : goal.first_contents-requires-clause-parts
first_contents-requires-clause-parts c =
    subst (λ (xs : List DomainCell). AreParts (opening c.args.image.now) DOMAINS xs) (sym c.into_parts-rows.ensures.cells)
    (parts-are c.args.image.now c.in_ok-tables.tables c.in_ok-tables.ensures.sites)

pub first_contents-requires-clause-memory : goal.first_contents-requires-clause-memory
first_contents-requires-clause-memory c =
    memory-is c.args.image.now c.in_ok-tables.tables c.in_ok-tables.ensures.sites ∙ ap (λ (m : Bytes). SiteState.cell 0 (Cell.memory m)) (sym c.into_parts-rows.ensures.memory)

pub first_contents-requires-clause-heap : goal.first_contents-requires-clause-heap
first_contents-requires-clause-heap c =
    heap-is c.args.image.now c.in_ok-tables.tables c.in_ok-tables.ensures.sites ∙ ap (λ (h : Heap). SiteState.cell 0 (Cell.heap h)) (sym c.into_parts-rows.ensures.heap)

pub first_contents-requires-clause-scheduler : goal.first_contents-requires-clause-scheduler
first_contents-requires-clause-scheduler c =
    scheduler-is c.args.image.now c.in_ok-tables.tables c.in_ok-tables.ensures.sites ∙ ap (λ (s : Scheduler). SiteState.cell 0 (Cell.scheduler s)) (sym c.into_parts-rows.ensures.scheduler)

pub first_contents-requires-clause-clock : goal.first_contents-requires-clause-clock
first_contents-requires-clause-clock c = ap (λ (k : Clock). SiteState.cell 0 (Cell.clock k)) (sym c.in_ok-clock.ensures.0)

pub first_contents-requires-clause-joins : goal.first_contents-requires-clause-joins
first_contents-requires-clause-joins c =
    joins-is c.args.image.now c.in_ok-tables.tables c.in_ok-tables.ensures.sites ∙ ap (λ (j : Joins). SiteState.cell 0 (Cell.joins j)) (sym c.into_parts-rows.ensures.joins)

pub make-cells-requires-clause-opens : goal.make-cells-requires-clause-opens
make-cells-requires-clause-opens c k x at =
    subst (λ (im : Image). Opens im (168 + k) x) (sym (ap (λ (v : View). v.image) c.in_ok-board.ensures.opens)) (c.in_ok-contents.ensures.first k x at)
