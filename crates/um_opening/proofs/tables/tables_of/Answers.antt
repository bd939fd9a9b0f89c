use Rattle.std.proofs.Common.{◌≡◌, ◌∙◌, ◌≤◌, List, [], ap, length, map, subst, sym}
use Rattle.std.proofs.lemmas.List.{length-map}
use Rattle.um_base.specs.declared.image.Image.{Image}
use Rattle.um_base.specs.declared.limits.TheConstants.{ROWS}
use Rattle.um_machine.specs.Run.{objects_from}
use Rattle.um_fine.specs.Cells.{Cell}
use Rattle.um_fine.specs.Heap.{Heap}
use Rattle.um_fine.specs.Clock.{Clock}
use Rattle.um_fine.specs.Memory.{Bytes}
use Rattle.um_fine.specs.Opening.{no_notes}
use Rattle.um_fine.specs.Sites.{SiteState}
use Rattle.um_tables.specs.Sited.{IsSized, Sited}
use Rattle.um_tables.specs.declared.object_cell.ObjectCell.{ObjectCell}
use Rattle.um_opening.specs.Opened.{kept_by}
use Rattle.um_opening.proofs.Lists.{heap-is}
use Rattle.um_opening.proofs.SitesAre.{Keeps, sites-are}
use Rattle.um_opening.proofs.tables.tables_of.Goals as goal

pub returns-clause-sites : goal.returns-clause-sites
returns-clause-sites c =
    let s = c.args.state in
    let parts = c.into_parts-parts.ensures in
    let objects : c.in_ok-objects.objects ≡ map kept_by s.objects =
    c.in_ok-objects.ensures.cells ∙ ap (λ (i : Image). map kept_by (objects_from i.boots 0 i.objects)) c.image.ensures.value ∙ ap (map kept_by) (sym c.requires.fresh.objects) in
    let all : length s.objects ≡ ROWS = sym (length-map s.objects kept_by) ∙ ap (λ (cells : List ObjectCell). length cells) (sym objects) ∙ c.in_ok-objects.ensures.all in
    let bytes = c.in_ok-memory.ensures ∙ (λ j. record { memory = parts.memory j; stacks = parts.stacks j; futexes = []; noted = no_notes }) in
    let keeps : Keeps s c.new-tables.result = subst (λ (t : Sited). Keeps s t) (sym c.new-tables.ensures)
    (record {
      rows = c.in_ok-rows.ensures.words;
      threads = c.in_ok-threads.ensures.words;
      domains = c.in_ok-domains.ensures.words;
      parts = c.in_ok-domain_cells.ensures.parts;
      objects = objects;
      memory = ap (λ (bytes : Bytes). SiteState.cell 0 (Cell.memory bytes)) bytes;
      heap = ap (λ (heap : Heap). SiteState.cell 0 (Cell.heap heap)) c.in_ok-heap.ensures ∙ ap (SiteState.cell 0) (heap-is s _ parts.pools c.requires.fresh.objects all);
      scheduler = ap (SiteState.cell 0) c.in_ok-scheduler.ensures;
      clock = ap (λ (clock : Clock). SiteState.cell 0 (Cell.clock clock)) c.in_ok-clock.ensures.0;
      joins = ap (SiteState.cell 0) c.in_ok-joins.ensures;
    }) in
    sites-are s c.new-tables.result keeps

pub returns-clause-sized : goal.returns-clause-sized
returns-clause-sized c =
    subst (λ (t : Sited). IsSized t) (sym c.new-tables.ensures)
    (record {
      rows = c.in_ok-rows.ensures.all;
      threads = c.in_ok-threads.ensures.all;
      domains = c.in_ok-domains.ensures.all;
      domain_cells = c.in_ok-domain_cells.ensures.all;
      objects = c.in_ok-objects.ensures.all;
    })

pub returns-clause-rodata : goal.returns-clause-rodata
returns-clause-rodata c = ap (λ (t : Sited). t.rodata) c.new-tables.ensures ∙ c.into_parts-parts.ensures.rodata

pub returns-clause-log : goal.returns-clause-log
returns-clause-log c = ap (λ (t : Sited). t.log) c.new-tables.ensures ∙ c.in_ok-log.ensures.items

pub returns-clause-room : goal.returns-clause-room
returns-clause-room c = subst (λ (t : Sited). c.args.most ≤ t.most) (sym c.new-tables.ensures) c.in_ok-log.ensures.capacity
