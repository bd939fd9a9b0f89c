use Rattle.std.proofs.Common.{◌≡◌, ℕ, Option, ap, arith, length-append}
use Rattle.um_base.specs.Regions.{Partitions}
use Rattle.um_fine.specs.Cells.{Cell}
use Rattle.um_fine.specs.Opening.{new_cell}
use Rattle.um_machine.specs.Table.{domain_at}
use Rattle.um_tables.specs.Sited.{domain_cell_state, no_domain_cell}
use Rattle.um_tables.specs.declared.domain_cell.DomainCell.{DomainCell}
use Rattle.um_opening.proofs.Lists.{each-more}
use Rattle.um_opening.proofs.cells.domain_cells.Goals as goal

pub loop-d-preserved : goal.loop-d-preserved
loop-d-preserved c = record {
  parts =
      each-more (λ (d : ℕ) (cell : DomainCell). domain_cell_state cell ≡ new_cell (Cell.parts (domain_at c.args.state.now d))) no_domain_cell _ _ _ _
      c.in_ok-push.ensures.items c.loop-d.invariant.long (ap (λ (parts : Option Partitions). new_cell (Cell.parts parts)) c.parts_of-parts.ensures) c.loop-d.invariant.parts;
  long = rw c.in_ok-push.ensures.items (omega (arith, length-append {A = DomainCell}, c.loop-d.invariant.long));
}
