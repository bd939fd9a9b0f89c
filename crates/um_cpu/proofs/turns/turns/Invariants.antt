use Rattle.um_processor.specs.Standing.{whole}
use Rattle.um_board.specs.Seated.{KeepsPlace}
use Rattle.um_board.specs.Turned.{IsPlaced}
use Rattle.um_cpu.specs.Cpus.{Reaches, Stands}
use Rattle.std.proofs.Common.{◌≡◌}
use Rattle.um_cpu.proofs.turns.turns.Given as goal

-- what the processor has so far
abbrev pub invariant-loop : goal.invariant-loop
invariant-loop g l =
    record {
      number : l.cpu.number ≡ l.initial.cpu.number;
      place : IsPlaced l.image l.cpu.place.board.now.table.shared.table_id l.cpu.place.cells.now l.cpu.place.rodata.now l.cpu.place.seat l.cpu.place.log.room;
      stands : Stands l.image l.cpu.number (whole l.cpu.processor) l.cpu.place.seat l.cpu.place.log.items;
      keeps : KeepsPlace l.initial.cpu.place.seat l.cpu.place.seat;
      reaches : Reaches l.image l.initial.cpu.number (whole l.initial.cpu.processor) l.initial.cpu.place.seat l.initial.cpu.place.log.items (whole l.cpu.processor) l.cpu.place.seat l.cpu.place.log.items;
    }
