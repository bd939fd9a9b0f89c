use Rattle.um_tables.specs.HeapActs.{heap_made}
use Rattle.um_board.proofs.sites.SeatedSites.heap.Given as goal

abbrev pub ghosts-leave_cell : goal.ghosts-leave_cell
ghosts-leave_cell a = record { step = heap_made a.here.now.image.now a.here.now.cpu a.turn.number a.turn.before.value.value a.about.now.0.now a.about.now.1 }
