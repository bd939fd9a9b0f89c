use Rattle.um_tables.specs.MemoryActs.{memory_made}
use Rattle.um_board.proofs.sites.SeatedSites.memory.Given as goal

abbrev pub ghosts-leave_cell : goal.ghosts-leave_cell
ghosts-leave_cell a = record { step = memory_made a.here.now.image.now a.here.now.cpu a.turn.number a.turn.before.value.value a.about.now.0.now a.about.now.1.value }
