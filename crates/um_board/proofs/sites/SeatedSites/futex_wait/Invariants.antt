use Rattle.um_tables.specs.FutexActs.{waited_made}
use Rattle.um_board.proofs.sites.SeatedSites.futex_wait.Given as goal

abbrev pub ghosts-leave_cell : goal.ghosts-leave_cell
ghosts-leave_cell a = record { step = waited_made a.here.now.image.now a.here.now.cpu a.turn.number a.turn.before.value.value a.about.now }
