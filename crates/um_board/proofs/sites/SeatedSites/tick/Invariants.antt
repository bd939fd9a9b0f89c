use Rattle.um_tables.specs.ClockActs.{ticked_made}
use Rattle.um_board.proofs.sites.SeatedSites.tick.Given as goal

abbrev pub ghosts-leave_cell : goal.ghosts-leave_cell
ghosts-leave_cell a = record { step = ticked_made a.here.now.image.now a.here.now.cpu a.turn.number a.turn.before.value.value.clock a.about.now }
