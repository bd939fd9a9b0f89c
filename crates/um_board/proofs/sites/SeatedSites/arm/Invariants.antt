use Rattle.um_tables.specs.ClockActs.{armed_made}
use Rattle.um_board.proofs.sites.SeatedSites.arm.Given as goal

abbrev pub ghosts-leave_cell : goal.ghosts-leave_cell
ghosts-leave_cell a = record { step = armed_made a.here.now.image.now a.here.now.cpu a.turn.number a.turn.before.value.value.clock a.about.now.0 a.about.now.1 a.about.now.2 }
