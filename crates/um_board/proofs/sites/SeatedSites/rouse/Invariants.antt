use Rattle.um_tables.specs.JoinActs.{roused_made}
use Rattle.um_board.proofs.sites.SeatedSites.rouse.Given as goal

abbrev pub ghosts-leave_cell : goal.ghosts-leave_cell
ghosts-leave_cell a = record { step = roused_made a.here.now.image.now a.here.now.cpu a.turn.number a.turn.before.value.value a.about.now }
