use Rattle.um_tables.specs.ObjectCells.{expired_made, kept_in}
use Rattle.um_board.proofs.sites.SeatedSites.expire.Given as goal

abbrev pub ghosts-leave_cell : goal.ghosts-leave_cell
ghosts-leave_cell a = record { step = expired_made a.here.now.image.now a.here.now.cpu a.which a.turn.number (kept_in a.turn.before.value) a.about.now.0 a.about.now.1 a.about.now.2 }
