use Rattle.um_tables.specs.ObjectCells.{kept_in, looked_made}
use Rattle.um_board.proofs.sites.SeatedSites.message_size.Given as goal

abbrev pub ghosts-leave_cell : goal.ghosts-leave_cell
ghosts-leave_cell a = record { step = looked_made a.here.now.image.now a.here.now.cpu a.which a.turn.number (kept_in a.turn.before.value) }
