use Rattle.um_tables.specs.ObjectCells.{kept_in, named_made}
use Rattle.um_board.proofs.sites.SeatedSites.name.Given as goal

abbrev pub ghosts-leave_cell : goal.ghosts-leave_cell
ghosts-leave_cell a = record { step = named_made a.here.now.image.now a.here.now.cpu a.which a.turn.number (kept_in a.turn.before.value) a.about.now.0 a.about.now.1 a.about.now.2.now }
