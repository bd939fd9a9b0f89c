use Rattle.um_tables.specs.DomainCells.{loaded_made}
use Rattle.um_board.proofs.sites.SeatedSites.load_parts.Given as goal

abbrev pub ghosts-leave_cell : goal.ghosts-leave_cell
ghosts-leave_cell a = record { step = loaded_made a.here.now.image.now a.here.now.cpu a.which a.turn.number a.turn.before.value.value.parts }
