use Rattle.um_fine.specs.Cells.{Cell}
use Rattle.um_fine.specs.Steps.{Site}
use Rattle.um_tables.specs.Asked.{cell_made}
use Rattle.um_tables.specs.Looks.{look_act, look_sent}
use Rattle.um_board.proofs.seated.Seated.look_at_joins.Given as goal

abbrev pub ghosts-leave_cell : goal.ghosts-leave_cell
ghosts-leave_cell a = record { step = cell_made a.here.now.image.now a.here.now.cpu Site.joins a.turn.number (Cell.joins a.turn.before.value.value) (look_act a.about.now) (look_sent a.about.now) }
