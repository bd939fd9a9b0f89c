use Rattle.um_words.specs.Packed.{row_of}
use Rattle.um_tables.specs.RowActs.{row_made}
use Rattle.um_board.proofs.sites.SeatedSites.row.Given as goal

abbrev pub ghosts-step : goal.ghosts-step
ghosts-step a = record { step = row_made a.here.now.image.now a.here.now.cpu a.which (row_of a.seen) a.about.now }
