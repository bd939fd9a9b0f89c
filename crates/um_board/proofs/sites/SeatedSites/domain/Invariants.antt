use Rattle.um_tables.specs.DomainActs.{domain_made}
use Rattle.um_board.proofs.sites.SeatedSites.domain.Given as goal

abbrev pub ghosts-step : goal.ghosts-step
ghosts-step a = record { step = domain_made a.here.now.image.now a.here.now.cpu a.which a.about.now.0 a.about.now.1.now }
