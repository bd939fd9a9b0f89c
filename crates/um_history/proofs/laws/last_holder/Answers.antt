use Rattle.um_history.proofs.LastHolder.{has-last-holder}
use Rattle.um_history.proofs.laws.last_holder.Goals as goal

pub returns-clause-claims : goal.returns-clause-claims
returns-clause-claims c = λ image cpus g described run.
    let shows = c.every_fine_run.ensures.run image cpus g described run in
    (shows.0, shows.1, λ x few. (shows.2.rows x few).claims.claimed)

pub returns-clause-cleaner : goal.returns-clause-cleaner
returns-clause-cleaner c = λ image cpus g described run x few.
    has-last-holder image cpus (λ h fine. let shows = c.every_fine_run.ensures.run image cpus h described fine in (shows.0, shows.2)) x few g run
