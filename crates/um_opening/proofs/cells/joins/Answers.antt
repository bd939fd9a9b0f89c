use Rattle.std.proofs.Common.{◌≡◌, ◌∙◌, Bool, List, None, [], ap, replicate}
use Rattle.um_base.specs.declared.limits.TheConstants.{THREADS}
use Rattle.um_fine.specs.Cells.{Cell}
use Rattle.um_fine.specs.Joins.{Joins}
use Rattle.um_fine.specs.Opening.{joins_cell, no_notes}
use Rattle.um_opening.proofs.Lists.{ok-more}
use Rattle.um_opening.proofs.cells.joins.Goals as goal

pub returns : goal.returns
returns c =
    ok-more (λ (j : Joins). j ≡ record { waiters = []; noted = no_notes; shut = c.shut.result; asleep = replicate THREADS None }) (λ (j : Joins). Cell.joins j ≡ joins_cell c.args.state.now)
    (λ j e. ap Cell.joins (e ∙ ap (λ (shut : List Bool). record { waiters = []; noted = no_notes; shut = shut; asleep = replicate THREADS None }) c.shut.ensures))
    c.new.result c.new.ensures
