use Rattle.std.proofs.Common.{◌∷◌, ◌%◌, List, ℕ, ap, sym}
use Rattle.um_core.proofs.OrderLemmas.{round-on}
use Rattle.um_core.proofs.order.Order.next.Goals as goal

pub returns-in-Round-clause-first : goal.returns-in-Round-clause-first
returns-in-Round-clause-first c = λ n.
    rw c.in-Round.is (ap (λ (rest : List ℕ). c.in-Round.next % c.args.cpus ∷ rest) (sym (round-on c.args.cpus c.in-Round.next n)))
