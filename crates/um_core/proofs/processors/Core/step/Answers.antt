use Rattle.um_core.proofs.CoreExact.{goes-on, halts-none}
use Rattle.um_core.proofs.CoreMoves.{moved-none, moved-steps}
use Rattle.um_core.proofs.processors.Core.step.Goals as goal

pub returns-clause-steps : goal.returns-clause-steps
returns-clause-steps c = λ made. moved-steps c.args.image.now c.args.cpu c.args.self.now c.advance.new.self c.advance.result c.advance.ensures.moves made

pub returns-clause-same : goal.returns-clause-same
returns-clause-same c = λ none. (moved-none c.args.image.now c.args.cpu c.args.self.now c.advance.new.self c.advance.result c.advance.ensures.moves none).0

pub returns-clause-halts : goal.returns-clause-halts
returns-clause-halts c = λ none. (moved-none c.args.image.now c.args.cpu c.args.self.now c.advance.new.self c.advance.result c.advance.ensures.moves none).1

pub returns-clause-goes : goal.returns-clause-goes
returns-clause-goes c =
    λ cpus done is l made. goes-on c.args.image.now cpus done c.args.self.now is c.args.cpu l c.longest_fine_run.ensures c.advance.new.self (returns-clause-steps c made)

pub returns-clause-none : goal.returns-clause-none
returns-clause-none c = λ cpus done is l none. halts-none c.args.image.now cpus done c.args.self.now is c.args.cpu l c.longest_fine_run.ensures (returns-clause-halts c none)
