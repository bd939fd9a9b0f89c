use Rattle.um_processor.proofs.running.Running.+readable.Given as goal

abbrev pub decreases-readable : goal.decreases-readable
decreases-readable l = l.n
