use Rattle.std.proofs.Common.{◌≡◌, length}
use Rattle.std.specs.List.{All}
use Rattle.um_tables.specs.Sited.{in_domains}
use Rattle.um_opening.specs.Opened.{AreThreads}
use Rattle.um_opening.proofs.words.threads.Given as goal

abbrev pub invariant-loop-t : goal.invariant-loop-t
invariant-loop-t l = record { words : AreThreads l.state l.t l.words.items; long : length l.words.items ≡ l.t; named : All in_domains l.words.items }
