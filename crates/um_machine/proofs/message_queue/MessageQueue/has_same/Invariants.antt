use Rattle.std.proofs.Common.{◌≡◌, ◌<◌, ℕ, List, get_or}
use Rattle.um_machine.proofs.message_queue.MessageQueue.has_same.Given as goal

abbrev pub invariant-loop-i : goal.invariant-loop-i
invariant-loop-i l = (j : ℕ) → j < l.i → (d : List ℕ) → get_or l.self.messages j d ≡ get_or l.other.messages j d
