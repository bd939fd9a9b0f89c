use Rattle.std.proofs.Common.{ℕ, List, sym, ap, length, ◌∙◌, arith}
use Rattle.um_machine.specs.Contents.{Queue}
use Rattle.um_machine.proofs.RingLemmas.{length-window, window_before_pop}
use Rattle.um_machine.proofs.message_queue.MessageQueue.pop.Goals as goal

-- the old messages are that of the oldest slot, and then the new ones
pub returns-clause-taken : goal.returns-clause-taken
returns-clause-taken c =
    let q = c.self.inside in
    let with_messages : List (List ℕ) → Queue = λ messages. record { size = q.size; most = q.most; messages = messages } in
    sym c.self.view_is
    ∙ ap with_messages (window_before_pop 64 q.oldest q.len q.items c.self.invariant.1 c.self.invariant.2 c.self.invariant.3 c.index-self-self.result (omega arith))

pub returns-clause-room : goal.returns-clause-room
returns-clause-room c =
    let q = c.self.inside in
    let split = window_before_pop 64 q.oldest q.len q.items c.self.invariant.1 c.self.invariant.2 c.self.invariant.3 c.index-self-self.result (omega arith) in
    omega (arith, length-window 64 q.oldest q.len q.items c.self.invariant.1 c.self.invariant.2 c.self.invariant.3, ap length split)
