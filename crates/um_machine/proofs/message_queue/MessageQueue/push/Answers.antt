use Rattle.std.proofs.Common.{ℕ, ◌<◌, List, [], ◌∷◌, ◌++◌, length, ap, ◌∙◌, arith}
use Rattle.um_machine.specs.Contents.{Queue}
use Rattle.um_machine.proofs.RingLemmas.{length-window, window_after_push}
use Rattle.um_machine.proofs.message_queue.MessageQueue.push.Goals as goal

-- the slot behind the last message is free, since there is room
pub returns : goal.returns
returns c =
    let q = c.self.inside in
    let message = c.args.message.now in
    let with_messages : List (List ℕ) → Queue = λ messages. record { size = q.size; most = q.most; messages = messages } in
    let with_message : Queue → Queue = λ (v : Queue). record v { messages = v.messages ++ message ∷ [] } in
    let length_old = length-window 64 q.oldest q.len q.items c.self.invariant.1 c.self.invariant.2 c.self.invariant.3 in
    let same_length = ap (λ (v : Queue). length v.messages) c.self.view_is in
    let has_room : q.len < 64 = omega arith in
    ap with_messages (window_after_push 64 q.oldest q.len q.items c.self.invariant.1 c.self.invariant.2 c.self.invariant.3 message has_room)
    ∙ ap with_message c.self.view_is
