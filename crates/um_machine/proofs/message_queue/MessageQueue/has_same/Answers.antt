use Rattle.std.proofs.Common.{◌≡◌, length, ap, sym, ◌∙◌, arith, inl, inr}
use Rattle.std.proofs.lemmas.Bool.{cases_lt}
use Rattle.std.proofs.lemmas.List.{same_lists}
use Rattle.um_machine.specs.Contents.{Queue}
use Rattle.um_machine.proofs.RingLemmas.{length-window}
use Rattle.um_machine.proofs.message_queue.MessageQueue.has_same.Goals as goal

pub loop-i-preserved : goal.loop-i-preserved
loop-i-preserved c j h d =
    elim (cases_lt j c.loop-i.i) [
      | inl low ↦ c.loop-i.invariant j low d
      | inr high ↦ let e : j ≡ c.loop-i.i = omega arith in rw e (sym (c.at.ensures d) ∙ c.same_piece.ensures (grind (arith, c.if-not-same_piece.false)) ∙ c.at-in-loop-i.ensures d)
    ]

-- all messages were compared
pub returns : goal.returns
returns c h =
    let q = c.self.inside in
    let many = length-window 64 q.oldest q.len q.items c.self.invariant.1 c.self.invariant.2 c.self.invariant.3 in
    let same = ap (λ (v : Queue). length v.messages) c.self.view_is in
    same_lists _ _ c.requires (λ k d below. c.loop-i.invariant k (omega (arith, many, same, c.loop-i-test.false, below)) d)
