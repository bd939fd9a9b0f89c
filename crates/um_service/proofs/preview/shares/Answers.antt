use Rattle.std.proofs.Common.{◌≡◌, ◌∙◌, ◌++◌, [], List, drop, sym, ap, arith, append-nil}
use Rattle.um_base.specs.declared.names.Reply.{Reply}
use Rattle.um_base.specs.declared.names.ThreadIx.{ThreadIx}
use Rattle.um_service.specs.declared.order.Queued.{Queued}
use Rattle.um_service.specs.Preview.{shares}
use Rattle.um_service.proofs.PreviewLemmas.{shares-none}
use Rattle.um_service.proofs.preview.shares.Goals as goal

pub returns-then-left-eq0 : goal.returns-then-left-eq0
returns-then-left-eq0 c =
    let rest = drop c.loop-i.i c.as_slice-queue.result.now in
    let none : c.loop-i.left ≡ 0 = omega arith in
    let nobody : shares rest c.loop-i.left ≡ [] = ap (shares rest) none ∙ shares-none rest in
    sym (append-nil c.loop-i.woken) ∙ ap (λ (rs : List (ThreadIx × Reply)). c.loop-i.woken ++ rs) (sym nobody) ∙ c.loop-i.invariant.so_far
    ∙ ap (λ (qs : List Queued). shares qs c.args.n) (c.as_slice-queue.ensures.value ∙ c.queue_of-queue.ensures)
