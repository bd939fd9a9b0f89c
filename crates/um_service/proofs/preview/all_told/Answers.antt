use Rattle.std.proofs.Common.{◌≡◌, ◌∙◌, length, take, refl, sym, ap, arith}
use Rattle.std.proofs.Math.Seq.{take-length}
use Rattle.um_machine.specs.Serving.{served}
use Rattle.um_service.proofs.PreviewLemmas.{fails, replies-all_told}
use Rattle.um_service.proofs.preview.all_told.Goals as goal

pub returns : goal.returns
returns c =
    let queue = c.as_slice-queue.result.now in
    let end : c.loop-i.i ≡ length queue = omega arith in
    let all : take c.loop-i.i queue ≡ queue = rw (end, take-length queue) refl in
    c.loop-i.invariant.so_far ∙ ap (fails c.args.error) (all ∙ c.as_slice-queue.ensures.value ∙ c.queue_of-queue.ensures)
    ∙ sym (replies-all_told c.args.which c.args.error (served c.args.which c.args.waiters.now))
