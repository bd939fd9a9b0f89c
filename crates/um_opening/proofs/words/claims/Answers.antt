use Rattle.std.proofs.Common.{◌≡◌, ◌<◌, ◌∙◌, Bool, [], ◌∷◌, ap, arith, length, slice_index_or}
use Rattle.um_machine.specs.Objects.{thread_holds}
use Rattle.um_fine.specs.Opening.{count}
use Rattle.um_machine.specs.declared.thread.Thread.{Thread}
use Rattle.um_opening.proofs.Lists.{count_more}
use Rattle.um_opening.proofs.words.claims.Goals as goal

pub loop-t-preserved : goal.loop-t-preserved
loop-t-preserved c =
    let threads = c.args.threads.now in
    let t = c.loop-t.t in
    let me = c.index-threads-t.result in
    let within : t < length threads = omega (arith, c.loop-t-test.true) in
    let here : c.holds.result ≡ thread_holds c.args.image.now c.args.x t (slice_index_or threads t me) =
    c.holds.ensures ∙ ap (λ (m : Thread). thread_holds c.args.image.now c.args.x t m) c.index-threads-t.is in
    let one = ap (λ (b : Bool). count (b ∷ [])) here in
    let next = count_more (thread_holds c.args.image.now c.args.x) threads t me within in
    record { so_far = omega (arith, next, one); few = omega arith }
