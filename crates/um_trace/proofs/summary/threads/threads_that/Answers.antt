use Rattle.std.proofs.Common.{ℕ, Bool, arith}
use Rattle.um_trace.specs.Dump.{shown_thread}
use Rattle.um_trace.specs.Summary.{stands_so}
use Rattle.um_trace.proofs.LineLemmas.{count_more, count_none}
use Rattle.um_trace.proofs.summary.threads.threads_that.Goals as goal

pub loop-row-init : goal.loop-row-init
loop-row-init g c =
    let test : ℕ → Bool = λ x. stands_so c.args.shown (g.D.Dumped.state c.args.last.now) (shown_thread c.args.image.now (g.D.Dumped.state c.args.last.now) x) in
    record { value = count_none test; few = omega arith }

pub loop-row-preserved : goal.loop-row-preserved
loop-row-preserved g c =
    let test : ℕ → Bool = λ x. stands_so c.args.shown (g.D.Dumped.state c.args.last.now) (shown_thread c.args.image.now (g.D.Dumped.state c.args.last.now) x) in
    record {
      value = rw c.one_if-count.ensures.value (count_more test c.loop-row.row c.loop-row.count c.stands_so.result c.loop-row.invariant.value c.stands_so.ensures);
      few = (let more = c.one_if-count.ensures.few in omega arith);
    }
