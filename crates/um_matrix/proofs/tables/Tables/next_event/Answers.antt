use Rattle.std.proofs.Common.{ℕ, sym, ap, ◌∙◌, arith, length, List}
use Rattle.um_machine.specs.declared.thread.Thread.{Thread}
use Rattle.um_matrix.specs.Offered.{IsIdle}
use Rattle.um_matrix.proofs.OfferLemmas.{below-next, all-idle}
use Rattle.um_matrix.proofs.tables.Tables.next_event.Goals as goal

pub loop-t-preserved : goal.loop-t-preserved
loop-t-preserved c = below-next (λ (t : ℕ). IsIdle c.args.self.now t) c.loop-t.t c.loop-t.invariant c.in-None.ensures.none

pub returns : goal.returns
returns c =
    all-idle c.args.self.now (ap (λ (ts : List Thread). length ts) (sym c.threads-threads.ensures.value) ∙ c.threads-threads.ensures.all) (λ t below. c.loop-t.invariant t (omega (arith, c.threads-threads.ensures.all)))
