use Rattle.std.proofs.Common.{◌∙◌, ℕ, ap, arith, length, List, sym}
use Rattle.um_machine.specs.declared.pending.Pending.TheVariants as Pending
use Rattle.um_machine.specs.declared.thread.Thread.{Thread}
use Rattle.um_machine.specs.Order.{to_thread}
use Rattle.um_matrix.specs.Offered.{ChoosesNone}
use Rattle.um_matrix.proofs.OfferLemmas.{all-cut, all-late, below-next}
use Rattle.um_matrix.proofs.tables.Tables.waking_act.Goals as goal

pub loop-who-preserved : goal.loop-who-preserved
loop-who-preserved c = record {
  times = below-next (λ (w : ℕ). ChoosesNone c.args.self.now c.args.t (Pending.TimeOut (to_thread w))) c.loop-who.who c.loop-who.invariant.times c.in-None.ensures.times;
  cuts = below-next (λ (w : ℕ). ChoosesNone c.args.self.now c.args.t (Pending.Cut (to_thread w))) c.loop-who.who c.loop-who.invariant.cuts c.in-None.ensures.cuts;
}

pub returns-clause-times : goal.returns-clause-times
returns-clause-times c =
    all-late c.args.self.now c.args.t (ap (λ (ts : List Thread). length ts) (sym c.threads-who-end.ensures.value) ∙ c.threads-who-end.ensures.all) (λ w below. c.loop-who.invariant.times w (omega (arith, c.threads-who-end.ensures.all)))

pub returns-clause-cuts : goal.returns-clause-cuts
returns-clause-cuts c =
    all-cut c.args.self.now c.args.t (ap (λ (ts : List Thread). length ts) (sym c.threads-who-end.ensures.value) ∙ c.threads-who-end.ensures.all) (λ w below. c.loop-who.invariant.cuts w (omega (arith, c.threads-who-end.ensures.all)))
