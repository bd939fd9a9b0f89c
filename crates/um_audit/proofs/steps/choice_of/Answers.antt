use Rattle.std.proofs.Common.{ℕ, refl, sym, ap, ◌∙◌, arith, length, List}
use Rattle.std.proofs.lemmas.Option.{slice_get_read}
use Rattle.um_machine.specs.declared.thread.Thread.{Thread}
use Rattle.um_matrix.proofs.OfferLemmas.{below-next}
use Rattle.um_audit.specs.Steps.{IsNoThreadsLine}
use Rattle.um_audit.proofs.StepLemmas.{none-below, others-line}
use Rattle.um_audit.proofs.steps.choice_of.Goals as goal

pub loop-t-preserved-then-not-begins : goal.loop-t-preserved-then-not-begins
loop-t-preserved-then-not-begins c =
    let names = c.args.names.now in
    let name = slice_get_read names _ c.loop-t.t _ refl c.loop-t-test.true c.index-names-t.is in
    let none = others-line c.args.image.now c.args.line.now _ c.args.tables.now c.loop-t.t (c.as_slice.ensures.value ∙ c.requires.names.each c.loop-t.t _ name) (c.begins.ensures c.if-not-begins.true) in
    record {
      room = c.loop-t.invariant.room;
      more = c.loop-t.invariant.more;
      none = below-next (λ (t : ℕ). IsNoThreadsLine c.args.image.now c.args.line.now t c.args.tables.now) c.loop-t.t c.loop-t.invariant.none none;
    }

pub loop-t-preserved : goal.loop-t-preserved
loop-t-preserved c =
    let room = c.loop-t.invariant.room in
    let more = c.loop-t.invariant.more in
    let grows = c.by_thread.ensures.capacity in
    record {
      room = omega (arith, room, grows);
      more = omega (arith, more, grows);
      none = below-next (λ (t : ℕ). IsNoThreadsLine c.args.image.now c.args.line.now t c.args.tables.now) c.loop-t.t c.loop-t.invariant.none c.in-None.ensures.none;
    }

pub returns-clause-none : goal.returns-clause-none
returns-clause-none c =
    none-below c.args.image.now c.args.line.now c.args.tables.now c.loop-t.t (ap (λ (ts : List Thread). length ts) (sym c.threads-threads.ensures.value) ∙ c.threads-threads.ensures.all)
    (omega (arith, c.loop-t-test.false, c.requires.names.all)) c.loop-t.invariant.none
