use Rattle.std.proofs.Common.{ℕ, refl, subst, sym}
use Rattle.um_base.specs.declared.act.Act.{Act}
use Rattle.um_machine.specs.declared.pending.Pending.TheVariants as Pending
use Rattle.um_machine.specs.Order.{to_thread}
use Rattle.um_machine.specs.Table.{act_of}
use Rattle.um_matrix.specs.Offered.{IsStep, event_of}
use Rattle.um_matrix.proofs.OfferLemmas.{below-next}
use Rattle.um_explore.specs.Steps.{Has, HasPair}
use Rattle.um_explore.proofs.StepLemmas.{further, row-step, tending-offer}
use Rattle.um_explore.proofs.steps.add_pairs_at.Goals as goal
use Rattle.um_explore.proofs.steps.add_pairs_at.Goals.{else-may_choose, then-may_choose+in_ok-add}

pub add-requires-clause-step : goal.add-requires-clause-step
add-requires-clause-step c =
    let p = Pending.CleanPair (to_thread c.loop-who.who) in
    subst (λ (act : Act). IsStep c.args.tables.now (event_of c.args.t act)) (sym c.says.ensures)
    (row-step c.args.tables.now c.args.t c.args.x p (tending-offer c.args.tables.now c.args.t p refl c.requires.started) (c.may_choose.ensures.0 c.if-may_choose.true))

pub loop-who-preserved : goal.loop-who-preserved
loop-who-preserved c =
    let s = c.args.tables.now in
    let t = c.args.t in
    let x = c.args.x in
    let before = c.loop-who.events.items in
    elim c.if-may_choose.branch [
      | then-may_choose+in_ok-add w ↦
          rw w.events-is (record {
            goes = further s c.args.events.now.items before w.add.new.events.items c.loop-who.invariant.goes w.in_ok-add.ensures.goes;
            has = below-next (λ (who : ℕ). HasPair s t w.add.new.events.items (to_thread who) x) c.loop-who.who
                (λ who h m. w.in_ok-add.ensures.goes.keeps (event_of t (act_of s t x (Pending.CleanPair (to_thread who)))) (c.loop-who.invariant.has who h m))
                (λ m. subst (λ (act : Act). Has w.add.new.events.items (event_of t act)) w.says.ensures w.in_ok-add.ensures.has);
          })
      | else-may_choose w ↦
          rw w.events-is (record {
            goes = c.loop-who.invariant.goes;
            has = below-next (λ (who : ℕ). HasPair s t before (to_thread who) x) c.loop-who.who c.loop-who.invariant.has
                (λ m. absurd (let yes = c.may_choose.ensures.1 m in let no = w.if-may_choose.false in cc));
          })
    ]
