use Rattle.std.proofs.Common.{ℕ, arith, subst, sym}
use Rattle.um_base.specs.declared.act.Act.{Act}
use Rattle.um_machine.specs.Run.{MayChoose}
use Rattle.um_machine.specs.Table.{act_of}
use Rattle.um_matrix.specs.Offered.{IsStep, event_of}
use Rattle.um_matrix.proofs.OfferLemmas.{below-next}
use Rattle.um_explore.specs.Steps.{Has}
use Rattle.um_explore.proofs.StepLemmas.{further, row-step, rows-tried}
use Rattle.um_explore.proofs.steps.add_rows.Goals as goal
use Rattle.um_explore.proofs.steps.add_rows.Goals.{else-may_choose, then-may_choose+in_ok-add}

pub add-requires-clause-step : goal.add-requires-clause-step
add-requires-clause-step c =
    subst (λ (act : Act). IsStep c.args.tables.now (event_of c.args.t act)) (sym c.says.ensures) (row-step c.args.tables.now c.args.t c.loop-x.x c.args.step.now c.requires.offered (c.may_choose.ensures.0 c.if-may_choose.true))

pub loop-x-preserved : goal.loop-x-preserved
loop-x-preserved c =
    let s = c.args.tables.now in
    let t = c.args.t in
    let p = c.args.step.now in
    let before = c.loop-x.events.items in
    elim c.if-may_choose.branch [
      | then-may_choose+in_ok-add w ↦
          rw w.events-is (record {
            goes = further s c.args.events.now.items before w.add.new.events.items c.loop-x.invariant.goes w.in_ok-add.ensures.goes;
            has = below-next (λ (y : ℕ). MayChoose s t y p → Has w.add.new.events.items (event_of t (act_of s t y p))) c.loop-x.x
                (λ y h m. w.in_ok-add.ensures.goes.keeps (event_of t (act_of s t y p)) (c.loop-x.invariant.has y h m))
                (λ m. subst (λ (act : Act). Has w.add.new.events.items (event_of t act)) w.says.ensures w.in_ok-add.ensures.has);
          })
      | else-may_choose w ↦
          rw w.events-is (record {
            goes = c.loop-x.invariant.goes;
            has = below-next (λ (y : ℕ). MayChoose s t y p → Has before (event_of t (act_of s t y p))) c.loop-x.x c.loop-x.invariant.has
                (λ m. absurd (let yes = c.may_choose.ensures.1 m in let no = w.if-may_choose.false in cc));
          })
    ]

pub returns-clause-has : goal.returns-clause-has
returns-clause-has c =
    let rows = c.row_count-x-end.ensures in
    rows-tried c.args.tables.now c.args.t c.loop-x.events.items c.args.step.now rows.objects rows.pairs
    (λ x h m. c.loop-x.invariant.has x (omega (arith, h, c.loop-x-test.false, rows.value)) m)
