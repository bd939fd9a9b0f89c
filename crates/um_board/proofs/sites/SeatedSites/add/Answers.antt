use Rattle.std.proofs.Common.{arith, rules, ◌≡◌, ◌∙◌, ap, refl, sym, subst, None, false, true, IsTrue}
use Rattle.um_machine.specs.Order.{to_thread}
use Rattle.um_fine.specs.Cells.{Cell}
use Rattle.um_fine.specs.Steps.{Exchange, Site}
use Rattle.um_fine.specs.Context.{Context}
use Rattle.um_fine.specs.Scheduler.{Scheduler, has_place, put_back}
use Rattle.um_words.specs.declared.fine.FineAct.{FineAct}
use Rattle.um_words.specs.declared.fine.Unseen.{Unseen}
use Rattle.um_tables.specs.SchedulerActs.{added_made}
use Rattle.um_board.specs.NextSteps.{IsNext}
use Rattle.um_board.specs.Placed.{HasMadeThere}
use Rattle.um_board.proofs.CellSteps.{cell-takes}
use Rattle.um_board.proofs.Keeping.{noted-then}
use Rattle.um_board.proofs.NextRuns.{next-then}
use Rattle.um_board.proofs.Saws.{refused}
use Rattle.um_board.proofs.sites.SeatedSites.add.Goals as goal

pub leave_cell-requires-clause-takes : goal.leave_cell-requires-clause-takes
leave_cell-requires-clause-takes c =
    let d = c.in-Some.turn.before.value.value in
    let was : c.deref_mut.result.now ≡ d = search rules in
    let given : c.args.context.now.value ≡ c.of-given.result.value.value = (λ i. (sym c.of-given.ensures i).value) in
    let e = subst (λ (s : Scheduler). IsTrue (has_place s) × (c.add.new.self ≡ put_back s true c.args.context.now.value)) was (c.if-not-add.ensures.made refl) in
    cell-takes c.args.here.now.image.now c.args.here.now.cpu Site.scheduler c.in-Some.turn.number (Cell.scheduler d) _ (FineAct.Unseen (Unseen.Add (to_thread c.of-given.result.value.value.thread))) (Exchange.thread c.of-given.result.value.value None) c.in-Some.ensures.turn.1.turn.room e.0 (ap Cell.scheduler e.1 ∙ ap (λ (x : Context). Cell.scheduler (put_back d true x)) given)

pub leave_cell-requires-clause-goes : goal.leave_cell-requires-clause-goes
leave_cell-requires-clause-goes c =
    let given : c.args.context.now.value ≡ c.of-given.result.value.value = (λ i. (sym c.of-given.ensures i).value) in
    let seat = c.args.self.now.seat in
    next-then _ _ _ _ _ _ c.in-Some.ensures.unnoted (subst (λ (x : Context). IsNext c.args.here.now.image.now seat.token.me.0.name seat.token.me.0.made (added_made c.args.here.now.image.now c.args.here.now.cpu c.in-Some.turn.number c.in-Some.turn.before.value.value x)) given (c.requires.goes c.in-Some.turn.number c.in-Some.turn.before.value.value))

pub returns-clause-said : goal.returns-clause-said
returns-clause-said c =
    let given : c.args.context.now.value ≡ c.of-given.result.value.value = (λ i. (sym c.of-given.ensures i).value) in
    let made = noted-then _ _ _ _ _ _ _ c.in-Some.ensures.unnoted c.leave_cell.ensures.made in
    (c.in-Some.turn.number, c.in-Some.turn.before.value.value, subst (λ (x : Context). HasMadeThere c.args.self.now (added_made c.args.here.now.image.now c.args.here.now.cpu c.in-Some.turn.number c.in-Some.turn.before.value.value x) c.leave_cell.new.self) (sym given) made)

pub returns-then-not-add-clause-said : goal.returns-then-not-add-clause-said
returns-then-not-add-clause-said c =
    let d = c.in-Some.turn.before.value.value in
    let was : c.deref_mut.result.now ≡ d = search rules in
    let t = c.in-Some.ensures.turn.1 in
    let r = c.if-not-add.ensures.refused refl in
    let denied = subst (λ (x : Scheduler). has_place x ≡ false) was r.2 in
    let shut = refused c.args.here.now.image.now c.args.here.now.cpu Site.scheduler c.in-Some.turn.number _ (Cell.scheduler d) (FineAct.Unseen (Unseen.Add (to_thread c.args.context.now.value.thread))) (Exchange.thread c.args.context.now.value None) _ _ _ _ _ _ c.in-Some.ensures.unnoted c.put_back.ensures.unnoted (omega arith) t.turn.says t.got t.saw denied in
    (c.in-Some.turn.number, d, shut.0, shut.1, r.1)

pub put_back-requires-clause-same : goal.put_back-requires-clause-same
put_back-requires-clause-same c =
    let was : c.deref_mut.result.now ≡ c.in-Some.turn.before.value.value = search rules in
    ap Cell.scheduler ((c.if-not-add.ensures.refused refl).0 ∙ was)

pub returns-in_default-clause-said : goal.returns-in_default-clause-said
returns-in_default-clause-said c = (c.turn.ensures.unnoted, c.in_default.ensures.turn.1, refl)
