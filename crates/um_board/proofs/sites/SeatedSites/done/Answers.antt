use Rattle.std.proofs.Common.{arith, rules, ◌≡◌, ◌∙◌, ap, refl, subst, false, nat_lt, ◌<◌}
use Rattle.std.proofs.lemmas.Bool.{lt-ltb}
use Rattle.um_fine.specs.Cells.{Cell}
use Rattle.um_fine.specs.Scheduler.{Scheduler, one_less}
use Rattle.um_fine.specs.Steps.{Exchange, Site}
use Rattle.um_words.specs.declared.fine.FineAct.{FineAct}
use Rattle.um_words.specs.declared.fine.Unseen.{Unseen}
use Rattle.um_board.proofs.CellSteps.{cell-takes}
use Rattle.um_board.proofs.Keeping.{noted-then}
use Rattle.um_board.proofs.NextRuns.{next-then}
use Rattle.um_board.proofs.Saws.{refused}
use Rattle.um_board.proofs.sites.SeatedSites.done.Goals as goal

pub leave_cell-requires-clause-takes : goal.leave_cell-requires-clause-takes
leave_cell-requires-clause-takes c =
    let d = c.in-Some.turn.before.value.value in
    let was : c.deref_mut.result.now ≡ d = search rules in
    let e = subst (λ (s : Scheduler). (0 < s.running) × (c.done.new.self ≡ one_less s)) was (c.if-not-done.ensures.made refl) in
    cell-takes c.args.here.now.image.now c.args.here.now.cpu Site.scheduler c.in-Some.turn.number (Cell.scheduler d) _ (FineAct.Unseen Unseen.Done) Exchange.nothing c.in-Some.ensures.turn.1.turn.room (lt-ltb 0 _ e.0) (ap Cell.scheduler e.1)

pub leave_cell-requires-clause-goes : goal.leave_cell-requires-clause-goes
leave_cell-requires-clause-goes c = next-then _ _ _ _ _ _ c.in-Some.ensures.unnoted (c.requires.goes c.in-Some.turn.number c.in-Some.turn.before.value.value)

pub returns-clause-said : goal.returns-clause-said
returns-clause-said c = (c.in-Some.turn.number, c.in-Some.turn.before.value.value, noted-then _ _ _ _ _ _ _ c.in-Some.ensures.unnoted c.leave_cell.ensures.made)

pub returns-then-not-done-clause-said : goal.returns-then-not-done-clause-said
returns-then-not-done-clause-said c =
    let d = c.in-Some.turn.before.value.value in
    let was : c.deref_mut.result.now ≡ d = search rules in
    let t = c.in-Some.ensures.turn.1 in
    let denied = subst (λ (x : Scheduler). nat_lt 0 x.running ≡ false) was (ap (nat_lt 0) (c.if-not-done.ensures.refused refl).1) in
    let shut = refused c.args.here.now.image.now c.args.here.now.cpu Site.scheduler c.in-Some.turn.number _ (Cell.scheduler d) (FineAct.Unseen Unseen.Done) Exchange.nothing _ _ _ _ _ _ c.in-Some.ensures.unnoted c.put_back.ensures.unnoted (omega arith) t.turn.says t.got t.saw denied in
    (c.in-Some.turn.number, d, shut.0, shut.1)

pub put_back-requires-clause-same : goal.put_back-requires-clause-same
put_back-requires-clause-same c =
    let was : c.deref_mut.result.now ≡ c.in-Some.turn.before.value.value = search rules in
    ap Cell.scheduler ((c.if-not-done.ensures.refused refl).0 ∙ was)

pub returns-in_default-clause-said : goal.returns-in_default-clause-said
returns-in_default-clause-said c = (c.turn.ensures.unnoted, c.in_default.ensures.turn.1)
