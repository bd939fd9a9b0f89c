use Rattle.std.proofs.Common.{rules, ◌≡◌, ◌∙◌, ap, refl, sym, subst, None, Some, slice_set}
use Rattle.um_fine.specs.Cells.{Cell}
use Rattle.um_fine.specs.Context.{Context}
use Rattle.um_fine.specs.Steps.{Exchange, Site}
use Rattle.um_tables.specs.JoinActs.{slept_made}
use Rattle.um_words.specs.declared.fine.FineAct.{FineAct}
use Rattle.um_words.specs.declared.fine.Unseen.{Unseen}
use Rattle.um_board.proofs.CellSteps.{cell-takes}
use Rattle.um_board.proofs.Keeping.{noted-then}
use Rattle.um_board.proofs.NextRuns.{next-then}
use Rattle.um_board.specs.NextSteps.{IsNext}
use Rattle.um_board.specs.Placed.{HasMadeThere}
use Rattle.um_board.proofs.sites.SeatedSites.sleep.Goals as goal

pub leave_cell-requires-clause-takes : goal.leave_cell-requires-clause-takes
leave_cell-requires-clause-takes c =
    let d = c.in-Some.turn.before.value.value in
    let was : c.deref_mut.result.now ≡ d = search rules in
    let given : c.args.context.now.value ≡ c.of-given.result.value.value = (λ i. (sym c.of-given.ensures i).value) in
    cell-takes c.args.here.now.image.now c.args.here.now.cpu Site.joins c.in-Some.turn.number (Cell.joins d) _ (FineAct.Unseen Unseen.Sleep) (Exchange.thread c.of-given.result.value.value None) c.in-Some.ensures.turn.1.turn.room refl
    (ap Cell.joins (c.sleep.ensures ∙ (λ i. record (was i) { asleep = slice_set (was i).asleep (given i).thread (Some (given i)) })))

pub leave_cell-requires-clause-goes : goal.leave_cell-requires-clause-goes
leave_cell-requires-clause-goes c =
    let given : c.args.context.now.value ≡ c.of-given.result.value.value = (λ i. (sym c.of-given.ensures i).value) in
    let seat = c.args.self.now.seat in
    next-then _ _ _ _ _ _ c.in-Some.ensures.unnoted (subst (λ (x : Context). IsNext c.args.here.now.image.now seat.token.me.0.name seat.token.me.0.made (slept_made c.args.here.now.image.now c.args.here.now.cpu c.in-Some.turn.number c.in-Some.turn.before.value.value x)) given (c.requires.goes c.in-Some.turn.number c.in-Some.turn.before.value.value))

pub returns-clause-said : goal.returns-clause-said
returns-clause-said c =
    let given : c.args.context.now.value ≡ c.of-given.result.value.value = (λ i. (sym c.of-given.ensures i).value) in
    let made = noted-then _ _ _ _ _ _ _ c.in-Some.ensures.unnoted c.leave_cell.ensures.made in
    (c.in-Some.turn.number, c.in-Some.turn.before.value.value, subst (λ (x : Context). HasMadeThere c.args.self.now (slept_made c.args.here.now.image.now c.args.here.now.cpu c.in-Some.turn.number c.in-Some.turn.before.value.value x) c.leave_cell.new.self) (sym given) made)

pub returns-in_default-clause-said : goal.returns-in_default-clause-said
returns-in_default-clause-said c = (c.turn.ensures.unnoted, c.in_default.ensures.turn.1, refl)
