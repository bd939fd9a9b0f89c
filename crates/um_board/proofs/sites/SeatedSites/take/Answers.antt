use Rattle.std.proofs.Common.{arith, rules, ◌≡◌, ◌∙◌, ap, refl, sym, subst, ℕ, IsTrue, Some, None, false, if◌then◌else◌}
use Rattle.um_fine.specs.Cells.{Cell}
use Rattle.um_fine.specs.Steps.{Exchange, Site}
use Rattle.um_base.specs.declared.act.Act.{Act}
use Rattle.um_machine.specs.Order.{to_thread}
use Rattle.um_words.specs.declared.cell_word.CellWord.{CellWord}
use Rattle.um_fine.specs.Context.{Context}
use Rattle.um_fine.specs.Scheduler.{Scheduler, first_ready, first_taken, has_ready, turn_in}
use Rattle.um_tables.specs.Asked.{by_thread, event_of}
use Rattle.um_tables.proofs.Noted.{resumes}
use Rattle.um_tables.proofs.Scheduled.{next-after, next-takes}
use Rattle.um_board.proofs.Saws.{cell-first, got-first, got-one, hindered-first, nobody, none-shut, refused}
use Rattle.um_words.specs.declared.fine.FineAct.{FineAct}
use Rattle.um_words.specs.declared.fine.Unseen.{Unseen}
use Rattle.um_board.proofs.CellSteps.{cell-takes}
use Rattle.um_board.proofs.Keeping.{noted-then, unnoted-then}
use Rattle.um_board.proofs.NextRuns.{next-then}
use Rattle.um_board.proofs.sites.SeatedSites.take.Goals as goal

-- what the scheduler gives, as of the one that was kept
given-of : (s d t : Scheduler) (first : Exchange) → s ≡ d → IsTrue (has_ready s s.ready) × (t ≡ first_taken s s.ready) × (first_ready s s.ready ≡ first)
    → IsTrue (has_ready d d.ready) × (t ≡ first_taken d d.ready) × (first_ready d d.ready ≡ first)
given-of s d t first was = subst (λ (x : Scheduler). IsTrue (has_ready x x.ready) × (t ≡ first_taken x x.ready) × (first_ready x x.ready ≡ first)) was

pub leave_cell-requires-clause-takes : goal.leave_cell-requires-clause-takes
leave_cell-requires-clause-takes c =
    let d = c.in-Some.turn.before.value.value in
    let e = given-of c.deref_mut.result.now d c.take.new.self _ (search rules) c.in-Some-take.ensures in
    cell-takes c.args.here.now.image.now c.args.here.now.cpu Site.scheduler c.in-Some.turn.number (Cell.scheduler d) _ (FineAct.Unseen (Unseen.Next (to_thread 0))) Exchange.nothing c.in-Some.ensures.turn.1.turn.room (next-takes d (to_thread 0) ∙ e.0) (ap Cell.scheduler (e.1 ∙ sym (next-after d (to_thread 0) _)))

pub leave_cell-requires-clause-event : goal.leave_cell-requires-clause-event
leave_cell-requires-clause-event c =
    let d = c.in-Some.turn.before.value.value in
    let e = given-of c.deref_mut.result.now d c.take.new.self _ (search rules) c.in-Some-take.ensures in
    let own = c.take.new.context.value in
    let thread : c.thread.result ≡ own.thread = c.thread.ensures.value ∙ ap (λ (k : Context). k.thread) c.deref.ensures in
    c.resumed-event.ensures ∙ (ap (λ (t : ℕ). if c.in-Some-take.woken then Some (by_thread (to_thread t) Act.Resume) else None) thread ∙ (resumes own c.take.new.told c.in-Some-take.woken ∙ sym (ap (λ (f : Exchange). event_of (turn_in (FineAct.Unseen (Unseen.Next (to_thread 0))) f)) e.2)))

pub leave_cell-requires-clause-goes : goal.leave_cell-requires-clause-goes
leave_cell-requires-clause-goes c = next-then _ _ _ _ _ _ (unnoted-then _ _ _ _ _ _ c.look-seen.ensures.unnoted c.in-Some.ensures.unnoted) (c.requires.goes c.in-Some.turn.number c.in-Some.turn.before.value.value)

pub returns-clause-said : goal.returns-clause-said
returns-clause-said c =
    let d = c.in-Some.turn.before.value.value in
    let e = given-of c.deref_mut.result.now d c.take.new.self _ (search rules) c.in-Some-take.ensures in
    (c.in-Some.turn.number, d, noted-then _ _ _ _ _ _ _ (unnoted-then _ _ _ _ _ _ c.look-seen.ensures.unnoted c.in-Some.ensures.unnoted) c.leave_cell.ensures.made, e.2)

pub returns-in-None-clause-said : goal.returns-in-None-clause-said
returns-in-None-clause-said c =
    let d = c.in-Some.turn.before.value.value in
    let was : c.deref_mut.result.now ≡ d = search rules in
    let r = c.in-None.ensures in
    let denied = next-takes d (to_thread 0) ∙ subst (λ (x : Scheduler). has_ready x x.ready ≡ false) was r.3 in
    let looked = c.look-seen.ensures.unnoted in
    let t = c.in-Some.ensures.turn.1 in
    let shut = refused c.args.here.now.image.now c.args.here.now.cpu Site.scheduler c.in-Some.turn.number _ (Cell.scheduler d) (FineAct.Unseen (Unseen.Next (to_thread 0))) Exchange.nothing _ _ _ _ _ _ (unnoted-then _ _ _ _ _ _ looked c.in-Some.ensures.unnoted) c.put_back.ensures.unnoted (omega arith) t.turn.says (got-first _ _ _ looked.got.0 _ _ looked.got.1 t.got) (cell-first _ _ _ _ _ _ _ looked t.saw) denied in
    (c.in-Some.turn.number, d, shut.0, shut.1, (r.1, r.2))

pub returns-then-read-eq0-clause-said : goal.returns-then-read-eq0-clause-said
returns-then-read-eq0-clause-said c =
    let none = ap (λ (w : CellWord). w.ready) (sym c.read.ensures.value) ∙ c.if-read-eq0.true in
    (0, nobody, c.look-seen.ensures.unnoted, none-shut c.args.here.now.image.now c.args.here.now.cpu c.look-seen.result _ _ (got-one _ _ _ _ c.look-seen.ensures.got) c.look-seen.ensures.saw none, (refl, refl))

pub returns-in_default-clause-said : goal.returns-in_default-clause-said
returns-in_default-clause-said c =
    let looked = c.look-seen.ensures in
    let why = hindered-first c.args.self.now c.look-seen.new.self c.turn_at_once.new.self 306 looked.unnoted looked.log c.in_default.ensures.turn.1 in
    (unnoted-then _ _ _ _ _ _ looked.unnoted c.turn_at_once.ensures.unnoted, why, (refl, refl))

pub put_back-requires-clause-same : goal.put_back-requires-clause-same
put_back-requires-clause-same c =
    let was : c.deref_mut.result.now ≡ c.in-Some.turn.before.value.value = search rules in
    ap Cell.scheduler (c.in-None.ensures.0 ∙ was)
