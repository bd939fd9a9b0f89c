use Rattle.std.proofs.Common.{arith, ◌≡◌, ℕ, None, Some, ap, refl, sym, ◌∙◌, if◌then◌else◌}
use Rattle.um_base.specs.declared.act.Act.{Act}
use Rattle.um_words.specs.declared.fine.FineAct.{FineAct}
use Rattle.um_words.specs.declared.fine.Unseen.{Unseen}
use Rattle.um_fine.specs.Context.{Context}
use Rattle.um_fine.specs.Scheduler.{turn_in}
use Rattle.um_fine.specs.Steps.{Exchange}
use Rattle.um_machine.specs.Order.{to_thread}
use Rattle.um_tables.specs.Asked.{by_thread, event_of}
use Rattle.um_tables.specs.Sited.{logged}
use Rattle.um_tables.proofs.Noted.{resumes}
use Rattle.um_tables.proofs.Scheduled.{next-after, next-takes, kept, scheduler-ends, scheduler-refused, scheduler-taken}
use Rattle.um_tables.proofs.tables.steps.TablesSites.take.Goals as goal

pub returns-clause-said : goal.returns-clause-said
returns-clause-said c =
    let s = c.self.inside.scheduler in
    let e = c.in-Some.ensures in
    let own = c.take.new.context.value in
    let thread : c.thread.result ≡ own.thread = c.thread.ensures.value ∙ ap (λ (k : Context). k.thread) c.deref.ensures in
    let event = c.resumed.ensures
    ∙ (ap (λ (t : ℕ). if c.in-Some.woken then Some (by_thread (to_thread t) Act.Resume) else None) thread
    ∙ (resumes own c.take.new.told c.in-Some.woken
    ∙ sym (ap (λ (f : Exchange). event_of (turn_in (FineAct.Unseen (Unseen.Next (to_thread 0))) f)) e.2))) in (
      c.self.inside.scheduler_steps,
      s,
      scheduler-taken c.args.here.now.image.now _ _ c.self.view_is c.args.here.now.cpu _ (Unseen.Next (to_thread 0)) (Exchange.nothing) (omega arith) (next-takes s (to_thread 0) ∙ e.0) (e.1 ∙ sym (next-after s (to_thread 0) _))
          _
          _
          (c.note.ensures.events ∙ ap (logged c.self.inside.log.items) event)
          c.note.ensures.room,
      e.2,
    )

pub returns-in-None-clause-said : goal.returns-in-None-clause-said
returns-in-None-clause-said c =
    let s = c.self.inside.scheduler in let e = c.in-None.ensures in (
      c.self.inside.scheduler_steps,
      s,
      kept _ _ c.self.view_is _ e.0,
      scheduler-refused c.args.here.now.image.now _ _ c.self.view_is c.args.here.now.cpu (Unseen.Next (to_thread 0)) (Exchange.nothing) (next-takes s (to_thread 0) ∙ e.3),
      (e.1, e.2),
    )

pub returns-then-self-ge-LAST-clause-said : goal.returns-then-self-ge-LAST-clause-said
returns-then-self-ge-LAST-clause-said c =
    (_, c.self.inside.scheduler, refl, scheduler-ends c.args.here.now.image.now _ _ c.self.view_is c.args.here.now.cpu (Unseen.Next (to_thread 0)) (Exchange.nothing) (search arith), (refl, refl))
