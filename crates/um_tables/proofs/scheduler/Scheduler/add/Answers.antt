use Rattle.std.proofs.Common.{arith, IsTrue, ap, subst, ◌∙◌, true}
use Rattle.std.proofs.lemmas.Bool.{lt-ltb}
use Rattle.um_fine.specs.Context.{Context}
use Rattle.um_fine.specs.Scheduler.{Scheduler, has_place, put_back}
use Rattle.um_tables.proofs.Places.{put-back}
use Rattle.um_tables.proofs.scheduler.Scheduler.add.Goals as goal

pub returns-clause-made : goal.returns-clause-made
returns-clause-made c = λ _. (
  subst (λ (s : Scheduler). IsTrue (has_place s)) c.self.view_is (lt-ltb _ _ (omega arith)),
  put-back c.self.inside.ready.items _ c.self.inside.places.items _ _ _ _ _ c.args.context.now.value true c.index_mut.ensures.value c.put.ensures
      (c.thread-thread.ensures.value ∙ ap (λ (d : Context). d.thread) c.deref.ensures) c.join.ensures.items
      ∙ ap (λ (s : Scheduler). put_back s true c.args.context.now.value) c.self.view_is,
)
