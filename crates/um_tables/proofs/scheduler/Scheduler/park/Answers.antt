use Rattle.std.proofs.Common.{arith, ℕ, Bool, IsTrue, ap, subst, sym, ◌∙◌, length, nat_lt, not, is_some, ◌&&◌, ◌||◌}
use Rattle.std.proofs.lemmas.Bool.{lt-ltb}
use Rattle.um_base.specs.declared.limits.TheConstants.{THREADS}
use Rattle.um_fine.specs.Context.{Context}
use Rattle.um_fine.specs.Scheduler.{Scheduler, has_place, is_cut, is_ready, one_less, put_back, told_at, waits}
use Rattle.um_tables.proofs.Places.{cut-there, put-back, told-there}
use Rattle.um_tables.specs.Parked.{scheduler_of}
use Rattle.um_tables.proofs.scheduler.Scheduler.park.Goals as goal

pub returns : goal.returns
returns c =
    let r = c.self.inside.ready.items in
    let places = c.self.inside.places.items in
    let t = c.thread-thread.result in
    let own = c.thread-thread.ensures.value ∙ ap (λ (d : Context). d.thread) c.deref.ensures in
    let here = c.index_mut-place.ensures.value in
    let s = scheduler_of r places c.self.inside.running c.self.inside.owed in
    let context = c.args.context.now.value in (
      subst (λ (s : Scheduler). IsTrue (nat_lt 0 s.running && has_place s)) c.self.view_is
          (ap (λ (b : Bool). b && nat_lt (length r) THREADS) (lt-ltb 0 c.self.inside.running (omega arith)) ∙ lt-ltb (length r) THREADS (omega arith)),
      c.is_ready-ready.ensures
          ∙ ap (λ (w : Bool). not w || c.is_told.result || c.is_cut.result) (c.waits-waits.ensures ∙ ap (λ (d : Context). waits d.pending) c.deref-2.ensures)
          ∙ ap (λ (i : Bool). not (waits context.pending) || i || c.is_cut.result)
          (c.is_told.ensures ∙ sym (ap is_some (told-there r places c.self.inside.running c.self.inside.owed t _ here (omega arith))) ∙ ap (λ (u : ℕ). is_some (told_at s u)) own)
          ∙ ap (λ (i : Bool). not (waits context.pending) || is_some (told_at s context.thread) || i)
          (c.is_cut.ensures ∙ sym (cut-there r places c.self.inside.running c.self.inside.owed t _ here (omega arith)) ∙ ap (λ (u : ℕ). is_cut s u) own)
          ∙ ap (λ (s : Scheduler). is_ready s context) c.self.view_is,
      put-back r _ places _ _ t _ _ context c.is_ready-ready.result here c.put.ensures own c.join.ensures.items
          ∙ ap (λ (s : Scheduler). one_less (put_back s c.is_ready-ready.result context)) c.self.view_is,
    )
