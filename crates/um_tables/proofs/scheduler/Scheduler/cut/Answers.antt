use Rattle.std.proofs.Common.{arith, IsTrue, ap, is_some, length, subst, sym, ◌∙◌}
use Rattle.std.proofs.lemmas.Bool.{lt-ltb}
use Rattle.um_base.specs.declared.limits.TheConstants.{THREADS}
use Rattle.um_fine.specs.Scheduler.{Scheduler, has_place, parked_at}
use Rattle.um_tables.specs.Parked.{stopped}
use Rattle.um_tables.proofs.Places.{cut-at-place, parked-there}
use Rattle.um_tables.proofs.scheduler.Scheduler.cut.Goals as goal

pub returns : goal.returns
returns c =
    let r = c.self.inside.ready.items in
    let places = c.self.inside.places.items in
    let t = c.args.who.0 in
    let here = c.index_mut-place.ensures.value in (
      subst (λ (s : Scheduler). IsTrue (has_place s)) c.self.view_is (lt-ltb (length r) THREADS (omega arith)),
      c.is_there-ready.ensures ∙ sym (ap is_some (parked-there r places c.self.inside.running c.self.inside.owed t _ here (omega arith)))
          ∙ ap (λ (s : Scheduler). is_some (parked_at s t)) c.self.view_is,
      cut-at-place r _ places _ _ t _ _ c.is_there-ready.result here c.cut.ensures c.join.ensures.items
          ∙ ap (λ (s : Scheduler). stopped s c.is_there-ready.result t) c.self.view_is,
    )
