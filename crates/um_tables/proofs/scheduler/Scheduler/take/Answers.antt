use Rattle.std.proofs.Common.{arith, rules, IsTrue, List, ℕ, ap, slice_get, subst, sym, ◌∙◌}
use Rattle.um_fine.specs.Scheduler.{Scheduler, first_ready, first_taken, has_ready}
use Rattle.um_tables.proofs.Places.{first-taken}
use Rattle.um_tables.proofs.scheduler.Scheduler.take.Goals as goal

pub returns : goal.returns
returns c =
    let r = c.self.inside.ready.items in
    let f = first-taken r _ c.self.inside.places.items c.self.inside.running c.self.inside.owed c.in-Some.first.now c.index_mut-place.result.now c.take-woken.new.self c.take-woken.new.context.value c.take-woken.result c.take-woken.new.told
    (sym (c.in-Some.ensures.value ∙ ap (λ (xs : List ℕ). slice_get xs 0) c.as_slice.ensures.value)) c.remove.ensures.items c.index_mut-place.ensures.value (search rules) (omega arith)
    (sym c.if-not-is_there.ensures) c.take-woken.ensures.left c.take-woken.ensures.context c.take-woken.ensures.told in (
      subst (λ (s : Scheduler). IsTrue (has_ready s s.ready)) c.self.view_is f.0,
      f.1 ∙ ap (λ (s : Scheduler). first_taken s s.ready) c.self.view_is,
      ap (λ (s : Scheduler). first_ready s s.ready) (sym c.self.view_is) ∙ f.2,
    )
