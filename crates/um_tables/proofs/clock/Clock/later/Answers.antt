use Rattle.std.proofs.Common.{◌∙◌, ap, subst, sym}
use Rattle.um_tables.specs.Timed.{HaveCome, not_given, places}
use Rattle.um_tables.proofs.clock.Clock.later.Goals as goal

pub next_deadline-requires-clause-come : goal.next_deadline-requires-clause-come
next_deadline-requires-clause-come c = subst (HaveCome c.self.inside.time) (sym c.as_slice.ensures.value) c.self.invariant.come

pub next_deadline-requires-clause-listed : goal.next_deadline-requires-clause-listed
next_deadline-requires-clause-listed c = c.as_slice-2.ensures.value ∙ c.self.invariant.lists_ungiven ∙ ap (places not_given 0) (sym c.as_slice.ensures.value)
